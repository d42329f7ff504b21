-- The bytes of a value, cast to another type.
use Rattle.std.proofs.Common.{◌≡◌, ◌≢◌, ℕ, List, length, Bool, true, false, if◌then◌else◌, ◌==◌, Option, Some, None, Err, refl, sym, ap, ◌∙◌, subst}
use Rattle.std.proofs.lemmas.Bool.{eq-eqb, eqb-true}
use Rattle.wgsl_rules.specs.Layout.{HasLayout, size}
use Rattle.wgsl_rules.specs.Refusals.{Outcome, builtin}
use Rattle.wgsl_rules.specs.Types.{Ty}
use Rattle.wgsl_rules.specs.Values.{Val, deferred, type_of, IsStorable}
use Rattle.wgsl_scalar.specs.Operands.{ok_or}
use Rattle.wgsl_layout.proofs.lemmas.Decoded.{decoding-is-reading}
use Rattle.wgsl_layout.specs.Buffers.{buffer, buffer_of, decode, IsReadOf}
use Rattle.wgsl_value_builtins.specs.Bitcast.{with_bytes_of}

pub buffer_known : (v : Val) → IsStorable v → HasLayout (type_of v) → buffer_of v ≡ Some (buffer v)
buffer_known (deferred t) h l = absurd h
buffer_known v h l = ap (λ (b : Bool). if b then Some (buffer v) else None) l

-- bytes are read as one value at most
one_read : (b : List ℕ) (t : Ty) (o q : Option Val) → IsReadOf b t o → IsReadOf b t q → o ≡ q
one_read b t None None h k = refl
one_read b t None (Some w) h k = absurd (h w k.0)
one_read b t (Some v) None h k = absurd (k v h.0)
one_read b t (Some v) (Some w) h k = ap (λ (x : Val). Some x) (sym (h.1 w k.0))

cast_choice : Val → Ty → Bool → Outcome Val
cast_choice v t b = if b then ok_or builtin (decode (buffer v) t) else Err builtin

pub cast_read : (v : Val) (t : Ty) (o : Option Val) → length (buffer v) ≡ size t → IsReadOf (buffer v) t o → with_bytes_of v t ≡ ok_or builtin o
unfolding cast_choice
cast_read v t o e r =
    ap (cast_choice v t) (eq-eqb (length (buffer v)) (size t) e) ∙ ap (ok_or builtin) (one_read (buffer v) t (decode (buffer v) t) o (decoding-is-reading (buffer v) t) r)

pub cast_unequal : (v : Val) (t : Ty) → length (buffer v) ≢ size t → with_bytes_of v t ≡ Err builtin
unfolding cast_choice
cast_unequal v t n = by (length (buffer v) == size t) refl
  where
    by : (b : Bool) → (length (buffer v) == size t) ≡ b → cast_choice v t b ≡ Err builtin
    by true e = absurd (n (eqb-true (length (buffer v)) (size t) e))
    by false e = refl

-- what reading the bytes of a value answers
pub cast_bytes : (v : Val) (t : Ty) (b : List ℕ) (o : Option Val) → IsStorable v → HasLayout (type_of v) → Some b ≡ buffer_of v → length b ≡ size t → IsReadOf b t o → with_bytes_of v t ≡ ok_or builtin o
cast_bytes v t b o h l e n r =
    let known = buffer_known v h l in
    let same : b ≡ buffer v = cc in
    cast_read v t o (ap (λ (x : List ℕ). length x) (sym same) ∙ n) (subst (λ (x : List ℕ). IsReadOf x t o) same r)
