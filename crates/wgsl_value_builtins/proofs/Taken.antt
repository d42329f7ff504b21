-- Numbers that are taken as those of a type have a layout.
use Rattle.std.proofs.Common.{◌≡◌, ◌∙◌, ℕ, ◌≤◌, ℤ, Bool, true, false, ◌&&◌, ◌||◌, if◌then◌else◌, IsTrue, Some, None, is_some, Ok, arith, refl, sym, ap, subst}
use Rattle.std.proofs.lemmas.Bool.Decides.{nat_tests}
use Rattle.wgsl_value_ops.specs.Lift.{lifted, vector_of}
use Rattle.wgsl_rules.specs.Converted.{converted, number_in}
use Rattle.wgsl_rules.specs.Kinds as kinds
use Rattle.wgsl_rules.specs.Kinds.{Kind, InKind, in_kind}
use Rattle.wgsl_rules.specs.Layout.{HasLayout, has_layout, is_from_2_to_4, scalar_kind}
use Rattle.wgsl_rules.specs.Paths.{parts}
use Rattle.wgsl_rules.specs.Refusals.{and_then, conv_overflow}
use Rattle.wgsl_rules.specs.TypeParts.{inner_type}
use Rattle.wgsl_rules.specs.Types as types
use Rattle.wgsl_rules.specs.Types.{Ty}
use Rattle.wgsl_rules.specs.Values.{Val, truth, number, vector, Vals, no_vals, val, count, first_type, type_of, type_of_kind, IsLiteral, IsStorable, IsWellFormed}
use Rattle.wgsl_rules.proofs.lemmas.Known.{and-both}
use Rattle.wgsl_scalar.specs.Operands.{ok_or}
use Rattle.wgsl_value_builtins.proofs.Lifted.{AreLiteralsOf, IsLiteralOf, GivesLiteral, lifted-literals, number-literal, vector-storable}
use Rattle.wgsl_value_ops.proofs.Outcomes.{then-is, some-of}
use Rattle.wgsl_value_builtins.specs.Bitcast.{IsBitcastTarget, is_word_type, taken_as}
use Rattle.wgsl_value_builtins.specs.Lifts.{on_components}
use Rattle.wgsl_values.proofs.lemmas.Views.{vec_view-is}
use Rattle.wgsl_values.specs.View.{vec_view}
use Rattle.wgsl_values.specs.declared.vector.VecInstance.{VecInstance}

-- the type of a number of the type s that is taken as one of t
abbrev pub taken_type : Ty → Ty → Ty
taken_type t types.abstract_int = t
taken_type t s = s

-- a literal of a type that has a layout
record IsLaid (u : Ty) (x : Val) : Type 0 where
  literal : IsLiteralOf u x
  laid : is_some (scalar_kind u) ≡ true

in-kind-laid : (k : Kind) (z : ℤ) (x : Val) (b : Bool) → in_kind k z ≡ b → is_some (scalar_kind (type_of_kind k)) ≡ true → (if b then Some (number k z) else None) ≡ Some x → IsLaid (type_of_kind k) x
in-kind-laid k z x true h l e =
    let same : number k z ≡ x = cc in
    subst (IsLaid (type_of_kind k)) same (record { literal = number-literal k z h; laid = l })
in-kind-laid k z x false h l e = absurd (cc)

abstract-laid : (t : Ty) (z : ℤ) (x : Val) → IsTrue (is_word_type t) → converted (number kinds.abstract_int z) t ≡ Some x → IsLaid t x
abstract-laid types.i32 z x w e = in-kind-laid kinds.i32 z x (in_kind kinds.i32 z) refl refl e
abstract-laid types.u32 z x w e = in-kind-laid kinds.u32 z x (in_kind kinds.u32 z) refl refl e
abstract-laid t z x w e = absurd (cc)

own-laid : (k : Kind) (z : ℤ) (x : Val) → InKind k z → is_some (scalar_kind (type_of_kind k)) ≡ true → ◌≡◌ {A = Val} (number k z) x → IsLaid (type_of_kind k) x
own-laid k z x h l e = subst (IsLaid (type_of_kind k)) e (record { literal = number-literal k z h; laid = l })

taken-laid : (t : Ty) (v x : Val) → IsTrue (is_word_type t) → IsLiteral v → IsStorable v → taken_as t v ≡ Ok x → IsLaid (taken_type t (type_of v)) x
taken-laid t (number kinds.abstract_int z) x w l h e =
    abstract-laid t z x w (some-of (conv_overflow (number kinds.abstract_int z) t) (converted (number kinds.abstract_int z) t) x e)
taken-laid t (number kinds.i32 z) x w l h e = own-laid kinds.i32 z x h refl (cc)
taken-laid t (number kinds.u32 z) x w l h e = own-laid kinds.u32 z x h refl (cc)
taken-laid t (number kinds.i64 z) x w l h e = own-laid kinds.i64 z x h refl (cc)
taken-laid t (number kinds.u64 z) x w l h e = own-laid kinds.u64 z x h refl (cc)
taken-laid t v x w l h e = absurd (cc)

taken-of : (t s : Ty) → IsTrue (is_word_type t) → GivesLiteral (taken_as t) s (taken_type t s)
taken-of t s w v x l e = subst (λ (u : Ty). IsLiteralOf (taken_type t u) x) l.typed (taken-laid t v x w l.literal l.storable e).literal

-- ---- vectors

are-taken : (t : Ty) (vs ws : Vals) → IsTrue (is_word_type t) → IsStorable (vector vs) → lifted (taken_as t) vs ≡ Ok ws → AreLiteralsOf (taken_type t (first_type vs)) (count vs) ws
are-taken t vs ws w h e =
    lifted-literals (taken_as t) (first_type vs) (taken_type t (first_type vs)) vs ws (taken-of t (first_type vs) w) (record { literals = h.2; typed = h.3; storable = h.4; counted = refl }) e

pub taken-vector : (t : Ty) (vs ws : Vals) → IsTrue (is_word_type t) → IsStorable (vector vs) → lifted (taken_as t) vs ≡ Ok ws → IsStorable (vector ws)
taken-vector t vs ws w h e = vector-storable (taken_type t (first_type vs)) (count vs) ws (are-taken t vs ws w h e) h.0 h.1

first-laid : (t : Ty) (vs ws : Vals) → IsTrue (is_word_type t) → IsStorable (vector vs) → lifted (taken_as t) vs ≡ Ok ws → is_some (scalar_kind (first_type ws)) ≡ true
first-laid t no_vals ws w h e = absurd (omega (arith, h.0))
first-laid t (val v vs) ws w h e =
    let a = then-is (taken_as t v) (λ x. and_then (lifted (taken_as t) vs) (λ us. Ok (val x us))) ws e in
    let b = then-is (lifted (taken_as t) vs) (λ us. Ok (val a.first us)) ws a.rest in
    let same : val a.first b.first ≡ ws = let r = b.rest in cc in
    let one = taken-laid t v a.first w h.2.0 h.4.0 a.is in
    ap (λ (us : Vals). is_some (scalar_kind (first_type us))) (sym same) ∙ ap (λ (u : Ty). is_some (scalar_kind u)) one.literal.typed ∙ one.laid

vec-laid : (n : ℕ) (u : Ty) → 2 ≤ n → n ≤ 4 → is_some (scalar_kind u) ≡ true → HasLayout (types.vec n u)
vec-laid n u l g s =
    let between : is_from_2_to_4 n ≡ true = grind (arith, nat_tests) in
    ap (λ (b : Bool). (b && is_some (scalar_kind u)) || false) between ∙ ap (λ (b : Bool). b || false) s

pub vector-parts : (v : VecInstance) → vec_view v ≡ vector (parts (vec_view v))
vector-parts v = vec_view-is v ∙ ap (λ (x : Val). vector (parts x)) (sym (vec_view-is v))

-- ---- values

pub record IsTaken (w : Val) : Type 0 where
  pub storable : IsStorable w
  pub laid : HasLayout (type_of w)

scalar-laid : (u : Ty) → is_some (scalar_kind u) ≡ true → HasLayout u
scalar-laid types.i32 h = refl
scalar-laid types.u32 h = refl
scalar-laid types.i64 h = refl
scalar-laid types.u64 h = refl
scalar-laid u h = absurd (cc)

laid-is : (u : Ty) (x : Val) → IsLaid u x → IsTaken x
laid-is u x l = record { storable = l.literal.storable; laid = subst HasLayout (sym l.literal.typed) (scalar-laid u l.laid) }

pub value-taken : (t : Ty) (v w : Val) → IsTrue (is_word_type t) → IsWellFormed v → on_components (taken_as t) v ≡ Ok w → IsTaken w
value-taken t (truth b) w p h e = absurd (cc)
value-taken t (number k z) w p h e = laid-is (taken_type t (type_of_kind k)) w (taken-laid t (number k z) w p tt h e)
value-taken t (vector vs) w p h e =
    let a = then-is (lifted (taken_as t) vs) (λ us. Ok (vector us)) w e in
    let same : vector a.first ≡ w = let r = a.rest in cc in
    let s = taken-vector t vs a.first p h a.is in
    subst IsTaken same (record { storable = s; laid = vec-laid (count a.first) (first_type a.first) s.0 s.1 (first-laid t vs a.first p h a.is) })
value-taken t v w p h e = absurd (cc)

-- the scalar of a template
pub inner-word : (t : Ty) → IsBitcastTarget t → IsTrue (is_word_type (inner_type t))
inner-word (types.vec n u) h = (and-both (is_from_2_to_4 n) (is_word_type u) h).1
inner-word types.i32 h = refl
inner-word types.u32 h = refl
inner-word t h = absurd (cc)
