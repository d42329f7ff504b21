-- What references hold in a memory of bytes: decoding finds it, and it is one value.
use Rattle.std.proofs.Common.{◌≡◌, ℕ, List, slice_get, Option, Some, None, option_and_then, Ok, Err, Bool, true, false, if◌then◌else◌, sym, ap, ◌∙◌, refl, subst}
use Rattle.std.specs.Prelude.{MatchResult}
use Rattle.std.proofs.lemmas.Bool.{false≢true}
use Rattle.std.proofs.lemmas.Option.{none-some, same_Some}
use Rattle.wgsl_rules.specs.Same.{same}
use Rattle.wgsl_rules.specs.Equal.{same-Decides}
use Rattle.wgsl_rules.specs.Types.{Ty}
use Rattle.wgsl_rules.specs.Values.{Reference, Val, type_of}
use Rattle.wgsl_rules.specs.Refusals.{Refusal, not_read, Outcome, and_then}
use Rattle.wgsl_rules.specs.Paths.{viewed, or_refused}
use Rattle.wgsl_rules.specs.Layout.{type_in}
use Rattle.wgsl_layout.specs.Buffers.{decode, IsReadOf, Lays}
use Rattle.wgsl_layout.specs.Ranges.{Range, view_range, bytes_in}
use Rattle.wgsl_layout.proofs.lemmas.Compose.{laid-once}
use Rattle.wgsl_layout.proofs.lemmas.Decoded.{decoding-is-reading}
use Rattle.wgsl_session.specs.Flat.{Cell, bytes, tree, layout_in, NamesIn, Names, IsNamed, decoded_at, of_type, found_in}
use Rattle.wgsl_session.specs.Laws.{AReferenceNamesOneValue, DecodingFindsWhatIsHeld}

-- ---- decoding finds it

type-same : (t u : Ty) → same t u ≡ true → t ≡ u
type-same t u e = (same-Decides t u).0 e

tree-found : (x : Val) (r : Reference) → MatchResult (found_in (tree x) r) (IsNamed (Some (tree x)) r) (λ e. (v : Val) → ¬ IsNamed (Some (tree x)) r v)
tree-found x r = by (viewed r.view x) refl
  where
    ok-is : (y v : Val) → ◌≡◌ {A = Outcome Val} (Ok y) (Ok v) → y ≡ v
    ok-is y v e = cc

    no-ok : (e : Refusal) (v : Val) → ◌≡◌ {A = Outcome Val} (Err e) (Ok v) → ⊥
    no-ok e v f = cc

    typed : (y : Val) → viewed r.view x ≡ Ok y → (b : Bool) → same (type_of y) r.ty ≡ b → MatchResult (if b then Ok y else Err not_read) (Names (tree x) r) (λ e. (v : Val) → ¬ Names (tree x) r v)
    typed y is true t = (is, type-same (type_of y) r.ty t)
    typed y is false t = λ v h. let e = ok-is y v (sym is ∙ h.0) in false≢true (sym t ∙ ap (λ (u : Val). same (type_of u) r.ty) e ∙ (same-Decides (type_of v) r.ty).1 h.1)

    by : (o : Outcome Val) → viewed r.view x ≡ o → MatchResult (and_then o (of_type r.ty)) (Names (tree x) r) (λ e. (v : Val) → ¬ Names (tree x) r v)
    by (Err e) is = λ v h. no-ok e v (sym is ∙ h.0)
    by (Ok y) is = typed y is (same (type_of y) r.ty) refl

bytes-found : (t : Ty) (b : List ℕ) (r : Reference) → MatchResult (found_in (bytes t b) r) (NamesIn t b r) (λ e. (v : Val) → ¬ NamesIn t b r v)
bytes-found t b r = by (view_range r.view (layout_in t b)) refl
  where
    Is : Outcome Val → Type 0
    Is o = MatchResult o (NamesIn t b r) (λ e. (v : Val) → ¬ NamesIn t b r v)

    read : (q : Range) → view_range r.view (layout_in t b) ≡ Some q → same (type_in q.layout) r.ty ≡ true → (o : Option Val) → IsReadOf (bytes_in b q) r.ty o → Is (or_refused o not_read)
    read q is t' (Some v) h = record { range = q; leads = is; typed = type-same (type_in q.layout) r.ty t'; laid = h.0 }
    read q is t' None h = λ v n. let e = same_Some q n.range (sym is ∙ n.leads) in h v (subst (λ (s : Range). Lays (bytes_in b s) r.ty v) (sym e) n.laid)

    typed : (q : Range) → view_range r.view (layout_in t b) ≡ Some q → (c : Bool) → same (type_in q.layout) r.ty ≡ c → Is (or_refused (if c then decode (bytes_in b q) r.ty else None) not_read)
    typed q is true t' = read q is t' (decode (bytes_in b q) r.ty) (decoding-is-reading (bytes_in b q) r.ty)
    typed q is false t' = λ v n. let e = same_Some q n.range (sym is ∙ n.leads) in false≢true (sym t' ∙ ap (λ (s : Range). same (type_in s.layout) r.ty) e ∙ (same-Decides (type_in n.range.layout) r.ty).1 n.typed)

    by : (o : Option Range) → view_range r.view (layout_in t b) ≡ o → Is (or_refused (option_and_then (decoded_at r.ty b) o) not_read)
    by None is = λ v n. none-some n.range (sym is ∙ n.leads)
    by (Some q) is = typed q is (same (type_in q.layout) r.ty) refl

pub decoding-finds : DecodingFindsWhatIsHeld
decoding-finds cells r = by (slice_get cells r.cell)
  where
    by : (o : Option Cell) → MatchResult (and_then (or_refused o not_read) (λ c. found_in c r)) (IsNamed o r) (λ e. (v : Val) → ¬ IsNamed o r v)
    by None = λ v h. h
    by (Some (bytes t b)) = bytes-found t b r
    by (Some (tree x)) = tree-found x r

-- ---- one value

named-once : (c : Cell) (r : Reference) (v w : Val) → Names c r v → Names c r w → w ≡ v
named-once (tree x) r v w a b = let e : ◌≡◌ {A = Outcome Val} (Ok w) (Ok v) = sym b.0 ∙ a.0 in cc
named-once (bytes t b) r v w a c =
    let e = same_Some c.range a.range (sym c.leads ∙ a.leads) in
    laid-once (bytes_in b a.range) r.ty v w a.laid (subst (λ (q : Range). Lays (bytes_in b q) r.ty w) e c.laid)

pub one-value : AReferenceNamesOneValue
one-value cells r v w = by (slice_get cells r.cell)
  where
    by : (o : Option Cell) → IsNamed o r v → IsNamed o r w → w ≡ v
    by None a b = absurd a
    by (Some c) a b = named-once c r v w a b
