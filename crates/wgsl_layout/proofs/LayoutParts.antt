-- Parts of bytes that hold a value of a type, as its layout tells them: where they stand, what is read there, and what a
-- write there answers.
use Rattle.std.proofs.Common.{◌≡◌, ℕ, ◌+◌, ◌≤◌, List, [], length, replicate, Option, Some, None, Ok, Err, option_map, option_and_then, Bool, true, false, if◌then◌else◌, refl, sym, ap, ◌∙◌, subst, arith, eq-eqb}
use Rattle.std.specs.Prelude.{◌==◌}
use Rattle.std.specs.Result.{result_ok}
use Rattle.std.proofs.lemmas.Bool.{false≢true, eqb-true}
use Rattle.wgsl_rules.specs.Equal.{same-Decides}
use Rattle.wgsl_rules.specs.Same.{same}
use Rattle.wgsl_rules.specs.Types.{Ty}
use Rattle.wgsl_rules.specs.Values.{Step, Val, type_of, IsStorable}
use Rattle.wgsl_rules.specs.Paths.{viewed}
use Rattle.wgsl_rules.specs.Layout.{has_layout, length_in, type_in, layout, layout_of, runtime_count, count_in}
use Rattle.wgsl_layout.specs.Buffers.{buffer, decoded, decode}
use Rattle.wgsl_layout.specs.Layouts.{Answer, answer_then, or_refused, part_in, written_in, written}
use Rattle.wgsl_layout.specs.Located.{IsLocated, part_range, shape_plan, shape_ty}
use Rattle.wgsl_layout.specs.Plan.{Plan, plan_of}
use Rattle.wgsl_layout.specs.Ranges.{Range, bytes_in, overwritten, view_range}
use Rattle.wgsl_layout.specs.Reading.{IsThere}
use Rattle.wgsl_layout.specs.Walk.{put}
use Rattle.wgsl_layout.specs.declared.layout.LayoutRefusal.{LayoutRefusal}
use Rattle.wgsl_layout.specs.declared.layout.LayoutRefusal.TheVariants.{TooFewBytes, NoPart, OtherType, OtherLength}
use Rattle.wgsl_layout.specs.declared.located.Located.{Located}
use Rattle.wgsl_layout.proofs.lemmas.Counts.{counted-in}
use Rattle.wgsl_layout.proofs.lemmas.Flat.{IsLaid, there-laid}
use Rattle.wgsl_layout.proofs.lemmas.InRange.{there-decodes}
use Rattle.wgsl_layout.proofs.lemmas.Parts.{decoded_in, decoded-viewed}
use Rattle.wgsl_layout.proofs.lemmas.Positive.{tail-stride}
use Rattle.wgsl_layout.proofs.lemmas.Tidy.{tidy}
use Rattle.wgsl_layout.proofs.lemmas.ViewPaths.{layout-type}
use Rattle.wgsl_layout.proofs.lemmas.Written.{part-written}

-- ---- what is read

-- what the bytes lay out in the range of a part is the part of what they lay out
pub part-viewed : (b : List ℕ) (steps : List Step) (t : Ty) → has_layout t ≡ true
    → option_map (decoded_in b) (result_ok (part_in (length b) steps t)) ≡ option_and_then (λ w. result_ok (viewed steps w)) (decode b t)
part-viewed b steps t h =
    by (count_in (length b) t)
    ∙ ap (λ (c : Bool). option_and_then (λ w. result_ok (viewed steps w)) (if c then option_map (λ n. decoded b 0 (layout n t)) (count_in (length b) t) else None)) (sym h)
  where
    moved : (o : Option Range) → option_map (decoded_in b) o ≡ option_map (λ r. decoded b (0 + r.start) r.layout) o
    moved None = refl
    moved (Some r) = let z : r.start ≡ 0 + r.start = omega arith in ap (λ (n : ℕ). Some (decoded b n r.layout)) z

    answered : (o : Option Range) → result_ok (or_refused o NoPart) ≡ o
    answered None = refl
    answered (Some r) = refl

    by : (c : Option ℕ) → option_map (decoded_in b) (result_ok (answer_then (or_refused c TooFewBytes) (λ n. or_refused (view_range steps (layout n t)) NoPart)))
        ≡ option_and_then (λ w. result_ok (viewed steps w)) (option_map (λ n. decoded b 0 (layout n t)) c)
    by None = refl
    by (Some n) = ap (option_map (decoded_in b)) (answered (view_range steps (layout n t))) ∙ moved (view_range steps (layout n t)) ∙ sym (decoded-viewed steps b 0 (layout n t))

abbrev part_value : List Step → List ℕ → Ty → Option Val
part_value steps b t = option_and_then (λ w. result_ok (viewed steps w)) (decode b t)

pub read-value : (b : List ℕ) (steps : List Step) (t : Ty) (r : Range) (v : Val) → has_layout t ≡ true → Ok r ≡ part_in (length b) steps t → v ≡ decoded b r.start r.layout → Some v ≡ part_value steps b t
read-value b steps t r v h found is = ap Some is ∙ ap (λ (a : Answer Range). option_map (decoded_in b) (result_ok a)) found ∙ part-viewed b steps t h

pub read-none : (b : List ℕ) (steps : List Step) (t : Ty) (e : LayoutRefusal) → has_layout t ≡ true → Err e ≡ part_in (length b) steps t → None ≡ part_value steps b t
read-none b steps t e h found = ap (λ (a : Answer Range). option_map (decoded_in b) (result_ok a)) found ∙ part-viewed b steps t h

-- it is what the bytes of the part lay out
pub read-bytes : (l : Located) (b : List ℕ) (steps : List Step) (t : Ty) (v : Val) → IsLocated l → l.len ≡ length b → Ok (part_range l) ≡ part_in (length b) steps t → v ≡ decoded b l.start (part_range l).layout
    → Some v ≡ option_and_then (λ r. decode (bytes_in b r) (type_in r.layout)) (result_ok (part_in (length b) steps t))
read-bytes l b steps t v h long found is =
    let r = part_range l in
    let own = there-decodes l.count (shape_ty l.shape) (shape_plan l.shape) l.start b (subst (λ (n : ℕ). IsThere l.count (shape_ty l.shape) (shape_plan l.shape) l.start n) long h) in
    ap Some is ∙ sym own ∙ ap (decode (bytes_in b r)) (sym (layout-type (shape_ty l.shape) l.count))
    ∙ ap (λ (a : Answer Range). option_and_then (λ r. decode (bytes_in b r) (type_in r.layout)) (result_ok a)) found

-- ---- a range that is overwritten

-- by the scalars of a value, put into zeros by its plan
pub part-planned : (v : Val) (p : Plan) (o n : ℕ) (b mid new : List ℕ) → IsStorable v → has_layout (type_of v) ≡ true → p ≡ plan_of (type_of v) → n ≡ length_in (layout_of v) → o + n ≤ length b
    → mid ≡ overwritten b o (replicate n 0) → length mid ≡ length b → new ≡ put v p o mid → new ≡ overwritten b o (buffer v)
part-planned v p o n b mid new s h planned e le mid_is same is = part-written v o n b mid new s h e le mid_is same (is ∙ ap (λ (q : Plan). put v q o mid) planned)

-- ---- what a write answers

-- once the part is found
pub written-there : (b : List ℕ) (steps : List Step) (t : Ty) (w : Val) (r : Range) → Ok r ≡ part_in (length b) steps t → written_in b w r ≡ written b steps t w
written-there b steps t w r found = ap (λ (a : Answer Range). answer_then a (written_in b w)) found

-- values of one type that take as many bytes are laid out alike
pub alike-by-length : (w : Val) (n : ℕ) (t : Ty) (p : Plan) (at len : ℕ) → IsThere n t p at len → IsStorable w → type_of w ≡ t → length_in (layout_of w) ≡ length_in (layout n t) → layout_of w ≡ layout n t
alike-by-length w n t p at len h s e long =
    let v = decoded [] at (layout n t) in
    let own : IsLaid n t v = there-laid n t p at len [] h in
    let laid : has_layout (type_of w) ≡ true = ap has_layout e ∙ h.laid in
    let one = counted w s laid in
    let two = counted v own.storable own.laid in
    let same_length : length_in (layout_of w) ≡ length_in (layout_of v) = long ∙ sym (ap length_in own.alike) in
    let same_type : type_of w ≡ type_of v = e ∙ sym own.typed in
    let same_count : Some (runtime_count w) ≡ Some (runtime_count v) = sym one ∙ ap (λ (m : ℕ). count_in m (type_of w)) same_length ∙ ap (count_in (length_in (layout_of v))) same_type ∙ two in
    let same : runtime_count w ≡ runtime_count v = cc in
    ap (λ (m : ℕ). layout m (type_of w)) same ∙ ap (layout (runtime_count v)) same_type ∙ own.alike
  where
    counted : (v : Val) → IsStorable v → has_layout (type_of v) ≡ true → count_in (length_in (layout_of v)) (type_of v) ≡ Some (runtime_count v)
    counted v s h = let its_length = (tidy (type_of v) (runtime_count v) h).1 in counted-in v 0 (length_in (layout_of v)) s h (omega (arith, its_length)) (tail-stride (type_of v) h)

-- which test finds the type of a part
told : (w : Val) (n : ℕ) (t : Ty) (c : Bool) → same (type_of w) (type_in (layout n t)) ≡ c → (c ≡ true → type_of w ≡ t) × (type_of w ≡ t → c ≡ true)
told w n t c e =
    let own = layout-type t n in (
      λ h. (same-Decides (type_of w) (type_in (layout n t))).0 (e ∙ h) ∙ own,
      λ typed. sym e ∙ (same-Decides (type_of w) (type_in (layout n t))).1 (typed ∙ sym own),
    )

abbrev range_at : ℕ → ℕ → Ty → Range
range_at at n t = record { start = at; layout = layout n t }

chosen : (b : List ℕ) (w : Val) (at n : ℕ) (t : Ty) (c d : Bool) → same (type_of w) (type_in (layout n t)) ≡ c → (length_in (layout_of w) == length_in (layout n t)) ≡ d
    → written_in b w (range_at at n t) ≡ (if c then if d then Ok (overwritten b at (buffer w)) else Err OtherLength else Err OtherType)
chosen b w at n t c d e f =
    ap (λ (x : Bool). if x then if (length_in (layout_of w) == length_in (layout n t)) then Ok (overwritten b at (buffer w)) else Err OtherLength else Err OtherType) e
    ∙ ap (λ (x : Bool). if c then if x then Ok (overwritten b at (buffer w)) else Err OtherLength else Err OtherType) f

-- a value of another type
pub other-type : (b : List ℕ) (w : Val) (at n : ℕ) (t : Ty) → (type_of w ≡ t → ⊥) → written_in b w (range_at at n t) ≡ Err OtherType
other-type b w at n t differ = by (same (type_of w) (type_in (layout n t))) (length_in (layout_of w) == length_in (layout n t)) refl refl
  where
    by : (c d : Bool) → same (type_of w) (type_in (layout n t)) ≡ c → (length_in (layout_of w) == length_in (layout n t)) ≡ d → written_in b w (range_at at n t) ≡ Err OtherType
    by true d e f = absurd (differ ((told w n t true e).0 refl))
    by false d e f = chosen b w at n t false d e f

-- of another length
pub other-length : (b : List ℕ) (w : Val) (at n : ℕ) (t : Ty) (p : Plan) (len : ℕ) → IsThere n t p at len → IsStorable w → type_of w ≡ t → (layout_of w ≡ layout n t → ⊥) → written_in b w (range_at at n t) ≡ Err OtherLength
other-length b w at n t p len h s typed differ = by (same (type_of w) (type_in (layout n t))) (length_in (layout_of w) == length_in (layout n t)) refl refl
  where
    by : (c d : Bool) → same (type_of w) (type_in (layout n t)) ≡ c → (length_in (layout_of w) == length_in (layout n t)) ≡ d → written_in b w (range_at at n t) ≡ Err OtherLength
    by true true e f = absurd (differ (alike-by-length w n t p at len h s typed (eqb-true (length_in (layout_of w)) (length_in (layout n t)) f)))
    by true false e f = chosen b w at n t true false e f
    by false d e f = absurd (false≢true ((told w n t false e).1 typed))

-- and one that has the layout of the part
pub put-there : (b : List ℕ) (w : Val) (at n : ℕ) (t : Ty) → type_of w ≡ t → layout_of w ≡ layout n t → written_in b w (range_at at n t) ≡ Ok (overwritten b at (buffer w))
put-there b w at n t typed alike =
    chosen b w at n t true true ((same-Decides (type_of w) (type_in (layout n t))).1 (typed ∙ sym (layout-type t n))) (eq-eqb (length_in (layout_of w)) (length_in (layout n t)) (ap length_in alike))
