-- What tells how many bytes the values of a type take, as its plan has it.
use Rattle.std.proofs.Common.{◌≡◌, ℕ, ◌*◌, ◌^◌, ◌<◌, ◌≤◌, Option, Some, None, is_some, Bool, true, false, refl, sym, ap, ◌∙◌, arith}
use Rattle.std.specs.Prelude.{◌||◌, option_map, if◌then◌else◌}
use Rattle.std.specs.Option.{unwrap_or}
use Rattle.std.proofs.lemmas.Bool.{false≢true}
use Rattle.std.proofs.Math.Bool.{or-false}
use Rattle.wgsl_rules.specs.Kinds as kinds
use Rattle.wgsl_rules.specs.Kinds.{Kind, bytes_of}
use Rattle.wgsl_rules.specs.Types.{Ty, struct, array, vec, Fields, no_fields, field}
use Rattle.wgsl_rules.specs.Size.{size_of, times, offset_after, end_after, extent_in}
use Rattle.wgsl_rules.specs.Layout.{amount, size, known_stride, stride, scalar_kind, is_from_2_to_4, has_fixed_layout, has_runtime_layout, has_layout, is_runtime_array, end_in_runtime_array, Tail, tail_at, last_tail as last_tail_of, tail_of, layout_len}
use Rattle.wgsl_rules.proofs.lemmas.Known.{and-both, fits, fitting-is, some-of, times-known}
use Rattle.wgsl_rules.proofs.lemmas.Tests.{at-most-4}
use Rattle.wgsl_layout.specs.Extents.{kept, row_tail, last_tail, plan_tail, no_tail}
use Rattle.wgsl_layout.specs.Plan.{Plan, fixed_size, plan_of, places_of}
use Rattle.wgsl_layout.specs.declared.extent.Tail.{Tail as CodeTail}
use Rattle.wgsl_layout.proofs.lemmas.Counts.{tail-there}
use Rattle.wgsl_layout.proofs.lemmas.Fixed.{first-fixed, fixed-array, last-runtime}
use Rattle.wgsl_layout.proofs.lemmas.Positive.{positive}
use Rattle.wgsl_layout.proofs.lemmas.Tidy.{fixed-length, fixed-sized, scalar-is}

-- ---- a runtime-sized array

row-kept : (t : Ty) (o : ℕ) → is_runtime_array t ≡ true → row_tail o (plan_of t) ≡ option_map kept (tail_at o t)
row-kept (array t None) o h = refl
row-kept t o h = absurd (false≢true h)

last-kept : (fs : Fields) (from : Option ℕ) (found : Option CodeTail) (tail : Option Tail) → end_in_runtime_array from fs ≡ true → last_tail found (places_of from fs) ≡ option_map kept (last_tail_of tail from fs)
last-kept no_fields from found tail h = absurd (false≢true h)
last-kept (field name t s a no_fields) from found tail h = row-kept t (amount (offset_after from (extent_in t s a))) (last-runtime t s a from h).0
last-kept (field name t s a (field m u y b fs)) from found tail h =
    let at = amount (offset_after from (extent_in t s a)) in
    let rest = (first-fixed t s a (end_in_runtime_array (end_after from (extent_in t s a)) (field m u y b fs)) h).rest in
    last-kept (field m u y b fs) (end_after from (extent_in t s a)) (row_tail at (plan_of t)) (tail_at at t) rest

-- the plan has it where the type is or ends in one
plan-tail : (t : Ty) → has_runtime_layout t ≡ true → plan_tail (plan_of t) ≡ option_map kept (tail_of t)
plan-tail (struct name fs) h = last-kept fs (Some 0) None None h
plan-tail (array t None) h = refl
plan-tail t h = absurd (false≢true h)

pub open-extent : (t : Ty) (p : Plan) (tail : CodeTail) → has_layout t ≡ true → has_fixed_layout t ≡ false → p ≡ plan_of t → tail ≡ unwrap_or (plan_tail p) no_tail → option_map kept (tail_of t) ≡ Some tail
open-extent t p tail h f planned is =
    let runtime : has_runtime_layout t ≡ true = ap (λ (b : Bool). b || has_runtime_layout t) (sym f) ∙ h in
    by (tail_of t) refl (tail-there t runtime) (is ∙ ap (λ (q : Plan). unwrap_or (plan_tail q) no_tail) planned ∙ ap (λ (o : Option CodeTail). unwrap_or o no_tail) (plan-tail t runtime))
  where
    by : (o : Option Tail) → tail_of t ≡ o → is_some (tail_of t) ≡ true → tail ≡ unwrap_or (option_map kept (tail_of t)) no_tail → option_map kept (tail_of t) ≡ Some tail
    by None e some is = absurd (false≢true (sym (ap (λ (x : Option Tail). is_some x) e) ∙ some))
    by (Some r) e some is =
        let same : tail ≡ kept r = is ∙ ap (λ (x : Option Tail). unwrap_or (option_map kept x) no_tail) e in
        ap (option_map kept) e ∙ ap (λ (x : CodeTail). Some x) (sym same)

-- ---- a size that the type tells

-- a structure whose plan has a size
pub known-size : (t : Ty) (n : ℕ) → n ≡ fixed_size t → 0 < n → (n ≡ size t) × (tail_of t ≡ None)
known-size t n is some = by (has_fixed_layout t) refl
  where
    by : (b : Bool) → has_fixed_layout t ≡ b → (n ≡ size t) × (tail_of t ≡ None)
    by true f = (is ∙ ap (λ (b : Bool). if b then size t else 0) f, fixed-length t 0 f)
    by false f = let none : n ≡ 0 = is ∙ ap (λ (b : Bool). if b then size t else 0) f in absurd (omega arith)

-- and one whose plan has none
pub no-size : (t : Ty) (n : ℕ) → n ≡ fixed_size t → n ≤ 0 → has_fixed_layout t ≡ false
no-size t n is none = by (has_fixed_layout t) refl
  where
    by : (b : Bool) → has_fixed_layout t ≡ b → b ≡ false
    by true f =
        let sized = fixed-sized t 0 f in
        let long = positive t (layout_len 0 t) f sized.0 in
        let told : n ≡ layout_len 0 t = is ∙ ap (λ (b : Bool). if b then size t else 0) f ∙ ap amount sized.0 in
        absurd (omega arith)
    by false f = refl

-- an array of so many elements
pub array-size : (k far : ℕ) (t : Ty) → has_layout (array t (Some k)) ≡ true → far ≡ stride t → k * far ≡ size (array t (Some k))
array-size k far t h is =
    let fixed = fixed-array k t (sym (or-false (has_fixed_layout (array t (Some k)))) ∙ h) in
    let s = some-of (size_of (array t (Some k))) fixed.sized in
    let e = times-known k (known_stride t) s.0 s.1 in
    ap (λ (n : ℕ). k * n) is ∙ ap (λ (o : Option ℕ). k * amount o) e.1 ∙ sym e.2 ∙ ap amount (sym s.1)

within : (k : ℕ) (o : Option ℕ) (s : ℕ) → times k o ≡ Some s → s < 2 ^ 32
within k None s e = absurd (cc)
within k (Some m) s e = let f = fitting-is (k * m) s e in omega (arith, f.0, f.1)

pub array-within : (k far : ℕ) (t : Ty) → has_layout (array t (Some k)) ≡ true → far ≡ stride t → k * far < 2 ^ 32
array-within k far t h is =
    let fixed = fixed-array k t (sym (or-false (has_fixed_layout (array t (Some k)))) ∙ h) in
    let s = some-of (size_of (array t (Some k))) fixed.sized in
    let e : k * far ≡ s.0 = array-size k far t h is ∙ ap amount s.1 in
    let le = within k (known_stride t) s.0 s.1 in
    omega (arith, e, le)

-- a vector
times-small : (n : ℕ) (k : Kind) → n ≤ 4 → n * bytes_of k < 2 ^ 32
times-small n kinds.abstract_int h = omega arith
times-small n kinds.i32 h = omega arith
times-small n kinds.u32 h = omega arith
times-small n kinds.i64 h = omega arith
times-small n kinds.u64 h = omega arith

pub vector-size : (n far : ℕ) (t : Ty) → has_layout (vec n t) ≡ true → far ≡ size t → n * far ≡ size (vec n t)
vector-size n far t h is =
    let both = and-both (is_from_2_to_4 n) (is_some (scalar_kind t)) (sym (or-false (has_fixed_layout (vec n t))) ∙ h) in
    let g = some-of (scalar_kind t) both.1 in
    let sized = (scalar-is t g.0 g.1).sized in
    let few = times-small n g.0 (at-most-4 n both.0) in
    ap (λ (m : ℕ). n * m) (is ∙ ap amount sized) ∙ sym (ap amount (ap (times n) sized ∙ fits (n * bytes_of g.0) few))

-- what ends in such an array has no size of its own
pub open-size : (t : Ty) (tail : CodeTail) → option_map kept (tail_of t) ≡ Some tail → has_fixed_layout t ≡ false
open-size t tail e = by (has_fixed_layout t) refl
  where
    by : (b : Bool) → has_fixed_layout t ≡ b → b ≡ false
    by true f = let none = ap (option_map kept) (sym (fixed-length t 0 f)) ∙ e in absurd (cc)
    by false f = refl
