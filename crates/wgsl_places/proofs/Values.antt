-- Numbers at places are those of parts.
use Rattle.std.proofs.Common.{◌≡◌, ℕ, ℤ, List, Some, None, Ok, Bool, true, false, refl, sym, ap, ◌∙◌, subst}
use Rattle.std.specs.Prelude.{◌&&◌, if◌then◌else◌}
use Rattle.std.proofs.lemmas.Bool.{false≢true}
use Rattle.wgsl_rules.specs.Kinds as kinds
use Rattle.wgsl_rules.specs.Kinds.{Kind}
use Rattle.wgsl_rules.specs.Types as types
use Rattle.wgsl_rules.specs.Types.{Ty, struct, array, vec, mat, atomic}
use Rattle.wgsl_rules.specs.Values.{Val, Vals, number, atomic_of, type_of}
use Rattle.wgsl_rules.specs.Layout.{has_layout, Layout, scalar, composite, layout, type_in}
use Rattle.wgsl_layout.specs.Buffers.{buffer, decoded, decoded_parts, made_of_parts, made_of_number, read_number}
use Rattle.wgsl_layout.specs.Layouts.{Answer, written_in}
use Rattle.wgsl_layout.specs.Ranges.{Range, overwritten}
use Rattle.wgsl_places.specs.Places.{is_inside, number_there, stored, takes}
use Rattle.wgsl_places.specs.Laws.{number_in, value_with, LoadsAreReads, StoresAreWrites}

-- ---- what is loaded

scalar-number : (t : Ty) (k : Kind) (z : ℤ) → Some (number k z) ≡ number_in (made_of_number t k z)
scalar-number (atomic t) k z = refl
scalar-number t k z = refl

no-number : (t : Ty) (vs : Vals) → None ≡ number_in (made_of_parts t vs)
no-number (struct name fs) vs = refl
no-number (array t None) vs = refl
no-number (array t (Some n)) vs = refl
no-number (vec n t) vs = refl
no-number (mat c r t) vs = refl
no-number t vs = refl

there-is : (b : List ℕ) (o : ℕ) (l : Layout) → number_there b o l ≡ number_in (decoded b o l)
there-is b o (scalar t k) = scalar-number t k (read_number b o k)
there-is b o (composite t len ps) = no-number t (decoded_parts b o ps)

pub loads-are-reads : LoadsAreReads
loads-are-reads b r h = ap (λ (c : Bool). if c then number_there b r.start r.layout else None) h ∙ there-is b r.start r.layout

-- ---- what is stored

abbrev range_of : ℕ → ℕ → Ty → Range
range_of start n t = record { start = start; layout = layout n t }

-- where numbers of another type are held, nothing is stored
not-taken : (b after : List ℕ) (r : Range) (w : Val) → takes (type_of w) r.layout ≡ false → stored b r w ≡ Some after → ⊥
not-taken b after r w other e = by (is_inside b r) (sym (ap (λ (c : Bool). if is_inside b r && c then Some (overwritten b r.start (buffer w)) else None) other) ∙ e)
  where
    by : (c : Bool) → (if c && false then Some (overwritten b r.start (buffer w)) else None) ≡ Some after → ⊥
    by true e = cc (e)
    by false e = cc (e)

taken : (b after : List ℕ) (r : Range) (w v : Val) → takes (type_of w) r.layout ≡ true → written_in b v r ≡ Ok (overwritten b r.start (buffer w)) → stored b r w ≡ Some after → written_in b v r ≡ Ok after
taken b after r w v same writes e = writes ∙ by (is_inside b r) (sym (ap (λ (c : Bool). if is_inside b r && c then Some (overwritten b r.start (buffer w)) else None) same) ∙ e)
  where
    by : (c : Bool) → (if c && true then Some (overwritten b r.start (buffer w)) else None) ≡ Some after → ◌≡◌ {A = Answer (List ℕ)} (Ok (overwritten b r.start (buffer w))) (Ok after)
    by true e = let one : overwritten b r.start (buffer w) ≡ after = cc (e) in ap (λ (x : List ℕ). Ok x) one
    by false e = absurd (cc (e))

-- what a write answers, where what is stored is this
abbrev Writes : List ℕ → List ℕ → ℕ → ℕ → Ty → Kind → ℤ → Type 0
Writes b after start n t k z = stored b (range_of start n t) (number k z) ≡ Some after → written_in b (value_with t (number k z)) (range_of start n t) ≡ Ok after

at-type : (b after : List ℕ) (start n : ℕ) (t : Ty) (k : Kind) (z : ℤ) → has_layout t ≡ true → Writes b after start n t k z
at-type b after start n types.i32 kinds.i32 z h e = taken b after (range_of start n types.i32) (number kinds.i32 z) (number kinds.i32 z) refl refl e
at-type b after start n types.i32 k z h e = absurd (not-taken b after (range_of start n types.i32) (number k z) refl e)
at-type b after start n types.u32 kinds.u32 z h e = taken b after (range_of start n types.u32) (number kinds.u32 z) (number kinds.u32 z) refl refl e
at-type b after start n types.u32 k z h e = absurd (not-taken b after (range_of start n types.u32) (number k z) refl e)
at-type b after start n types.i64 kinds.i64 z h e = taken b after (range_of start n types.i64) (number kinds.i64 z) (number kinds.i64 z) refl refl e
at-type b after start n types.i64 k z h e = absurd (not-taken b after (range_of start n types.i64) (number k z) refl e)
at-type b after start n types.u64 kinds.u64 z h e = taken b after (range_of start n types.u64) (number kinds.u64 z) (number kinds.u64 z) refl refl e
at-type b after start n types.u64 k z h e = absurd (not-taken b after (range_of start n types.u64) (number k z) refl e)
at-type b after start n (atomic types.i32) kinds.i32 z h e = taken b after (range_of start n (atomic types.i32)) (number kinds.i32 z) (atomic_of (number kinds.i32 z)) refl refl e
at-type b after start n (atomic types.i32) k z h e = absurd (not-taken b after (range_of start n (atomic types.i32)) (number k z) refl e)
at-type b after start n (atomic types.u32) kinds.u32 z h e = taken b after (range_of start n (atomic types.u32)) (number kinds.u32 z) (atomic_of (number kinds.u32 z)) refl refl e
at-type b after start n (atomic types.u32) k z h e = absurd (not-taken b after (range_of start n (atomic types.u32)) (number k z) refl e)
at-type b after start n (vec m t) k z h e = absurd (not-taken b after (range_of start n (vec m t)) (number k z) refl e)
at-type b after start n (mat c r t) k z h e = absurd (not-taken b after (range_of start n (mat c r t)) (number k z) refl e)
at-type b after start n (array t None) k z h e = absurd (not-taken b after (range_of start n (array t None)) (number k z) refl e)
at-type b after start n (array t (Some m)) k z h e = absurd (not-taken b after (range_of start n (array t (Some m))) (number k z) refl e)
at-type b after start n (struct name fs) k z h e = absurd (not-taken b after (range_of start n (struct name fs)) (number k z) refl e)
at-type b after start n t k z h e = absurd (false≢true h)

pub stores-are-writes : StoresAreWrites
stores-are-writes b after r n k z h is e =
    let t = type_in r.layout in
    let moved : r ≡ range_of r.start n t = ap (λ (l : Layout). record { start = r.start; layout = l }) is in
    subst (λ (x : Range). written_in b (value_with t (number k z)) x ≡ Ok after) (sym moved)
    (at-type b after r.start n t k z h (subst (λ (x : Range). stored b x (number k z) ≡ Some after) moved e))
