-- What is told of each in a list, and what holds of each.
use Rattle.std.proofs.Common.{◌≡◌, ℕ, suc, ◌+◌, ◌<◌, Bool, true, false, List, [], ◌∷◌, ◌++◌, length, get_or, drop, refl, sym, ap, ◌∙◌, subst, arith, append_assoc, append-nil, add-one, drop-cons}
use Rattle.std.specs.Prelude.{slice_get, unwrap_or, if◌then◌else◌}
use Rattle.std.specs.Option.{option_map}
use Rattle.std.proofs.Math.Seq.{drop-length}
use Rattle.std.proofs.lemmas.Option.{slice_get-get_or}
use Rattle.wgsl_eval.specs.Lists.{AllFrom, told_from}

-- what is told so far, before what is told of those that are left, is all
pub record AreTold {A D : Type 0} (is_told : ℕ → D → Bool) (f : ℕ → A) (ds : List D) (i : ℕ) (so_far : List A) : Type 0 where
  pub all : so_far ++ told_from is_told f i (drop i ds) ≡ told_from is_told f 0 ds

pub told_none : {A D : Type 0} (is_told : ℕ → D → Bool) (f : ℕ → A) (ds : List D) → AreTold is_told f ds 0 []
told_none is_told f ds = record { all = refl }

next : {A D : Type 0} (is_told : ℕ → D → Bool) (f : ℕ → A) (ds : List D) (i : ℕ) (d : D) → i < length ds
    → told_from is_told f i (drop i ds) ≡ (if is_told i (get_or ds i d) then f i ∷ [] else []) ++ told_from is_told f (i + 1) (drop (i + 1) ds)
next is_told f ds i d h =
    let e : drop i ds ≡ get_or ds i d ∷ drop (i + 1) ds = rw add-one (drop-cons ds i d h) in
    ap (told_from is_told f i) e

told_step : {A D : Type 0} (is_told : ℕ → D → Bool) (f : ℕ → A) (ds : List D) (i : ℕ) (d : D) (b : Bool) (before after : List A) → i < length ds
    → b ≡ is_told i (get_or ds i d) → after ≡ (if b then before ++ f i ∷ [] else before) → AreTold is_told f ds i before → AreTold is_told f ds (i + 1) after
told_step {A} is_told f ds i d true before after h is e so_far =
    let left = told_from is_told f (i + 1) (drop (i + 1) ds) in
    let n = next is_told f ds i d h ∙ ap (λ b. (if b then f i ∷ [] else []) ++ left) (sym is) in
    let P : List A → Type 0 = λ xs. AreTold is_told f ds (i + 1) xs in
    subst P (sym e) (record { all = rw append_assoc (ap (λ x. before ++ x) (sym n) ∙ so_far.all) })
told_step {A} is_told f ds i d false before after h is e so_far =
    let left = told_from is_told f (i + 1) (drop (i + 1) ds) in
    let n = next is_told f ds i d h ∙ ap (λ b. (if b then f i ∷ [] else []) ++ left) (sym is) in
    let P : List A → Type 0 = λ xs. AreTold is_told f ds (i + 1) xs in
    subst P (sym e) (record { all = ap (λ x. before ++ x) (sym n) ∙ so_far.all })

pub told_more : {A D : Type 0} (is_told : ℕ → D → Bool) (f : ℕ → A) (ds : List D) (i : ℕ) (d : D) (b : Bool) (before after : List A) → i < length ds
    → b ≡ unwrap_or (option_map (is_told i) (slice_get ds i)) false → after ≡ (if b then before ++ f i ∷ [] else before)
    → AreTold is_told f ds i before → AreTold is_told f ds (i + 1) after
told_more is_told f ds i d b before after h is e so_far =
    told_step is_told f ds i d b before after h (is ∙ ap (λ o. unwrap_or (option_map (is_told i) o) false) (slice_get-get_or ds i d h)) e so_far

pub told_all : {A D : Type 0} (is_told : ℕ → D → Bool) (f : ℕ → A) (ds : List D) (told : List A) → AreTold is_told f ds (length ds) told → told ≡ told_from is_told f 0 ds
told_all is_told f ds told h =
    let e = ap (λ xs. told ++ told_from is_told f (length ds) xs) (drop-length ds) in
    sym (append-nil told) ∙ sym e ∙ h.all

pub all_pushed : {A : Type 0} (P : ℕ → A → Type 0) (n : ℕ) (xs : List A) (x : A) → AllFrom P n xs → P (n + length xs) x → AllFrom P n (xs ++ x ∷ [])
all_pushed {A} P n [] x h k =
    let Q : ℕ → Type 0 = λ m. P m x in
    let e : n + length {0} {A = A} [] ≡ n = omega arith in
    (subst Q e k, tt)
all_pushed P n (y ∷ ys) x h k =
    let Q : ℕ → Type 0 = λ m. P m x in
    let e : n + suc (length ys) ≡ n + 1 + length ys = omega arith in
    (h.0, all_pushed P (n + 1) ys x h.1 (subst Q e k))

-- those are told of that are told of by a test of the same answers
pub told_alike : {A D : Type 0} (p q : ℕ → D → Bool) (f : ℕ → A) (n : ℕ) (ds : List D) → ((k : ℕ) (d : D) → p k d ≡ q k d) → told_from p f n ds ≡ told_from q f n ds
told_alike p q f n [] same = refl
told_alike p q f n (d ∷ ds) same =
    ap (λ b. (if b then f n ∷ [] else []) ++ told_from p f (n + 1) ds) (same n d)
    ∙ ap (λ rest. (if q n d then f n ∷ [] else []) ++ rest) (told_alike p q f (n + 1) ds same)
