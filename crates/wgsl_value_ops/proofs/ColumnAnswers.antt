-- What a closure has answered so far, in a loop over the columns of matrices.
use Rattle.std.proofs.Common.{◌≡◌, ◌≢◌, inl, inr, ⊎_elim, ℕ, zero, suc, ◌+◌, ◌<◌, ◌≤◌, List, [], ◌∷◌, ◌++◌, length, drop, map, Result, Ok, Err, Option, Some, None, IfSome, IsSomeAnd, IsTrue, option_map, rules, Bool, true, false, refl, ap, ap₂, sym, ◌∙◌, subst, arith, add-one, append_assoc, append-nil}
use Rattle.std.proofs.lemmas.Bool.{eq-eqb, eqb-true, true≢false}
use Rattle.std.proofs.lemmas.List.{drop_all}
use Rattle.std.specs.Option.{IsSome}
use Rattle.std.specs.Borrow.{Bor}
use Rattle.std.specs.List.{zip}
use Rattle.std.specs.Prelude.{nat_eq, slice_get}
use denote.Param.Members.{Shared}
use Rattle.wgsl_rules.specs.Paths.{parts, same_paths, all_same_paths}
use Rattle.wgsl_rules.specs.Types.{Ty}
use Rattle.wgsl_rules.specs.Values.{Val, vector, matrix, Vals, no_vals, val, count, item, first_type, AllOfType, AreLiterals, AreStorable, AreVectors, IsStorable, IsVector, IsWellFormed}
use Rattle.wgsl_rules.proofs.lemmas.Slices.{slice_get-append}
use Rattle.wgsl_rules.proofs.lemmas.Known.{and-both}
use Rattle.wgsl_scalar.specs.declared.error.Error.{Error}
use Rattle.wgsl_scalar.specs.declared.literal.LiteralInstance.{LiteralInstance}
use Rattle.wgsl_values.proofs.Columns.{Each, Each-item, item-within, AreColumns, IsColumn, component_type, storable-columns, columns-storable, are_literals, to_components, columns_vectors}
use Rattle.wgsl_values.proofs.lemmas.Views.{mat_view-is, value_of-Vec}
use Rattle.wgsl_values.specs.Iterators.{listed, all_components}
use Rattle.wgsl_values.specs.Matrices.{row_count}
use Rattle.wgsl_values.specs.Parts.{components}
use Rattle.wgsl_values.specs.View.{value_of, vals_of, vals_view, mat_view, vec_view}
use Rattle.wgsl_values.specs.declared.instance.Instance.{Instance, Vec}
use Rattle.wgsl_values.specs.declared.matrix.MatInstance.{MatInstance}
use Rattle.wgsl_values.specs.declared.vector.VecInstance.{VecInstance}
use Rattle.wgsl_values.proofs.Listed.{length-listed}
use Rattle.wgsl_value_ops.specs.Closures.{Answered, Refused, AnswersEach, AnswersOneKind, AnswersPairs, IsCallableAt, IsCallableAtPairs, components_of, pairs_of}
use Rattle.wgsl_value_ops.proofs.Answering.{GivesLiterals, answered-length, answered-one-type, answers-storable, both-true, count-of, length-pairs, length-values, listed-values, literals-paths, values-append}

-- ---- lists that are joined

answered-append : {X Y E : Type 0} (R : X → Result Y E → Type 0) (xs later : List X) (ys others : List Y)
    → Answered R xs ys → Answered R later others → Answered R (xs ++ later) (ys ++ others)
answered-append R [] later [] others a b = b
answered-append R [] later (y ∷ ys) others a b = absurd a
answered-append R (x ∷ xs) later [] others a b = absurd a
answered-append R (x ∷ xs) later (y ∷ ys) others a b = (a.0, answered-append R xs later ys others a.1 b)

-- a refusal in the first of two lists
refused-front : {X Y E : Type 0} (R : X → Result Y E → Type 0) (xs later : List X) (e : E) → Refused R xs e → Refused R (xs ++ later) e
refused-front R [] later e r = absurd r
refused-front R (x ∷ xs) later e r = ⊎_elim (λ h. inl h) (λ h. inr (h.0, h.1, refused-front R xs later e h.2)) r

-- and in the second of them
refused-behind : {X Y E : Type 0} (R : X → Result Y E → Type 0) (xs later : List X) (ys : List Y) (e : E)
    → Answered R xs ys → Refused R later e → Refused R (xs ++ later) e
refused-behind R [] later [] e a r = r
refused-behind R [] later (y ∷ ys) e a r = absurd a
refused-behind R (x ∷ xs) later [] e a r = absurd a
refused-behind R (x ∷ xs) later (y ∷ ys) e a r = inr (y, a.0, refused-behind R xs later ys e a.1 r)

-- the same place, behind the list
abbrev behind : {X : Type 0} → List X → ℕ → ℕ
behind [] i = i
behind (x ∷ xs) i = suc (behind xs i)

got-behind : {X : Type 0} (xs later : List X) (i : ℕ) (x : X) → slice_get later i ≡ Some x → slice_get (xs ++ later) (behind xs i) ≡ Some x
got-behind [] later i x e = e
got-behind (y ∷ xs) later i x e = got-behind xs later i x e

zip-append : {X Y : Type 0} (xs others : List X) (ys later : List Y) → length xs ≡ length ys → zip (xs ++ others) (ys ++ later) ≡ zip xs ys ++ zip others later
zip-append [] others [] later e = refl
zip-append [] others (y ∷ ys) later e = absurd (omega arith)
zip-append (x ∷ xs) others [] later e = absurd (omega arith)
zip-append (x ∷ xs) others (y ∷ ys) later e = ap (λ l. (x, y) ∷ l) (zip-append xs others ys later (omega arith))

all_components-append : (columns others : List Val) → all_components (columns ++ others) ≡ all_components columns ++ all_components others
all_components-append [] others = refl
all_components-append (c ∷ columns) others = rw (all_components-append columns others) (sym (append_assoc (listed (components c)) (all_components columns) (all_components others)))

-- ---- what is known of a part of the components

one_kind-front : {X : Type 0} (R : X → Result Val Error → Type 0) (xs later : List X) → AnswersOneKind R (xs ++ later) → AnswersOneKind R xs
one_kind-front R xs later o = record { one = λ i j x y v w p q. o.one i j x y v w (slice_get-append xs later i x p) (slice_get-append xs later j y q) }

one_kind-behind : {X : Type 0} (R : X → Result Val Error → Type 0) (xs later : List X) → AnswersOneKind R (xs ++ later) → AnswersOneKind R later
one_kind-behind R xs later o = record { one = λ i j x y v w p q. o.one (behind xs i) (behind xs j) x y v w (got-behind xs later i x p) (got-behind xs later j y q) }

module _ {F : Type 0} (g : Shared F (Bor LiteralInstance × Unit {0}) (Result LiteralInstance Error)) (f : F) (rest here later : List Val) (split : rest ≡ here ++ later) (c : IsCallableAt g f rest) where
  pub callable-here : IsCallableAt g f here
  callable-here = record { at = λ i shown e. c.at i shown (rw split (slice_get-append here later i _ e)) }

  pub callable-later : IsCallableAt g f later
  callable-later = record { at = λ i shown e. c.at (behind here i) shown (rw split (got-behind here later i _ e)) }

module _ {F : Type 0} (g : Shared F (Bor LiteralInstance × (Bor LiteralInstance × Unit {0})) (Result LiteralInstance Error)) (f : F) (rest here later : List (Val × Val)) (split : rest ≡ here ++ later) (c : IsCallableAtPairs g f rest) where
  pub callable_pairs-here : IsCallableAtPairs g f here
  callable_pairs-here = record { at = λ i first second e. c.at i first second (rw split (slice_get-append here later i _ e)) }

  pub callable_pairs-later : IsCallableAtPairs g f later
  callable_pairs-later = record { at = λ i first second e. c.at (behind here i) first second (rw split (got-behind here later i _ e)) }

-- ---- matrices

-- the columns from one on
abbrev pub columns_from : ℕ → MatInstance → List Val
columns_from i m = drop i (listed (parts (mat_view m)))

-- what is known of a matrix that is well-formed
pub record IsMatrix (m : MatInstance) : Type 0 where
  pub is : mat_view m ≡ matrix (parts (mat_view m))
  pub are : AreColumns (row_count (parts (mat_view m))) (component_type (parts (mat_view m))) (parts (mat_view m))

pub matrix-known : (m : MatInstance) → IsWellFormed (mat_view m) → IsMatrix m
matrix-known m w =
    let is = mat_view-is m in
    let same : mat_view m ≡ matrix (parts (mat_view m)) = is ∙ ap matrix (sym (ap parts is)) in
    record { is = same; are = storable-columns (parts (mat_view m)) (subst IsWellFormed same w) }

-- a column that exists
pub column_there : (o : Option (Bor Instance)) (vs : Vals) (i : ℕ) → option_map (λ v. value_of v.now) o ≡ item i vs → i < count vs → IsSome o
column_there None vs i e h = absurd (subst (λ o. IsSomeAnd o (λ v. Unit {0})) (sym e) (item-within vs i h))
column_there (Some v) vs i e h = search rules

vector-column : (n : ℕ) (t : Ty) (v : Val) → IsColumn n t v → IsVector v
vector-column n t (vector vs) h = tt
vector-column n t v h = absurd h

pub column-vector : (m : MatInstance) (i : ℕ) (v : Val) → IsMatrix m → item i (parts (mat_view m)) ≡ Some v → IsVector v
column-vector m i v k e =
    let t = component_type (parts (mat_view m)) in
    let n = row_count (parts (mat_view m)) in
    vector-column n t v (subst (λ o. IfSome o (IsColumn n t)) e (Each-item (IsColumn n t) (parts (mat_view m)) k.are.each i))

-- what is known of a column
pub record IsColumnOf (m : MatInstance) (i : ℕ) (s : List Instance) : Type 0 where
  pub rows : length s ≡ row_count (parts (mat_view m))
  pub literals : AreLiterals (vals_view s)
  pub split : all_components (columns_from i m) ≡ map value_of s ++ all_components (columns_from (i + 1) m)

drop-columns : (columns : Vals) (i : ℕ) (s : List Instance) → item i columns ≡ Some (vector (vals_view s))
    → all_components (drop i (listed columns)) ≡ map value_of s ++ all_components (drop (suc i) (listed columns))
drop-columns no_vals i s e = cc
drop-columns (val v vs) zero s e =
    let is : v ≡ vector (vals_view s) = cc in
    ap (λ c. listed (components c) ++ all_components (listed vs)) is ∙ ap (λ l. l ++ all_components (listed vs)) (listed-values s)
drop-columns (val v vs) (suc i) s e = drop-columns vs i s e

pub column-known : (m : MatInstance) (i : ℕ) (s : List Instance) → IsMatrix m → item i (parts (mat_view m)) ≡ Some (vector (vals_view s)) → IsColumnOf m i s
column-known m i s k e =
    let t = component_type (parts (mat_view m)) in
    let n = row_count (parts (mat_view m)) in
    let column : IsColumn n t (vector (vals_view s)) = subst (λ o. IfSome o (IsColumn n t)) e (Each-item (IsColumn n t) (parts (mat_view m)) k.are.each i) in
    record {
      rows = omega (arith, count-of (map value_of s), length-values s, column.0);
      literals = are_literals t (vals_view s) column.1;
      split = rw add-one (drop-columns (parts (mat_view m)) i s e);
    }

-- ---- the columns of answers so far

-- a vector of n components that may be stored
abbrev pub IsTall : ℕ → Val → Type 0
IsTall n (vector vs) = (count vs ≡ n) × IsStorable (vector vs)
IsTall n v = ⊥

-- what is left of xs decides the whole, after the columns so far
pub record AreColumnsSoFar {X : Type 0} (R : X → Result Val Error → Type 0) (xs rest : List X) (n : ℕ) (out : List Instance) : Type 0 where
  pub answered : (ys : List Val) → Answered R rest ys → Answered R xs (all_components (map value_of out) ++ ys)
  pub refused : (e : Error) → Refused R rest e → Refused R xs e
  pub one_kind : AnswersOneKind R rest
  pub tall : Each (IsTall n) (vals_view out)

tall-append : (n : ℕ) (vs : List Instance) (w : Instance) → Each (IsTall n) (vals_view vs) → IsTall n (value_of w) → Each (IsTall n) (vals_view (vs ++ w ∷ []))
tall-append n [] w h k = (k, tt)
tall-append n (v ∷ vs) w h k = (h.0, tall-append n vs w h.1 k)

-- one more column, whose components are `here`
module _ {X : Type 0} (R : X → Result Val Error → Type 0) (xs rest here later : List X) (split : rest ≡ here ++ later) (lits : GivesLiterals R)
    (m : MatInstance) (k : IsMatrix m) (rows : length here ≡ row_count (parts (mat_view m))) (out : List Instance) (so_far : AreColumnsSoFar R xs rest (row_count (parts (mat_view m))) out) where
  before : AreColumnsSoFar R xs (here ++ later) (row_count (parts (mat_view m))) out
  before = subst (λ l. AreColumnsSoFar R xs l (row_count (parts (mat_view m))) out) split so_far

  pub column_refused : (e : Error) → AnswersEach R here (Err e) → AnswersEach R xs (Err e)
  column_refused e a = record { each = ⊎_elim (λ memory. inl memory) (λ r. inr (before.refused e (refused-front R here later e r))) a.each }

  module _ (ys : List Instance) (a : AnswersEach R here (Ok (map value_of ys))) (stored : AreStorable (vals_view ys)) where
    pub column-storable : IsStorable (vector (vals_view ys))
    column-storable = answers-storable R here ys lits (one_kind-front R here later before.one_kind) (rw rows k.are.tall) (rw rows k.are.short) a.each stored

    pub columns_push : (v : VecInstance) → vec_view v ≡ vector (vals_view ys) → AreColumnsSoFar R xs later (row_count (parts (mat_view m))) (out ++ Vec v ∷ [])
    columns_push v is =
        let seen : value_of (Vec v) ≡ vector (vals_view ys) = value_of-Vec v ∙ is in
        let pushed : all_components (map value_of (out ++ Vec v ∷ [])) ≡ all_components (map value_of out) ++ map value_of ys =
        ap all_components (values-append out (Vec v ∷ [])) ∙ all_components-append (map value_of out) (value_of (Vec v) ∷ [])
        ∙ ap (λ l. all_components (map value_of out) ++ l) (append-nil _ ∙ ap (λ c. listed (components c)) seen ∙ listed-values ys) in
        let tall : IsTall (row_count (parts (mat_view m))) (vector (vals_view ys)) =
        (omega (arith, count-of (map value_of ys), answered-length R here (map value_of ys) a.each, rows), column-storable) in
        record {
          answered = λ zs b. rw (pushed, append_assoc (all_components (map value_of out)) (map value_of ys) zs) (before.answered (map value_of ys ++ zs) (answered-append R here later (map value_of ys) zs a.each b));
          refused = λ e r. before.refused e (refused-behind R here later (map value_of ys) e a.each r);
          one_kind = one_kind-behind R here later before.one_kind;
          tall = tall-append (row_count (parts (mat_view m))) out (Vec v) so_far.tall (rw seen tall);
        }

-- after the last column
pub no_columns_left : (m : MatInstance) (i : ℕ) → count (parts (mat_view m)) ≤ i → all_components (columns_from i m) ≡ []
no_columns_left m i h = ap all_components (drop_all i (listed (parts (mat_view m))) (rw (length-listed (parts (mat_view m))) h))

-- ---- matrices of answers

front-typed : (t : Ty) (vs : Vals) (later : List Val) → AllOfType t (vals_of (listed vs ++ later)) → AllOfType t vs
front-typed t no_vals later a = tt
front-typed t (val v vs) later a = (a.0, front-typed t vs later a.1)

behind-typed : (t : Ty) (vs : Vals) (later : List Val) → AllOfType t (vals_of (listed vs ++ later)) → AllOfType t (vals_of later)
behind-typed t no_vals later a = a
behind-typed t (val v vs) later a = behind-typed t vs later a.1

typed-columns : (n : ℕ) (t : Ty) (columns : Vals) → Each (IsTall n) columns → AllOfType t (vals_of (all_components (listed columns))) → Each (IsColumn n t) columns
typed-columns n t no_vals h a = tt
typed-columns n t (val (vector xs) vs) h a = (
  (h.0.0, to_components t xs h.0.1.2 (front-typed t xs (all_components (listed vs)) a) h.0.1.4),
  typed-columns n t vs h.1 (behind-typed t xs (all_components (listed vs)) a),
)
typed-columns n t (val v vs) h a = absurd h.0

-- columns of one height have the same paths, where there are as many
columns-paths : (n : ℕ) (t u : Ty) (vs ws : Vals) → Each (IsColumn n t) vs → Each (IsColumn n u) ws → count vs ≡ count ws → IsTrue (all_same_paths vs ws)
columns-paths n t u no_vals no_vals h k e = refl
columns-paths n t u no_vals (val w ws) h k e = absurd (omega arith)
columns-paths n t u (val v vs) no_vals h k e = absurd (omega arith)
columns-paths n t u (val (vector xs) vs) (val (vector ys) ws) h k e =
    both-true _ _ (literals-paths xs ys (are_literals t xs h.0.1) (are_literals u ys k.0.1) (h.0.0 ∙ sym k.0.0)) (columns-paths n t u vs ws h.1 k.1 (omega arith))
columns-paths n t u (val (vector xs) vs) (val w ws) h k e = absurd k.0
columns-paths n t u (val v vs) ws h k e = absurd h.0

module _ {X : Type 0} (R : X → Result Val Error → Type 0) (xs : List X) (m : MatInstance) (k : IsMatrix m) (out : List Instance) (counted : length out ≡ count (parts (mat_view m)))
    (o : AnswersOneKind R xs) (rest : List X) (ended : rest ≡ []) (h : AreColumnsSoFar R xs rest (row_count (parts (mat_view m))) out) where
  all-answered : Answered R xs (all_components (map value_of out))
  all-answered = let a = h.answered [] (rw ended tt) in rw append-nil at a

  abbrev answered_type : Ty
  answered_type = first_type (vals_of (all_components (map value_of out)))

  are-columns : AreColumns (row_count (parts (mat_view m))) answered_type (vals_view out)
  are-columns =
      let typed : AllOfType answered_type (vals_of (all_components (map value_of out))) = answered-one-type R xs (all_components (map value_of out)) o all-answered in
      let c = count-of (map value_of out) in
      let n = length-values out in
      record {
        tall = k.are.tall;
        short = k.are.short;
        wide = omega (arith, c, n, counted, k.are.wide);
        narrow = omega (arith, c, n, counted, k.are.narrow);
        each = typed-columns (row_count (parts (mat_view m))) answered_type (vals_view out) h.tall (rw (listed-values out) typed);
      }

  pub matrix-storable : IsStorable (matrix (vals_view out))
  matrix-storable = columns-storable (row_count (parts (mat_view m))) answered_type (vals_view out) are-columns

  module _ (r : MatInstance) (is : mat_view r ≡ matrix (vals_view out)) where
    pub matrix-answered : AnswersEach R xs (Ok (components_of (mat_view r)))
    matrix-answered =
        let seen : components_of (mat_view r) ≡ all_components (map value_of out) = ap components_of is ∙ ap all_components (listed-values out) in
        record { each = rw seen all-answered }

    pub matrix-paths : IsTrue (same_paths (mat_view r) (mat_view m))
    matrix-paths =
        let n = row_count (parts (mat_view m)) in
        let c = count-of (map value_of out) in
        let paths = columns-paths n answered_type (component_type (parts (mat_view m))) (vals_view out) (parts (mat_view m)) are-columns.each k.are.each (c ∙ length-values out ∙ counted) in
        subst (λ v. IsTrue (same_paths v (mat_view m))) (sym is) (subst (λ v. IsTrue (same_paths (matrix (vals_view out)) v)) (sym k.is) paths)

-- ---- two matrices

same_truth : (p q : Bool) → (IsTrue p → IsTrue q) → (IsTrue q → IsTrue p) → p ≡ q
same_truth true q h k = sym (h refl)
same_truth false true h k = k refl
same_truth false false h k = refl

paths-count : (vs ws : Vals) → IsTrue (all_same_paths vs ws) → count vs ≡ count ws
paths-count no_vals no_vals h = refl
paths-count no_vals (val w ws) h = cc
paths-count (val v vs) no_vals h = cc
paths-count (val v vs) (val w ws) h = ap suc (paths-count vs ws (and-both (same_paths v w) (all_same_paths vs ws) h).1)

paths-rows : (vs ws : Vals) → AreVectors vs → AreVectors ws → IsTrue (all_same_paths vs ws) → row_count vs ≡ row_count ws
paths-rows no_vals no_vals k l h = refl
paths-rows no_vals (val w ws) k l h = cc
paths-rows (val v vs) no_vals k l h = cc
paths-rows (val (vector xs) vs) (val (vector ys) ws) k l h = paths-count xs ys (and-both (same_paths (vector xs) (vector ys)) (all_same_paths vs ws) h).0
paths-rows (val (vector xs) vs) (val w ws) k l h = absurd l.0
paths-rows (val v vs) ws k l h = absurd k.0

-- the pairs of components from a column on
abbrev pub pairs_from : ℕ → MatInstance → MatInstance → List (Val × Val)
pairs_from i m w = zip (all_components (columns_from i m)) (all_components (columns_from i w))

-- what is known of two columns that stand beside each other, in matrices of equal shapes
pub record AreColumnsOf (m w : MatInstance) (i : ℕ) (s t : List Instance) : Type 0 where
  pub equal : length s ≡ length t
  pub rows : length (zip (map value_of s) (map value_of t)) ≡ row_count (parts (mat_view m))
  pub split : pairs_from i m w ≡ zip (map value_of s) (map value_of t) ++ pairs_from (i + 1) m w

module _ (m w : MatInstance) (k : IsMatrix m) (l : IsMatrix w) where
  pub no_pairs_left : (i : ℕ) → count (parts (mat_view m)) ≤ i → pairs_from i m w ≡ []
  no_pairs_left i h = ap (λ vs. zip vs (all_components (columns_from i w))) (no_columns_left m i h)

  same-columns : IsTrue (same_paths (mat_view m) (mat_view w)) → IsTrue (all_same_paths (parts (mat_view m)) (parts (mat_view w)))
  same-columns h = subst (λ v. IsTrue (same_paths v (mat_view w))) k.is h

  -- equal shapes are as many columns and as many rows
  equal-shapes : count (parts (mat_view m)) ≡ count (parts (mat_view w)) → row_count (parts (mat_view m)) ≡ row_count (parts (mat_view w)) → IsTrue (same_paths (mat_view m) (mat_view w))
  equal-shapes e f =
      let n = row_count (parts (mat_view m)) in
      let t = component_type (parts (mat_view m)) in
      let u = component_type (parts (mat_view w)) in
      let others : Each (IsColumn n u) (parts (mat_view w)) = subst (λ i. Each (IsColumn i u) (parts (mat_view w))) (sym f) l.are.each in
      subst (λ v. IsTrue (same_paths v (mat_view w))) (sym k.is) (columns-paths n t u (parts (mat_view m)) (parts (mat_view w)) k.are.each others e)

  pub as_many_columns : IsTrue (same_paths (mat_view m) (mat_view w)) → count (parts (mat_view m)) ≡ count (parts (mat_view w))
  as_many_columns h = paths-count (parts (mat_view m)) (parts (mat_view w)) (same-columns h)

  as_many_rows : IsTrue (same_paths (mat_view m) (mat_view w)) → row_count (parts (mat_view m)) ≡ row_count (parts (mat_view w))
  as_many_rows h =
      let t = component_type (parts (mat_view m)) in
      let u = component_type (parts (mat_view w)) in
      paths-rows (parts (mat_view m)) (parts (mat_view w))
      (columns_vectors (row_count (parts (mat_view m))) t (parts (mat_view m)) k.are.each) (columns_vectors (row_count (parts (mat_view w))) u (parts (mat_view w)) l.are.each) (same-columns h)

  module _ (shape : IsTrue (same_paths (mat_view m) (mat_view w))) where
    pub column-pair-known : (i : ℕ) (s t : List Instance) → item i (parts (mat_view m)) ≡ Some (vector (vals_view s)) → item i (parts (mat_view w)) ≡ Some (vector (vals_view t)) → AreColumnsOf m w i s t
    column-pair-known i s t e f =
        let c = column-known m i s k e in
        let d = column-known w i t l f in
        let equal : length s ≡ length t = c.rows ∙ as_many_rows shape ∙ sym d.rows in
        record {
          equal = equal;
          rows = length-pairs s t equal ∙ c.rows;
          split =
              ap₂ zip c.split d.split
              ∙ zip-append (map value_of s) (all_components (columns_from (i + 1) m)) (map value_of t) (all_components (columns_from (i + 1) w)) (length-values s ∙ equal ∙ sym (length-values t));
        }

  -- the test of the rows, where there are as many columns
  pub as_many_rows-test : count (parts (mat_view m)) ≡ count (parts (mat_view w)) → nat_eq (row_count (parts (mat_view m))) (row_count (parts (mat_view w))) ≡ same_paths (mat_view m) (mat_view w)
  as_many_rows-test e = same_truth _ _ (λ t. equal-shapes e (eqb-true _ _ t)) (λ h. eq-eqb _ _ (as_many_rows h))

  pub not_as_many_columns : count (parts (mat_view m)) ≢ count (parts (mat_view w)) → same_paths (mat_view m) (mat_view w) ≡ false
  not_as_many_columns d = sym (same_truth false _ (λ t. absurd (true≢false (sym t))) (λ h. absurd (d (as_many_columns h))))

pub matrices-answered : (R : Val × Val → Result Val Error → Type 0) (v w : Val) (r : Result (List Val) Error) → IsTrue (same_paths v w) → AnswersEach R (pairs_of v w) r → AnswersPairs R v w r
matrices-answered R v w r same a = record { equal = λ _. a; unequal = λ h. absurd (true≢false (sym same ∙ h)) }
