-- Rows of matrices, and transposed matrices.
use Rattle.std.proofs.Common.{◌≡◌, ℕ, zero, suc, ◌<◌, ◌≤◌, [], ◌∷◌, Option, Some, None, IfSome, IsSomeAnd, option_and_then, ◌⊎◌, arith, refl, sym, ap, ap₂, ◌∙◌, ⊎_elim}
use Rattle.wgsl_rules.specs.Types.{Ty}
use Rattle.wgsl_rules.specs.Paths.{parts, value_at}
use Rattle.wgsl_rules.specs.Values.{Val, vector, matrix, Vals, no_vals, val, count, item, IsWellFormed}
use Rattle.wgsl_values.specs.Laws.{IsMatrix, Transposes}
use Rattle.wgsl_values.specs.Matrices.{row_count, behind, row, tabulated, rows, transposed}
use Rattle.wgsl_values.proofs.Columns.{Each, Each-item, item-within, item-past, IsComponent, IsColumn, AreColumns, columns-storable, columns-type, columns-rows, component_type, storable-columns}

-- ---- values by their positions

pub tabulated-count : (n : ℕ) (f : ℕ → Val) → count (tabulated n f) ≡ n
tabulated-count zero f = refl
tabulated-count (suc n) f = ap (λ m. suc m) (tabulated-count n (λ i. f (suc i)))

pub tabulated-item : (n : ℕ) (f : ℕ → Val) (i : ℕ) → i < n → item i (tabulated n f) ≡ Some (f i)
tabulated-item zero f i l = absurd (omega arith)
tabulated-item (suc n) f zero l = refl
tabulated-item (suc n) f (suc i) l = tabulated-item n (λ j. f (suc j)) i (omega arith)

tabulated-each : (P : Val → Type 0) (n : ℕ) (f : ℕ → Val) → ((i : ℕ) → i < n → P (f i)) → Each P (tabulated n f)
tabulated-each P zero f h = tt
tabulated-each P (suc n) f h = (h 0 (omega arith), tabulated-each P n (λ i. f (suc i)) (λ i l. h (suc i) (omega arith)))

-- values of which each is where f says
pub tabulated-is : (n : ℕ) (f : ℕ → Val) (vs : Vals) → count vs ≡ n → ((i : ℕ) → i < n → item i vs ≡ Some (f i)) → vs ≡ tabulated n f
tabulated-is zero f no_vals c h = refl
tabulated-is zero f (val v vs) c h = absurd (omega arith)
tabulated-is (suc n) f no_vals c h = absurd (omega arith)
tabulated-is (suc n) f (val v vs) c h =
    let some = h 0 (omega arith) in
    let first : v ≡ f 0 = cc in
    ap₂ val first (tabulated-is n (λ i. f (suc i)) vs (omega arith) (λ i l. h (suc i) (omega arith)))

-- ---- rows

-- values of which each is component i of its column
pub row-is : (i : ℕ) (columns vs : Vals) → count vs ≡ count columns
    → ((j : ℕ) → j < count columns → item j vs ≡ option_and_then (λ column. item i (parts column)) (item j columns)) → vs ≡ row i columns
row-is i no_vals no_vals c h = refl
row-is i no_vals (val v vs) c h = absurd (omega arith)
row-is i (val column columns) no_vals c h = absurd (omega arith)
row-is i (val column columns) (val v vs) c h =
    let rest = row-is i columns vs (omega arith) (λ j l. h (suc j) (omega arith)) in
    ap (val v) rest ∙ ap (λ o. behind o (row i columns)) (h 0 (omega arith))

behind-first : (o : Option Val) (vs : Vals) → IsSomeAnd o (λ v. Unit {0}) → item 0 (behind o vs) ≡ o
behind-first None vs h = absurd h
behind-first (Some v) vs h = refl

behind-next : (o : Option Val) (vs : Vals) (j : ℕ) → IsSomeAnd o (λ v. Unit {0}) → item (suc j) (behind o vs) ≡ item j vs
behind-next None vs j h = absurd h
behind-next (Some v) vs j h = refl

row-item : (n : ℕ) (t : Ty) (i : ℕ) (columns : Vals) → i < n → Each (IsColumn n t) columns
    → (j : ℕ) → item j (row i columns) ≡ option_and_then (λ column. item i (parts column)) (item j columns)
row-item n t i no_vals l h j = refl
row-item n t i (val (vector xs) columns) l h zero = behind-first (item i xs) (row i columns) (item-within xs i (omega (arith, h.0.0)))
row-item n t i (val (vector xs) columns) l h (suc j) = behind-next (item i xs) (row i columns) j (item-within xs i (omega (arith, h.0.0))) ∙ row-item n t i columns l h.1 j
row-item n t i (val v columns) l h j = absurd h.0

behind-column : (n : ℕ) (t : Ty) (o : Option Val) (vs : Vals) → IsSomeAnd o (λ v. Unit {0}) → IfSome o (IsComponent t)
    → IsColumn n t (vector vs) → IsColumn (suc n) t (vector (behind o vs))
behind-column n t None vs k f h = absurd k
behind-column n t (Some v) vs k f h = (ap (λ m. suc m) h.0, (f, h.1))

row-column : (n : ℕ) (t : Ty) (i : ℕ) (columns : Vals) → i < n → Each (IsColumn n t) columns → IsColumn (count columns) t (vector (row i columns))
row-column n t i no_vals l h = (refl, tt)
row-column n t i (val (vector xs) columns) l h =
    behind-column (count columns) t (item i xs) (row i columns) (item-within xs i (omega (arith, h.0.0))) (Each-item (IsComponent t) xs h.0.1 i) (row-column n t i columns l h.1)
row-column n t i (val v columns) l h = absurd h.0

-- ---- transposed matrices

rows-columns : (n : ℕ) (t : Ty) (columns : Vals) → AreColumns n t columns → AreColumns (count columns) t (rows n columns)
rows-columns n t columns h =
    let counted = tabulated-count n (λ i. vector (row i columns)) in
    record {
      tall = h.wide;
      short = h.narrow;
      wide = omega (arith, counted, h.tall);
      narrow = omega (arith, counted, h.short);
      each = tabulated-each (IsColumn (count columns) t) n (λ i. vector (row i columns)) (λ i l. row-column n t i columns l h.each);
    }

-- component i of the value at j
abbrev component_at : ℕ → Option Val → Option Val
component_at i o = option_and_then (λ column. item i (parts column)) o

some-same : (o : Option Val) → option_and_then (λ v. Some v) o ≡ o
some-same None = refl
some-same (Some v) = refl

at-component : (i : ℕ) (o : Option Val) → option_and_then (value_at (i ∷ [])) o ≡ component_at i o
at-component i None = refl
at-component i (Some v) = some-same (item i (parts v))

column-short : (n : ℕ) (t : Ty) (i : ℕ) (o : Option Val) → n ≤ i → IfSome o (IsColumn n t) → component_at i o ≡ None
column-short n t i None l h = refl
column-short n t i (Some (vector xs)) l h = item-past xs i (omega (arith, h.0))
column-short n t i (Some v) l h = absurd h

rows-item : (n : ℕ) (t : Ty) (columns : Vals) → Each (IsColumn n t) columns → (i j : ℕ)
    → component_at j (item i (rows n columns)) ≡ component_at i (item j columns)
rows-item n t columns h i j =
    let side : (i < n) ⊎ (n ≤ i) = grind arith in
    ⊎_elim
    (λ l. ap (component_at j) (tabulated-item n (λ k. vector (row k columns)) i l) ∙ row-item n t i columns l h j)
    (λ l. ap (component_at j) (item-past (rows n columns) i (omega (arith, tabulated-count n (λ k. vector (row k columns)), l))) ∙ sym (column-short n t i (item j columns) l (Each-item (IsColumn n t) columns h j)))
    side

pub transposed_exchanges : (m : Val) → IsMatrix m → IsWellFormed m → Transposes (transposed m) m
transposed_exchanges (matrix columns) k h =
    let n = row_count columns in
    let t = component_type columns in
    let are = storable-columns columns h in
    let turned = rows-columns n t columns are in
    let counted = tabulated-count n (λ i. vector (row i columns)) in
    record {
      is_matrix = tt;
      storable = columns-storable (count columns) t (rows n columns) turned;
      ty = λ c r u e. let before = columns-type n t columns are in let after = columns-type (count columns) t (rows n columns) turned in cc;
      components = λ i j. at-component j (item i (rows n columns)) ∙ rows-item n t columns are.each i j ∙ sym (at-component i (item j columns));
    }
transposed_exchanges m k h = absurd k

-- a column is the row of the transposed matrix at its position
column-row : (n : ℕ) (t : Ty) (columns : Vals) (j : ℕ) (o : Option Val) → AreColumns n t columns → item j columns ≡ o → IfSome o (IsColumn n t) → IsSomeAnd o (λ v. Unit {0})
    → o ≡ Some (vector (row j (rows n columns)))
column-row n t columns j None h e c k = absurd k
column-row n t columns j (Some (vector xs)) h e c k =
    let counted = tabulated-count n (λ i. vector (row i columns)) in
    let same = row-is j (rows n columns) xs (omega (arith, counted, c.0)) (λ i l. sym (rows-item n t columns h.each i j ∙ ap (component_at i) e)) in
    ap (λ ys. Some (vector ys)) same
column-row n t columns j (Some v) h e c k = absurd c

rows-twice : (n : ℕ) (t : Ty) (columns : Vals) → AreColumns n t columns → rows (count columns) (rows n columns) ≡ columns
rows-twice n t columns h =
    sym (tabulated-is (count columns) (λ j. vector (row j (rows n columns))) columns refl
    (λ j l. column-row n t columns j (item j columns) h refl (Each-item (IsColumn n t) columns h.each j) (item-within columns j l)))

pub transposed_twice : (m : Val) → IsMatrix m → IsWellFormed m → transposed (transposed m) ≡ m
transposed_twice (matrix columns) k h =
    let n = row_count columns in
    let t = component_type columns in
    let are = storable-columns columns h in
    let turned = rows-columns n t columns are in
    ap matrix (ap (λ x. rows x (rows n columns)) (columns-rows (count columns) t (rows n columns) turned) ∙ rows-twice n t columns are)
transposed_twice m k h = absurd k
