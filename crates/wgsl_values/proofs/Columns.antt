-- The columns of a matrix, and lists of values of which each has a property.
use Rattle.std.proofs.Common.{◌≡◌, ℕ, zero, suc, ◌<◌, ◌≤◌, None, IfSome, IsSomeAnd, arith, refl, sym, subst}
use Rattle.wgsl_rules.specs.Types as types
use Rattle.wgsl_rules.specs.Types.{Ty}
use Rattle.wgsl_rules.specs.Paths.{parts}
use Rattle.wgsl_rules.specs.Values.{Val, vector, matrix, Vals, no_vals, val, count, item, type_of, first_type, AllOfType, IsLiteral, AreLiterals, IsVector, AreVectors, IsStorable, AreStorable}
use Rattle.wgsl_values.specs.Matrices.{row_count}

-- ---- values of which each has a property

abbrev pub Each : (Val → Type 0) → Vals → Type 0
Each P no_vals = Unit {0}
Each P (val v vs) = P v × Each P vs

pub Each-item : (P : Val → Type 0) (vs : Vals) → Each P vs → (i : ℕ) → IfSome (item i vs) P
Each-item P no_vals h i = tt
Each-item P (val v vs) h zero = h.0
Each-item P (val v vs) h (suc i) = Each-item P vs h.1 i

pub item-within : (vs : Vals) (i : ℕ) → i < count vs → IsSomeAnd (item i vs) (λ v. Unit {0})
item-within no_vals i l = absurd (omega arith)
item-within (val v vs) zero l = tt
item-within (val v vs) (suc i) l = item-within vs i (omega arith)

pub item-past : (vs : Vals) (i : ℕ) → count vs ≤ i → item i vs ≡ None
item-past no_vals i l = refl
item-past (val v vs) zero l = absurd (omega arith)
item-past (val v vs) (suc i) l = item-past vs i (omega arith)

-- ---- the components of a vector

-- a component of the type
pub record IsComponent (t : Ty) (v : Val) : Type 0 where
  pub literal : IsLiteral v
  pub ty : type_of v ≡ t
  pub storable : IsStorable v

pub to_components : (t : Ty) (vs : Vals) → AreLiterals vs → AllOfType t vs → AreStorable vs → Each (IsComponent t) vs
to_components t no_vals l a s = tt
to_components t (val v vs) l a s = (record { literal = l.0; ty = a.0; storable = s.0 }, to_components t vs l.1 a.1 s.1)

pub are_literals : (t : Ty) (vs : Vals) → Each (IsComponent t) vs → AreLiterals vs
are_literals t no_vals h = tt
are_literals t (val v vs) h = (h.0.literal, are_literals t vs h.1)

are_of_type : (t : Ty) (vs : Vals) → Each (IsComponent t) vs → AllOfType t vs
are_of_type t no_vals h = tt
are_of_type t (val v vs) h = (h.0.ty, are_of_type t vs h.1)

are_storable : (t : Ty) (vs : Vals) → Each (IsComponent t) vs → AreStorable vs
are_storable t no_vals h = tt
are_storable t (val v vs) h = (h.0.storable, are_storable t vs h.1)

first_component : (t : Ty) (vs : Vals) → 0 < count vs → Each (IsComponent t) vs → first_type vs ≡ t
first_component t no_vals n h = absurd (omega arith)
first_component t (val v vs) n h = h.0.ty

-- ---- the columns of a matrix

-- a column of n components of the type
abbrev pub IsColumn : ℕ → Ty → Val → Type 0
IsColumn n t (vector vs) = (count vs ≡ n) × Each (IsComponent t) vs
IsColumn n t v = ⊥

-- columns of a matrix that may be stored
pub record AreColumns (n : ℕ) (t : Ty) (vs : Vals) : Type 0 where
  pub tall : 2 ≤ n
  pub short : n ≤ 4
  pub wide : 2 ≤ count vs
  pub narrow : count vs ≤ 4
  pub each : Each (IsColumn n t) vs

pub columns_vectors : (n : ℕ) (t : Ty) (vs : Vals) → Each (IsColumn n t) vs → AreVectors vs
columns_vectors n t no_vals h = tt
columns_vectors n t (val (vector xs) vs) h = (tt, columns_vectors n t vs h.1)
columns_vectors n t (val v vs) h = absurd h.0

column_type : (n : ℕ) (t : Ty) (v : Val) → 2 ≤ n → IsColumn n t v → type_of v ≡ types.vec n t
column_type n t (vector xs) l h =
    let counted : count xs ≡ n = h.0 in
    let typed = first_component t xs (omega arith) h.1 in
    cc
column_type n t v l h = absurd h

columns_typed : (n : ℕ) (t : Ty) (vs : Vals) → 2 ≤ n → Each (IsColumn n t) vs → AllOfType (types.vec n t) vs
columns_typed n t no_vals l h = tt
columns_typed n t (val v vs) l h = (column_type n t v l h.0, columns_typed n t vs l h.1)

column_storable : (n : ℕ) (t : Ty) (v : Val) → 2 ≤ n → n ≤ 4 → IsColumn n t v → IsStorable v
column_storable n t (vector xs) l g h =
    let typed = first_component t xs (omega (arith, h.0)) h.1 in
    (omega (arith, h.0), omega (arith, h.0), are_literals t xs h.1, subst (λ u. AllOfType u xs) (sym typed) (are_of_type t xs h.1), are_storable t xs h.1)
column_storable n t v l g h = absurd h

columns_storable : (n : ℕ) (t : Ty) (vs : Vals) → 2 ≤ n → n ≤ 4 → Each (IsColumn n t) vs → AreStorable vs
columns_storable n t no_vals l g h = tt
columns_storable n t (val v vs) l g h = (column_storable n t v l g h.0, columns_storable n t vs l g h.1)

columns_first : (n : ℕ) (t : Ty) (vs : Vals) → AreColumns n t vs → first_type vs ≡ types.vec n t
columns_first n t no_vals h = absurd (omega (arith, h.wide))
columns_first n t (val v vs) h = column_type n t v h.tall h.each.0

pub columns-storable : (n : ℕ) (t : Ty) (vs : Vals) → AreColumns n t vs → IsStorable (matrix vs)
columns-storable n t vs h =
    (h.wide, h.narrow, columns_vectors n t vs h.each, subst (λ u. AllOfType u vs) (sym (columns_first n t vs h)) (columns_typed n t vs h.tall h.each), columns_storable n t vs h.tall h.short h.each)

pub columns-type : (n : ℕ) (t : Ty) (vs : Vals) → AreColumns n t vs → type_of (matrix vs) ≡ types.mat (count vs) n t
columns-type n t vs h = let typed = columns_first n t vs h in cc

pub columns-rows : (n : ℕ) (t : Ty) (vs : Vals) → AreColumns n t vs → row_count vs ≡ n
columns-rows n t no_vals h = absurd (omega (arith, h.wide))
columns-rows n t (val (vector xs) vs) h = h.each.0.0
columns-rows n t (val v vs) h = absurd h.each.0

-- the type of the components of the columns
abbrev pub component_type : Vals → Ty
component_type no_vals = types.bool
component_type (val v vs) = first_type (parts v)

is_column : (n : ℕ) (t : Ty) (v : Val) → IsVector v → type_of v ≡ types.vec n t → IsStorable v → IsColumn n t v
is_column n t (vector xs) k e h =
    let counted : count xs ≡ n = cc in
    let typed : first_type xs ≡ t = cc in
    (counted, to_components t xs h.2 (subst (λ u. AllOfType u xs) typed h.3) h.4)
is_column n t v k e h = absurd k

are_columns : (n : ℕ) (t : Ty) (vs : Vals) → AreVectors vs → AllOfType (types.vec n t) vs → AreStorable vs → Each (IsColumn n t) vs
are_columns n t no_vals k a h = tt
are_columns n t (val v vs) k a h = (is_column n t v k.0 a.0 h.0, are_columns n t vs k.1 a.1 h.1)

pub storable-columns : (vs : Vals) → IsStorable (matrix vs) → AreColumns (row_count vs) (component_type vs) vs
storable-columns no_vals h = absurd (omega (arith, h.0))
storable-columns (val (vector xs) vs) h = record {
  tall = h.4.0.0;
  short = h.4.0.1;
  wide = h.0;
  narrow = h.1;
  each = are_columns (count xs) (first_type xs) (val (vector xs) vs) h.2 h.3 h.4;
}
storable-columns (val v vs) h = absurd h.2.0
