-- The components of a vector.
use Rattle.std.proofs.Common.{◌≡◌, ℕ, ◌+◌, ◌*◌, ◌<◌, ◌≤◌, ◌^◌, ℤ, pos, List, [], ◌∷◌, ◌++◌, length, map, Option, Some, None, Ok, is_some, Bool, true, false, refl, ap, arith}
use Rattle.std.specs.Prelude.{nat_le, ◌&&◌, if◌then◌else◌}
use Rattle.std.proofs.lemmas.Bool.{false≢true, lt-ltb, leb-true}
use Rattle.wgsl_rules.specs.Kinds as kinds
use Rattle.wgsl_rules.specs.Kinds.{Kind, bytes_of}
use Rattle.wgsl_rules.specs.Types as types
use Rattle.wgsl_rules.specs.Types.{Ty, vec}
use Rattle.wgsl_rules.specs.Size.{fitting}
use Rattle.wgsl_rules.specs.Layout.{amount, size, scalar_kind, Layout, scalar, layout}
use Rattle.wgsl_rules.specs.Values.{Val, truth, number, vector, IsLiteral}
use Rattle.wgsl_scalar.specs.Literals.{literal_of}
use Rattle.wgsl_scalar.specs.declared.literal.LiteralInstance.{LiteralInstance}
use Rattle.wgsl_scalar.specs.declared.literal.LiteralInstance.TheVariants as literals
use Rattle.wgsl_nodes.specs.HostTypes.{kind_of}
use Rattle.wgsl_values.specs.View.{vals_of}
use Rattle.wgsl_layout.specs.Buffers.{buffer, made_of_number}
use Rattle.wgsl_layout.specs.Layouts.{written_in}
use Rattle.wgsl_layout.specs.Ranges.{Range, overwritten}
use Rattle.wgsl_layout.specs.Walk.{number_bytes}
use Rattle.wgsl_places.specs.Numbers.{kind_named, stored_kind}
use Rattle.wgsl_places.specs.Places.{stored}

abbrev pub range_at : ℕ → Layout → Range
range_at start l = record { start = start; layout = l }

-- the bytes of numbers side by side
abbrev pub row_bytes : Kind → List ℤ → List ℕ
row_bytes k [] = []
row_bytes k (z ∷ zs) = number_bytes k z ++ row_bytes k zs

-- a write of a vector of these numbers overwrites the bytes with theirs
abbrev pub Writes : List ℕ → ℕ → ℕ → Ty → Kind → List ℤ → Type 0
Writes b start n t k zs =
    written_in b (vector (vals_of (map (number k) zs))) (range_at start (layout n (vec (length zs) t))) ≡ Ok (overwritten b start (row_bytes k zs))

-- what a literal is that is stored there
pub record IsHeld (b c : List ℕ) (o : ℕ) (k : Kind) (w : Val) : Type 0 where
  pub value : ℤ
  pub is : w ≡ number k value
  pub inside : o + bytes_of k ≤ length b
  pub bytes : c ≡ overwritten b o (number_bytes k value)

-- the type is one of components, of numbers of the kind
pub record IsComponent (t : Ty) (k : Kind) : Type 0 where
  pub laid_out : (n : ℕ) → layout n t ≡ scalar t k
  pub named : kind_named (kind_of t) ≡ Some k
  pub far : size t ≡ bytes_of k
  pub wide : (n : ℕ) → n ≤ 4 → size (vec n t) ≡ n * bytes_of k
  pub made : (z : ℤ) → made_of_number t k z ≡ number k z
  pub stored_is : (b : List ℕ) (o : ℕ) (l : LiteralInstance) → stored b (range_at o (scalar t k)) (literal_of l) ≡ stored_kind b o (kind_of t) (literal_of l)
  pub held : (b c : List ℕ) (o : ℕ) (w : Val) → IsLiteral w → stored b (range_at o (scalar t k)) w ≡ Some c → IsHeld b c o k w
  pub two : (b : List ℕ) (o n : ℕ) (x y : ℤ) → Writes b o n t k (x ∷ y ∷ [])
  pub three : (b : List ℕ) (o n : ℕ) (x y z : ℤ) → Writes b o n t k (x ∷ y ∷ z ∷ [])
  pub four : (b : List ℕ) (o n : ℕ) (x y z w : ℤ) → Writes b o n t k (x ∷ y ∷ z ∷ w ∷ [])

-- ---- what is stored

own : (c : Bool) (x : List ℕ) → (if c && true then Some x else None) ≡ (if c then Some x else None)
own true x = refl
own false x = refl

other : (c : Bool) (x : List ℕ) → ◌≡◌ {A = Option (List ℕ)} (if c && false then Some x else None) None
other true x = refl
other false x = refl

stored-i32 : (b : List ℕ) (o : ℕ) (l : LiteralInstance) → stored b (range_at o (scalar types.i32 kinds.i32)) (literal_of l) ≡ stored_kind b o 1 (literal_of l)
stored-i32 b o (literals.I32 z) = own (nat_le (o + 4) (length b)) (overwritten b o (number_bytes kinds.i32 z))
stored-i32 b o l = other (nat_le (o + 4) (length b)) (overwritten b o (buffer (literal_of l)))

stored-u32 : (b : List ℕ) (o : ℕ) (l : LiteralInstance) → stored b (range_at o (scalar types.u32 kinds.u32)) (literal_of l) ≡ stored_kind b o 2 (literal_of l)
stored-u32 b o (literals.U32 n) = own (nat_le (o + 4) (length b)) (overwritten b o (number_bytes kinds.u32 (pos n)))
stored-u32 b o l = other (nat_le (o + 4) (length b)) (overwritten b o (buffer (literal_of l)))

stored-i64 : (b : List ℕ) (o : ℕ) (l : LiteralInstance) → stored b (range_at o (scalar types.i64 kinds.i64)) (literal_of l) ≡ stored_kind b o 5 (literal_of l)
stored-i64 b o (literals.I64 z) = own (nat_le (o + 8) (length b)) (overwritten b o (number_bytes kinds.i64 z))
stored-i64 b o l = other (nat_le (o + 8) (length b)) (overwritten b o (buffer (literal_of l)))

stored-u64 : (b : List ℕ) (o : ℕ) (l : LiteralInstance) → stored b (range_at o (scalar types.u64 kinds.u64)) (literal_of l) ≡ stored_kind b o 6 (literal_of l)
stored-u64 b o (literals.U64 n) = own (nat_le (o + 8) (length b)) (overwritten b o (number_bytes kinds.u64 (pos n)))
stored-u64 b o l = other (nat_le (o + 8) (length b)) (overwritten b o (buffer (literal_of l)))

held-own : (b c : List ℕ) (o : ℕ) (k : Kind) (z : ℤ) (x : Bool) → nat_le (o + bytes_of k) (length b) ≡ x → (if x && true then Some (overwritten b o (number_bytes k z)) else None) ≡ Some c
    → IsHeld b c o k (number k z)
held-own b c o k z true le e = record { value = z; is = refl; inside = leb-true (o + bytes_of k) (length b) le; bytes = cc (e) }
held-own b c o k z false le e = absurd (cc (e))

not-held : (b c : List ℕ) (o : ℕ) (k : Kind) (w : Val) (x : Bool) (y : List ℕ) → (if x && false then Some y else None) ≡ Some c → IsHeld b c o k w
not-held b c o k w true y e = absurd (cc (e))
not-held b c o k w false y e = absurd (cc (e))

held-i32 : (b c : List ℕ) (o : ℕ) (w : Val) → IsLiteral w → stored b (range_at o (scalar types.i32 kinds.i32)) w ≡ Some c → IsHeld b c o kinds.i32 w
held-i32 b c o (number kinds.i32 z) lit e = held-own b c o kinds.i32 z (nat_le (o + 4) (length b)) refl e
held-i32 b c o (number k z) lit e = not-held b c o kinds.i32 (number k z) (nat_le (o + 4) (length b)) (overwritten b o (buffer (number k z))) e
held-i32 b c o (truth t) lit e = not-held b c o kinds.i32 (truth t) (nat_le (o + 4) (length b)) (overwritten b o (buffer (truth t))) e
held-i32 b c o w lit e = absurd lit

held-u32 : (b c : List ℕ) (o : ℕ) (w : Val) → IsLiteral w → stored b (range_at o (scalar types.u32 kinds.u32)) w ≡ Some c → IsHeld b c o kinds.u32 w
held-u32 b c o (number kinds.u32 z) lit e = held-own b c o kinds.u32 z (nat_le (o + 4) (length b)) refl e
held-u32 b c o (number k z) lit e = not-held b c o kinds.u32 (number k z) (nat_le (o + 4) (length b)) (overwritten b o (buffer (number k z))) e
held-u32 b c o (truth t) lit e = not-held b c o kinds.u32 (truth t) (nat_le (o + 4) (length b)) (overwritten b o (buffer (truth t))) e
held-u32 b c o w lit e = absurd lit

held-i64 : (b c : List ℕ) (o : ℕ) (w : Val) → IsLiteral w → stored b (range_at o (scalar types.i64 kinds.i64)) w ≡ Some c → IsHeld b c o kinds.i64 w
held-i64 b c o (number kinds.i64 z) lit e = held-own b c o kinds.i64 z (nat_le (o + 8) (length b)) refl e
held-i64 b c o (number k z) lit e = not-held b c o kinds.i64 (number k z) (nat_le (o + 8) (length b)) (overwritten b o (buffer (number k z))) e
held-i64 b c o (truth t) lit e = not-held b c o kinds.i64 (truth t) (nat_le (o + 8) (length b)) (overwritten b o (buffer (truth t))) e
held-i64 b c o w lit e = absurd lit

held-u64 : (b c : List ℕ) (o : ℕ) (w : Val) → IsLiteral w → stored b (range_at o (scalar types.u64 kinds.u64)) w ≡ Some c → IsHeld b c o kinds.u64 w
held-u64 b c o (number kinds.u64 z) lit e = held-own b c o kinds.u64 z (nat_le (o + 8) (length b)) refl e
held-u64 b c o (number k z) lit e = not-held b c o kinds.u64 (number k z) (nat_le (o + 8) (length b)) (overwritten b o (buffer (number k z))) e
held-u64 b c o (truth t) lit e = not-held b c o kinds.u64 (truth t) (nat_le (o + 8) (length b)) (overwritten b o (buffer (truth t))) e
held-u64 b c o w lit e = absurd lit

-- ---- each of the types

fit : (m : ℕ) → m < 2 ^ 32 → amount (fitting m) ≡ m
fit m h = ap (λ (c : Bool). amount (if c then Some m else None)) (lt-ltb m (2 ^ 32) h)

pub component : (t : Ty) → is_some (scalar_kind t) ≡ true → (k : Kind) × IsComponent t k
component types.i32 h = (
  kinds.i32,
  record {
    laid_out = λ n. refl;
    named = refl;
    far = refl;
    wide = λ n le. fit (n * 4) (omega arith);
    made = λ z. refl;
    stored_is = stored-i32;
    held = held-i32;
    two = λ b o n x y. refl;
    three = λ b o n x y z. refl;
    four = λ b o n x y z w. refl;
  },
)
component types.u32 h = (
  kinds.u32,
  record {
    laid_out = λ n. refl;
    named = refl;
    far = refl;
    wide = λ n le. fit (n * 4) (omega arith);
    made = λ z. refl;
    stored_is = stored-u32;
    held = held-u32;
    two = λ b o n x y. refl;
    three = λ b o n x y z. refl;
    four = λ b o n x y z w. refl;
  },
)
component types.i64 h = (
  kinds.i64,
  record {
    laid_out = λ n. refl;
    named = refl;
    far = refl;
    wide = λ n le. fit (n * 8) (omega arith);
    made = λ z. refl;
    stored_is = stored-i64;
    held = held-i64;
    two = λ b o n x y. refl;
    three = λ b o n x y z. refl;
    four = λ b o n x y z w. refl;
  },
)
component types.u64 h = (
  kinds.u64,
  record {
    laid_out = λ n. refl;
    named = refl;
    far = refl;
    wide = λ n le. fit (n * 8) (omega arith);
    made = λ z. refl;
    stored_is = stored-u64;
    held = held-u64;
    two = λ b o n x y. refl;
    three = λ b o n x y z. refl;
    four = λ b o n x y z w. refl;
  },
)
component t h = absurd (false≢true h)
