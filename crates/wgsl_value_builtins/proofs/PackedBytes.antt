-- Bytes of words, with and without signs, and four numbers of a type.
use Rattle.std.proofs.Common.{◌≡◌, ◌∙◌, ℕ, zero, suc, ◌^◌, ◌<◌, ◌≤◌, List, [], ◌∷◌, length, get_or, ℤ, pos, negsuc, ◌*ℤ◌, unsigned_abs, FitsSigned, lit<, Some, Ok, arith, refl, sym, ap, subst}
use Rattle.std.specs.Int.{w16, int_min, int_max}
use Rattle.std.proofs.Math.Nat.{mod-lt}
use Rattle.std.proofs.lemmas.Bool.Decides.{nat_tests}
use Rattle.std.proofs.lemmas.Int.{ints, fits_signed_mul}
use Rattle.wgsl_rules.proofs.lemmas.Converted.{converted-type, converted-well_formed}
use Rattle.wgsl_rules.specs.Converted.{converted}
use Rattle.wgsl_rules.specs.Kinds as kinds
use Rattle.wgsl_rules.specs.Kinds.{Kind, InKind, modulo, floor_div}
use Rattle.wgsl_rules.specs.Types as types
use Rattle.wgsl_rules.specs.Types.{Ty}
use Rattle.wgsl_rules.specs.Values.{Val, vector, Vals, count, first_type, type_of, AllOfType, AreLiterals, IsLiteral, IsStorable, IsWellFormed}
use Rattle.wgsl_scalar.specs.Literals.{literal_of}
use Rattle.wgsl_scalar.specs.declared.literal.LiteralInstance.{LiteralInstance}
use Rattle.wgsl_layout.specs.Buffers.{byte_of}
use Rattle.wgsl_value_builtins.proofs.ComponentLemmas.{components-are}
use Rattle.wgsl_value_builtins.specs.Components.{components_of}
use Rattle.wgsl_value_builtins.specs.Packing.{four_bytes, limited_signed, signed_byte, unsigned_byte}
use Rattle.wgsl_values.specs.Make.{literals_view}
use Rattle.wgsl_values.specs.View.{value_of, vals_view}
use Rattle.wgsl_values.specs.declared.instance.Instance.{Instance}

-- ---- bytes

pub modulo_byte : (z : ℤ) → modulo z 256 < 256
modulo_byte (pos a) = mod-lt a (omega arith)
modulo_byte (negsuc a) = omega arith

pub byte_of-lt : (z : ℤ) (i : ℕ) → byte_of z i < 256
byte_of-lt z i = modulo_byte (floor_div z (256 ^ i))

pub limited-is : (z : ℤ) → limited_signed z ≡ int_max (negsuc 127) (int_min z (pos 127))
limited-is z = grind (arith, nat_tests, ints)

abbrev pub BytesIn : Kind → (ℕ → ℤ) → Type 0
BytesIn k f = (b : ℕ) → b < 256 → InKind k (f b)

pub signed-in : BytesIn kinds.i32 signed_byte
signed-in b h = grind (arith, nat_tests, ints)

pub unsigned-in : BytesIn kinds.u32 unsigned_byte
unsigned-in b h = grind (arith, ints)

pub four-storable : (k : Kind) (f : ℕ → ℤ) (z : ℤ) → BytesIn k f → IsStorable (four_bytes k f z)
four-storable k f z g =
    let at = λ (i : ℕ). g (byte_of z i) (byte_of-lt z i) in
    (omega arith, omega arith, (tt, (tt, (tt, (tt, tt)))), (refl, (refl, (refl, (refl, tt)))), (at 0, (at 1, (at 2, (at 3, tt)))))

signed-small : (b : ℕ) → b < 256 → unsigned_abs (signed_byte b) ≤ 128
signed-small b h = grind (arith, nat_tests, ints)

pub signed-product : (a b : ℕ) → a < 256 → b < 256 → FitsSigned w16 (signed_byte a *ℤ signed_byte b)
signed-product a b h k = fits_signed_mul w16 (signed_byte a) (signed_byte b) 128 128 (signed-small a h) (signed-small b k) (lit< tt)

pub signed-fits : (y z : ℤ) (i : ℕ) (a b : ℤ) → a ≡ signed_byte (byte_of y i) → b ≡ signed_byte (byte_of z i) → FitsSigned w16 (a *ℤ b)
signed-fits y z i a b e f = rw (e, f) (signed-product (byte_of y i) (byte_of z i) (byte_of-lt y i) (byte_of-lt z i))

-- ---- four numbers of a type

pub record AreFour (t : Ty) (vs : Vals) : Type 0 where
  pub counted : count vs ≡ 4
  pub literals : AreLiterals vs
  pub typed : AllOfType t vs

pub four-are : (t : Ty) (v w : Val) (vs : Vals) → IsWellFormed v → converted v (types.vec 4 t) ≡ Some w → components_of w ≡ Ok vs → AreFour t vs
four-are t v w vs h e c =
    let same = components-are w vs c in
    let typed : type_of (vector vs) ≡ types.vec 4 t = ap type_of (sym same) ∙ converted-type v w (types.vec 4 t) h e in
    let well : IsWellFormed (vector vs) = subst IsWellFormed same (converted-well_formed v w (types.vec 4 t) h e) in
    let first : first_type vs ≡ t = cc in
    record { counted = cc; literals = well.2; typed = subst (λ (u : Ty). AllOfType u vs) first well.3 }

pub literal-at : (xs : List Instance) (i : ℕ) (x : Instance) → i < length xs → x ≡ get_or xs i x → AreLiterals (vals_view xs) → IsLiteral (value_of x)
literal-at [] i x h e l = absurd (omega arith)
literal-at (y ∷ ys) zero x h e l = subst (λ (z : Instance). IsLiteral (value_of z)) (sym e) l.0
literal-at (y ∷ ys) (suc i) x h e l = literal-at ys i x (omega arith) e l.1

pub typed-at : (t : Ty) (ls : List LiteralInstance) → AllOfType t (literals_view ls) → (i : ℕ) (d : LiteralInstance) → i < length ls → type_of (literal_of (get_or ls i d)) ≡ t
typed-at t [] h i d l = absurd (omega arith)
typed-at t (x ∷ xs) h zero d l = h.0
typed-at t (x ∷ xs) h (suc i) d l = typed-at t xs h.1 i d (omega arith)

pub ruleset limited = (limited-is)

pub ruleset fitting = (signed-fits)
