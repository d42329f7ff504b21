-- Four bytes in a word (WGSL: data packing builtin functions; data unpacking builtin functions).
use Rattle.std.specs.Prelude.{ℕ, ◌+◌, ◌*◌, ℤ, pos, negsuc, ◌+ℤ◌, ◌*ℤ◌, List, [], ◌∷◌, map, Ok, Err}
use Rattle.wgsl_rules.specs.Converted.{converted}
use Rattle.wgsl_rules.specs.Kinds as kinds
use Rattle.wgsl_rules.specs.Kinds.{Kind, modulo, as_signed}
use Rattle.wgsl_rules.specs.Refusals.{Outcome, and_then, builtin}
use Rattle.wgsl_rules.specs.Types as types
use Rattle.wgsl_rules.specs.Types.{Ty}
use Rattle.wgsl_rules.specs.Values.{Val, number, vector, Vals, no_vals, val}
use Rattle.wgsl_scalar.specs.Operands.{ok_or}
use Rattle.wgsl_scalar.specs.Order.{lesser, greater}
use Rattle.wgsl_layout.specs.Buffers.{byte_of}
use Rattle.wgsl_value_builtins.specs.Components.{components_of}
use Rattle.wgsl_values.specs.Matrices.{tabulated}

-- ---- packing

-- the number of these bytes: the sum of byte i times 256 ^ i
abbrev pub joined_bytes : List ℕ → ℕ
joined_bytes [] = 0
joined_bytes (b ∷ bs) = b + 256 * joined_bytes bs

-- the numbers among the values
abbrev pub numbers : Vals → List ℤ
numbers no_vals = []
numbers (val (number k z) vs) = z ∷ numbers vs
numbers (val v vs) = numbers vs

-- the components of the value as a vector of four of the type
abbrev pub four_in : Ty → Val → Outcome (List ℤ)
four_in t v = and_then (ok_or builtin (converted v (types.vec 4 t))) (λ w. and_then (components_of w) (λ vs. Ok (numbers vs)))

-- what is left of a number modulo 256
abbrev pub low_byte : ℤ → ℕ
low_byte z = modulo z 256

-- the components in the type, limited so, as the bytes of a u32, the lowest first
abbrev pub packed : Ty → (ℤ → ℤ) → Val → Outcome Val
packed t limit v = and_then (four_in t v) (λ zs. Ok (number kinds.u32 (pos (joined_bytes (map (λ z. low_byte (limit z)) zs)))))

abbrev pub unlimited : ℤ → ℤ
unlimited z = z

-- from -128 to 127
abbrev pub limited_signed : ℤ → ℤ
limited_signed z = greater (negsuc 127) (lesser z (pos 127))

-- at most 255
abbrev pub limited_unsigned : ℤ → ℤ
limited_unsigned z = lesser z (pos 255)

-- WGSL: pack4xI8
abbrev pub packed_signed : Val → Outcome Val
packed_signed v = packed types.i32 unlimited v

-- WGSL: pack4xU8
abbrev pub packed_unsigned : Val → Outcome Val
packed_unsigned v = packed types.u32 unlimited v

-- WGSL: pack4xI8Clamp
abbrev pub packed_signed_limited : Val → Outcome Val
packed_signed_limited v = packed types.i32 limited_signed v

-- WGSL: pack4xU8Clamp
abbrev pub packed_unsigned_limited : Val → Outcome Val
packed_unsigned_limited v = packed types.u32 limited_unsigned v

-- ---- unpacking

abbrev pub number_in_word : Val → Outcome ℤ
number_in_word (number k z) = Ok z
number_in_word v = Err builtin

-- the number of the value as a u32
abbrev pub word_in : Val → Outcome ℤ
word_in v = and_then (ok_or builtin (converted v types.u32)) number_in_word

-- the lowest four bytes of a number, each as f has it, in a vector
abbrev pub four_bytes : Kind → (ℕ → ℤ) → ℤ → Val
four_bytes k f z = vector (tabulated 4 (λ i. number k (f (byte_of z i))))

-- a byte with a sign in its highest bit
abbrev pub signed_byte : ℕ → ℤ
signed_byte b = as_signed 8 b

abbrev pub unsigned_byte : ℕ → ℤ
unsigned_byte b = pos b

-- WGSL: unpack4xI8
abbrev pub unpacked_signed : Val → Outcome Val
unpacked_signed v = and_then (word_in v) (λ z. Ok (four_bytes kinds.i32 signed_byte z))

-- WGSL: unpack4xU8
abbrev pub unpacked_unsigned : Val → Outcome Val
unpacked_unsigned v = and_then (word_in v) (λ z. Ok (four_bytes kinds.u32 unsigned_byte z))

-- ---- sums of products of bytes

-- of byte i of both, each as f has it
abbrev pub byte_product : (ℕ → ℤ) → ℤ → ℤ → ℕ → ℤ
byte_product f y z i = f (byte_of y i) *ℤ f (byte_of z i)

-- the sum of the four products of bytes
abbrev pub byte_products : (ℕ → ℤ) → ℤ → ℤ → ℤ
byte_products f y z = (byte_product f y z 0 +ℤ byte_product f y z 1) +ℤ (byte_product f y z 2 +ℤ byte_product f y z 3)

-- of both as words, in the kind
abbrev pub dot_packed : Kind → (ℕ → ℤ) → Val → Val → Outcome Val
dot_packed k f v w = and_then (word_in v) (λ y. and_then (word_in w) (λ z. Ok (number k (byte_products f y z))))

-- WGSL: dot4U8Packed
abbrev pub dot_packed_unsigned : Val → Val → Outcome Val
dot_packed_unsigned v w = dot_packed kinds.u32 unsigned_byte v w

-- WGSL: dot4I8Packed
abbrev pub dot_packed_signed : Val → Val → Outcome Val
dot_packed_signed v w = dot_packed kinds.i32 signed_byte v w
