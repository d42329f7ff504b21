-- The buffers of the worked values, and what the worked bytes lay out, by computation.
use Rattle.std.proofs.Common.{◌≡◌, ℕ, pos, negsuc, List, [], ◌∷◌, ◌++◌, Some, None, true, false, refl}
use Rattle.wgsl_rules.specs.Kinds as kinds
use Rattle.wgsl_rules.specs.Types.{Ty, u32, i32, i64, u64, struct, array, vec, atomic, no_fields, field}
use Rattle.wgsl_rules.specs.Values.{Val, number, record_of, array_of, vector, matrix, atomic_of, deferred, Vals}
use Rattle.wgsl_rules.specs.Paths.{fits}
use Rattle.wgsl_rules.specs.Layout.{count_in, layout}
use Rattle.wgsl_layout.specs.Buffers.{buffer_of, decode, without_padding}
use Rattle.wgsl_layout.proofs.lemmas.Made.{word, all, plain, words3, longs3, words, longs, zeros}

-- u32, vec3<u32>
abbrev pair : Ty
pair = plain (u32 ∷ vec 3 u32 ∷ [])

abbrev pair_of : ℕ → Val → Val
pair_of a b = record_of pair (all (word a ∷ b ∷ []))

struct_of_u32_and_vec3 : buffer_of (pair_of 1 (words3 2 3 4)) ≡ Some (words (1 ∷ 0 ∷ 0 ∷ 0 ∷ 2 ∷ 3 ∷ 4 ∷ 0 ∷ []))
struct_of_u32_and_vec3 = refl

array_of_vec3 : buffer_of (array_of false (all (words3 1 2 3 ∷ words3 4 5 6 ∷ []))) ≡ Some (words (1 ∷ 2 ∷ 3 ∷ 0 ∷ 4 ∷ 5 ∷ 6 ∷ 0 ∷ []))
array_of_vec3 = refl

-- vec4<u32>, array<u32>
abbrev open_struct : Ty
open_struct = plain (vec 4 u32 ∷ array u32 None ∷ [])

abbrev open_value : Vals → Val
open_value vs = record_of open_struct (all (vector (all (word 1 ∷ word 2 ∷ word 3 ∷ word 4 ∷ [])) ∷ array_of true vs ∷ []))

elements_of_19_20_23_24 : (count_in 19 open_struct ≡ None) × (count_in 20 open_struct ≡ Some 1) × (count_in 23 open_struct ≡ Some 1) × (count_in 24 open_struct ≡ Some 2)
elements_of_19_20_23_24 = (refl, refl, refl, refl)

read_of_19 : decode (words (1 ∷ 2 ∷ 3 ∷ 4 ∷ []) ++ zeros 3) open_struct ≡ None
read_of_19 = refl

read_of_20 : decode (words (1 ∷ 2 ∷ 3 ∷ 4 ∷ 5 ∷ [])) open_struct ≡ Some (open_value (all (word 5 ∷ [])))
read_of_20 = refl

read_of_23 : decode (words (1 ∷ 2 ∷ 3 ∷ 4 ∷ 5 ∷ []) ++ zeros 3) open_struct ≡ Some (open_value (all (word 5 ∷ [])))
read_of_23 = refl

read_of_24 : decode (words (1 ∷ 2 ∷ 3 ∷ 4 ∷ 5 ∷ 6 ∷ [])) open_struct ≡ Some (open_value (all (word 5 ∷ word 6 ∷ [])))
read_of_24 = refl

-- u32, array<vec2<u32>>: the elements begin at 8
abbrev open_pairs : Ty
open_pairs = plain (u32 ∷ array (vec 2 u32) None ∷ [])

read_of_15 : decode (words (1 ∷ 2 ∷ 3 ∷ []) ++ zeros 3) open_pairs ≡ None
read_of_15 = refl

read_of_16 : decode (words (1 ∷ 2 ∷ 3 ∷ 4 ∷ [])) open_pairs ≡ Some (record_of open_pairs (all (word 1 ∷ array_of true (all (vector (all (word 3 ∷ word 4 ∷ [])) ∷ [])) ∷ [])))
read_of_16 = refl

elements_of_17_23_24 : (count_in 17 open_pairs ≡ Some 1) × (count_in 23 open_pairs ≡ Some 1) × (count_in 24 open_pairs ≡ Some 2)
elements_of_17_23_24 = (refl, refl, refl)

-- an array of two does not fit the place of one of three
abbrev runtime : List Val → Val
runtime vs = array_of true (all vs)

shorter_array_does_not_fit : fits (runtime (word 1 ∷ word 2 ∷ [])) (runtime (word 10 ∷ word 11 ∷ word 12 ∷ [])) ≡ false
shorter_array_does_not_fit = refl

-- @size(16) u32, u32
abbrev sized : Ty
sized = struct [] (field (0 ∷ []) u32 (Some 16) None (field (1 ∷ []) u32 None None no_fields))

sized_member : buffer_of (record_of sized (all (word 1 ∷ word 2 ∷ []))) ≡ Some (words (1 ∷ 0 ∷ 0 ∷ 0 ∷ 2 ∷ []))
sized_member = refl

vec3_of_i64 : buffer_of (longs3 1 2 3) ≡ Some (longs (1 ∷ 2 ∷ 3 ∷ []))
vec3_of_i64 = refl

array_of_vec3_of_i64 : buffer_of (array_of false (all (longs3 1 2 3 ∷ longs3 4 5 6 ∷ []))) ≡ Some (longs (1 ∷ 2 ∷ 3 ∷ 0 ∷ 4 ∷ 5 ∷ 6 ∷ 0 ∷ []))
array_of_vec3_of_i64 = refl

columns_of_vec3_of_i64 : buffer_of (matrix (all (longs3 1 2 3 ∷ longs3 4 5 6 ∷ []))) ≡ Some (longs (1 ∷ 2 ∷ 3 ∷ 0 ∷ 4 ∷ 5 ∷ 6 ∷ 0 ∷ []))
columns_of_vec3_of_i64 = refl

-- the elements of a runtime-sized array
vec3_of_i64_from_64 : decode (longs (1 ∷ 2 ∷ 3 ∷ 0 ∷ 4 ∷ 5 ∷ 6 ∷ 0 ∷ [])) (array (vec 3 i64) None) ≡ Some (array_of true (all (longs3 1 2 3 ∷ longs3 4 5 6 ∷ [])))
vec3_of_i64_from_64 = refl

vec3_of_i64_behind_u32 : buffer_of (record_of (plain (u32 ∷ vec 3 i64 ∷ [])) (all (word 1 ∷ longs3 2 3 4 ∷ []))) ≡ Some (longs (1 ∷ 0 ∷ 0 ∷ 0 ∷ 2 ∷ 3 ∷ 4 ∷ 0 ∷ []))
vec3_of_i64_behind_u32 = refl

-- three numbers of kind u64
abbrev naturals3 : ℕ → ℕ → ℕ → Val
naturals3 a b c = vector (all (number kinds.u64 (pos a) ∷ number kinds.u64 (pos b) ∷ number kinds.u64 (pos c) ∷ []))

u32_behind_vec3_of_u64 : buffer_of (record_of (plain (vec 3 u64 ∷ u32 ∷ [])) (all (naturals3 1 2 3 ∷ word 4 ∷ []))) ≡ Some (longs (1 ∷ 2 ∷ 3 ∷ 4 ∷ []))
u32_behind_vec3_of_u64 = refl

-- u32, @align(16) u32
abbrev aligned : Ty
aligned = struct [] (field (0 ∷ []) u32 None None (field (1 ∷ []) u32 None (Some 16) no_fields))

aligned_member : buffer_of (record_of aligned (all (word 1 ∷ word 2 ∷ []))) ≡ Some (words (1 ∷ 0 ∷ 0 ∷ 0 ∷ 2 ∷ 0 ∷ 0 ∷ 0 ∷ []))
unfolding lib.Count.ones
aligned_member = refl

u32_behind_vec3 : buffer_of (record_of (plain (vec 3 u32 ∷ u32 ∷ [])) (all (words3 1 2 3 ∷ word 4 ∷ []))) ≡ Some (words (1 ∷ 2 ∷ 3 ∷ 4 ∷ []))
u32_behind_vec3 = refl

-- vec3<i64> with an align attribute, u32
abbrev aligned_longs : ℕ → Ty
aligned_longs a = struct [] (field (0 ∷ []) (vec 3 i64) None (Some a) (field (1 ∷ []) u32 None None no_fields))

vec3_of_i64_at_8 : buffer_of (record_of (aligned_longs 8) (all (longs3 1 2 3 ∷ word 4 ∷ []))) ≡ None
unfolding lib.Count.ones
vec3_of_i64_at_8 = refl

vec3_of_i64_at_32 : buffer_of (record_of (aligned_longs 32) (all (longs3 1 2 3 ∷ word 4 ∷ []))) ≡ Some (longs (1 ∷ 2 ∷ 3 ∷ 4 ∷ []))
unfolding lib.Count.ones
vec3_of_i64_at_32 = refl

-- atomic<i32>, array<u32>
abbrev counter : Ty
counter = plain (atomic i32 ∷ array u32 None ∷ [])

abbrev counter_of_minus_1 : Val
counter_of_minus_1 = record_of counter (all (atomic_of (number kinds.i32 (negsuc 0)) ∷ runtime (word 5 ∷ word 6 ∷ []) ∷ []))

atomic_and_array : buffer_of counter_of_minus_1 ≡ Some (words (4294967295 ∷ 5 ∷ 6 ∷ []))
atomic_and_array = refl

atomic_and_array_back : decode (words (4294967295 ∷ 5 ∷ 6 ∷ [])) counter ≡ Some counter_of_minus_1
atomic_and_array_back = refl

-- the columns of a matrix stand as the elements of an array of vectors
columns_of_vec3 : buffer_of (matrix (all (words3 1 2 3 ∷ words3 4 5 6 ∷ []))) ≡ Some (words (1 ∷ 2 ∷ 3 ∷ 0 ∷ 4 ∷ 5 ∷ 6 ∷ 0 ∷ []))
columns_of_vec3 = refl

least_i64 : buffer_of (number kinds.i64 (negsuc 9223372036854775807)) ≡ Some (longs (9223372036854775808 ∷ []))
least_i64 = refl

least_i64_back : decode (longs (9223372036854775808 ∷ [])) i64 ≡ Some (number kinds.i64 (negsuc 9223372036854775807))
least_i64_back = refl

type_as_value : buffer_of (deferred u32) ≡ None
type_as_value = refl

-- ---- bytes that are too few, or more than enough

pair_from_28_31_33 : (count_in 28 pair ≡ None) × (count_in 31 pair ≡ None) × (count_in 33 pair ≡ Some 0)
pair_from_28_31_33 = (refl, refl, refl)

read_of_33 : decode (words (1 ∷ 9 ∷ 9 ∷ 9 ∷ 2 ∷ 3 ∷ 4 ∷ 9 ∷ []) ++ 9 ∷ []) pair ≡ Some (pair_of 1 (words3 2 3 4))
read_of_33 = refl

padding_zeroed : without_padding (words (1 ∷ 4294967295 ∷ 4294967295 ∷ 4294967295 ∷ 2 ∷ 3 ∷ 4 ∷ 4294967295 ∷ [])) (layout 0 pair) ≡ words (1 ∷ 0 ∷ 0 ∷ 0 ∷ 2 ∷ 3 ∷ 4 ∷ 0 ∷ [])
padding_zeroed = refl

vec3s_from_28 : decode (zeros 28) (array (vec 3 u32) (Some 2)) ≡ None
vec3s_from_28 = refl

vec3_from_12 : decode (words (1 ∷ 2 ∷ 3 ∷ [])) (vec 3 u32) ≡ Some (words3 1 2 3)
vec3_from_12 = refl

long_array_from_16 : decode (zeros 16) (array u32 (Some 1073741823)) ≡ None
long_array_from_16 = refl

far_aligned_from_16 : count_in 16 (struct [] (field [] u32 None (Some 2147483648) no_fields)) ≡ None
far_aligned_from_16 = refl
