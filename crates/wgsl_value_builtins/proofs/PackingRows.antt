-- The worked answers of packing, unpacking and bitcasts, by computation.
use Rattle.std.proofs.Common.{◌≡◌, [], ◌∷◌, Ok, Err, true, false, refl}
use Rattle.wgsl_rules.specs.Types as types
use Rattle.wgsl_rules.specs.Refusals.{builtin, conv_overflow}
use Rattle.wgsl_rules.specs.Values.{truth, matrix, deferred}
use Rattle.wgsl_layout.specs.Buffers.{buffer}
use Rattle.wgsl_value_builtins.specs.Bitcast.{bitcast, is_bitcast_target}
use Rattle.wgsl_value_builtins.specs.Packing.{packed_signed, packed_unsigned, packed_signed_limited, packed_unsigned_limited, unpacked_signed, unpacked_unsigned, dot_packed_unsigned, dot_packed_signed}
use Rattle.wgsl_value_builtins.proofs.Made.{any, any_minus, int, minus, word, long, long_minus, long_word, all, vec_of}

-- ---- pack

pack_signed_limited : packed_signed_limited (vec_of (minus 200 ∷ int 200 ∷ minus 1 ∷ int 5 ∷ [])) ≡ Ok (word 100630400)
pack_signed_limited = refl

its_bytes : buffer (word 100630400) ≡ 128 ∷ 127 ∷ 255 ∷ 5 ∷ []
its_bytes = refl

pack_unsigned : packed_unsigned (vec_of (word 1 ∷ word 2 ∷ word 3 ∷ word 4 ∷ [])) ≡ Ok (word 67305985)
pack_unsigned = refl

bytes_of_unsigned : buffer (word 67305985) ≡ 1 ∷ 2 ∷ 3 ∷ 4 ∷ []
bytes_of_unsigned = refl

pack_unsigned_limited : packed_unsigned_limited (vec_of (word 300 ∷ word 255 ∷ word 0 ∷ word 1 ∷ [])) ≡ Ok (word 16842751)
pack_unsigned_limited = refl

-- without a limit what is left modulo 256: 300 gives 44, -1 gives 255
pack_unsigned_cuts : packed_unsigned (vec_of (word 300 ∷ word 0 ∷ word 0 ∷ word 0 ∷ [])) ≡ Ok (word 44)
pack_unsigned_cuts = refl

-- no sign of a component reaches the bytes above it
pack_signed_keeps_apart : packed_signed (vec_of (minus 1 ∷ int 0 ∷ minus 2 ∷ int 0 ∷ [])) ≡ Ok (word 16646399)
pack_signed_keeps_apart = refl

pack_signed_least : packed_signed (vec_of (minus 2147483648 ∷ minus 128 ∷ int 127 ∷ minus 1 ∷ [])) ≡ Ok (word 4286545920)
pack_signed_least = refl

pack_of_abstract : packed_signed (vec_of (any_minus 1 ∷ any 1 ∷ any 1 ∷ any 1 ∷ [])) ≡ Ok (word 16843263)
pack_of_abstract = refl

pack_abstract_out_of_range : packed_unsigned (vec_of (any_minus 1 ∷ any 1 ∷ any 1 ∷ any 1 ∷ [])) ≡ Err builtin
pack_abstract_out_of_range = refl

pack_of_three : packed_unsigned (vec_of (word 1 ∷ word 2 ∷ word 3 ∷ [])) ≡ Err builtin
pack_of_three = refl

pack_of_other_sign : packed_unsigned (vec_of (int 1 ∷ int 2 ∷ int 3 ∷ int 4 ∷ [])) ≡ Err builtin
pack_of_other_sign = refl

pack_of_deferred : packed_unsigned (deferred (types.vec 4 types.u32)) ≡ Err builtin
pack_of_deferred = refl

-- ---- unpack

unpack_signed : unpacked_signed (word 4294967295) ≡ Ok (vec_of (minus 1 ∷ minus 1 ∷ minus 1 ∷ minus 1 ∷ []))
unpack_signed = refl

unpack_signed_order : unpacked_signed (word 100630400) ≡ Ok (vec_of (minus 128 ∷ int 127 ∷ minus 1 ∷ int 5 ∷ []))
unpack_signed_order = refl

unpack_unsigned_order : unpacked_unsigned (word 100630400) ≡ Ok (vec_of (word 128 ∷ word 127 ∷ word 255 ∷ word 5 ∷ []))
unpack_unsigned_order = refl

unpack_of_abstract : unpacked_unsigned (any 257) ≡ Ok (vec_of (word 1 ∷ word 1 ∷ word 0 ∷ word 0 ∷ []))
unpack_of_abstract = refl

unpack_of_int : unpacked_signed (int 257) ≡ Err builtin
unpack_of_int = refl

unpack_of_negative : unpacked_signed (any_minus 1) ≡ Err builtin
unpack_of_negative = refl

unpack_of_deferred : unpacked_signed (deferred types.u32) ≡ Err builtin
unpack_of_deferred = refl

-- ---- dot of packed bytes

dot_unsigned : dot_packed_unsigned (word 67305985) (word 16843009) ≡ Ok (word 10)
dot_unsigned = refl

dot_unsigned_greatest : dot_packed_unsigned (word 4294967295) (word 4294967295) ≡ Ok (word 260100)
dot_unsigned_greatest = refl

dot_signed_ones : dot_packed_signed (word 4294967295) (word 4294967295) ≡ Ok (int 4)
dot_signed_ones = refl

dot_signed_least : dot_packed_signed (word 128) (word 128) ≡ Ok (int 16384)
dot_signed_least = refl

dot_signed_mixed : dot_packed_signed (word 33023) (word 383) ≡ Ok (minus 255)
dot_signed_mixed = refl

dot_of_int : dot_packed_signed (int 1) (word 1) ≡ Err builtin
dot_of_int = refl

dot_of_abstract : dot_packed_unsigned (any 513) (any 257) ≡ Ok (word 3)
dot_of_abstract = refl

-- ---- bitcast

bitcast_of_long : bitcast (types.vec 2 types.u32) (long_minus 1) ≡ Ok (vec_of (word 4294967295 ∷ word 4294967295 ∷ []))
bitcast_of_long = refl

bitcast_out_of_range : bitcast types.i32 (any 4294967295) ≡ Err (conv_overflow (any 4294967295) types.i32)
bitcast_out_of_range = refl

bitcast_of_minus : bitcast types.u32 (minus 1) ≡ Ok (word 4294967295)
bitcast_of_minus = refl

bitcast_of_unequal : bitcast types.i32 (vec_of (word 1 ∷ word 2 ∷ [])) ≡ Err builtin
bitcast_of_unequal = refl

bitcast_of_own : bitcast types.u32 (word 7) ≡ Ok (word 7)
bitcast_of_own = refl

-- the lowest bytes come first
bitcast_order : bitcast (types.vec 2 types.u32) (long 4294967298) ≡ Ok (vec_of (word 2 ∷ word 1 ∷ []))
bitcast_order = refl

bitcast_of_two_longs : bitcast (types.vec 4 types.i32) (vec_of (long_minus 1 ∷ long 1 ∷ [])) ≡ Ok (vec_of (minus 1 ∷ minus 1 ∷ int 1 ∷ int 0 ∷ []))
bitcast_of_two_longs = refl

bitcast_of_long_words : bitcast (types.vec 2 types.i32) (long_word 18446744071562067968) ≡ Ok (vec_of (minus 2147483648 ∷ minus 1 ∷ []))
bitcast_of_long_words = refl

bitcast_of_three : bitcast (types.vec 3 types.i32) (vec_of (word 1 ∷ word 2147483648 ∷ word 4294967295 ∷ [])) ≡ Ok (vec_of (int 1 ∷ minus 2147483648 ∷ minus 1 ∷ []))
bitcast_of_three = refl

bitcast_of_three_longs : bitcast (types.vec 4 types.i32) (vec_of (long 1 ∷ long 2 ∷ long 3 ∷ [])) ≡ Err builtin
bitcast_of_three_longs = refl

-- an abstract number is taken as one of the scalar of the type
bitcast_of_abstract : bitcast types.u32 (any 4294967295) ≡ Ok (word 4294967295)
bitcast_of_abstract = refl

bitcast_of_abstract_minus : bitcast types.u32 (any_minus 1) ≡ Err (conv_overflow (any_minus 1) types.u32)
bitcast_of_abstract_minus = refl

bitcast_of_abstracts : bitcast (types.vec 2 types.i32) (vec_of (any 1 ∷ any_minus 1 ∷ [])) ≡ Ok (vec_of (int 1 ∷ minus 1 ∷ []))
bitcast_of_abstracts = refl

-- the first that is out of range is named, and before the bytes are counted
bitcast_first_out_of_range : bitcast (types.vec 2 types.i32) (vec_of (any 1 ∷ any 2147483648 ∷ any 2147483649 ∷ [])) ≡ Err (conv_overflow (any 2147483648) types.i32)
bitcast_first_out_of_range = refl

bitcast_of_abstract_to_two : bitcast (types.vec 2 types.u32) (any 1) ≡ Err builtin
bitcast_of_abstract_to_two = refl

bitcast_of_bool : bitcast types.u32 (truth true) ≡ Err builtin
bitcast_of_bool = refl

bitcast_of_bools : bitcast (types.vec 2 types.u32) (vec_of (truth true ∷ truth false ∷ [])) ≡ Err builtin
bitcast_of_bools = refl

bitcast_of_matrix : bitcast (types.vec 4 types.u32) (matrix (all (vec_of (word 1 ∷ word 2 ∷ []) ∷ vec_of (word 1 ∷ word 2 ∷ []) ∷ []))) ≡ Err builtin
bitcast_of_matrix = refl

bitcast_of_deferred : bitcast types.u32 (deferred types.u32) ≡ Err builtin
bitcast_of_deferred = refl

targets : (is_bitcast_target types.i32 ≡ true) × (is_bitcast_target (types.vec 4 types.u32) ≡ true)
targets = (refl, refl)

no_targets : (is_bitcast_target types.i64 ≡ false) × (is_bitcast_target (types.vec 5 types.u32) ≡ false) × (is_bitcast_target (types.vec 1 types.u32) ≡ false) × (is_bitcast_target (types.vec 2 types.f32) ≡ false) × (is_bitcast_target types.f32 ≡ false) × (is_bitcast_target types.abstract_int ≡ false)
no_targets = (refl, refl, refl, refl, refl, refl)
