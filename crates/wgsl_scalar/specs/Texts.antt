-- The texts of literals (WGSL: literals). A 64-bit number ends with `li` or `lu`.
use Rattle.std.specs.Prelude.{ℕ, List, [], ◌++◌, true, false, codes}
use Rattle.std.specs.Fmt.{signed_decimal}
use Rattle.wgsl_rules.specs.Kinds as kinds
use Rattle.wgsl_rules.specs.Kinds.{Kind}
use Rattle.wgsl_rules.specs.Values.{Val, truth, number}

abbrev pub literal_text : Val → List ℕ
literal_text (truth true) = codes "true"
literal_text (truth false) = codes "false"
literal_text (number kinds.abstract_int z) = signed_decimal z
literal_text (number kinds.i32 z) = signed_decimal z ++ codes "i"
literal_text (number kinds.u32 z) = signed_decimal z ++ codes "u"
literal_text (number kinds.i64 z) = signed_decimal z ++ codes "li"
literal_text (number kinds.u64 z) = signed_decimal z ++ codes "lu"
literal_text v = []
