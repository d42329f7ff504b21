-- When two values, views or signatures are the same: in every part, every number and every type that
-- they carry.
use Rattle.std.specs.Prelude.{List, [], ◌∷◌, Bool, true, false, ◌&&◌, ◌==◌, bytes_eq}
use Rattle.std.specs.Cmp.Lexicographic.{pointwise}
use Rattle.std.specs.Option.{option_eq}
use Rattle.std.specs.Ordering.{int_eq}
use Rattle.std.proofs.Math.Bool.{beq}
use Rattle.wgsl_rules.specs.Kinds as kinds
use Rattle.wgsl_rules.specs.Kinds.{Kind}
use Rattle.wgsl_rules.specs.Same.{same}
use Rattle.wgsl_rules.specs.Values.{Step, member, index, Reference, Val, truth, number, record_of, array_of, vector, matrix, atomic_of, pointer, reference, deferred, Vals, no_vals, val, type_of}
use Rattle.wgsl_rules.specs.contracts.syntax.EnumerantPartialEq.TheImpl as enumerants
use Rattle.wgsl_rules.specs.declared.syntax.Enumerant.{Enumerant}
use Rattle.wgsl_values.specs.Signatures.{Param, of_type, of_value, of_enumerant, Signature}

abbrev pub same_kind : Kind → Kind → Bool
same_kind kinds.abstract_int kinds.abstract_int = true
same_kind kinds.i32 kinds.i32 = true
same_kind kinds.u32 kinds.u32 = true
same_kind kinds.i64 kinds.i64 = true
same_kind kinds.u64 kinds.u64 = true
same_kind _ _ = false

abbrev pub same_steps : List Step → List Step → Bool
same_steps [] [] = true
same_steps (member n ∷ ss) (member m ∷ ts) = bytes_eq n m && same_steps ss ts
same_steps (index i ∷ ss) (index j ∷ ts) = (i == j) && same_steps ss ts
same_steps _ _ = false

-- of the same part of the same cell, with the same type, address space and access
abbrev pub same_reference : Reference → Reference → Bool
same_reference r s =
    (r.cell == s.cell) && (same_steps r.view s.view && same (type_of (reference r)) (type_of (reference s)))

abbrev mutual
  pub same_value : Val → Val → Bool
  same_value (truth a) (truth b) = beq a b
  same_value (number j y) (number k z) = same_kind j k && int_eq y z
  same_value (record_of t vs) (record_of u ws) = same t u && same_values vs ws
  same_value (array_of a vs) (array_of b ws) = beq a b && same_values vs ws
  same_value (vector vs) (vector ws) = same_values vs ws
  same_value (matrix vs) (matrix ws) = same_values vs ws
  same_value (atomic_of v) (atomic_of w) = same_value v w
  same_value (pointer r) (pointer s) = same_reference r s
  same_value (reference r) (reference s) = same_reference r s
  same_value (deferred t) (deferred u) = same t u
  same_value _ _ = false

  pub same_values : Vals → Vals → Bool
  same_values no_vals no_vals = true
  same_values (val v vs) (val w ws) = same_value v w && same_values vs ws
  same_values _ _ = false

abbrev pub same_enumerant : Enumerant → Enumerant → Bool
same_enumerant = enumerants.ghosts.eq

abbrev pub same_param : Param → Param → Bool
same_param (of_type t) (of_type u) = same t u
same_param (of_value v) (of_value w) = same_value v w
same_param (of_enumerant d) (of_enumerant e) = same_enumerant d e
same_param _ _ = false

abbrev pub same_signature : Signature → Signature → Bool
same_signature s t =
    bytes_eq s.name t.name && (option_eq (pointwise same_param) s.template t.template && pointwise same s.args t.args)
