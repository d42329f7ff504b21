-- The texts that show references and pointers with the values that they lead to.
use Rattle.std.specs.Prelude.{ℕ, List, ◌++◌, Ok, codes}
use Rattle.wgsl_rules.specs.Values.{Reference, Val, pointer, reference}
use Rattle.wgsl_rules.specs.Refusals.{Outcome, and_then}
use Rattle.wgsl_store.specs.ReferenceCalls.{read}
use Rattle.wgsl_values.specs.Texts.{text_of_value}

-- a text, with that of a value behind it in round brackets
abbrev pub with_value : List ℕ → Outcome Val → Outcome (List ℕ)
with_value text o = and_then o (λ v. Ok (text ++ (codes "(" ++ (text_of_value v ++ codes ")"))))

-- the text of a value; of a reference or a pointer its type, and the value that is read
abbrev pub shown : (Reference → Outcome Val) → Val → Outcome (List ℕ)
shown holds (reference r) = with_value (text_of_value (reference r)) (read holds r)
shown holds (pointer r) = with_value (text_of_value (pointer r)) (read holds r)
shown holds v = Ok (text_of_value v)
