-- Of two declarations with one name the second.
use Rattle.std.proofs.Common.{◌≡◌, ◌≢◌, ◌↔◌, ℕ, Bool, List, Option}
use Rattle.std.specs.Prelude.{IsSomeAnd, IsTrue}
use Rattle.wgsl_source.specs.Readings.{Outline, first_named, word_at}
use Rattle.wgsl_eval.specs.Evaluation.{name_at}
use Rattle.wgsl_eval.specs.Meanings.{IsSecond}

pub second-is : (o : Outline) (number token : ℕ) (word : List ℕ) (first : Option ℕ) (b : Bool) → first ≡ first_named o word → word ≡ word_at o token
    → token ≡ name_at o number → (IsTrue b ↔ IsSomeAnd first (λ n. n ≢ number)) → (IsTrue b ↔ IsSecond o number)
second-is o number token word first b h k e i = rw (h, k, e) at i
