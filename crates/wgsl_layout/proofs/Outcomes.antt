-- Outcomes that are answers.
use Rattle.std.proofs.Common.{◌≡◌, Ok, Err, refl}
use Rattle.std.specs.Prelude.{IsOkAnd}
use Rattle.wgsl_rules.specs.Refusals.{Outcome}

-- an outcome that is an answer, with a fact
pub record Answered {A : Type 0} (o : Outcome A) (P : A → Type 0) : Type 0 where
  pub answer : A
  pub is : o ≡ Ok answer
  pub fact : P answer

pub answered : {A : Type 0} (o : Outcome A) (P : A → Type 0) → IsOkAnd o P → Answered o P
answered (Ok x) P h = record { answer = x; is = refl; fact = h }
answered (Err e) P h = absurd h
