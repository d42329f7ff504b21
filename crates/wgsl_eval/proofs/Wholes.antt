-- What has or names a value, of which a part is taken.
use Rattle.std.specs.declared.alloc.AllocError.{AllocError}
use Rattle.std.proofs.Common.{List, Result, Ok, Err, IfOk, IsSomeAnd}
use Rattle.wgsl_eval.specs.Waitings.{answer_of, value_at, value_of_answer}
use Rattle.wgsl_eval.specs.declared.answer.Answer.{Answer}
use Rattle.wgsl_eval.specs.declared.answer.Answer.TheVariants as answers

of_value : (P : Answer → Type 0) (a : Answer) → IsSomeAnd (value_of_answer a) (λ v. P (answers.Value v)) → P a
of_value P (answers.Value v) h = h
of_value P a h = absurd h

-- what is given for the value of which a part is taken is given for the answer that waits
pub whole-given : (meanings : List Answer) (w : Answer) (Q : Answer → Answer → Type 0) (r : Result Answer AllocError)
    → IfOk r (λ a. IsSomeAnd (value_at meanings w) (λ v. Q (answers.Value v) a)) → IfOk r (Q (answer_of meanings w))
whole-given meanings w Q (Ok a) h = of_value (λ x. Q x a) (answer_of meanings w) h
whole-given meanings w Q (Err x) h = tt
