-- What assertions are found to be (WGSL: const_assert statement).
use Rattle.std.specs.Prelude.{◌≡◌, Bool, false, List, [], ◌∷◌, MatchBool}
use Rattle.wgsl_rules.specs.Values.{Val, truth}
use Rattle.wgsl_values.specs.View.{value_of}
use Rattle.wgsl_source.specs.declared.expression.Span.{Span}
use Rattle.wgsl_eval.specs.Evaluators.{Setting}
use Rattle.wgsl_eval.specs.Meanings.{with_fault}
use Rattle.wgsl_eval.specs.Messages.{IsFaultMessage}
use Rattle.wgsl_eval.specs.Runs.{IsFound}
use Rattle.wgsl_eval.specs.declared.answer.Answer.{Answer}
use Rattle.wgsl_eval.specs.declared.answer.Answer.TheVariants as answers
use Rattle.wgsl_eval.specs.declared.assertions.Assertion.{Assertion}
use Rattle.wgsl_eval.specs.declared.assertions.Assertion.TheVariants as asserts
use Rattle.wgsl_eval.specs.declared.message.Message.{Message}

-- one more fault is told, where fewer than 100 are
pub record IsTold (s : Setting) (next : Setting) : Type 0 where
  pub message : Message
  pub fault : IsFaultMessage message
  pub told : next ≡ with_fault s message

abbrev pub is_truth : Val → Bool
is_truth (truth b) = b
is_truth v = false

-- what an assertion of this value is found to be
abbrev pub IsHeld : Setting → Val → Assertion → Setting → Type 0
IsHeld s v assertion next =
    MatchBool (is_truth v) ((assertion ≡ asserts.Holds) × (next ≡ s)) ((assertion ≡ asserts.Faulty) × IsTold s next)

-- what an assertion of this answer is found to be: a value that is true holds, what is skipped is, and a fault is told of
-- all else, but where one was told already
abbrev pub IsAssertion : Setting → Answer → Assertion → Setting → Type 0
IsAssertion s (answers.Value v) assertion next = IsHeld s (value_of v.instance) assertion next
IsAssertion s (answers.Skipped k) assertion next = (assertion ≡ asserts.Skipped k) × (next ≡ s)
IsAssertion s (answers.Wrong m guard) assertion next = (assertion ≡ asserts.Faulty) × (next ≡ with_fault s m)
IsAssertion s answers.Faulty assertion next = (assertion ≡ asserts.Faulty) × (next ≡ s)
IsAssertion s a assertion next = (assertion ≡ asserts.Faulty) × IsTold s next

-- the assertion of what the expression stands for
abbrev pub IsAsserted : Setting → Span → Assertion → Setting → Type 0
IsAsserted s span assertion next = (a : Answer) × IsFound s span a × IsAssertion s a assertion next

-- these are found one after the other
abbrev pub AreAsserted : Setting → List Span → List Assertion → Setting → Type 0
AreAsserted s [] [] last = last ≡ s
AreAsserted s (span ∷ spans) (a ∷ xs) last = (next : Setting) × IsAsserted s span a next × AreAsserted next spans xs last
AreAsserted s spans xs last = ⊥
