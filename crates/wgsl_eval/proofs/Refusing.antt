-- Answers of operators that are refused.
use Rattle.std.proofs.Common.{◌≡◌, ◌↔◌, ℕ, Bool, true, false, Option, Some, None, Result, Ok, Err, refl, sym, subst, ◌∙◌}
use Rattle.std.specs.Prelude.{IfOk, OnOk, IsSome, MatchOption, MatchResult}
use Rattle.std.proofs.lemmas.Bool.{false≢true}
use Rattle.wgsl_rules.specs.Refusals.{Outcome, Refusal}
use Rattle.wgsl_rules.specs.Values.{Val}
use Rattle.wgsl_source.specs.Readings.{Outline}
use Rattle.wgsl_rules.specs.declared.syntax.BinaryOperator.{BinaryOperator}
use Rattle.wgsl_eval.specs.Answers.{IsFault, IsUnready}
use Rattle.wgsl_eval.specs.Evaluators.{Setting}
use Rattle.wgsl_eval.specs.Given.{IsOfTwo, IsRefused, UnlessRefused}
use Rattle.wgsl_eval.specs.declared.answer.Guard.TheVariants as guards
use Rattle.wgsl_eval.specs.declared.answer.Value.{Value}
use Rattle.wgsl_eval.specs.declared.message.Message.{Message}
use Rattle.wgsl_eval.specs.declared.answer.Answer.{Answer}
use Rattle.wgsl_eval.specs.declared.answer.Answer.TheVariants as answers

of_refusal : (o : Option Refusal) (outcome : Outcome Val) (P : Val → Type 0) (Q : Refusal → Type 0)
    → MatchOption o (Unit {0}) (λ r. outcome ≡ Err r) → IsSome o → ((r : Refusal) → Q r) → MatchResult outcome P Q
of_refusal None outcome P Q m s q = absurd (false≢true s)
of_refusal (Some r) outcome P Q m s q =
    let F : Outcome Val → Type 0 = λ x. MatchResult x P Q in
    subst F (sym m) (q r)

-- where the operator is refused, the answer is a fault
pub refused_answer : {E : Type 0} (result : Result Answer E) (o : Option Refusal) (outcome : Outcome Val) (P : Val → Answer → Type 0)
    → MatchOption o (Unit {0}) (λ r. outcome ≡ Err r) → IfOk result IsFault → OnOk result (IsSome o)
    → IfOk result (λ a. MatchResult outcome (λ x. P x a) (λ _. IsFault a))
refused_answer (Ok a) o outcome P m f s = of_refusal o outcome (λ x. P x a) (λ _. IsFault a) m s (λ r. f)
refused_answer (Err e) o outcome P m f s = tt

-- an operator that the grammar refuses
pub refused_faulty : (b : Bool) (o : Outline) (token : ℕ) (P : Type 0) → b ≡ true ↔ IsRefused o token → b ≡ true → UnlessRefused o token answers.Faulty P
refused_faulty b o token P e is = record { refused = λ r. refl; taken = λ n. absurd (n (e.0 is)) }

-- an operator that the grammar takes
pub not_refused : {E : Type 0} (b : Bool) (o : Outline) (token : ℕ) (r : Result Answer E) (G : Answer → Type 0) → b ≡ true ↔ IsRefused o token → b ≡ false → IfOk r G
    → IfOk r (λ a. UnlessRefused o token a (G a))
not_refused b o token (Ok a) G e is h = record { refused = λ x. absurd (false≢true (sym is ∙ e.1 x)); taken = λ n. h }
not_refused b o token (Err x) G e is h = tt

right-one : (s : Setting) (op : BinaryOperator) (left : Value) (right a : Answer) → ((w : Value) → right ≡ answers.Value w → ⊥) → ((m : Message) → right ≡ answers.Wrong m guards.Guarded → ⊥)
    → IsUnready right a → IsOfTwo s op (answers.Value left) right a
right-one s op left (answers.Value w) a n g h = absurd (n w refl)
right-one s op left (answers.Wrong m guards.Guarded) a n g h = absurd (g m refl)
right-one s op left (answers.Wrong m guards.Never) a n g h = h
right-one s op left (answers.Named k) a n g h = h
right-one s op left (answers.Type t) a n g h = h
right-one s op left (answers.Bitcast t) a n g h = h
right-one s op left (answers.Variable v) a n g h = h
right-one s op left (answers.Skipped k) a n g h = h
right-one s op left answers.Faulty a n g h = h

-- the right operand is no value
pub right_unready : {E : Type 0} (s : Setting) (op : BinaryOperator) (left : Value) (right : Answer) (r : Result Answer E) → ((w : Value) → right ≡ answers.Value w → ⊥)
    → ((m : Message) → right ≡ answers.Wrong m guards.Guarded → ⊥) → IfOk r (IsUnready right) → IfOk r (IsOfTwo s op (answers.Value left) right)
right_unready s op left right (Ok a) n g h = right-one s op left right a n g h
right_unready s op left right (Err x) n g h = tt

left-one : (s : Setting) (op : BinaryOperator) (left right a : Answer) → ((w : Value) → left ≡ answers.Value w → ⊥) → IsUnready left a → IsOfTwo s op left right a
left-one s op (answers.Value w) right a n h = absurd (n w refl)
left-one s op (answers.Wrong m g) right a n h = h
left-one s op (answers.Named k) right a n h = h
left-one s op (answers.Type t) right a n h = h
left-one s op (answers.Bitcast t) right a n h = h
left-one s op (answers.Variable v) right a n h = h
left-one s op (answers.Skipped k) right a n h = h
left-one s op answers.Faulty right a n h = h

-- the left operand is no value
pub left_unready : {E : Type 0} (s : Setting) (op : BinaryOperator) (left right : Answer) (r : Result Answer E) → ((w : Value) → left ≡ answers.Value w → ⊥)
    → IfOk r (IsUnready left) → IfOk r (IsOfTwo s op left right)
left_unready s op left right (Ok a) n h = left-one s op left right a n h
left_unready s op left right (Err x) n h = tt
