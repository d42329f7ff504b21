-- Answers that are values, and those that are faults.
use Rattle.std.specs.declared.alloc.AllocError.{AllocError}
use Rattle.std.proofs.Common.{◌≡◌, ◌∙◌, Bool, true, false, Option, Some, None, Result, Ok, Err, IfOk, IfSome, MatchOption, refl, sym, ap, subst}
use Rattle.std.specs.Option.{option_map}
use Rattle.wgsl_rules.specs.Values.{Val}
use Rattle.wgsl_values.specs.View.{value_of}
use Rattle.wgsl_values.specs.declared.instance.Instance.{Instance}
use Rattle.wgsl_eval.specs.Answers.{IsAnswer, IsFault, IsMade, IsSkippedFor, IsSkippedOr, IsValueWith, value_in}
use Rattle.wgsl_eval.specs.Constructors.{MayBe}
use Rattle.wgsl_eval.specs.Given.{IsJudged}
use Rattle.wgsl_eval.specs.declared.answer.Answer.{Answer}
use Rattle.wgsl_eval.specs.declared.answer.Need.{Need}
use Rattle.wgsl_eval.specs.declared.answer.Answer.TheVariants as answers

-- ---- values of which something holds

pub value-with : (P : Val → Type 0) (v : Val) (a : Answer) → value_in a ≡ Some v → P v → IsValueWith P a
value-with P v (answers.Value w) e h = let same : v ≡ value_of w.instance = cc in subst P same h
value-with P v a e h = absurd (cc)

pub fault-with : (P : Val → Type 0) (a : Answer) → IsFault a → IsValueWith P a
fault-with P (answers.Wrong m g) h = h
fault-with P a h = absurd h

pub faults-with : (P : Val → Type 0) (r : Result Answer AllocError) → IfOk r IsFault → IfOk r (IsValueWith P)
faults-with P (Ok a) h = fault-with P a h
faults-with P (Err e) h = tt

pub with-mapped : (P Q : Val → Type 0) (a : Answer) → ((v : Val) → P v → Q v) → IsValueWith P a → IsValueWith Q a
with-mapped P Q (answers.Value w) f h = f (value_of w.instance) h
with-mapped P Q (answers.Wrong m g) f h = h
with-mapped P Q a f h = absurd h

-- ---- faults

pub fault-answer : (a : Answer) → IsFault a → IsAnswer a
fault-answer (answers.Wrong m g) h = h
fault-answer a h = absurd h

pub skipped-answer : (need : Need) (a : Answer) → IsSkippedFor need a → IsAnswer a
skipped-answer need (answers.Skipped s) h = tt
skipped-answer need a h = absurd h

pub skipped-or : (need : Need) (a : Answer) → IsSkippedFor need a → IsSkippedOr need a
skipped-or need (answers.Skipped s) h = h
skipped-or need a h = absurd h

pub fault-or : (need : Need) (a : Answer) → IsFault a → IsSkippedOr need a
fault-or need (answers.Wrong m g) h = h
fault-or need a h = absurd h

pub fault-none : (a : Answer) → IsFault a → value_in a ≡ None
fault-none (answers.Wrong m g) h = refl
fault-none a h = absurd h

pub fault-maybe : (p : Option Val) (a : Answer) → IsFault a → MayBe p a
fault-maybe p a h = fault-with (λ v. p ≡ Some v) a h

pub faults-maybe : (p : Option Val) (r : Result Answer AllocError) → IfOk r IsFault → IfOk r (MayBe p)
faults-maybe p (Ok a) h = fault-maybe p a h
faults-maybe p (Err e) h = tt

pub faults-answer : (r : Result Answer AllocError) → IfOk r IsFault → IfOk r IsAnswer
faults-answer (Ok a) h = fault-answer a h
faults-answer (Err e) h = tt

-- ---- values that were made

pub value-maybe : (p : Option Val) (v : Val) (a : Answer) → p ≡ Some v → value_in a ≡ Some v → MayBe p a
value-maybe p v a h e = value-with (λ x. p ≡ Some x) v a e h

-- a value that was made, or none
pub made-maybe : (p : Option Val) (w : Val) (o : Option Instance) (r : Result Answer AllocError) → p ≡ Some w → IfSome o (λ v. value_of v ≡ w)
    → IfOk r (IsMade (option_map value_of o)) → IfOk r (MayBe p)
made-maybe p w o (Err e) h k m = tt
made-maybe p w None (Ok a) h k m = fault-maybe p a m
made-maybe p w (Some v) (Ok a) h k m = value-maybe p (value_of v) a (h ∙ ap Some (sym k)) m

pub made-by : (p : Option Val) (w : Val) (P : Type 0) (o : Option Instance) (r : Result Answer AllocError) → p ≡ Some w → MatchOption o P (λ v. value_of v ≡ w)
    → IfOk r (IsMade (option_map value_of o)) → IfOk r (MayBe p)
made-by p w P o (Err e) h k m = tt
made-by p w P None (Ok a) h k m = fault-maybe p a m
made-by p w P (Some v) (Ok a) h k m = value-maybe p (value_of v) a (h ∙ ap Some (sym k)) m

pub made-is : (p : Option Val) (o : Option Instance) (r : Result Answer AllocError) → option_map value_of o ≡ p → IfOk r (IsMade (option_map value_of o)) → IfOk r (MayBe p)
made-is p o (Err e) h m = tt
made-is p None (Ok a) h m = fault-maybe p a m
made-is p (Some v) (Ok a) h m = value-maybe p (value_of v) a (sym h) m

pub maybe-same : (p q : Option Val) (a : Answer) → p ≡ q → MayBe p a → MayBe q a
maybe-same p q a h k = let P : Option Val → Type 0 = λ o. MayBe o a in subst P h k

pub maybes-same : (p q : Option Val) (r : Result Answer AllocError) → p ≡ q → IfOk r (MayBe p) → IfOk r (MayBe q)
maybes-same p q (Ok a) h k = maybe-same p q a h k
maybes-same p q (Err e) h k = tt

judged-one : (b : Bool) (p : Option Val) (v : Val) (a : Answer) → p ≡ Some v → IsJudged b v a → MayBe p a
judged-one true p v (answers.Wrong m g) h k = k.0
judged-one true p v (answers.Value w) h k = absurd k
judged-one true p v a h k = absurd k
judged-one false p v a h k = value-maybe p v a h k

-- a value that the standard may refuse
pub judged-maybe : (b : Bool) (p : Option Val) (v : Val) (r : Result Answer AllocError) → p ≡ Some v → IfOk r (IsJudged b v) → IfOk r (MayBe p)
judged-maybe b p v (Ok a) h k = judged-one b p v a h k
judged-maybe b p v (Err e) h k = tt

pub ruleset answered_steps = (faults-maybe, faults-answer, fault-maybe, fault-answer, skipped-answer, made-maybe, made-is, value-maybe, fault-none)
