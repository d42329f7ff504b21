-- What an answer tells: a fault by a message, or that what it stands for is faulty for a reason R.
use Rattle.std.proofs.Common.{◌≡◌, Bool, true, false, Option, Some, None, Result, Ok, Err, MatchBool, MatchOption, MatchResult, refl, sym, subst}
use Rattle.std.specs.Prelude.{IsSomeAnd}
use Rattle.wgsl_rules.specs.Values.{Val}
use Rattle.wgsl_eval.specs.Answers.{IsFault, IsFaultOf, IsNoType, IsSkippedFor, IsSkippedOr, IsUnready, IsValueWith, value_in}
use Rattle.wgsl_eval.specs.Messages.{IsFaultMessage}
use Rattle.wgsl_eval.specs.declared.answer.Answer.{Answer}
use Rattle.wgsl_eval.specs.declared.answer.Answer.TheVariants as answers
use Rattle.wgsl_eval.specs.declared.answer.Need.{Need}

-- the answer of an expression: a message is a fault, and R holds where it is faulty without one
abbrev pub Tells : Type 0 → Answer → Type 0
Tells R (answers.Wrong m guard) = IsFaultMessage m
Tells R answers.Faulty = R
Tells R (answers.Named n) = R
Tells R a = Unit {0}

-- that of a declaration, which is no function
abbrev pub TellsOne : Type 0 → Answer → Type 0
TellsOne R (answers.Bitcast t) = R
TellsOne R a = Tells R a

-- that of a value
abbrev pub TellsValue : Type 0 → Answer → Type 0
TellsValue R (answers.Type t) = R
TellsValue R (answers.Variable v) = R
TellsValue R a = TellsOne R a

pub one-tells : (R : Type 0) (a : Answer) → TellsOne R a → Tells R a
one-tells R (answers.Bitcast t) h = tt
one-tells R (answers.Value v) h = h
one-tells R (answers.Named n) h = h
one-tells R (answers.Type t) h = h
one-tells R (answers.Variable v) h = h
one-tells R (answers.Skipped s) h = h
one-tells R (answers.Wrong m g) h = h
one-tells R answers.Faulty h = h

pub value-one : (R : Type 0) (a : Answer) → TellsValue R a → TellsOne R a
value-one R (answers.Type t) h = tt
value-one R (answers.Variable v) h = tt
value-one R (answers.Bitcast t) h = h
value-one R (answers.Value v) h = h
value-one R (answers.Named n) h = h
value-one R (answers.Skipped s) h = h
value-one R (answers.Wrong m g) h = h
value-one R answers.Faulty h = h

pub value-tells : (R : Type 0) (a : Answer) → TellsValue R a → Tells R a
value-tells R a h = one-tells R a (value-one R a h)

pub tells-map : (R S : Type 0) (a : Answer) → (R → S) → Tells R a → Tells S a
tells-map R S (answers.Named n) f h = f h
tells-map R S answers.Faulty f h = f h
tells-map R S (answers.Wrong m g) f h = h
tells-map R S (answers.Value v) f h = tt
tells-map R S (answers.Type t) f h = tt
tells-map R S (answers.Bitcast t) f h = tt
tells-map R S (answers.Variable v) f h = tt
tells-map R S (answers.Skipped s) f h = tt

-- ---- answers that give no reason

pub skipped-tells : (R : Type 0) (need : Need) (a : Answer) → IsSkippedFor need a → TellsValue R a
skipped-tells R need (answers.Skipped s) h = tt
skipped-tells R need a h = absurd h

pub fault-tells : (R : Type 0) (a : Answer) → IsFault a → TellsValue R a
fault-tells R (answers.Wrong m guard) h = h
fault-tells R a h = absurd h

pub fault_of-tells : (R : Type 0) (b : Bool) (a : Answer) → IsFaultOf b a → TellsValue R a
fault_of-tells R b (answers.Wrong m guard) h = h.0
fault_of-tells R b a h = absurd h

pub skipped_or-tells : (R : Type 0) (need : Need) (a : Answer) → IsSkippedOr need a → TellsValue R a
skipped_or-tells R need (answers.Skipped s) h = tt
skipped_or-tells R need (answers.Wrong m guard) h = h
skipped_or-tells R need a h = absurd h

pub with-tells : (R : Type 0) (P : Val → Type 0) (a : Answer) → IsValueWith P a → TellsValue R a
with-tells R P (answers.Value v) h = tt
with-tells R P (answers.Wrong m guard) h = h
with-tells R P a h = absurd h

pub is-tells : (R : Type 0) (v : Val) (a : Answer) → value_in a ≡ Some v → TellsValue R a
is-tells R v (answers.Value w) h = tt
is-tells R v a h = absurd (cc)

-- ---- what stands in the place of a value or a type

pub same-tells : (R : Type 0) (a b : Answer) → b ≡ a → Tells R a → Tells R b
same-tells R a b e h = let P : Answer → Type 0 = λ x. Tells R x in subst P (sym e) h

pub same-value : (R : Type 0) (a b : Answer) → b ≡ a → TellsValue R a → TellsValue R b
same-value R a b e h = let P : Answer → Type 0 = λ x. TellsValue R x in subst P (sym e) h

pub same-one : (R : Type 0) (a b : Answer) → b ≡ a → TellsOne R a → TellsOne R b
same-one R a b e h = let P : Answer → Type 0 = λ x. TellsOne R x in subst P (sym e) h

-- where a value belongs
pub unready-tells : (R : Type 0) (a b : Answer) → IsUnready a b → Tells R a → TellsValue R b
unready-tells R (answers.Variable v) b h l = skipped-tells R _ b h
unready-tells R (answers.Type t) b h l = fault-tells R b h
unready-tells R (answers.Bitcast t) b h l = fault-tells R b h
unready-tells R (answers.Value v) b h l = same-value R (answers.Value v) b h tt
unready-tells R (answers.Skipped s) b h l = same-value R (answers.Skipped s) b h tt
unready-tells R (answers.Wrong m guard) b h l = same-value R (answers.Wrong m guard) b h l
unready-tells R (answers.Named n) b h l = same-value R (answers.Named n) b h l
unready-tells R answers.Faulty b h l = same-value R answers.Faulty b h l

-- where a type belongs
pub no_type-tells : (R : Type 0) (a b : Answer) → IsNoType a b → Tells R a → TellsOne R b
no_type-tells R (answers.Value v) b h l = value-one R b (fault-tells R b h)
no_type-tells R (answers.Bitcast t) b h l = value-one R b (fault-tells R b h)
no_type-tells R (answers.Variable v) b h l = value-one R b (fault-tells R b h)
no_type-tells R (answers.Type t) b h l = same-one R (answers.Type t) b h tt
no_type-tells R (answers.Skipped s) b h l = same-one R (answers.Skipped s) b h tt
no_type-tells R (answers.Wrong m guard) b h l = same-one R (answers.Wrong m guard) b h l
no_type-tells R (answers.Named n) b h l = same-one R (answers.Named n) b h l
no_type-tells R answers.Faulty b h l = same-one R answers.Faulty b h l

-- ---- cases

pub of_bool : (b : Bool) (P Q R : Type 0) → MatchBool b P Q → (P → R) → (Q → R) → R
of_bool true P Q R h p q = p h
of_bool false P Q R h p q = q h

pub of_option : {T : Type 0} (o : Option T) (P : Type 0) (Q : T → Type 0) (R : Type 0) → MatchOption o P Q → (o ≡ None → P → R) → ((x : T) → o ≡ Some x → Q x → R) → R
of_option None P Q R h p q = p refl h
of_option (Some x) P Q R h p q = q x refl h

pub of_result : {T E : Type 0} (r : Result T E) (P : T → Type 0) (Q : E → Type 0) (R : Type 0) → MatchResult r P Q → ((x : T) → P x → R) → ((e : E) → Q e → R) → R
of_result (Ok x) P Q R h p q = p x h
of_result (Err e) P Q R h p q = q e h

pub some_and : {T : Type 0} (o : Option T) (P : T → Type 0) (x : T) → o ≡ Some x → P x → IsSomeAnd o P
some_and {T} o P x e h = let Q : Option T → Type 0 = λ p. IsSomeAnd p P in subst Q (sym e) h
