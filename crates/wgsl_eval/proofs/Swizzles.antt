-- Components that letters name.
use Rattle.std.specs.declared.alloc.AllocError.{AllocError}
use Rattle.std.proofs.Common.{◌≡◌, ◌≢◌, ◌∙◌, ℕ, List, [], ◌∷◌, length, get_or, map, Option, Some, Result, Ok, Err, IfOk, IfSome, refl, sym, ap, arith}
use Rattle.std.specs.Option.{option_map}
use Rattle.wgsl_scalar.specs.Literals.{literal_of}
use Rattle.wgsl_scalar.specs.declared.literal.LiteralInstance.{LiteralInstance}
use Rattle.wgsl_values.specs.View.{value_of}
use Rattle.wgsl_values.specs.declared.instance.Instance.{Instance}
use Rattle.wgsl_rules.specs.Values.{Vals}
use Rattle.wgsl_eval.proofs.Answered.{made-maybe, value-maybe, with-mapped}
use Rattle.wgsl_eval.specs.Answers.{IsMade, IsValueWith, value_in}
use Rattle.wgsl_eval.specs.Constructors.{MayBe, vector_of}
use Rattle.wgsl_eval.specs.Lists.{each_of}
use Rattle.wgsl_eval.specs.Parts.{AreLetters, IsSwizzle, component_named, swizzled}
use Rattle.wgsl_eval.specs.declared.answer.Answer.{Answer}

swizzled-alone : (ls : List LiteralInstance) (l : LiteralInstance) → length ls ≡ 1 → l ≡ get_or ls 0 l → literal_of l ≡ swizzled (map literal_of ls)
swizzled-alone [] l h k = cc
swizzled-alone (m ∷ []) l h k = ap literal_of k
swizzled-alone (m ∷ n ∷ ls) l h k = absurd (omega arith)

swizzled-more : (ls : List LiteralInstance) → length ls ≢ 1 → vector_of (map literal_of ls) ≡ swizzled (map literal_of ls)
swizzled-more [] h = refl
swizzled-more (m ∷ []) h = absurd (h refl)
swizzled-more (m ∷ n ∷ ls) h = refl

pub one-swizzled : (ls : List LiteralInstance) (l : LiteralInstance) (a : Answer) → length ls ≡ 1 → l ≡ get_or ls 0 l → value_in a ≡ Some (literal_of l)
    → MayBe (Some (swizzled (map literal_of ls))) a
one-swizzled ls l a h k e = value-maybe (Some (swizzled (map literal_of ls))) (literal_of l) a (ap Some (sym (swizzled-alone ls l h k))) e

pub more-swizzled : (ls : List LiteralInstance) (o : Option Instance) (r : Result Answer AllocError) → length ls ≢ 1 → IfSome o (λ v. value_of v ≡ vector_of (map literal_of ls))
    → IfOk r (IsMade (option_map value_of o)) → IfOk r (MayBe (Some (swizzled (map literal_of ls))))
more-swizzled ls o r h k m = made-maybe (Some (swizzled (map literal_of ls))) (vector_of (map literal_of ls)) o r (ap Some (sym (swizzled-more ls h))) k m

pub ruleset swizzle_steps = (one-swizzled, more-swizzled)

-- what the letters name
pub swizzle-is : (word : List ℕ) (vs : Vals) (letters : List ℕ) (ls : List LiteralInstance) (r : Result Answer AllocError) → AreLetters letters
    → each_of (component_named letters vs) word ≡ Some (map literal_of ls) → IfOk r (MayBe (Some (swizzled (map literal_of ls)))) → IfOk r (IsValueWith (IsSwizzle word vs))
swizzle-is word vs letters ls (Ok a) of e h =
    with-mapped (λ v. Some (swizzled (map literal_of ls)) ≡ Some v) (IsSwizzle word vs) a (λ v k. (letters, of, ap (option_map swizzled) e ∙ k)) h
swizzle-is word vs letters ls (Err x) of e h = tt
