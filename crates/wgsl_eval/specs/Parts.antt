-- Parts of values (WGSL: composite value decomposition expressions).
use Rattle.std.specs.Prelude.{◌≡◌, ℕ, ◌==◌, ◌⊎◌, pos, List, [], ◌∷◌, Option, Some, None, Ok, IsSomeAnd, codes}
use Rattle.std.specs.List.{position}
use Rattle.std.specs.Option.{option_and_then, option_map}
use Rattle.wgsl_rules.specs.Paths.{viewed}
use Rattle.wgsl_rules.specs.Values.{Val, number, vector, Vals, item, member, index}
use Rattle.wgsl_values.specs.View.{value_of}
use Rattle.wgsl_eval.specs.Answers.{IsUnready, IsValueWith}
use Rattle.wgsl_eval.specs.Constructors.{vector_of}
use Rattle.wgsl_eval.specs.Lists.{each_of}
use Rattle.wgsl_eval.specs.declared.answer.Answer.{Answer}
use Rattle.wgsl_eval.specs.declared.answer.Answer.TheVariants as answers
use Rattle.wgsl_eval.specs.declared.part.Position.{Position}
use Rattle.wgsl_eval.specs.declared.part.Position.TheVariants as positions

-- ---- elements

-- the position that a number from 0 on names
abbrev pub position_in : Val → Option ℕ
position_in (number k (pos n)) = Some n
position_in v = None

abbrev pub IsPosition : Val → Position → Type 0
IsPosition v (positions.At n) = position_in v ≡ Some n
IsPosition v p = position_in v ≡ None

-- w is the element of the value at the index
abbrev pub IsElement : Val → Val → Val → Type 0
IsElement v i w = IsSomeAnd (position_in i) (λ n. viewed (index n ∷ []) v ≡ Ok w)

-- the element, for the answers of the whole and of the index
abbrev pub IsElementOf : Answer → Answer → Answer → Type 0
IsElementOf (answers.Value v) (answers.Value i) answer =
    IsValueWith (IsElement (value_of v.instance) (value_of i.instance)) answer
IsElementOf (answers.Value v) i answer = IsUnready i answer
IsElementOf v i answer = IsUnready v answer

-- ---- swizzles

-- the component that a letter names
abbrev pub component_named : List ℕ → Vals → ℕ → Option Val
component_named letters vs letter = option_and_then (λ i. item i vs) (position (λ own. own == letter) letters)

-- those of places, or of colors
abbrev pub AreLetters : List ℕ → Type 0
AreLetters letters = (letters ≡ codes "xyzw") ⊎ (letters ≡ codes "rgba")

-- one component, or a vector of more
abbrev pub swizzled : List Val → Val
swizzled (v ∷ []) = v
swizzled vs = vector_of vs

-- w is made of the components that the letters of the word name, one after the other
abbrev pub IsSwizzle : List ℕ → Vals → Val → Type 0
IsSwizzle word vs w =
    (letters : List ℕ) × AreLetters letters × (option_map swizzled (each_of (component_named letters vs) word) ≡ Some w)

-- ---- members

-- of a vector the components that the name picks, of a structure the member
abbrev pub IsMember : List ℕ → Val → Val → Type 0
IsMember name (vector vs) w = IsSwizzle name vs w
IsMember name v w = viewed (member name ∷ []) v ≡ Ok w

-- the member, for the answer of the whole
abbrev pub IsMemberOf : List ℕ → Answer → Answer → Type 0
IsMemberOf name (answers.Value v) answer = IsValueWith (IsMember name (value_of v.instance)) answer
IsMemberOf name v answer = IsUnready v answer
