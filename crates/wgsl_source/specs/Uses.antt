-- Which declarations a declaration names (WGSL: declaration and scope).
use Rattle.std.specs.Prelude.{◌≡◌, ◌+◌, ◌-◌, ◌<◌, ◌&&◌, ◌||◌, ◌⊎◌, ℕ, zero, suc, Bool, true, false, not, Option, Some, None, List, All, Contains, codes, length, slice_get, unwrap_or}
use Rattle.std.specs.List.{AllZip, filter_map}
use Rattle.std.specs.Option.{option_and_then, option_map}
use Rattle.std.specs.List.Sorted.{IsStrictlyIncreasing}
use Rattle.std.specs.Str.{bytes_eq}
use Rattle.wgsl_source.specs.Pieces.{declaration_in}
use Rattle.wgsl_source.specs.Readings.{Outline, first_named, steps_at, word_at}
use Rattle.wgsl_source.specs.declared.expression.Callee.TheVariants as callees
use Rattle.wgsl_source.specs.declared.expression.Step.{Step}
use Rattle.wgsl_source.specs.declared.expression.Step.TheVariants as steps
use Rattle.wgsl_source.specs.declared.module.Declared.TheVariants as declareds
use Rattle.wgsl_source.specs.declared.piece.Piece.{Piece}

-- the first declaration whose name stands at a token
abbrev pub named_at : Outline → ℕ → Option ℕ
named_at o at = first_named o (word_at o at)

-- ---- in steps

-- the token of the name that a step looks up
abbrev pub looked_up : Step → Option ℕ
looked_up (steps.Name token) = Some token
looked_up (steps.Template token count) = Some token
looked_up (steps.Call token callees.Name count) = Some token
looked_up step = None

-- the declaration whose name a step looks up
abbrev pub named_by : Outline → Step → Option ℕ
named_by o step = option_and_then (named_at o) (looked_up step)

-- one of these steps looks up the name of the declaration
abbrev pub IsLookedUp : Outline → List Step → ℕ → Type 0
IsLookedUp o ss n = (step : Step) × Contains ss step × (named_by o step ≡ Some n)

-- ---- in functions

abbrev pub stands : Outline → ℕ → List ℕ → Bool
stands o at text = bytes_eq (word_at o at) text

-- the names of a member and of an attribute
abbrev pub is_of_other : Outline → ℕ → Bool
is_of_other o at = stands o (at - 1) (codes ".") || stands o (at - 1) (codes "@")

-- the attributes that give the names in their brackets meanings of their own, and those of them with two names
abbrev pub takes_two_names : List ℕ → Bool
takes_two_names word = bytes_eq word (codes "interpolate") || bytes_eq word (codes "diagnostic")

abbrev pub takes_names : List ℕ → Bool
takes_names word = bytes_eq word (codes "builtin") || takes_two_names word

-- the first name in the brackets of such an attribute, or the second
abbrev pub is_of_attribute : Outline → ℕ → Bool
is_of_attribute o at =
    (stands o (at - 1) (codes "(") && (stands o (at - 3) (codes "@") && takes_names (word_at o (at - 2))))
    || (stands o (at - 1) (codes ",") && (stands o (at - 5) (codes "@") && takes_two_names (word_at o (at - 4))))

-- the words before a name that a body declares, `var` maybe with a template list
abbrev pub introduces : List ℕ → Bool
introduces word = bytes_eq word (codes "let") || (bytes_eq word (codes "const") || bytes_eq word (codes "var"))

-- the template list of a `var` begins so many tokens before
abbrev pub begins_list : Outline → ℕ → ℕ → Bool
begins_list o at count = stands o (at - count) (codes "<") && stands o (at - (count + 1)) (codes "var")

abbrev pub is_behind_list : Outline → ℕ → Bool
is_behind_list o at = stands o (at - 1) (codes ">") && (begins_list o at 3 || (begins_list o at 4 || begins_list o at 5))

-- a `{` is among so many tokens from one on
abbrev pub begins_body : Outline → ℕ → ℕ → Bool
begins_body o first zero = false
begins_body o first (suc n) = begins_body o first n || stands o (first + n) (codes "{")

-- the body of the function with this name has begun before a token
abbrev pub is_in_body : Outline → ℕ → ℕ → Bool
is_in_body o name at = begins_body o (name + 1) (at - (name + 1))

-- a function declares the name of the token: its body does, or the token stands before the body and is a parameter's
abbrev pub declares : Outline → Bool → ℕ → Bool
declares o in_body at =
    introduces (word_at o (at - 1)) || (is_behind_list o at || (not in_body && stands o (at + 1) (codes ":")))

-- the token, in the body or before it, declares the name of the declaration of this number
abbrev pub IsDeclaring : Outline → Bool → ℕ → ℕ → Type 0
IsDeclaring o in_body at n = (declares o in_body at ≡ true) × (named_at o at ≡ Some n)

-- it stands for that, or for what the function declares with its name
abbrev pub IsUse : Outline → Bool → ℕ → ℕ → Type 0
IsUse o in_body at n =
    (is_of_other o at ≡ false) × (is_of_attribute o at ≡ false) × (declares o in_body at ≡ false) × (named_at o at ≡ Some n)

-- a token of the function with this name, before the end, is one of these
abbrev pub IsShadowed : Outline → ℕ → ℕ → ℕ → Type 0
IsShadowed o name end n = (at : ℕ) × (name < at) × (at < end) × IsDeclaring o (is_in_body o name at) at n

abbrev pub IsUsed : Outline → ℕ → ℕ → ℕ → Type 0
IsUsed o name end n = (at : ℕ) × (name < at) × (at < end) × IsUse o (is_in_body o name at) at n

-- ---- in declarations

-- the token that names a declaration
abbrev pub name_of : Outline → ℕ → ℕ
name_of o number = unwrap_or (slice_get o.names number) (length o.tokens)

abbrev pub IsFunction : Outline → ℕ → Type 0
IsFunction o number = slice_get o.declared number ≡ Some declareds.Function

-- the declaration of a number names another: in its types, values and attributes, or in a function behind its name
abbrev pub IsNamed : Outline → ℕ → ℕ → ℕ → Type 0
IsNamed o number end n =
    IsLookedUp o (steps_at o number) n ⊎ (IsFunction o number × IsUsed o (name_of o number) end n)

-- these are the declarations that one names which ends before a token
pub record AreUses (o : Outline) (number : ℕ) (end : ℕ) (uses : List ℕ) : Type 0 where
  pub rising : IsStrictlyIncreasing uses
  pub named : All (IsNamed o number end) uses
  pub steps : (n : ℕ) → IsLookedUp o (steps_at o number) n → Contains uses n
  pub tokens : (n : ℕ) → IsFunction o number → IsUsed o (name_of o number) end n
      → ¬ IsShadowed o (name_of o number) end n → Contains uses n

-- the declarations that are pieces, with the tokens where they end
abbrev pub ending_in : Piece → Option (ℕ × ℕ)
ending_in p = option_map (λ number. (number, p.end)) (declaration_in p.kind)

abbrev pub endings : List Piece → List (ℕ × ℕ)
endings ps = filter_map ending_in ps

-- of each of these declarations, those that it names
abbrev pub AreUsesOf : Outline → List (ℕ × ℕ) → List (List ℕ) → Type 0
AreUsesOf o ds lists = AllZip (λ d uses. AreUses o d.0 d.1 uses) ds lists
