-- The attributes in front of a member's name: `@align(n)` and `@size(n)`, each at most once.
use Rattle.std.specs.Prelude.{◌≡◌, ◌≢◌, ℕ, List, [], ◌∷◌, ◌++◌, Option, Some, None, option_and_then, codes, slice_index}
use Rattle.wgsl_script.specs.Words.{IsCount, number}
use Rattle.wgsl_script.specs.declared.attributes.Attribute.{Attribute}
use Rattle.wgsl_script.specs.declared.attributes.Attribute.TheVariants.{Align, Size}
use Rattle.wgsl_script.specs.declared.attributes.Attributes.{Attributes}

-- what stands before the digits
abbrev pub opening : Attribute → List ℕ
opening (Align n) = codes "@align("
opening (Size n) = codes "@size("

-- the number, in bytes
abbrev pub number_in : Attribute → ℕ
number_in (Align n) = n
number_in (Size n) = n

-- the attribute stands at the front of the word, and then the rest
pub record BeginsWith (word : List ℕ) (attribute : Attribute) (rest : List ℕ) : Type 0 where
  pub digits : List ℕ
  pub is_count : IsCount digits
  pub gives : number digits ≡ number_in attribute
  pub is : word ≡ opening attribute ++ (digits ++ (codes ")" ++ rest))

-- the attributes stand one behind the other at the front of the word, and then the rest, which begins with no `@` (64)
abbrev pub BeginsWithAll : List ℕ → List Attribute → List ℕ → Type 0
BeginsWithAll word [] rest = (word ≡ rest) × (slice_index rest 0 ≢ 64)
BeginsWithAll word (attribute ∷ attributes) rest = (after : List ℕ) × BeginsWith word attribute after × BeginsWithAll after attributes rest

-- what is given with one more attribute; none where one of its kind is given
abbrev pub align_once : Option ℕ → ℕ → Option ℕ → Option Attributes
align_once None n size = Some (record { size = size; align = Some n })
align_once (Some m) n size = None

abbrev pub size_once : Option ℕ → ℕ → Option ℕ → Option Attributes
size_once None n align = Some (record { size = Some n; align = align })
size_once (Some m) n align = None

abbrev pub with_one : Attribute → Attributes → Option Attributes
with_one (Align n) given = align_once given.align n given.size
with_one (Size n) given = size_once given.size n given.align

-- what is given with all of them
abbrev pub with_all : List Attribute → Attributes → Option Attributes
with_all [] given = Some given
with_all (attribute ∷ attributes) given = option_and_then (with_all attributes) (with_one attribute given)
