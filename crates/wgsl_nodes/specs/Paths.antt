-- Paths as WGSL writes them behind the name of a variable, and where they lead (WGSL: composite value decomposition
-- expressions).
use Rattle.std.specs.Prelude.{◌≡◌, ℕ, ◌+◌, ◌*◌, ◌-◌, ◌^◌, ◌<◌, Option, Some, None, Bool, true, false, IsTrue, List, [], ◌∷◌, ◌++◌, take, drop, length, slice_get, slice_index, slice_range, nat_lt, nat_le, bytes_eq, position, ◌==◌, ◌&&◌, ◌||◌, if◌then◌else◌, option_and_then, MatchOption}
use Rattle.std.specs.List.{list_all}
use Rattle.wgsl_rules.specs.Values.{Step, member, index}
use Rattle.wgsl_nodes.specs.Places.{part_of, member_place, has_row}
use Rattle.wgsl_nodes.specs.declared.nodes.Node.{Node}
use Rattle.wgsl_nodes.specs.declared.places.Place.{Place}

-- ---- how steps are written

abbrev pub not_either : ℕ → ℕ → ℕ → Bool
not_either a b c = if c == a || c == b then false else true

-- a byte of a name: neither `.` nor `[`
abbrev pub is_name_byte : ℕ → Bool
is_name_byte b = not_either 46 91 b

abbrev pub is_name : List ℕ → Bool
is_name n = nat_lt 0 (length n) && list_all is_name_byte n

abbrev pub is_digit : ℕ → Bool
is_digit b = nat_le 48 b && nat_le b 57

-- decimal digits, of which the first of several is not 0
abbrev pub is_numeral : List ℕ → Bool
is_numeral ds = nat_lt 0 (length ds) && (list_all is_digit ds && (if nat_lt 1 (length ds) then nat_lt 48 (slice_index ds 0) else true))

-- the number that the digits write when they follow those of n
abbrev pub value_after : ℕ → List ℕ → ℕ
value_after n [] = n
value_after n (d ∷ ds) = value_after (n * 10 + (d - 48)) ds

-- `.name`, and what is behind it
pub record WritesMember (n : List ℕ) (P : List ℕ → Type 0) (text : List ℕ) : Type 0 where
  pub rest : List ℕ
  pub named : IsTrue (is_name n)
  pub is : text ≡ 46 ∷ (n ++ rest)
  pub behind : P rest

-- `[digits]`, and what is behind it
pub record WritesIndex (i : ℕ) (P : List ℕ → Type 0) (text : List ℕ) : Type 0 where
  pub digits : List ℕ
  pub rest : List ℕ
  pub numeral : IsTrue (is_numeral digits)
  pub value : value_after 0 digits ≡ i
  pub is : text ≡ 91 ∷ (digits ++ (93 ∷ rest))
  pub behind : P rest

-- the text writes the steps
abbrev pub Writes : List Step → List ℕ → Type 0
Writes [] text = text ≡ []
Writes (member n ∷ steps) text = WritesMember n (Writes steps) text
Writes (index i ∷ steps) text = WritesIndex i (Writes steps) text

-- ---- where steps lead

-- the record's name in the text of names
abbrev pub has_name : List ℕ → List ℕ → Node → Bool
has_name names n r = (nat_le r.name_start r.name_end && nat_le r.name_end (length names)) && bytes_eq (slice_range names r.name_start r.name_end) n

-- the records of a structure's members
abbrev pub members_of : List Node → Node → List Node
members_of nodes r = take r.count (drop r.child nodes)

-- the position of a component of this letter
abbrev pub letter : ℕ → Option ℕ
letter b =
    if b == 120 || b == 114 then Some 0 else (if b == 121 || b == 103 then Some 1 else (if b == 122 || b == 98 then Some 2 else (if b == 119 || b == 97 then Some 3 else None)))

-- one of x, y, z, w or r, g, b, a
abbrev pub component_of : List ℕ → Option ℕ
component_of [] = None
component_of (b ∷ []) = letter b
component_of (b ∷ c ∷ bs) = None

-- a member by its name, the first of that name; a component of a vector by its letter
abbrev pub named_part : List Node → List ℕ → ℕ → Place → List ℕ → Node → Option Place
named_part nodes names len p n r =
    if r.sort == 4
    then option_and_then (λ i. member_place nodes p.offset (r.child + i)) (position (has_name names n) (members_of nodes r))
    else (if r.sort == 1 then option_and_then (λ i. part_of nodes p i len) (component_of n) else None)

-- an element, column or component; an index of 2 ^ 64 or more leads nowhere
abbrev pub indexed_part : List Node → ℕ → Place → ℕ → Node → Option Place
indexed_part nodes len p i r = if has_row r && nat_lt i (2 ^ 64) then part_of nodes p i len else None

abbrev pub stepped : List Node → List ℕ → ℕ → Place → Step → Option Place
stepped nodes names len p (member n) = option_and_then (named_part nodes names len p n) (slice_get nodes p.node)
stepped nodes names len p (index i) = option_and_then (indexed_part nodes len p i) (slice_get nodes p.node)

abbrev pub led : List Node → List ℕ → ℕ → Place → List Step → Option Place
led nodes names len p [] = Some p
led nodes names len p (s ∷ steps) = option_and_then (λ q. led nodes names len q steps) (stepped nodes names len p s)

-- ---- where a text leads

-- the text writes steps from the place that lead to this part; or it writes none, or none that lead to a part
abbrev pub IsLed : List Node → List ℕ → ℕ → Place → List ℕ → Option Place → Type 0
IsLed nodes names len p text result =
    MatchOption result ((steps : List Step) → Writes steps text → led nodes names len p steps ≡ None) (λ q. (steps : List Step) × Writes steps text × (led nodes names len p steps ≡ Some q))

-- a step at the head of the text leads to a place, and the rest of the text leads on from there
pub record IsOnward (nodes : List Node) (names : List ℕ) (len : ℕ) (p : Place) (text : List ℕ) (q : Place) (rest : List ℕ) : Type 0 where
  pub onward : (r : Option Place) → IsLed nodes names len q rest r → IsLed nodes names len p text r
  pub shorter : length rest < length text

-- what is answered for a step at the head of the text
abbrev pub IsStep : List Node → List ℕ → ℕ → Place → List ℕ → Option (Place × List ℕ) → Type 0
IsStep nodes names len p text o = MatchOption o (IsLed nodes names len p text None) (λ q. IsOnward nodes names len p text q.0 q.1)

-- no byte that passes the test stands first
abbrev pub ends : (ℕ → Bool) → List ℕ → Bool
ends p [] = true
ends p (b ∷ bs) = if p b then false else true

-- what stands behind the variable's name: the first name of a path in a structure stands without its point
abbrev pub behind_name : Node → List ℕ → List ℕ
behind_name root path = if root.sort == 4 && nat_lt 0 (length path) then 46 ∷ path else path
