-- Steps at the head of a text.
use Rattle.std.proofs.Common.{◌≡◌, ℕ, zero, suc, ◌+◌, ◌*◌, ◌-◌, ◌^◌, ◌<◌, ◌≤◌, List, [], ◌∷◌, ◌++◌, length, take, drop, get_or, slice_get, Option, Some, None, Bool, true, false, refl, sym, ap, ◌∙◌, subst, arith, add-one, drop-cons, length-append}
use Rattle.std.specs.Prelude.{◌&&◌, ◌==◌, nat_lt, if◌then◌else◌, MatchOption, option_and_then}
use Rattle.std.specs.List.{list_all}
use Rattle.std.proofs.Math.ListN.{drop_of_length-le}
use Rattle.std.proofs.Math.Bool.{and-false}
use Rattle.std.proofs.lemmas.Bool.{false≢true, lt-ltb}
use Rattle.std.proofs.lemmas.Bool.Decides.{nat_tests}
use Rattle.wgsl_rules.specs.Values.{Step, member, index}
use Rattle.wgsl_rules.proofs.lemmas.Known.{and-both}
use Rattle.wgsl_nodes.specs.Paths.{is_name_byte, is_name, is_digit, is_numeral, value_after, Writes, indexed_part, stepped, led, IsLed, IsOnward, ends}
use Rattle.wgsl_nodes.specs.Places.{has_row}
use Rattle.wgsl_nodes.specs.declared.nodes.Node.{Node}
use Rattle.wgsl_nodes.specs.declared.places.Place.{Place}

-- ---- a text split where no byte passes a test

ended : (p : ℕ → Bool) (b : ℕ) (bs : List ℕ) → p b ≡ true → ends p (b ∷ bs) ≡ true → ⊥
ended p b bs h e = let f : ends p (b ∷ bs) ≡ false = rw h refl in false≢true (sym f ∙ e)

pub record AreSame (a b c d : List ℕ) : Type 0 where
  pub heads : a ≡ b
  pub rests : c ≡ d

pub split-same : (p : ℕ → Bool) (a b c d : List ℕ) → list_all p a ≡ true → list_all p b ≡ true → ends p c ≡ true → ends p d ≡ true → a ++ c ≡ b ++ d → AreSame a b c d
split-same p [] [] c d h k e f is = record { heads = refl; rests = is }
split-same p [] (y ∷ b) c d h k e f is = absurd (ended p y (b ++ d) (and-both (p y) (list_all p b) k).0 (subst (λ (xs : List ℕ). ends p xs ≡ true) is e))
split-same p (x ∷ a) [] c d h k e f is = absurd (ended p x (a ++ c) (and-both (p x) (list_all p a) h).0 (subst (λ (xs : List ℕ). ends p xs ≡ true) (sym is) f))
split-same p (x ∷ a) (y ∷ b) c d h k e f is =
    let first : x ≡ y = cc (is) in
    let rest : a ++ c ≡ b ++ d = cc (is) in
    let s = split-same p a b c d (and-both (p x) (list_all p a) h).1 (and-both (p y) (list_all p b) k).1 e f rest in
    record { heads = ap (λ (n : ℕ). n ∷ a) first ∙ ap (λ (xs : List ℕ). y ∷ xs) s.heads; rests = s.rests }

-- ---- how steps begin

heads-differ : (x y : ℕ) (xs ys : List ℕ) → (x ≡ y → ⊥) → x ∷ xs ≡ y ∷ ys → ⊥
heads-differ x y xs ys h e = let same : x ≡ y = cc (e) in h same

-- what is written begins with no byte of a name
pub writes-ends : (steps : List Step) (text : List ℕ) → Writes steps text → ends is_name_byte text ≡ true
writes-ends [] text w = subst (λ (xs : List ℕ). ends is_name_byte xs ≡ true) (sym w) refl
writes-ends (member n ∷ steps) text w = subst (λ (xs : List ℕ). ends is_name_byte xs ≡ true) (sym w.is) refl
writes-ends (index i ∷ steps) text w = subst (λ (xs : List ℕ). ends is_name_byte xs ≡ true) (sym w.is) refl

-- ---- names

-- the steps of a text that begins with a point and a name
pub record BeginWithMember (steps : List Step) (name rest : List ℕ) : Type 0 where
  pub more : List Step
  pub steps_are : steps ≡ member name ∷ more
  pub behind : Writes more rest
  pub named : is_name name ≡ true

pub member-begins : (steps : List Step) (t name rest : List ℕ) → t ≡ name ++ rest → list_all is_name_byte name ≡ true → ends is_name_byte rest ≡ true → Writes steps (46 ∷ t) → BeginWithMember steps name rest
member-begins [] t name rest is all end w = absurd (cc (w))
member-begins (index i ∷ steps) t name rest is all end w = absurd (heads-differ 46 91 t (w.digits ++ (93 ∷ w.rest)) (λ e. omega arith) w.is)
member-begins (member n ∷ steps) t name rest is all end w =
    let own : t ≡ n ++ w.rest = let e = w.is in cc (e) in
    let named = w.named in
    let s = split-same is_name_byte n name w.rest rest (and-both (nat_lt 0 (length n)) (list_all is_name_byte n) named).1 all (writes-ends steps w.rest w.behind) end (sym own ∙ is) in
    record {
      more = steps;
      steps_are = ap (λ (xs : List ℕ). member xs ∷ steps) s.heads;
      behind = subst (λ (xs : List ℕ). Writes steps xs) s.rests w.behind;
      named = subst (λ (xs : List ℕ). is_name xs ≡ true) s.heads named;
    }

no-led : (nodes : List Node) (names : List ℕ) (len : ℕ) (p : Place) (s : Step) (steps more : List Step) → steps ≡ s ∷ more → stepped nodes names len p s ≡ None → led nodes names len p steps ≡ None
no-led nodes names len p s steps more is none = ap (led nodes names len p) is ∙ ap (option_and_then (λ q. led nodes names len q more)) none

led-on : (nodes : List Node) (names : List ℕ) (len : ℕ) (p q : Place) (s : Step) (steps more : List Step) → steps ≡ s ∷ more → stepped nodes names len p s ≡ Some q → led nodes names len p steps ≡ led nodes names len q more
led-on nodes names len p q s steps more is some = ap (led nodes names len p) is ∙ ap (option_and_then (λ x. led nodes names len x more)) some

-- what is answered where the text behind a point begins with the name
pub name-answers : (nodes : List Node) (names : List ℕ) (len : ℕ) (p : Place) (t name rest : List ℕ) (o : Option Place)
    → t ≡ name ++ rest → list_all is_name_byte name ≡ true → ends is_name_byte rest ≡ true → nat_lt 0 (length name) ≡ true → o ≡ stepped nodes names len p (member name)
    → MatchOption o (IsLed nodes names len p (46 ∷ t) None) (λ q. IsOnward nodes names len p (46 ∷ t) q rest)
name-answers nodes names len p t name rest None is all end some answer = λ steps w.
    let b = member-begins steps t name rest is all end w in
    no-led nodes names len p (member name) steps b.more b.steps_are (sym answer)
name-answers nodes names len p t name rest (Some q) is all end some answer = record {
  onward = on;
  shorter = omega (arith, ap length is, length-append name rest);
}
  where
    on : (r : Option Place) → IsLed nodes names len q rest r → IsLed nodes names len p (46 ∷ t) r
    on None h = λ steps w.
        let b = member-begins steps t name rest is all end w in
        led-on nodes names len p q (member name) steps b.more b.steps_are (sym answer) ∙ h b.more b.behind
    on (Some x) h = (
      member name ∷ h.0,
      record { rest = rest; named = rw (some, all) refl; is = ap (λ (xs : List ℕ). 46 ∷ xs) is; behind = h.1 },
      led-on nodes names len p q (member name) (member name ∷ h.0) h.0 refl (sym answer) ∙ h.2,
    )

-- no name is empty
pub no-name : (nodes : List Node) (names : List ℕ) (len : ℕ) (p : Place) (t name rest : List ℕ) → t ≡ name ++ rest → list_all is_name_byte name ≡ true → ends is_name_byte rest ≡ true → nat_lt 0 (length name) ≡ false
    → IsLed nodes names len p (46 ∷ t) None
no-name nodes names len p t name rest is all end none = λ steps w.
    let b = member-begins steps t name rest is all end w in
    absurd (false≢true (sym (ap (λ (c : Bool). c && list_all is_name_byte name) none) ∙ b.named))

-- ---- indexes

bracket-ends : (rest : List ℕ) → ends is_digit (93 ∷ rest) ≡ true
bracket-ends rest = refl

-- the steps of a text that begins with a bracket and digits
pub record BeginWithIndex (steps : List Step) (digits rest : List ℕ) : Type 0 where
  pub more : List Step
  pub behind_bracket : List ℕ
  pub rest_is : rest ≡ 93 ∷ behind_bracket
  pub steps_are : steps ≡ index (value_after 0 digits) ∷ more
  pub behind : Writes more behind_bracket
  pub numeral : is_numeral digits ≡ true

numeral-digits : (ds : List ℕ) → is_numeral ds ≡ true → list_all is_digit ds ≡ true
numeral-digits ds h =
    let one = and-both (nat_lt 0 (length ds)) (list_all is_digit ds && (if nat_lt 1 (length ds) then nat_lt 48 (get_or ds 0 0) else true)) h in
    (and-both (list_all is_digit ds) (if nat_lt 1 (length ds) then nat_lt 48 (get_or ds 0 0) else true) one.1).0

pub index-begins : (steps : List Step) (t digits rest : List ℕ) → t ≡ digits ++ rest → list_all is_digit digits ≡ true → ends is_digit rest ≡ true → Writes steps (91 ∷ t) → BeginWithIndex steps digits rest
index-begins [] t digits rest is all end w = absurd (cc (w))
index-begins (member n ∷ steps) t digits rest is all end w = absurd (heads-differ 91 46 t (n ++ w.rest) (λ e. omega arith) w.is)
index-begins (index i ∷ steps) t digits rest is all end w =
    let own : t ≡ w.digits ++ (93 ∷ w.rest) = let e = w.is in cc (e) in
    let numeral = w.numeral in
    let s = split-same is_digit w.digits digits (93 ∷ w.rest) rest (numeral-digits w.digits numeral) all (bracket-ends w.rest) end (sym own ∙ is) in
    record {
      more = steps;
      behind_bracket = w.rest;
      rest_is = sym s.rests;
      steps_are = ap (λ (n : ℕ). index n ∷ steps) (sym w.value ∙ ap (value_after 0) s.heads);
      behind = w.behind;
      numeral = subst (λ (xs : List ℕ). is_numeral xs ≡ true) s.heads numeral;
    }

-- no bracket ends the index
pub no-bracket : (nodes : List Node) (names : List ℕ) (len : ℕ) (p : Place) (t digits rest : List ℕ) → t ≡ digits ++ rest → list_all is_digit digits ≡ true → ends is_digit rest ≡ true
    → ((behind : List ℕ) → rest ≡ 93 ∷ behind → ⊥) → IsLed nodes names len p (91 ∷ t) None
no-bracket nodes names len p t digits rest is all end none = λ steps w.
    let b = index-begins steps t digits rest is all end w in absurd (none b.behind_bracket b.rest_is)

-- the digits are no numeral, or write 2 ^ 64 or more
pub no-number : (nodes : List Node) (names : List ℕ) (len : ℕ) (p : Place) (t digits rest : List ℕ) → t ≡ digits ++ rest → list_all is_digit digits ≡ true → ends is_digit rest ≡ true
    → (is_numeral digits && nat_lt (value_after 0 digits) (2 ^ 64)) ≡ false → IsLed nodes names len p (91 ∷ t) None
no-number nodes names len p t digits rest is all end none = λ steps w.
    let b = index-begins steps t digits rest is all end w in
    let long : nat_lt (value_after 0 digits) (2 ^ 64) ≡ false = ap (λ (c : Bool). c && nat_lt (value_after 0 digits) (2 ^ 64)) (sym b.numeral) ∙ none in
    no-led nodes names len p (index (value_after 0 digits)) steps b.more b.steps_are (far (slice_get nodes p.node) long)
  where
    far : (o : Option Node) → nat_lt (value_after 0 digits) (2 ^ 64) ≡ false → option_and_then (indexed_part nodes len p (value_after 0 digits)) o ≡ None
    far None h = refl
    far (Some r) h = rw h (rw (and-false (has_row r)) refl)

pub index-answers : (nodes : List Node) (names : List ℕ) (len : ℕ) (p : Place) (t digits rest behind : List ℕ) (n : ℕ) (o : Option Place)
    → t ≡ digits ++ rest → list_all is_digit digits ≡ true → ends is_digit rest ≡ true → rest ≡ 93 ∷ behind → is_numeral digits ≡ true → n ≡ value_after 0 digits
    → o ≡ option_and_then (indexed_part nodes len p n) (slice_get nodes p.node)
    → MatchOption o (IsLed nodes names len p (91 ∷ t) None) (λ q. IsOnward nodes names len p (91 ∷ t) q behind)
index-answers nodes names len p t digits rest behind n None is all end closed numeral value answer = λ steps w.
    let b = index-begins steps t digits rest is all end w in
    no-led nodes names len p (index n) steps b.more (b.steps_are ∙ ap (λ (k : ℕ). index k ∷ b.more) (sym value)) (sym answer)
index-answers nodes names len p t digits rest behind n (Some q) is all end closed numeral value answer = record {
  onward = on;
  shorter = omega (arith, ap length is, length-append digits rest, ap length closed);
}
  where
    on : (r : Option Place) → IsLed nodes names len q behind r → IsLed nodes names len p (91 ∷ t) r
    on None h = λ steps w.
        let b = index-begins steps t digits rest is all end w in
        let same : behind ≡ b.behind_bracket = let e = sym closed ∙ b.rest_is in cc (e) in
        led-on nodes names len p q (index n) steps b.more (b.steps_are ∙ ap (λ (k : ℕ). index k ∷ b.more) (sym value)) (sym answer) ∙ h b.more (subst (λ (xs : List ℕ). Writes b.more xs) (sym same) b.behind)
    on (Some x) h = (
      index n ∷ h.0,
      record { digits = digits; rest = behind; numeral = numeral; value = sym value; is = ap (λ (xs : List ℕ). 91 ∷ xs) (is ∙ ap (λ (xs : List ℕ). digits ++ xs) closed); behind = h.1 },
      led-on nodes names len p q (index n) (index n ∷ h.0) h.0 refl (sym answer) ∙ h.2,
    )

-- ---- other texts

pub no-step : (nodes : List Node) (names : List ℕ) (len : ℕ) (p : Place) (b : ℕ) (t : List ℕ) → (b ≡ 46 → ⊥) → (b ≡ 91 → ⊥) → IsLed nodes names len p (b ∷ t) None
no-step nodes names len p b t point bracket = λ steps w. by steps w
  where
    by : (steps : List Step) → Writes steps (b ∷ t) → led nodes names len p steps ≡ None
    by [] w = absurd (cc (w))
    by (member n ∷ steps) w = absurd (heads-differ b 46 t (n ++ w.rest) point w.is)
    by (index i ∷ steps) w = absurd (heads-differ b 91 t (w.digits ++ (93 ∷ w.rest)) bracket w.is)

pub nothing-led : (nodes : List Node) (names : List ℕ) (len : ℕ) (p : Place) (text : List ℕ) → text ≡ [] → IsLed nodes names len p text (Some p)
nothing-led nodes names len p text is = ([], is, refl)

-- ---- how far a text goes

pub all-more : (p : ℕ → Bool) (xs : List ℕ) (i v : ℕ) → list_all p (take i xs) ≡ true → i < length xs → v ≡ get_or xs i 0 → p v ≡ true → list_all p (take (i + 1) xs) ≡ true
all-more p xs i v h lt e ok = rw add-one (by xs i h lt e)
  where
    by : (xs : List ℕ) (i : ℕ) → list_all p (take i xs) ≡ true → i < length xs → v ≡ get_or xs i 0 → list_all p (take (suc i) xs) ≡ true
    by [] i h lt e = absurd (omega arith)
    by (x ∷ xs) zero h lt e = let own : p x ≡ true = ap p (sym e) ∙ ok in rw own refl
    by (x ∷ xs) (suc i) h lt e =
        let both = and-both (p x) (list_all p (take i xs)) h in
        rw (both.0, by xs i both.1 (omega arith) e) refl

pub all-taken : (p : ℕ → Bool) (xs : List ℕ) (i n : ℕ) → list_all p (take i xs) ≡ true → i ≡ n → list_all p (take n xs) ≡ true
all-taken p xs i n h e = subst (λ (k : ℕ). list_all p (take k xs) ≡ true) e h

pub ends-at : (p : ℕ → Bool) (xs : List ℕ) (i v : ℕ) → i < length xs → v ≡ get_or xs i 0 → p v ≡ false → ends p (drop i xs) ≡ true
ends-at p [] i v lt e no_pass = absurd (omega arith)
ends-at p (x ∷ xs) zero v lt e no_pass = let own : p x ≡ false = ap p (sym e) ∙ no_pass in rw own refl
ends-at p (x ∷ xs) (suc i) v lt e no_pass = ends-at p xs i v (omega arith) e no_pass

pub ends-past : (p : ℕ → Bool) (xs : List ℕ) (i : ℕ) → length xs ≤ i → ends p (drop i xs) ≡ true
ends-past p [] i h = rw (drop_of_length-le [] {i = i} h) refl
ends-past p (x ∷ xs) zero h = absurd (omega arith)
ends-past p (x ∷ xs) (suc i) h = ends-past p xs i (omega arith)

-- ---- numerals

pub value-least : (n : ℕ) (ds : List ℕ) → n ≤ value_after n ds
value-least n [] = omega arith
value-least n (d ∷ ds) = let h = value-least (n * 10 + (d - 48)) ds in omega arith

pub digit-read : (ds : List ℕ) (i d n m : ℕ) → i < length ds → d ≡ get_or ds i 0 → value_after n (drop i ds) ≡ m → value_after (n * 10 + (d - 48)) (drop (i + 1) ds) ≡ m
digit-read ds i d n m lt e is =
    let split : drop i ds ≡ d ∷ drop (i + 1) ds = drop-cons ds i 0 lt ∙ ap (λ (x : ℕ). x ∷ drop (suc i) ds) (sym e) ∙ rw add-one refl in
    ap (value_after n) (sym split) ∙ is

pub too-long : (ds : List ℕ) (i d n : ℕ) → i < length ds → d ≡ get_or ds i 0 → value_after n (drop i ds) ≡ value_after 0 ds → 2 ^ 64 ≤ n * 10 + (d - 48) → 2 ^ 64 ≤ value_after 0 ds
too-long ds i d n lt e is le =
    let same = digit-read ds i d n (value_after 0 ds) lt e is in
    let least = value-least (n * 10 + (d - 48)) (drop (i + 1) ds) in
    omega arith

pub digit-at : (ds : List ℕ) (i d : ℕ) → list_all is_digit ds ≡ true → i < length ds → d ≡ get_or ds i 0 → is_digit d ≡ true
digit-at [] i d h lt e = absurd (omega arith)
digit-at (x ∷ ds) zero d h lt e = ap is_digit e ∙ (and-both (is_digit x) (list_all is_digit ds) h).0
digit-at (x ∷ ds) (suc i) d h lt e = digit-at ds i d (and-both (is_digit x) (list_all is_digit ds) h).1 (omega arith) e

-- ---- a text split at a length

split-is : (n : ℕ) (xs : List ℕ) → xs ≡ take n xs ++ drop n xs
split-is zero [] = refl
split-is zero (x ∷ xs) = refl
split-is (suc n) [] = refl
split-is (suc n) (x ∷ xs) = ap (λ (ys : List ℕ). x ∷ ys) (split-is n xs)

pub record IsSplit (p : ℕ → Bool) (t name rest : List ℕ) : Type 0 where
  pub is : t ≡ name ++ rest
  pub all : list_all p name ≡ true
  pub end : ends p rest ≡ true

pub split-at : (p : ℕ → Bool) (t name rest : List ℕ) (n : ℕ) → name ≡ take n t → rest ≡ drop n t → list_all p (take n t) ≡ true → ends p (drop n t) ≡ true → IsSplit p t name rest
split-at p t name rest n front back all end = record {
  is = split-is n t ∙ ap (λ (xs : List ℕ). xs ++ drop n t) (sym front) ∙ ap (λ (xs : List ℕ). name ++ xs) (sym back);
  all = subst (λ (xs : List ℕ). list_all p xs ≡ true) (sym front) all;
  end = subst (λ (xs : List ℕ). ends p xs ≡ true) (sym back) end;
}

pub some-taken : (n : ℕ) (t name : List ℕ) → (n ≡ 0 → ⊥) → n ≤ length t → name ≡ take n t → nat_lt 0 (length name) ≡ true
some-taken zero t name h le e = absurd (h refl)
some-taken (suc n) [] name h le e = absurd (omega arith)
some-taken (suc n) (x ∷ t) name h le e = lt-ltb 0 (length name) (omega (arith, ap length e))

pub empty-head : (nodes : List Node) (names : List ℕ) (len : ℕ) (p : Place) (t : List ℕ) (n : ℕ) → n ≡ 0 → ends is_name_byte (drop n t) ≡ true → IsLed nodes names len p (46 ∷ t) None
empty-head nodes names len p t n e end =
    let from : drop n t ≡ t = ap (λ (k : ℕ). drop k t) e ∙ whole t in
    no-name nodes names len p t [] t refl refl (subst (λ (xs : List ℕ). ends is_name_byte xs ≡ true) from end) refl
  where
    whole : (xs : List ℕ) → drop 0 xs ≡ xs
    whole [] = refl
    whole (x ∷ xs) = refl

-- ---- what is left of a text

pub some-left : (b : Bool) (n : ℕ) → b ≡ (n == 0) → b ≡ false → 0 < n
some-left b zero e h = absurd (false≢true (sym h ∙ e))
some-left b (suc n) e h = omega arith

pub none-left : (b : Bool) (xs : List ℕ) → b ≡ (length xs == 0) → b ≡ true → xs ≡ []
none-left b [] e h = refl
none-left b (x ∷ xs) e h = absurd (more (length xs) (sym h ∙ e))
  where
    more : (n : ℕ) → true ≡ (suc n == 0) → ⊥
    more n k = let zero_is : suc n ≡ 0 = grind (arith, nat_tests) in omega arith
