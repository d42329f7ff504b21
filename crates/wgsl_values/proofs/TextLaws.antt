-- What texts tell of values.
use Rattle.std.proofs.Common.{◌≡◌, ◌≢◌, ℕ, suc, ◌^◌, ◌<◌, ◌≤◌, ℤ, pos, negsuc, List, [], ◌∷◌, ◌++◌, length, get_or, drop, Bool, true, false, codes, decimal, arith, refl, sym, ap, ◌∙◌, subst, ap₂, append_assoc, append-nil}
use Rattle.std.specs.Fmt.{signed_decimal}
use Rattle.std.specs.Str.Parse.{AllDigits}
use Rattle.std.proofs.lemmas.Int.{ints}
use Rattle.std.proofs.lemmas.Fmt.{decimal_is_IsNumeral, decimal_injective}
use Rattle.std.proofs.lemmas.Str.Parse.{digit_from_value}
use Rattle.wgsl_rules.specs.Kinds as kinds
use Rattle.wgsl_rules.specs.Kinds.{Kind, InKind}
use Rattle.wgsl_rules.specs.Values.{Val, truth, number, vector, matrix, atomic_of, Vals, no_vals, val, count, IsLiteral, AreLiterals, IsVector, AreVectors, IsStorable, AreStorable, IsWellFormed}
use Rattle.wgsl_scalar.specs.Texts.{literal_text}
use Rattle.wgsl_values.specs.Laws.{IsMatrix, IsAtomic, TextsTellApart}
use Rattle.wgsl_values.specs.Matrices.{row_count}
use Rattle.wgsl_values.specs.Texts.{text_of_value, text_of_items, text_of_more_items}
use Rattle.wgsl_values.proofs.Columns.{Each}

-- ---- texts that are followed by others

-- each byte of the text is of the sort
abbrev EachByte : (ℕ → Type 0) → List ℕ → Type 0
EachByte P [] = Unit {0}
EachByte P (c ∷ cs) = P c × EachByte P cs

-- the text does not begin with a byte of the sort
abbrev BeginsNot : (ℕ → Type 0) → List ℕ → Type 0
BeginsNot P [] = Unit {0}
BeginsNot P (c ∷ cs) = P c → ⊥

each_byte-append : (P : ℕ → Type 0) (s t : List ℕ) → EachByte P s → EachByte P t → EachByte P (s ++ t)
each_byte-append P [] t a b = b
each_byte-append P (c ∷ s) t a b = (a.0, each_byte-append P s t a.1 b)

each_byte-like : (P Q : ℕ → Type 0) (s : List ℕ) → ((c : ℕ) → P c → Q c) → EachByte P s → EachByte Q s
each_byte-like P Q [] f a = tt
each_byte-like P Q (c ∷ s) f a = (f c a.0, each_byte-like P Q s f a.1)

-- bytes of a sort, then a text that begins with no such byte: it is seen where the first ones end
cut : (P : ℕ → Type 0) (s t x y : List ℕ) → EachByte P s → EachByte P t → BeginsNot P x → BeginsNot P y → s ++ x ≡ t ++ y → (s ≡ t) × (x ≡ y)
cut P [] [] x y a b f g e = (refl, e)
cut P [] (d ∷ t) x y a b f g e = absurd (subst (BeginsNot P) e f b.0)
cut P (c ∷ s) [] x y a b f g e = absurd (subst (BeginsNot P) (sym e) g a.0)
cut P (c ∷ s) (d ∷ t) x y a b f g e =
    let first : c ≡ d = cc in
    let rest = cut P s t x y a.1 b.1 f g (ap (drop 1) e) in
    (ap₂ ◌∷◌ first rest.0, rest.1)

-- ---- decimal texts

abbrev IsDigit : ℕ → Type 0
IsDigit c = (48 ≤ c) × (c ≤ 57)

-- a digit or a minus sign
abbrev IsOfNumber : ℕ → Type 0
IsOfNumber c = (45 ≤ c) × (c ≤ 57)

-- what literals are written with: neither a comma nor a parenthesis
abbrev IsOfLiteral : ℕ → Type 0
IsOfLiteral c = 45 ≤ c

digits-each : (s : List ℕ) → AllDigits 10 s → EachByte IsDigit s
digits-each [] h = tt
digits-each (c ∷ s) h = let d = digit_from_value c h.0 in (omega arith, digits-each s h.1)

decimal-digits : (n : ℕ) → n < 2 ^ 64 → EachByte IsDigit (decimal n)
decimal-digits n h = digits-each (decimal n) (decimal_is_IsNumeral n h).0.1

decimal-cut : (m n : ℕ) (x y : List ℕ) → m < 2 ^ 64 → n < 2 ^ 64 → BeginsNot IsDigit x → BeginsNot IsDigit y → decimal m ++ x ≡ decimal n ++ y → (m ≡ n) × (x ≡ y)
decimal-cut m n x y a b f g e =
    let h = cut IsDigit (decimal m) (decimal n) x y (decimal-digits m a) (decimal-digits n b) f g e in
    (decimal_injective m n a b h.0, h.1)

-- ---- texts of numbers

-- how far from 0 the numbers of the kinds may be
abbrev IsNarrow : ℤ → Type 0
IsNarrow (pos n) = n < 2 ^ 64
IsNarrow (negsuc n) = suc n < 2 ^ 64

narrow : (k : Kind) (z : ℤ) → InKind k z → IsNarrow z
narrow kinds.abstract_int (pos n) h = grind (arith, ints)
narrow kinds.abstract_int (negsuc n) h = grind (arith, ints)
narrow kinds.i32 (pos n) h = grind (arith, ints)
narrow kinds.i32 (negsuc n) h = grind (arith, ints)
narrow kinds.u32 (pos n) h = grind (arith, ints)
narrow kinds.u32 (negsuc n) h = grind (arith, ints)
narrow kinds.i64 (pos n) h = grind (arith, ints)
narrow kinds.i64 (negsuc n) h = grind (arith, ints)
narrow kinds.u64 (pos n) h = grind (arith, ints)
narrow kinds.u64 (negsuc n) h = grind (arith, ints)

decimal-of_number : (n : ℕ) → n < 2 ^ 64 → EachByte IsOfNumber (decimal n)
decimal-of_number n h = each_byte-like IsDigit IsOfNumber (decimal n) (λ c d. omega arith) (decimal-digits n h)

signed-of_number : (z : ℤ) → IsNarrow z → EachByte IsOfNumber (signed_decimal z)
signed-of_number (pos n) h = decimal-of_number n h
signed-of_number (negsuc n) h = (omega arith, decimal-of_number (suc n) h)

decimal-ne_minus : (n : ℕ) (s : List ℕ) → n < 2 ^ 64 → decimal n ≢ 45 ∷ s
decimal-ne_minus n s h e = let d = subst (EachByte IsDigit) e (decimal-digits n h) in omega (arith, d.0)

signed-injective : (y z : ℤ) → IsNarrow y → IsNarrow z → signed_decimal y ≡ signed_decimal z → y ≡ z
signed-injective (pos m) (pos n) a b e = ap pos (decimal_injective m n a b e)
signed-injective (pos m) (negsuc n) a b e = absurd (decimal-ne_minus m (decimal (suc n)) a e)
signed-injective (negsuc m) (pos n) a b e = absurd (decimal-ne_minus n (decimal (suc m)) b (sym e))
signed-injective (negsuc m) (negsuc n) a b e = ap negsuc (omega (arith, decimal_injective (suc m) (suc n) a b (ap (drop 1) e)))

signed-some : (z : ℤ) → IsNarrow z → signed_decimal z ≢ []
signed-some (pos n) h e = let k = (decimal_is_IsNumeral n h).0.0 in omega (arith, k, ap length e)
signed-some (negsuc n) h e = absurd cc

abbrev suffix : Kind → List ℕ
suffix kinds.abstract_int = []
suffix kinds.i32 = codes "i"
suffix kinds.u32 = codes "u"
suffix kinds.i64 = codes "li"
suffix kinds.u64 = codes "lu"

suffix-begins : (k : Kind) → BeginsNot IsOfNumber (suffix k)
suffix-begins kinds.abstract_int = tt
suffix-begins kinds.i32 = λ h. omega arith
suffix-begins kinds.u32 = λ h. omega arith
suffix-begins kinds.i64 = λ h. omega arith
suffix-begins kinds.u64 = λ h. omega arith

suffix-of_literal : (k : Kind) → EachByte IsOfLiteral (suffix k)
suffix-of_literal kinds.abstract_int = tt
suffix-of_literal kinds.i32 = omega arith
suffix-of_literal kinds.u32 = omega arith
suffix-of_literal kinds.i64 = omega arith
suffix-of_literal kinds.u64 = omega arith

suffix-injective : (j k : Kind) → suffix j ≡ suffix k → j ≡ k
suffix-injective kinds.abstract_int kinds.abstract_int e = refl
suffix-injective kinds.i32 kinds.i32 e = refl
suffix-injective kinds.u32 kinds.u32 e = refl
suffix-injective kinds.i64 kinds.i64 e = refl
suffix-injective kinds.u64 kinds.u64 e = refl
suffix-injective j k e =
    let byte : (i : ℕ) → get_or (suffix j) i 0 ≡ get_or (suffix k) i 0 = λ i. ap (λ s. get_or s i 0) e in
    absurd (omega (arith, byte 0, byte 1))

number-text : (k : Kind) (z : ℤ) → literal_text (number k z) ≡ signed_decimal z ++ suffix k
number-text kinds.abstract_int z = sym (append-nil (signed_decimal z))
number-text k z = refl

-- ---- texts of literals

-- literals that may be stored
pub record IsStoredLiteral (v : Val) : Type 0 where
  pub literal : IsLiteral v
  pub storable : IsStorable v

word-begins : (b : Bool) → BeginsNot IsOfNumber (literal_text (truth b))
word-begins true = λ h. omega arith
word-begins false = λ h. omega arith

word-apart : (b : Bool) (k : Kind) (z : ℤ) → InKind k z → literal_text (truth b) ≢ literal_text (number k z)
word-apart b k z h e =
    let near = narrow k z h in
    let none = (cut IsOfNumber [] (signed_decimal z) (literal_text (truth b)) (suffix k) tt (signed-of_number z near) (word-begins b) (suffix-begins k) (e ∙ number-text k z)).0 in
    signed-some z near (sym none)

truths-apart : (a b : Bool) → literal_text (truth a) ≡ literal_text (truth b) → a ≡ b
truths-apart true true e = refl
truths-apart true false e = absurd cc
truths-apart false true e = absurd cc
truths-apart false false e = refl

numbers-apart : (j k : Kind) (y z : ℤ) → InKind j y → InKind k z → literal_text (number j y) ≡ literal_text (number k z) → number j y ≡ number k z
numbers-apart j k y z a b e =
    let near_y = narrow j y a in
    let near_z = narrow k z b in
    let parts = cut IsOfNumber (signed_decimal y) (signed_decimal z) (suffix j) (suffix k) (signed-of_number y near_y) (signed-of_number z near_z) (suffix-begins j) (suffix-begins k)
    (sym (number-text j y) ∙ e ∙ number-text k z) in
    ap₂ number (suffix-injective j k parts.1) (signed-injective y z near_y near_z parts.0)

literal-injective : (v w : Val) → IsStoredLiteral v → IsStoredLiteral w → text_of_value v ≡ text_of_value w → v ≡ w
literal-injective (truth a) (truth b) g h e = ap truth (truths-apart a b e)
literal-injective (truth a) (number k z) g h e = absurd (word-apart a k z h.storable e)
literal-injective (number k z) (truth b) g h e = absurd (word-apart b k z g.storable (sym e))
literal-injective (number j y) (number k z) g h e = numbers-apart j k y z g.storable h.storable e
literal-injective (truth a) w g h e = absurd h.literal
literal-injective (number k z) w g h e = absurd h.literal
literal-injective v w g h e = absurd g.literal

literal-of_literal : (v : Val) → IsStoredLiteral v → EachByte IsOfLiteral (text_of_value v)
literal-of_literal (truth true) h = omega arith
literal-of_literal (truth false) h = omega arith
literal-of_literal (number k z) h =
    let signed = each_byte-like IsOfNumber IsOfLiteral (signed_decimal z) (λ c d. d.0) (signed-of_number z (narrow k z h.storable)) in
    subst (EachByte IsOfLiteral) (sym (number-text k z)) (each_byte-append IsOfLiteral (signed_decimal z) (suffix k) signed (suffix-of_literal k))
literal-of_literal v h = absurd h.literal

-- ---- texts of items

-- the texts of such values tell them apart, also before others that begin with a separator
abbrev TellsOn : (Val → Type 0) → Type 0
TellsOn P = (v w : Val) (x y : List ℕ) → P v → P w → BeginsNot IsOfLiteral x → BeginsNot IsOfLiteral y
    → text_of_value v ++ x ≡ text_of_value w ++ y → (v ≡ w) × (x ≡ y)

literals-tell : TellsOn IsStoredLiteral
literals-tell v w x y a b f g e =
    let h = cut IsOfLiteral (text_of_value v) (text_of_value w) x y (literal-of_literal v a) (literal-of_literal w b) f g e in
    (literal-injective v w a b h.0, h.1)

more-begins : (vs : Vals) (x : List ℕ) → BeginsNot IsOfLiteral (text_of_more_items vs ++ (codes ")" ++ x))
more-begins no_vals x = λ h. omega arith
more-begins (val v vs) x = λ h. omega arith

first-tells : (P : Val → Type 0) → TellsOn P → (v w : Val) (vs ws : Vals) (x y : List ℕ) → P v → P w
    → text_of_items (val v vs) ++ (codes ")" ++ x) ≡ text_of_items (val w ws) ++ (codes ")" ++ y)
    → (v ≡ w) × (text_of_more_items vs ++ (codes ")" ++ x) ≡ text_of_more_items ws ++ (codes ")" ++ y))
first-tells P tell v w vs ws x y a b e =
    tell v w _ _ a b (more-begins vs x) (more-begins ws y)
    (sym (append_assoc (text_of_value v) (text_of_more_items vs) (codes ")" ++ x)) ∙ e ∙ append_assoc (text_of_value w) (text_of_more_items ws) (codes ")" ++ y))

more-tell : (P : Val → Type 0) → TellsOn P → (vs ws : Vals) (x y : List ℕ) → Each P vs → Each P ws
    → text_of_more_items vs ++ (codes ")" ++ x) ≡ text_of_more_items ws ++ (codes ")" ++ y) → (vs ≡ ws) × (x ≡ y)
more-tell P tell no_vals no_vals x y a b e = (refl, ap (drop 1) e)
more-tell P tell no_vals (val w ws) x y a b e = absurd (omega (arith, ap (λ s. get_or s 0 0) e))
more-tell P tell (val v vs) no_vals x y a b e = absurd (omega (arith, ap (λ s. get_or s 0 0) e))
more-tell P tell (val v vs) (val w ws) x y a b e =
    let first = first-tells P tell v w vs ws x y a.0 b.0 (ap (drop 2) e) in
    let rest = more-tell P tell vs ws x y a.1 b.1 first.1 in
    (ap₂ val first.0 rest.0, rest.1)

items-tell : (P : Val → Type 0) → TellsOn P → (vs ws : Vals) (x y : List ℕ) → 0 < count vs → 0 < count ws → Each P vs → Each P ws
    → text_of_items vs ++ (codes ")" ++ x) ≡ text_of_items ws ++ (codes ")" ++ y) → (vs ≡ ws) × (x ≡ y)
items-tell P tell (val v vs) (val w ws) x y m n a b e =
    let first = first-tells P tell v w vs ws x y a.0 b.0 e in
    let rest = more-tell P tell vs ws x y a.1 b.1 first.1 in
    (ap₂ val first.0 rest.0, rest.1)
items-tell P tell no_vals ws x y m n a b e = absurd (omega arith)
items-tell P tell (val v vs) no_vals x y m n a b e = absurd (omega arith)

-- ---- texts of vectors

stored_literals : (vs : Vals) → AreLiterals vs → AreStorable vs → Each IsStoredLiteral vs
stored_literals no_vals l s = tt
stored_literals (val v vs) l s = (record { literal = l.0; storable = s.0 }, stored_literals vs l.1 s.1)

pub record IsStoredVector (v : Val) : Type 0 where
  pub vector : IsVector v
  pub storable : IsStorable v

-- the items in parentheses
abbrev in_parentheses : Vals → List ℕ
in_parentheses vs = codes "(" ++ (text_of_items vs ++ codes ")")

in_parentheses-tell : (P : Val → Type 0) → TellsOn P → (vs ws : Vals) (x y : List ℕ) → 2 ≤ count vs → 2 ≤ count ws → Each P vs → Each P ws
    → in_parentheses vs ++ x ≡ in_parentheses ws ++ y → (vs ≡ ws) × (x ≡ y)
in_parentheses-tell P tell vs ws x y m n a b e =
    items-tell P tell vs ws x y (omega arith) (omega arith) a b
    (sym (append_assoc (text_of_items vs) (codes ")") x) ∙ ap (drop 1) e ∙ append_assoc (text_of_items ws) (codes ")") y)

vectors-tell : TellsOn IsStoredVector
vectors-tell (vector vs) (vector ws) x y a b f g e =
    let counts = decimal-cut (count vs) (count ws) (in_parentheses vs ++ x) (in_parentheses ws ++ y) (omega (arith, a.storable.1)) (omega (arith, b.storable.1)) (λ d. omega arith) (λ d. omega arith)
    (sym (append_assoc (decimal (count vs)) (in_parentheses vs) x) ∙ ap (drop 3) e ∙ append_assoc (decimal (count ws)) (in_parentheses ws) y) in
    let items = in_parentheses-tell IsStoredLiteral literals-tell vs ws x y a.storable.0 b.storable.0 (stored_literals vs a.storable.2 a.storable.4) (stored_literals ws b.storable.2 b.storable.4) counts.1 in
    (ap vector items.0, items.1)
vectors-tell (vector vs) w x y a b f g e = absurd b.vector
vectors-tell v w x y a b f g e = absurd a.vector

-- ---- texts of matrices

stored_vectors : (vs : Vals) → AreVectors vs → AreStorable vs → Each IsStoredVector vs
stored_vectors no_vals l s = tt
stored_vectors (val v vs) l s = (record { vector = l.0; storable = s.0 }, stored_vectors vs l.1 s.1)

row_count-le : (vs : Vals) → Each IsStoredVector vs → row_count vs ≤ 4
row_count-le no_vals h = omega arith
row_count-le (val (vector vs) ws) h = omega (arith, h.0.storable.1)
row_count-le (val v ws) h = absurd h.0.vector

matrices-tell : (vs ws : Vals) → IsStorable (matrix vs) → IsStorable (matrix ws) → text_of_value (matrix vs) ≡ text_of_value (matrix ws) → vs ≡ ws
matrices-tell vs ws a b e =
    let columns_v = stored_vectors vs a.2 a.4 in
    let columns_w = stored_vectors ws b.2 b.4 in
    let columns = decimal-cut (count vs) (count ws) _ _ (omega (arith, a.1)) (omega (arith, b.1)) (λ d. omega arith) (λ d. omega arith) (ap (drop 3) e) in
    let rows = decimal-cut (row_count vs) (row_count ws) _ _ (omega (arith, row_count-le vs columns_v)) (omega (arith, row_count-le ws columns_w)) (λ d. omega arith) (λ d. omega arith) (ap (drop 1) columns.1) in
    (in_parentheses-tell IsStoredVector vectors-tell vs ws [] [] a.0 b.0 columns_v columns_w (ap (λ s. s ++ []) rows.1)).0

-- ---- texts of atomics

content-tells : (k : Kind) (y z : ℤ) → InKind k y → InKind k z → text_of_value (number k y) ++ codes ")" ≡ text_of_value (number k z) ++ codes ")" → number k y ≡ number k z
content-tells k y z a b e =
    (literals-tell (number k y) (number k z) (codes ")") (codes ")") (record { literal = tt; storable = a }) (record { literal = tt; storable = b }) (λ d. omega arith) (λ d. omega arith) e).0

atomics-tell : (v w : Val) → IsStorable (atomic_of v) → IsStorable (atomic_of w) → text_of_value (atomic_of v) ≡ text_of_value (atomic_of w) → v ≡ w
atomics-tell (number kinds.i32 y) (number kinds.i32 z) a b e = content-tells kinds.i32 y z a.1 b.1 (ap (drop 12) e)
atomics-tell (number kinds.u32 y) (number kinds.u32 z) a b e = content-tells kinds.u32 y z a.1 b.1 (ap (drop 12) e)
atomics-tell (number kinds.i32 y) (number kinds.u32 z) a b e = absurd (omega (arith, ap (λ s. get_or s 7 0) e))
atomics-tell (number kinds.u32 y) (number kinds.i32 z) a b e = absurd (omega (arith, ap (λ s. get_or s 7 0) e))
atomics-tell (number kinds.i32 y) w a b e = absurd b.0
atomics-tell (number kinds.u32 y) w a b e = absurd b.0
atomics-tell v w a b e = absurd a.0

-- ---- the law

stored_literal : (v : Val) → IsLiteral v → IsWellFormed v → IsStoredLiteral v
stored_literal (truth b) k h = record { literal = k; storable = h }
stored_literal (number k z) l h = record { literal = l; storable = h }
stored_literal v k h = absurd k

pub literals_apart : TextsTellApart IsLiteral
literals_apart v w k l g h = (literal-injective v w (stored_literal v k g) (stored_literal w l h), ap text_of_value)

pub vectors_apart : TextsTellApart IsVector
vectors_apart (vector vs) (vector ws) k l g h =
    (λ e. (vectors-tell (vector vs) (vector ws) [] [] (record { vector = tt; storable = g }) (record { vector = tt; storable = h }) tt tt (ap (λ s. s ++ []) e)).0, ap text_of_value)
vectors_apart (vector vs) w k l g h = absurd l
vectors_apart v w k l g h = absurd k

pub matrices_apart : TextsTellApart IsMatrix
matrices_apart (matrix vs) (matrix ws) k l g h = (λ e. ap matrix (matrices-tell vs ws g h e), ap text_of_value)
matrices_apart (matrix vs) w k l g h = absurd l
matrices_apart v w k l g h = absurd k

pub atomics_apart : TextsTellApart IsAtomic
atomics_apart (atomic_of v) (atomic_of w) k l g h = (λ e. ap atomic_of (atomics-tell v w g h e), ap text_of_value)
atomics_apart (atomic_of v) w k l g h = absurd l
atomics_apart v w k l g h = absurd k
