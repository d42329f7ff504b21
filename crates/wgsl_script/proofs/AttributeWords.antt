-- The attributes in front of a member, by where their brackets stand.
use Rattle.std.proofs.Common.{◌≡◌, ◌≢◌, ℕ, List, [], ◌∷◌, ◌++◌, get_or, Option, Some, None, IfSome, MatchOption, option_and_then, refl, sym, ◌∙◌, ap, subst, arith, codes, Bor}
use Rattle.std.proofs.lemmas.Str.Pattern.{IsSplitOnceResult, split_after}
use Rattle.wgsl_script.specs.Words.{IsCount, number}
use Rattle.wgsl_script.specs.Attributes.{BeginsWith, BeginsWithAll, opening, number_in, with_one, with_all}
use Rattle.wgsl_script.specs.declared.attributes.Attribute.{Attribute}
use Rattle.wgsl_script.specs.declared.attributes.Attribute.TheVariants.{Align, Size}
use Rattle.wgsl_script.specs.declared.attributes.Attributes.{Attributes}
use Rattle.wgsl_script.proofs.Splits.{Lacks, lacks_tested, lacks-append, digits_lack, one_split}

-- what stands before the `(` (40)
abbrev pub keyword : Attribute → List ℕ
keyword (Align n) = codes "@align"
keyword (Size n) = codes "@size"

keyword_lacks : (a : Attribute) → Lacks 40 (keyword a)
keyword_lacks (Align n) = lacks_tested 40 (codes "@align") refl refl
keyword_lacks (Size n) = lacks_tested 40 (codes "@size") refl refl

opening_lacks : (a : Attribute) → Lacks 41 (opening a)
opening_lacks (Align n) = lacks_tested 41 (codes "@align(") refl refl
opening_lacks (Size n) = lacks_tested 41 (codes "@size(") refl refl

opened : (a : Attribute) (digits : List ℕ) → opening a ++ digits ≡ keyword a ++ (40 ∷ digits)
opened (Align n) digits = refl
opened (Size n) digits = refl

-- what stands before the `)` (41)
closed : (a : Attribute) (digits rest : List ℕ) → opening a ++ (digits ++ (41 ∷ rest)) ≡ (keyword a ++ (40 ∷ digits)) ++ (41 ∷ rest)
closed (Align n) digits rest = refl
closed (Size n) digits rest = refl

front_lacks : (a : Attribute) (digits : List ℕ) → IsCount digits → Lacks 41 (keyword a ++ (40 ∷ digits))
front_lacks a digits is = subst (Lacks 41) (opened a digits) (lacks-append 41 (opening a) digits (opening_lacks a) (digits_lack 41 digits (omega arith) is.0.0.1))

front_of : (word : List ℕ) (a : Attribute) (rest : List ℕ) (b : BeginsWith word a rest) → word ≡ (keyword a ++ (40 ∷ b.digits)) ++ (41 ∷ rest)
front_of word a rest b = b.is ∙ closed a b.digits rest

-- where the word is split
pub begins_split : (word : List ℕ) (a : Attribute) (rest : List ℕ) (b : BeginsWith word a rest) (r : Option (Bor (List ℕ) × Bor (List ℕ))) → IsSplitOnceResult 41 word r → MatchOption r ⊥ (λ x. (x.0.now ≡ keyword a ++ (40 ∷ b.digits)) × (x.1.now ≡ rest))
begins_split word a rest b r h = split_after 41 word (keyword a ++ (40 ∷ b.digits)) rest r h (omega arith) (front_of word a rest b) (front_lacks a b.digits b.is_count)

pub begins_keyword : (front : List ℕ) (a : Attribute) (digits : List ℕ) → front ≡ keyword a ++ (40 ∷ digits) → (r : Option (Bor (List ℕ) × Bor (List ℕ))) → IsSplitOnceResult 40 front r → MatchOption r ⊥ (λ x. (x.0.now ≡ keyword a) × (x.1.now ≡ digits))
begins_keyword front a digits e r h = split_after 40 front (keyword a) digits r h (omega arith) e (keyword_lacks a)

-- an attribute that is found
pub found : (a : Attribute) (word front rest name digits : List ℕ) → word ≡ front ++ (41 ∷ rest) → front ≡ name ++ (40 ∷ digits) → name ≡ keyword a → IsCount digits → number digits ≡ number_in a → BeginsWith word a rest
found a word front rest name digits at_end at_start named is gives =
    record {
      digits = digits;
      is_count = is;
      gives = gives;
      is = at_end ∙ ap (λ (v : List ℕ). v ++ (41 ∷ rest)) (at_start ∙ ap (λ (v : List ℕ). v ++ (40 ∷ digits)) named) ∙ sym (closed a digits rest);
    }

-- what is no attribute
pub no_align : (name digits : List ℕ) → name ≡ codes "@align" → ¬ IsCount digits → (a : Attribute) (given : List ℕ) → name ≡ keyword a → digits ≡ given → ¬ IsCount given
no_align name digits named none (Align n) given e f is = none (subst IsCount (sym f) is)
no_align name digits named none (Size n) given e f is = let h : codes "@align" ≡ codes "@size" = sym named ∙ e in cc

pub no_size : (name digits : List ℕ) → name ≡ codes "@size" → ¬ IsCount digits → (a : Attribute) (given : List ℕ) → name ≡ keyword a → digits ≡ given → ¬ IsCount given
no_size name digits named none (Size n) given e f is = none (subst IsCount (sym f) is)
no_size name digits named none (Align n) given e f is = let h : codes "@size" ≡ codes "@align" = sym named ∙ e in cc

pub no_keyword : (name : List ℕ) → name ≢ codes "@align" → name ≢ codes "@size" → (a : Attribute) → name ≢ keyword a
no_keyword name no_align no_size (Align n) = no_align
no_keyword name no_align no_size (Size n) = no_size

-- one attribute stands at the front
same_attribute : (a b : Attribute) → keyword a ≡ keyword b → number_in a ≡ number_in b → a ≡ b
same_attribute (Align m) (Align n) e f = ap Align f
same_attribute (Align m) (Size n) e f = let h : codes "@align" ≡ codes "@size" = e in cc
same_attribute (Size m) (Align n) e f = let h : codes "@size" ≡ codes "@align" = e in cc
same_attribute (Size m) (Size n) e f = ap Size f

pub begins_once : (word : List ℕ) (a b : Attribute) (x y : List ℕ) → BeginsWith word a x → BeginsWith word b y → (a ≡ b) × (x ≡ y)
begins_once word a b x y p q =
    let whole = one_split 41 (keyword a ++ (40 ∷ p.digits)) x (keyword b ++ (40 ∷ q.digits)) y (sym (front_of word a x p) ∙ front_of word b y q) (front_lacks a p.digits p.is_count) (front_lacks b q.digits q.is_count) in
    let front = one_split 40 (keyword a) p.digits (keyword b) q.digits whole.0 (keyword_lacks a) (keyword_lacks b) in
    (same_attribute a b front.0 (sym p.gives ∙ ap number front.1 ∙ q.gives), whole.1)

-- what begins with an attribute begins with an `@` (64)
begins_at : (word : List ℕ) (a : Attribute) (rest : List ℕ) → BeginsWith word a rest → get_or word 0 0 ≡ 64
begins_at word (Align n) rest b = ap (λ (v : List ℕ). get_or v 0 0) b.is
begins_at word (Size n) rest b = ap (λ (v : List ℕ). get_or v 0 0) b.is

-- a word without attributes
pub none_more : (word : List ℕ) (given : Attributes) → get_or word 0 0 ≢ 64 → (more : List Attribute) × BeginsWithAll word more word × (with_all more given ≡ Some given)
none_more word given plain = ([], (refl, plain), refl)

-- a word with one, and then those of the rest
pub one_more : (word : List ℕ) (a : Attribute) (after rest : List ℕ) (given next all : Attributes) → BeginsWith word a after → with_one a given ≡ Some next → (more : List Attribute) × BeginsWithAll after more rest × (with_all more next ≡ Some all) → (more : List Attribute) × BeginsWithAll word more rest × (with_all more given ≡ Some all)
one_more word a after rest given next all begins gives (more, more_begin, more_give) =
    (a ∷ more, (after, begins, more_begin), ap (option_and_then (with_all more)) gives ∙ more_give)

-- an `@` that begins no attribute
pub bad_front : (word : List ℕ) (given : Attributes) → get_or word 0 0 ≡ 64 → ((a : Attribute) (after : List ℕ) → ¬ BeginsWith word a after) → (more : List Attribute) (rest : List ℕ) → BeginsWithAll word more rest → with_all more given ≡ None
bad_front word given at none [] rest (is, plain) = absurd (plain (sym (ap (λ (v : List ℕ). get_or v 0 0) is) ∙ at))
bad_front word given at none (a ∷ more) rest (after, begins, more_begin) = absurd (none a after begins)

-- a second one of a kind
pub bad_kind : (word : List ℕ) (a : Attribute) (after : List ℕ) (given : Attributes) → BeginsWith word a after → with_one a given ≡ None → (more : List Attribute) (rest : List ℕ) → BeginsWithAll word more rest → with_all more given ≡ None
bad_kind word a after given begins none [] rest (is, plain) = absurd (plain (sym (ap (λ (v : List ℕ). get_or v 0 0) is) ∙ begins_at word a after begins))
bad_kind word a after given begins none (b ∷ more) rest (behind, other, more_begin) =
    let same : a ≡ b = (begins_once word a b after behind begins other).0 in
    ap (option_and_then (with_all more)) (subst (λ (v : Attribute). with_one v given ≡ None) same none)

-- one that may stand, and then what may not
pub bad_rest : (word : List ℕ) (a : Attribute) (after : List ℕ) (given next : Attributes) → BeginsWith word a after → with_one a given ≡ Some next → ((more : List Attribute) (rest : List ℕ) → BeginsWithAll after more rest → with_all more next ≡ None) → (more : List Attribute) (rest : List ℕ) → BeginsWithAll word more rest → with_all more given ≡ None
bad_rest word a after given next begins gives none [] rest (is, plain) = absurd (plain (sym (ap (λ (v : List ℕ). get_or v 0 0) is) ∙ begins_at word a after begins))
bad_rest word a after given next begins gives none (b ∷ more) rest (behind, other, more_begin) =
    let same = begins_once word a b after behind begins other in
    let first : with_one b given ≡ Some next = subst (λ (v : Attribute). with_one v given ≡ Some next) same.0 gives in
    let others : with_all more next ≡ None = none more rest (subst (λ (v : List ℕ). BeginsWithAll v more rest) (sym same.1) more_begin) in
    ap (option_and_then (with_all more)) first ∙ others

-- the same of what is found in the rest
pub more_some : (word : List ℕ) (a : Attribute) (after : List ℕ) (given next : Attributes) → BeginsWith word a after → with_one a given ≡ Some next → (r : Option (Attributes × Bor (List ℕ))) → IfSome r (λ split. (more : List Attribute) × BeginsWithAll after more split.1.now × (with_all more next ≡ Some split.0)) → IfSome r (λ split. (more : List Attribute) × BeginsWithAll word more split.1.now × (with_all more given ≡ Some split.0))
more_some word a after given next begins gives None h = tt
more_some word a after given next begins gives (Some split) h = one_more word a after split.1.now given next split.0 begins gives h
