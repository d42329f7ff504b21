-- The words for types: what stands before a `<` and behind it, and that each tells its type.
use Rattle.std.proofs.Common.{◌≡◌, ◌≢◌, ℕ, List, [], ◌∷◌, ◌++◌, get_or, eqb, cond, true, false, Option, Some, None, IfSome, IsNone, refl, sym, ◌∙◌, ap, subst, arith, append_assoc, Bor}
use Rattle.std.proofs.lemmas.List.{append_cancel_right}
use Rattle.std.proofs.lemmas.Str.Pattern.{IsSplitOnceResult, split_parts, split_after}
use Rattle.wgsl_script.specs.TypeWords.{IsTemplate, IsPlain, plain_text, scalar_text, template_text}
use Rattle.wgsl_script.specs.declared.type_words.Scalar.{Scalar}
use Rattle.wgsl_script.specs.declared.type_words.Scalar.TheVariants.{I32, U32, I64, U64}
use Rattle.wgsl_script.specs.declared.type_words.Dimension.{Dimension}
use Rattle.wgsl_script.specs.declared.type_words.Dimension.TheVariants.{Two, Three, Four}
use Rattle.wgsl_script.specs.declared.type_words.Template.{Template}
use Rattle.wgsl_script.specs.declared.type_words.Template.TheVariants as templates
use Rattle.wgsl_script.specs.declared.type_words.Plain.{Plain}
use Rattle.wgsl_script.specs.declared.type_words.Plain.TheVariants as plains
use Rattle.wgsl_script.proofs.Splits.{Lacks, lacks_tested, lacks_not, one_split}

-- a text that ends with `>` (62), by what stands before that
pub front_of : (word name inner : List ℕ) → IsTemplate word name inner → word ≡ (name ++ (60 ∷ inner)) ++ (62 ∷ [])
front_of word name inner t = t.is ∙ sym (append_assoc name (60 ∷ inner) (62 ∷ []))

pub split_some : (word front : List ℕ) (r : Option (Bor (List ℕ) × Bor (List ℕ))) → word ≡ front ++ (62 ∷ []) → IsSplitOnceResult 60 front r → IfSome r (λ x. IsTemplate word x.0.now x.1.now)
split_some word front None e h = tt
split_some word front (Some x) e h =
    let parts = split_parts 60 front (Some x) h (omega arith) in
    record {
      is = (e ∙ ap (λ (v : List ℕ). v ++ (62 ∷ [])) parts.0) ∙ append_assoc x.0.now (60 ∷ x.1.now) (62 ∷ []);
      first = parts.1;
    }

pub split_none : (word front : List ℕ) (r : Option (Bor (List ℕ) × Bor (List ℕ))) → word ≡ front ++ (62 ∷ []) → IsSplitOnceResult 60 front r → IsNone r → (name inner : List ℕ) → ¬ IsTemplate word name inner
split_none word front None e h none name inner t =
    let is : front ++ (62 ∷ []) ≡ (name ++ (60 ∷ inner)) ++ (62 ∷ []) = sym e ∙ front_of word name inner t in
    split_after 60 front name inner None h (omega arith) (append_cancel_right front (name ++ (60 ∷ inner)) (62 ∷ []) is) t.first
split_none word front (Some x) e h none name inner t = let not_so : true ≡ false = none in cc

-- a word has one name before its first `<`
pub template_unique : (word n i m j : List ℕ) → IsTemplate word n i → IsTemplate word m j → (n ≡ m) × (i ≡ j)
template_unique word n i m j t u =
    let split = one_split 60 n (i ++ (62 ∷ [])) m (j ++ (62 ∷ [])) (sym t.is ∙ u.is) t.first u.first in
    (split.0, append_cancel_right i j (62 ∷ []) split.1)

-- the names hold no `<`, and neither do the scalars
template_lacks : (t : Template) → Lacks 60 (template_text t)
template_lacks templates.Atomic = lacks_tested 60 (template_text templates.Atomic) refl refl
template_lacks (templates.Vec Two) = lacks_tested 60 (template_text (templates.Vec Two)) refl refl
template_lacks (templates.Vec Three) = lacks_tested 60 (template_text (templates.Vec Three)) refl refl
template_lacks (templates.Vec Four) = lacks_tested 60 (template_text (templates.Vec Four)) refl refl
template_lacks (templates.Mat Two Two) = lacks_tested 60 (template_text (templates.Mat Two Two)) refl refl
template_lacks (templates.Mat Two Three) = lacks_tested 60 (template_text (templates.Mat Two Three)) refl refl
template_lacks (templates.Mat Two Four) = lacks_tested 60 (template_text (templates.Mat Two Four)) refl refl
template_lacks (templates.Mat Three Two) = lacks_tested 60 (template_text (templates.Mat Three Two)) refl refl
template_lacks (templates.Mat Three Three) = lacks_tested 60 (template_text (templates.Mat Three Three)) refl refl
template_lacks (templates.Mat Three Four) = lacks_tested 60 (template_text (templates.Mat Three Four)) refl refl
template_lacks (templates.Mat Four Two) = lacks_tested 60 (template_text (templates.Mat Four Two)) refl refl
template_lacks (templates.Mat Four Three) = lacks_tested 60 (template_text (templates.Mat Four Three)) refl refl
template_lacks (templates.Mat Four Four) = lacks_tested 60 (template_text (templates.Mat Four Four)) refl refl

scalar_lacks : (s : Scalar) → Lacks 60 (scalar_text s)
scalar_lacks I32 = lacks_tested 60 (scalar_text I32) refl refl
scalar_lacks U32 = lacks_tested 60 (scalar_text U32) refl refl
scalar_lacks I64 = lacks_tested 60 (scalar_text I64) refl refl
scalar_lacks U64 = lacks_tested 60 (scalar_text U64) refl refl

-- the text of a type is the template of its name
of_template : (word : List ℕ) (t : Template) (s : Scalar) → word ≡ plain_text (plains.Of t s) → IsTemplate word (template_text t) (scalar_text s)
of_template word t s e = record { is = e; first = template_lacks t }

scalar_is_none : (word name inner : List ℕ) (s : Scalar) → word ≡ scalar_text s → ¬ IsTemplate word name inner
scalar_is_none word name inner s e t =
    lacks_not 60 name (inner ++ (62 ∷ [])) (subst (Lacks 60) (sym e ∙ t.is) (scalar_lacks s))

-- a type's text read back
dimension_at : ℕ → Dimension
dimension_at c = cond (eqb c 50) Two (cond (eqb c 51) Three Four)

template_at : List ℕ → Template
template_at xs = cond (eqb (get_or xs 0 0) 97) templates.Atomic (cond (eqb (get_or xs 0 0) 118) (templates.Vec (dimension_at (get_or xs 3 0))) (templates.Mat (dimension_at (get_or xs 3 0)) (dimension_at (get_or xs 5 0))))

scalar_at : List ℕ → Scalar
scalar_at xs = cond (eqb (get_or xs 0 0) 105) (cond (eqb (get_or xs 1 0) 51) I32 I64) (cond (eqb (get_or xs 1 0) 51) U32 U64)

template_back : (t : Template) → template_at (template_text t) ≡ t
unfolding template_at dimension_at
template_back templates.Atomic = refl
template_back (templates.Vec Two) = refl
template_back (templates.Vec Three) = refl
template_back (templates.Vec Four) = refl
template_back (templates.Mat Two Two) = refl
template_back (templates.Mat Two Three) = refl
template_back (templates.Mat Two Four) = refl
template_back (templates.Mat Three Two) = refl
template_back (templates.Mat Three Three) = refl
template_back (templates.Mat Three Four) = refl
template_back (templates.Mat Four Two) = refl
template_back (templates.Mat Four Three) = refl
template_back (templates.Mat Four Four) = refl

scalar_back : (s : Scalar) → scalar_at (scalar_text s) ≡ s
unfolding scalar_at
scalar_back I32 = refl
scalar_back U32 = refl
scalar_back I64 = refl
scalar_back U64 = refl

template_injective : (t u : Template) → template_text t ≡ template_text u → t ≡ u
template_injective t u e = sym (template_back t) ∙ ap template_at e ∙ template_back u

scalar_injective : (s r : Scalar) → scalar_text s ≡ scalar_text r → s ≡ r
scalar_injective s r e = sym (scalar_back s) ∙ ap scalar_at e ∙ scalar_back r

-- words that name no type: by their name, by what stands inside, or by both
pub other_name : (word name inner : List ℕ) → IsTemplate word name inner → ((t : Template) → name ≢ template_text t) → (plain : Plain) → word ≢ plain_text plain
other_name word name inner is none (plains.Scalar s) e = scalar_is_none word name inner s e is
other_name word name inner is none (plains.Of t s) e = none t (template_unique word name inner (template_text t) (scalar_text s) is (of_template word t s e)).0

pub other_inner : (word name inner : List ℕ) → IsTemplate word name inner → ((s : Scalar) → inner ≢ scalar_text s) → (plain : Plain) → word ≢ plain_text plain
other_inner word name inner is none (plains.Scalar s) e = scalar_is_none word name inner s e is
other_inner word name inner is none (plains.Of t s) e = none s (template_unique word name inner (template_text t) (scalar_text s) is (of_template word t s e)).1

pub other_type : (word name inner : List ℕ) (t : Template) (s : Scalar) → IsTemplate word name inner → name ≡ template_text t → inner ≡ scalar_text s → ¬ IsPlain (plains.Of t s) → (plain : Plain) → IsPlain plain → word ≢ plain_text plain
other_type word name inner t s is named held none (plains.Scalar r) plain e = scalar_is_none word name inner r e is
other_type word name inner t s is named held none (plains.Of u r) plain e =
    let both = template_unique word name inner (template_text u) (scalar_text r) is (of_template word u r e) in
    let same_template : u ≡ t = template_injective u t (sym both.0 ∙ named) in
    let same_scalar : r ≡ s = scalar_injective r s (sym both.1 ∙ held) in
    none (subst (λ (v : Scalar). IsPlain (plains.Of t v)) same_scalar (subst (λ (v : Template). IsPlain (plains.Of v r)) same_template plain))

-- a word without a `<` and a `>` that is no scalar
pub no_scalar : (word : List ℕ) → ((name inner : List ℕ) → ¬ IsTemplate word name inner) → ((s : Scalar) → word ≢ scalar_text s) → (plain : Plain) → word ≢ plain_text plain
no_scalar word whole none (plains.Scalar s) e = none s e
no_scalar word whole none (plains.Of t s) e = whole (template_text t) (scalar_text s) (of_template word t s e)

-- a word that names a type
pub typed : (word name inner : List ℕ) (t : Template) (s : Scalar) → IsTemplate word name inner → name ≡ template_text t → inner ≡ scalar_text s → (r : Option Plain) → IfSome r (λ plain. (plain ≡ plains.Of t s) × IsPlain plain) → IfSome r (λ plain. IsPlain plain × (word ≡ plain_text plain))
typed word name inner t s is named held None h = tt
typed word name inner t s is named held (Some plain) h =
    let at_name : word ≡ template_text t ++ (60 ∷ (inner ++ (62 ∷ []))) = subst (λ (v : List ℕ). word ≡ v ++ (60 ∷ (inner ++ (62 ∷ [])))) named is.is in
    let whole : word ≡ plain_text (plains.Of t s) = subst (λ (v : List ℕ). word ≡ template_text t ++ (60 ∷ (v ++ (62 ∷ [])))) held at_name in
    (h.1, subst (λ (v : Plain). word ≡ plain_text v) (sym h.0) whole)
