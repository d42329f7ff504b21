-- What is no type, and what is a structure.
use Rattle.std.specs.declared.alloc.AllocError.{AllocError}
use Rattle.std.proofs.Common.{◌≡◌, ◌∙◌, ◌+◌, ◌-◌, ◌≤◌, ◌<◌, ◌⊎◌, inl, inr, ℕ, Bool, true, false, ◌||◌, List, [], ◌∷◌, ◌++◌, Option, Some, None, Result, Ok, Err, IfOk, length, map, refl, sym, ap, subst}
use Rattle.std.specs.Prelude.{IsSomeAnd, slice_get}
use Rattle.std.proofs.lemmas.List.{length-map, map-append}
use Rattle.wgsl_rules.specs.Types.{struct}
use Rattle.wgsl_rules.specs.View.{«Field» as Member, fields_of, member_view}
use Rattle.wgsl_rules.specs.declared.ty.StructMemberType.{StructMemberType}
use Rattle.wgsl_source.specs.Readings.{word_at}
use Rattle.wgsl_source.specs.declared.module.Field.{Field}
use Rattle.wgsl_eval.proofs.Told.{all_pushed}
use Rattle.std.specs.Option.{option_and_then}
use Rattle.wgsl_apply.specs.Literals.{natural_of}
use Rattle.wgsl_values.specs.View.{value_of}
use Rattle.wgsl_source.specs.declared.expression.Span.{Span}
use Rattle.wgsl_eval.proofs.Answered.{fault-answer}
use Rattle.wgsl_eval.specs.declared.answer.Skip.{Skip}
use Rattle.wgsl_eval.specs.declared.attribute.Attribute.{Attribute}
use Rattle.wgsl_eval.specs.declared.attribute.Attribute.TheVariants as attributes
use Rattle.wgsl_eval.specs.Answers.{IsFault, IsNoType, value_in}
use Rattle.wgsl_eval.specs.Evaluators.{Setting}
use Rattle.wgsl_eval.specs.Lists.{AllFrom}
use Rattle.wgsl_eval.specs.Reasons.{has_floats, have_floats}
use Rattle.wgsl_eval.specs.Runs.{IsFound}
use Rattle.wgsl_eval.specs.Structures.{IsAttribute, IsMember, IsMemberAt, IsNoMember, IsNoNumber, IsNone, IsNotGiven, IsNumberGiven, IsNumberOf, IsStructure, IsStructureOf, IsWithout}
use Rattle.wgsl_eval.specs.declared.answer.Answer.{Answer}
use Rattle.wgsl_eval.specs.declared.answer.Answer.TheVariants as answers
use Rattle.wgsl_eval.specs.declared.sized.SizedType.{SizedType}
use Rattle.wgsl_eval.specs.declared.answer.Value.{Value}
use Rattle.wgsl_eval.specs.declared.variable.Variable.{Variable}

pub fault-nothing : (a : Answer) → IsFault a → IsNone a
fault-nothing (answers.Wrong m g) h = tt
fault-nothing a h = absurd h

pub faults-nothing : (r : Result Answer AllocError) → IfOk r IsFault → IfOk r IsNone
faults-nothing (Ok a) h = fault-nothing a h
faults-nothing (Err e) h = tt

-- a value, `bitcast` and a variable are faults where a type belongs
pub fault-no_type : (a : Answer) (r : Result Answer AllocError)
    → ((v : Value) × (a ≡ answers.Value v)) ⊎ (((t : SizedType) × (a ≡ answers.Bitcast t)) ⊎ ((v : Variable) × (a ≡ answers.Variable v)))
    → IfOk r IsFault → IfOk r (IsNoType a)
fault-no_type a (Err x) is h = tt
fault-no_type a (Ok b) (inl w) h = let P : Answer → Type 0 = λ x. IsNoType x b in subst P (sym w.1) h
fault-no_type a (Ok b) (inr (inl w)) h = let P : Answer → Type 0 = λ x. IsNoType x b in subst P (sym w.1) h
fault-no_type a (Ok b) (inr (inr w)) h = let P : Answer → Type 0 = λ x. IsNoType x b in subst P (sym w.1) h

-- what is no type is none
no_type-nothing : (a b : Answer) → ((t : SizedType) → a ≡ answers.Type t → ⊥) → IsNoType a b → IsNone b
no_type-nothing (answers.Type t) b n h = absurd (n t refl)
no_type-nothing (answers.Value v) b n h = fault-nothing b h
no_type-nothing (answers.Bitcast t) b n h = fault-nothing b h
no_type-nothing (answers.Variable v) b n h = fault-nothing b h
no_type-nothing (answers.Skipped s) b n h = let P : Answer → Type 0 = λ x. IsNone x in subst P (sym h) tt
no_type-nothing (answers.Wrong m g) b n h = let P : Answer → Type 0 = λ x. IsNone x in subst P (sym h) tt
no_type-nothing (answers.Named k) b n h = let P : Answer → Type 0 = λ x. IsNone x in subst P (sym h) tt
no_type-nothing answers.Faulty b n h = let P : Answer → Type 0 = λ x. IsNone x in subst P (sym h) tt

pub no_types-nothing : (a : Answer) (r : Result Answer AllocError) → ((t : SizedType) → a ≡ answers.Type t → ⊥) → IfOk r (IsNoType a) → IfOk r IsNone
no_types-nothing a (Ok b) n h = no_type-nothing a b n h
no_types-nothing a (Err e) n h = tt

-- ---- structures

nothing-structure : (s : Setting) (name first end : ℕ) (a : Answer) → IsNone a → IsFault a ⊎ IsWithout s first end a → IsStructure s name first end a
nothing-structure s name first end (answers.Type t) h k = absurd h
nothing-structure s name first end (answers.Value v) h k = absurd h
nothing-structure s name first end (answers.Named n) h k = (h, k)
nothing-structure s name first end (answers.Bitcast t) h k = absurd h
nothing-structure s name first end (answers.Variable v) h k = absurd h
nothing-structure s name first end (answers.Skipped s0) h k = (h, k)
nothing-structure s name first end (answers.Wrong m g) h k = (h, k)
nothing-structure s name first end answers.Faulty h k = (h, k)

pub faults-structure : (s : Setting) (name first end : ℕ) (r : Result Answer AllocError) → IfOk r IsFault → IfOk r (IsStructure s name first end)
faults-structure s name first end (Ok a) h = nothing-structure s name first end a (fault-nothing a h) (inl h)
faults-structure s name first end (Err e) h = tt

-- a member is none
pub member-none : (s t : Setting) (name first end n : ℕ) (o : Option Field) (f : Field) (a : Answer) → t ≡ s → o ≡ slice_get t.source.fields n → o ≡ Some f → first ≤ n → n < end
    → IsNone a → IsNoMember t f a → IsStructure s name first end a
member-none s t name first end n o f a same got is from to none h =
    let P : Setting → Type 0 = λ u. IsNoMember u f a in
    let Q : Option Field → Type 0 = λ q. IsSomeAnd q (λ g. IsNoMember s g a) in
    let found : Some f ≡ slice_get s.source.fields n = sym is ∙ got ∙ ap (λ (u : Setting). slice_get u.source.fields n) same in
    nothing-structure s name first end a none (inr (n, from, to, subst Q found (subst P same h)))

-- the structure of the members that are there
structured : (s : Setting) (name first end : ℕ) (word : List ℕ) (ms : List Member) (a : Answer) → word ≡ word_at s.source name → length ms ≡ end - first
    → AllFrom (IsMemberAt s) first ms → IsStructureOf word ms a → IsStructure s name first end a
structured s name first end word ms (answers.Type t) e c m h = (ms, h ∙ ap (λ w. struct w (fields_of ms)) e, c, m)
structured s name first end word ms (answers.Wrong k g) e c m h = (tt, inl h)
structured s name first end word ms a e c m h = absurd h

pub structures : (s : Setting) (name first end : ℕ) (word : List ℕ) (ms : List Member) (r : Result Answer AllocError) → word ≡ word_at s.source name
    → length ms ≡ end - first → AllFrom (IsMemberAt s) first ms → IfOk r (IsStructureOf word ms) → IfOk r (IsStructure s name first end)
structures s name first end word ms (Ok a) e c m h = structured s name first end word ms a e c m h
structures s name first end word ms (Err x) e c m h = tt

-- ---- members

member_at : (s t : Setting) (n k : ℕ) (o : Option Field) (f : Field) (m : Member) → t ≡ s → o ≡ slice_get t.source.fields n → o ≡ Some f → n ≡ k
    → IsMember t f m → IsMemberAt s k m
member_at s t n k o f m same got is e h =
    let P : Setting → Type 0 = λ u. IsMember u f m in
    let Q : Option Field → Type 0 = λ q. IsSomeAnd q (λ g. IsMember s g m) in
    let found : Some f ≡ slice_get s.source.fields k = sym is ∙ got ∙ ap (λ (u : Setting). slice_get u.source.fields n) same ∙ ap (slice_get s.source.fields) e in
    subst Q found (subst P same h)

pub members_pushed : (s t : Setting) (first n : ℕ) (ms all : List StructMemberType) (m : StructMemberType) (o : Option Field) (f : Field) → t ≡ s
    → o ≡ slice_get t.source.fields n → o ≡ Some f → IsMember t f (member_view m) → n ≡ first + length ms → all ≡ ms ++ m ∷ []
    → AllFrom (IsMemberAt s) first (map member_view ms) → AllFrom (IsMemberAt s) first (map member_view all)
members_pushed s t first n ms all m o f same got is h e put before =
    let P : List Member → Type 0 = λ xs. AllFrom (IsMemberAt s) first xs in
    let count : n ≡ first + length (map member_view ms) = e ∙ ap (λ k. first + k) (sym (length-map ms member_view)) in
    let mapped : map member_view ms ++ member_view m ∷ [] ≡ map member_view all = sym (map-append member_view ms (m ∷ [])) ∙ ap (map member_view) (sym put) in
    subst P mapped (all_pushed (IsMemberAt s) first (map member_view ms) (member_view m) before (member_at s t n _ o f (member_view m) same got is count h))

or-false : (b : Bool) → b || false ≡ b
or-false true = refl
or-false false = refl

or-in : (a b c : Bool) → (a || b) || c ≡ a || (b || c)
or-in true b c = refl
or-in false b c = refl

floats_last : (ms : List StructMemberType) (m : StructMemberType)
    → have_floats (fields_of (map member_view ms)) || has_floats (member_view m).ty ≡ have_floats (fields_of (map member_view (ms ++ m ∷ [])))
floats_last [] m = sym (or-false (has_floats (member_view m).ty))
floats_last (n ∷ ms) m =
    or-in (has_floats (member_view n).ty) (have_floats (fields_of (map member_view ms))) (has_floats (member_view m).ty)
    ∙ ap (λ x. has_floats (member_view n).ty || x) (floats_last ms m)

-- floats are in a structure where they are in a member
pub floats_more : (ms all : List StructMemberType) (m : StructMemberType) (b c d : Bool) → all ≡ ms ++ m ∷ [] → b ≡ have_floats (fields_of (map member_view ms)) → c ≡ has_floats (member_view m).ty
    → d ≡ (b || c) → d ≡ have_floats (fields_of (map member_view all))
floats_more ms all m b c d put h k e =
    let P : List StructMemberType → Type 0 = λ xs. d ≡ have_floats (fields_of (map member_view xs)) in
    subst P (sym put) (e ∙ ap (λ x. x || c) h ∙ ap (λ x. have_floats (fields_of (map member_view ms)) || x) k ∙ floats_last ms m)

-- ---- attributes

-- what is no number and stays
pub other_number : (a b : Answer) → b ≡ a → value_in a ≡ None → ((s : Skip) → a ≡ answers.Skipped s → ⊥) → ((v : Variable) → a ≡ answers.Variable v → ⊥) → ((t : SizedType) → a ≡ answers.Type t → ⊥)
    → ((t : SizedType) → a ≡ answers.Bitcast t → ⊥) → IsNoNumber a b
other_number (answers.Value v) b e none n1 n2 n3 n4 = absurd (cc)
other_number (answers.Skipped s) b e none n1 n2 n3 n4 = absurd (n1 s refl)
other_number (answers.Variable v) b e none n1 n2 n3 n4 = absurd (n2 v refl)
other_number (answers.Type t) b e none n1 n2 n3 n4 = absurd (n3 t refl)
other_number (answers.Bitcast t) b e none n1 n2 n3 n4 = absurd (n4 t refl)
other_number (answers.Named k) b e none n1 n2 n3 n4 = e
other_number (answers.Wrong m g) b e none n1 n2 n3 n4 = e
other_number answers.Faulty b e none n1 n2 n3 n4 = e

-- the number that a value is, or a fault
pub number_attribute : (s : Setting) (o : Option Span) (span : Span) (valid : ℕ → Bool) (a : Answer) (v : Value) (r : Result Attribute AllocError) → o ≡ Some span → IsFound s span a
    → a ≡ answers.Value v → IfOk r (IsNumberOf (value_of v.instance) valid) → IfOk r (IsAttribute s o valid)
number_attribute s o span valid a v (Err e) is found k h = tt
number_attribute s o span valid a v (Ok (attributes.Number n)) is found k h =
    let P : Option Span → Type 0 = λ q. IsNumberGiven s q valid n in
    subst P (sym is) (a, found, ap (λ x. option_and_then natural_of (value_in x)) k ∙ h.0, h.1)
number_attribute s o span valid a v (Ok (attributes.Other b)) is found k h =
    let P : Option Span → Type 0 = λ q. IsNotGiven s q b in
    let Q : Answer → Type 0 = λ x. IsNoNumber x b in
    (fault-answer b h, fault-nothing b h, subst P (sym is) (a, found, subst Q (sym k) h))
