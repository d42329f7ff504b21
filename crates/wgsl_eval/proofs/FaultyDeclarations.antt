-- What a declaration tells: a fault, or that one of its expressions is to blame.
use Rattle.std.proofs.Common.{◌≡◌, ◌≤◌, ◌+◌, ◌-◌, ◌<◌, ◌⊎◌, inl, inr, ℕ, zero, suc, List, [], ◌∷◌, ◌++◌, length, take, drop, Option, Some, None, refl, sym, subst, arith}
use Rattle.std.specs.Prelude.{Any, IsSomeAnd, flat_map, option_to_list, slice_get, slice_index_or, slice_range}
use Rattle.wgsl_rules.specs.Converted.{converted}
use Rattle.wgsl_rules.specs.Values.{Val, type_of}
use Rattle.wgsl_rules.specs.View.{type_view}
use Rattle.wgsl_scalar.specs.Literals.{literal_of}
use Rattle.wgsl_source.specs.Readings.{word_at}
use Rattle.wgsl_source.specs.declared.expression.Span.{Span}
use Rattle.wgsl_source.specs.declared.module.Declared.{Declared}
use Rattle.wgsl_source.specs.declared.module.Declared.TheVariants as declareds
use Rattle.wgsl_source.specs.declared.module.DeclaredVariable.{DeclaredVariable}
use Rattle.wgsl_source.specs.declared.module.Field.{Field}
use Rattle.wgsl_values.specs.View.{value_of}
use Rattle.wgsl_eval.specs.Answers.{IsFault, IsSkippedFor, IsUnready, IsValueWith}
use Rattle.wgsl_eval.specs.Evaluators.{Setting}
use Rattle.wgsl_eval.specs.Faulty.{IsBlamed, IsFaultyAt, spans_of, spans_of_field}
use Rattle.wgsl_eval.specs.Meanings.{IsBesideType, IsConcrete, IsConcreteValue, IsConstant, IsDeclared, IsGivenValue, IsInTypeOf, IsOfType, IsOverride, IsOverrideNamed, IsOwnValue, IsTyped, IsTypedBy, IsWhereType, IsWithheld, is_first}
use Rattle.wgsl_eval.specs.Overrides.{given_for}
use Rattle.wgsl_eval.specs.Reasons.{has_floats}
use Rattle.wgsl_eval.specs.Runs.{IsFound}
use Rattle.wgsl_eval.specs.Structures.{IsNoMember, IsNoNumber, IsNoVariable, IsNotGiven, IsNotTyped, IsStructure, IsVariable, IsWithout}
use Rattle.wgsl_eval.specs.declared.answer.Answer.{Answer}
use Rattle.wgsl_eval.specs.declared.answer.Answer.TheVariants as answers
use Rattle.wgsl_eval.specs.declared.answer.Need.TheVariants as needs
use Rattle.wgsl_eval.proofs.FaultyAnswers.{Tells, TellsOne, TellsValue, fault-tells, no_type-tells, of_bool, of_option, same-one, same-value, skipped-tells, tells-map, unready-tells, value-one, with-tells}
use Rattle.wgsl_eval.proofs.FaultyRuns.{any-here, any-there, found-tells}

-- ---- one of a list

pub any-left : {X : Type 0} (P : X → Type 0) (xs ys : List X) → Any P xs → Any P (xs ++ ys)
any-left {X} P xs ys h = go xs h.0 h.1 h.2 h.3 h.4
  where
    go : (xs : List X) (k : ℕ) (x : X) → k < length xs → slice_index_or xs k x ≡ x → P x → Any P (xs ++ ys)
    go [] k x within e p = absurd (omega arith)
    go (z ∷ zs) zero x within e p = any-here P z (zs ++ ys) (let Q : X → Type 0 = λ w. P w in subst Q (sym e) p)
    go (z ∷ zs) (suc k) x within e p = any-there P z (zs ++ ys) (go zs k x (let more : suc k < suc (length zs) = within in omega arith) e p)

pub any-right : {X : Type 0} (P : X → Type 0) (xs ys : List X) → Any P ys → Any P (xs ++ ys)
any-right P [] ys h = h
any-right P (x ∷ xs) ys h = any-there P x (xs ++ ys) (any-right P xs ys h)

any-flat : {X Y : Type 0} (P : Y → Type 0) (g : X → List Y) (xs : List X) (first count n : ℕ) (x : X) → first ≤ n → n < first + count → slice_get xs n ≡ Some x
    → Any P (g x) → Any P (flat_map g (take count (drop first xs)))
any-flat P g [] first count n x low high e h = absurd (cc)
any-flat P g (z ∷ zs) (suc first) count zero x low high e h = absurd (omega arith)
any-flat P g (z ∷ zs) (suc first) count (suc n) x low high e h =
    any-flat P g zs first count n x (omega arith) (let more : suc n < suc first + count = high in omega arith) e h
any-flat P g (z ∷ zs) zero zero n x low high e h = absurd (omega arith)
any-flat {X} P g (z ∷ zs) zero (suc count) zero x low high e h =
    let same : x ≡ z = cc in
    let Q : X → Type 0 = λ w. Any P (g w) in
    any-left P (g z) (flat_map g (take count zs)) (subst Q same h)
any-flat P g (z ∷ zs) zero (suc count) (suc n) x low high e h =
    any-right P (g z) (flat_map g (take count zs)) (any-flat P g zs zero count n x (omega arith) (omega arith) e h)

-- ---- answers

one-map : (R S : Type 0) (a : Answer) → (R → S) → TellsOne R a → TellsOne S a
one-map R S (answers.Bitcast t) f h = f h
one-map R S (answers.Named n) f h = f h
one-map R S answers.Faulty f h = f h
one-map R S (answers.Wrong m g) f h = h
one-map R S (answers.Value v) f h = tt
one-map R S (answers.Type t) f h = tt
one-map R S (answers.Variable v) f h = tt
one-map R S (answers.Skipped s) f h = tt

value-map : (R S : Type 0) (a : Answer) → (R → S) → TellsValue R a → TellsValue S a
value-map R S (answers.Bitcast t) f h = f h
value-map R S (answers.Named n) f h = f h
value-map R S answers.Faulty f h = f h
value-map R S (answers.Type t) f h = f h
value-map R S (answers.Variable v) f h = f h
value-map R S (answers.Wrong m g) f h = h
value-map R S (answers.Value v) f h = tt
value-map R S (answers.Skipped s) f h = tt

-- a value in the type that is given
of_type-tells : (R : Type 0) (v : Val) (t a : Answer) → IsOfType v t a → Tells R t → TellsValue R a
of_type-tells R v (answers.Type t) a h l =
    of_bool (has_floats (type_view t.ty)) (IsSkippedFor needs.Float a) (IsValueWith (λ w. converted v (type_view t.ty) ≡ Some w) a) (TellsValue R a) h
    (skipped-tells R needs.Float a) (with-tells R (λ w. converted v (type_view t.ty) ≡ Some w) a)
of_type-tells R v (answers.Value w) a h l = fault-tells R a h
of_type-tells R v (answers.Bitcast t) a h l = fault-tells R a h
of_type-tells R v (answers.Variable w) a h l = fault-tells R a h
of_type-tells R v (answers.Skipped s) a h l = same-value R (answers.Skipped s) a h tt
of_type-tells R v (answers.Wrong m g) a h l = same-value R (answers.Wrong m g) a h l
of_type-tells R v (answers.Named n) a h l = same-value R (answers.Named n) a h l
of_type-tells R v answers.Faulty a h l = same-value R answers.Faulty a h l

-- what stands where its type is one
where_type-tells : (R : Type 0) (x t a : Answer) → IsWhereType x t a → Tells R t → TellsValue R x → TellsValue R a
where_type-tells R x (answers.Type t) a h l own = same-value R x a h own
where_type-tells R x (answers.Value w) a h l own = fault-tells R a h
where_type-tells R x (answers.Bitcast t) a h l own = fault-tells R a h
where_type-tells R x (answers.Variable w) a h l own = fault-tells R a h
where_type-tells R x (answers.Skipped s) a h l own = same-value R (answers.Skipped s) a h tt
where_type-tells R x (answers.Wrong m g) a h l own = same-value R (answers.Wrong m g) a h l
where_type-tells R x (answers.Named n) a h l own = same-value R (answers.Named n) a h l
where_type-tells R x answers.Faulty a h l own = same-value R answers.Faulty a h l

withheld-tells : (R : Type 0) (x a : Answer) → IsWithheld x a → TellsValue R x → TellsValue R a
withheld-tells R (answers.Wrong m g) a h l = same-value R (answers.Wrong m g) a h l
withheld-tells R answers.Faulty a h l = same-value R answers.Faulty a h l
withheld-tells R (answers.Value v) a h l = skipped-tells R needs.Override a h
withheld-tells R (answers.Named n) a h l = skipped-tells R needs.Override a h
withheld-tells R (answers.Type t) a h l = skipped-tells R needs.Override a h
withheld-tells R (answers.Bitcast t) a h l = skipped-tells R needs.Override a h
withheld-tells R (answers.Variable v) a h l = skipped-tells R needs.Override a h
withheld-tells R (answers.Skipped s) a h l = skipped-tells R needs.Override a h

concrete_value-tells : (R : Type 0) (v : Val) (a : Answer) → IsConcreteValue v a → TellsValue R a
concrete_value-tells R v (answers.Value w) h = tt
concrete_value-tells R v (answers.Wrong m g) h = h
concrete_value-tells R v a h = absurd h

concrete-tells : (R : Type 0) (x a : Answer) → IsConcrete x a → TellsValue R x → TellsValue R a
concrete-tells R (answers.Value v) a h l = concrete_value-tells R (value_of v.instance) a h
concrete-tells R (answers.Named n) a h l = same-value R (answers.Named n) a h l
concrete-tells R (answers.Type t) a h l = same-value R (answers.Type t) a h l
concrete-tells R (answers.Bitcast t) a h l = same-value R (answers.Bitcast t) a h l
concrete-tells R (answers.Variable v) a h l = same-value R (answers.Variable v) a h l
concrete-tells R (answers.Skipped s) a h l = same-value R (answers.Skipped s) a h l
concrete-tells R (answers.Wrong m g) a h l = same-value R (answers.Wrong m g) a h l
concrete-tells R answers.Faulty a h l = same-value R answers.Faulty a h l

in_type_of-tells : (R : Type 0) (v : Val) (x a : Answer) → IsInTypeOf v x a → TellsValue R x → TellsValue R a
in_type_of-tells R v (answers.Value w) a h l = with-tells R (λ y. converted v (type_of (value_of w.instance)) ≡ Some y) a h
in_type_of-tells R v (answers.Named n) a h l = same-value R (answers.Named n) a h l
in_type_of-tells R v (answers.Type t) a h l = same-value R (answers.Type t) a h l
in_type_of-tells R v (answers.Bitcast t) a h l = same-value R (answers.Bitcast t) a h l
in_type_of-tells R v (answers.Variable w) a h l = same-value R (answers.Variable w) a h l
in_type_of-tells R v (answers.Skipped s) a h l = same-value R (answers.Skipped s) a h l
in_type_of-tells R v (answers.Wrong m g) a h l = same-value R (answers.Wrong m g) a h l
in_type_of-tells R v answers.Faulty a h l = same-value R answers.Faulty a h l

no_number-tells : (R : Type 0) (x a : Answer) → IsNoNumber x a → Tells R x → TellsOne R a
no_number-tells R (answers.Skipped s) a h l =
    elim h [
      | inl fault ↦ value-one R a (fault-tells R a fault)
      | inr skipped ↦ let P : Answer → Type 0 = λ y. TellsOne R y in subst P (sym skipped.1) tt
    ]
no_number-tells R (answers.Value v) a h l = value-one R a (fault-tells R a h)
no_number-tells R (answers.Variable v) a h l = value-one R a (fault-tells R a h)
no_number-tells R (answers.Type t) a h l = value-one R a (fault-tells R a h)
no_number-tells R (answers.Bitcast t) a h l = value-one R a (fault-tells R a h)
no_number-tells R (answers.Wrong m g) a h l = same-one R (answers.Wrong m g) a h l
no_number-tells R (answers.Named n) a h l = same-one R (answers.Named n) a h l
no_number-tells R answers.Faulty a h l = same-one R answers.Faulty a h l

-- ---- declarations

module _ (s : Setting) where
  -- one of these expressions is to blame
  abbrev pub OneBlamed : List Span → Type 0
  OneBlamed = Any (IsBlamed s.source (IsFaultyAt s))

  left : (xs ys : List Span) → OneBlamed xs → OneBlamed (xs ++ ys)
  left xs ys h = any-left (IsBlamed s.source (IsFaultyAt s)) xs ys h

  right : (xs ys : List Span) → OneBlamed ys → OneBlamed (xs ++ ys)
  right xs ys h = any-right (IsBlamed s.source (IsFaultyAt s)) xs ys h

  one : (span : Span) (x : Answer) → IsFound s span x → Tells (OneBlamed (span ∷ [])) x
  one span x h =
      tells-map (IsBlamed s.source (IsFaultyAt s) span) (OneBlamed (span ∷ [])) x (any-here (IsBlamed s.source (IsFaultyAt s)) span []) (found-tells s span x h)

  typed_by-tells : (ty : Span) (v : Val) (a : Answer) → IsTypedBy s ty v a → TellsValue (OneBlamed (ty ∷ [])) a
  typed_by-tells ty v a h = of_type-tells (OneBlamed (ty ∷ [])) v h.0 a h.2 (one ty h.0 h.1)

  beside_type-tells : (ty : Span) (x a : Answer) → IsBesideType s ty x a → TellsValue (OneBlamed (ty ∷ [])) x → TellsValue (OneBlamed (ty ∷ [])) a
  beside_type-tells ty x a h l = where_type-tells (OneBlamed (ty ∷ [])) x h.0 a h.2 (one ty h.0 h.1) l

  -- what is no value
  untyped-tells : (ty : Option Span) (value : Span) (x a : Answer) → IsFound s value x → IsUnready x a → TellsValue (OneBlamed (option_to_list ty ++ value ∷ [])) a
  untyped-tells ty value x a found h =
      let all = OneBlamed (option_to_list ty ++ value ∷ []) in
      unready-tells all x a h (tells-map (OneBlamed (value ∷ [])) all x (right (option_to_list ty) (value ∷ [])) (one value x found))

  typed-tells : (ty : Option Span) (value : Span) (x a : Answer) → IsFound s value x → IsTyped s ty x a → TellsValue (OneBlamed (option_to_list ty ++ value ∷ [])) a
  typed-tells (Some ty) value (answers.Value v) a found h =
      value-map (OneBlamed (ty ∷ [])) (OneBlamed (ty ∷ value ∷ [])) a (left (ty ∷ []) (value ∷ [])) (typed_by-tells ty (value_of v.instance) a h)
  typed-tells (Some ty) value (answers.Named n) a found h = untyped-tells (Some ty) value (answers.Named n) a found h
  typed-tells (Some ty) value (answers.Type t) a found h = untyped-tells (Some ty) value (answers.Type t) a found h
  typed-tells (Some ty) value (answers.Bitcast t) a found h = untyped-tells (Some ty) value (answers.Bitcast t) a found h
  typed-tells (Some ty) value (answers.Variable v) a found h = untyped-tells (Some ty) value (answers.Variable v) a found h
  typed-tells (Some ty) value (answers.Skipped k) a found h =
      value-map (OneBlamed (ty ∷ [])) (OneBlamed (ty ∷ value ∷ [])) a (left (ty ∷ []) (value ∷ [])) (beside_type-tells ty (answers.Skipped k) a h tt)
  typed-tells (Some ty) value (answers.Wrong m g) a found h = untyped-tells (Some ty) value (answers.Wrong m g) a found h
  typed-tells (Some ty) value answers.Faulty a found h = untyped-tells (Some ty) value answers.Faulty a found h
  typed-tells None value x a found h = untyped-tells None value x a found h

  constant-tells : (ty : Option Span) (value : Span) (a : Answer) → IsConstant s ty value a → TellsValue (OneBlamed (option_to_list ty ++ value ∷ [])) a
  constant-tells ty value a h = typed-tells ty value h.0 a h.1 h.2

  own_value-tells : (ty : Option Span) (value : Span) (a : Answer) → IsOwnValue s ty value a → TellsValue (OneBlamed (option_to_list ty ++ value ∷ [])) a
  own_value-tells ty value a h = concrete-tells (OneBlamed (option_to_list ty ++ value ∷ [])) h.0 a h.2 (constant-tells ty value h.0 h.1)

  own-tells : (ty : Option Span) (value : Span) (a : Answer) → IsOverride s ty (Some value) a → TellsValue (OneBlamed (option_to_list ty ++ value ∷ [])) a
  own-tells ty value a h =
      let all = OneBlamed (option_to_list ty ++ value ∷ []) in
      let own = own_value-tells ty value h.0 h.1 in
      of_bool (is_first s.stage) (IsWithheld h.0 a) (a ≡ h.0) (TellsValue all a) h.2
      (λ withheld. withheld-tells all h.0 a withheld own) (λ same. same-value all h.0 a same own)

  override-tells : (ty value : Option Span) (a : Answer) → IsOverride s ty value a → TellsValue (OneBlamed (option_to_list ty ++ option_to_list value)) a
  override-tells None None a h = fault-tells (OneBlamed []) a h
  override-tells (Some ty) None a h = beside_type-tells ty h.0 a h.2 (skipped-tells (OneBlamed (ty ∷ [])) needs.Override h.0 h.1)
  override-tells None (Some value) a h = own-tells None value a h
  override-tells (Some ty) (Some value) a h = own-tells (Some ty) value a h

  given_value-tells : (ty value : Option Span) (v : Val) (a : Answer) → IsGivenValue s ty value v a → TellsValue (OneBlamed (option_to_list ty ++ option_to_list value)) a
  given_value-tells (Some ty) value v a h =
      value-map (OneBlamed (ty ∷ [])) (OneBlamed (ty ∷ option_to_list value)) a (left (ty ∷ []) (option_to_list value)) (typed_by-tells ty v a h)
  given_value-tells None (Some value) v a h = in_type_of-tells (OneBlamed (value ∷ [])) v h.0 a h.2 (own_value-tells None value h.0 h.1)
  given_value-tells None None v a h = fault-tells (OneBlamed []) a h

  override_named-tells : (name : ℕ) (ty value : Option Span) (a : Answer) → IsOverrideNamed s name ty value a
      → TellsValue (OneBlamed (option_to_list ty ++ option_to_list value)) a
  override_named-tells name ty value a h =
      of_option (given_for s.given (word_at s.source name)) (IsOverride s ty value a) (λ v. IsGivenValue s ty value (literal_of v) a)
      (TellsValue (OneBlamed (option_to_list ty ++ option_to_list value)) a) h
      (λ none own. override-tells ty value a own) (λ v some from. given_value-tells ty value (literal_of v) a from)

  not_given-tells : (o : Option Span) (a : Answer) → IsNotGiven s o a → TellsOne (OneBlamed (option_to_list o)) a
  not_given-tells None a h = absurd h
  not_given-tells (Some span) a h = no_number-tells (OneBlamed (span ∷ [])) h.0 a h.2 (one span h.0 h.1)

  not_typed-tells : (span : Span) (a : Answer) → IsNotTyped s span a → TellsOne (OneBlamed (span ∷ [])) a
  not_typed-tells span a h = no_type-tells (OneBlamed (span ∷ [])) h.0 a h.2 (one span h.0 h.1)

  numbers-tell : (o p : Option Span) (a : Answer) → IsNotGiven s o a ⊎ IsNotGiven s p a → TellsOne (OneBlamed (option_to_list o ++ option_to_list p)) a
  numbers-tell o p a h =
      let all = OneBlamed (option_to_list o ++ option_to_list p) in
      elim h [
        | inl first ↦ one-map (OneBlamed (option_to_list o)) all a (left (option_to_list o) (option_to_list p)) (not_given-tells o a first)
        | inr second ↦ one-map (OneBlamed (option_to_list p)) all a (right (option_to_list o) (option_to_list p)) (not_given-tells p a second)
      ]

  no_variable-tells : (d : DeclaredVariable) (a : Answer) → IsNoVariable s d a
      → TellsOne (OneBlamed (option_to_list d.ty ++ (option_to_list d.group ++ option_to_list d.binding))) a
  no_variable-tells d a h =
      let numbers = option_to_list d.group ++ option_to_list d.binding in
      let all = OneBlamed (option_to_list d.ty ++ numbers) in
      of_option d.ty (IsSkippedFor needs.Variable a) (λ span. IsFault a ⊎ (IsNotTyped s span a ⊎ (IsNotGiven s d.group a ⊎ IsNotGiven s d.binding a)))
      (TellsOne all a) h
      (λ none skipped. value-one all a (skipped-tells all needs.Variable a skipped))
      (λ span some why. elim why [
        | inl fault ↦ value-one all a (fault-tells all a fault)
        | inr other ↦ elim other [
          | inl ty ↦
              let P : Option Span → Type 0 = λ o. TellsOne (OneBlamed (option_to_list o ++ numbers)) a in
              subst P (sym some) (one-map (OneBlamed (span ∷ [])) (OneBlamed (span ∷ numbers)) a (left (span ∷ []) numbers) (not_typed-tells span a ty))
          | inr number ↦ one-map (OneBlamed numbers) all a (right (option_to_list d.ty) numbers) (numbers-tell d.group d.binding a number)
        ]
      ])

  variable-tells : (d : DeclaredVariable) (a : Answer) → IsVariable s d a
      → TellsOne (OneBlamed (option_to_list d.ty ++ (option_to_list d.group ++ option_to_list d.binding))) a
  variable-tells d (answers.Variable v) h = tt
  variable-tells d (answers.Named n) h = no_variable-tells d (answers.Named n) h.1
  variable-tells d (answers.Bitcast t) h = no_variable-tells d (answers.Bitcast t) h.1
  variable-tells d (answers.Value v) h = tt
  variable-tells d (answers.Type t) h = tt
  variable-tells d (answers.Skipped k) h = tt
  variable-tells d (answers.Wrong m g) h = no_variable-tells d (answers.Wrong m g) h.1
  variable-tells d answers.Faulty h = no_variable-tells d answers.Faulty h.1

  no_member-tells : (f : Field) (a : Answer) → IsNoMember s f a → TellsOne (OneBlamed (spans_of_field f)) a
  no_member-tells f a h =
      let numbers = option_to_list f.size ++ option_to_list f.align in
      elim h [
        | inl ty ↦ one-map (OneBlamed (f.ty ∷ [])) (OneBlamed (spans_of_field f)) a (left (f.ty ∷ []) numbers) (not_typed-tells f.ty a ty)
        | inr number ↦ one-map (OneBlamed numbers) (OneBlamed (spans_of_field f)) a (right (f.ty ∷ []) numbers) (numbers-tell f.size f.align a number)
      ]

  field-at : (o : Option Field) (P : Field → Type 0) → IsSomeAnd o P → (f : Field) × (o ≡ Some f) × P f
  field-at None P h = absurd h
  field-at (Some f) P h = (f, refl, h)

  -- the expressions of the members of these numbers
  abbrev pub member_spans : ℕ → ℕ → List Span
  member_spans first end = flat_map spans_of_field (slice_range s.source.fields first end)

  without-tells : (first end : ℕ) (a : Answer) → IsWithout s first end a → TellsOne (OneBlamed (member_spans first end)) a
  without-tells first end a h =
      let n : ℕ = h.0 in
      let low : first ≤ n = h.1 in
      let high : n < end = h.2 in
      let field = field-at (slice_get s.source.fields n) (λ f. IsNoMember s f a) h.3 in
      one-map (OneBlamed (spans_of_field field.0)) (OneBlamed (member_spans first end)) a
      (any-flat (IsBlamed s.source (IsFaultyAt s)) spans_of_field s.source.fields first (end - first) n field.0 low (omega arith) field.1)
      (no_member-tells field.0 a field.2)

  no_structure-tells : (first end : ℕ) (a : Answer) → IsFault a ⊎ IsWithout s first end a → TellsOne (OneBlamed (member_spans first end)) a
  no_structure-tells first end a h =
      elim h [
        | inl fault ↦ value-one (OneBlamed (member_spans first end)) a (fault-tells (OneBlamed (member_spans first end)) a fault)
        | inr without ↦ without-tells first end a without
      ]

  structure-tells : (name first end : ℕ) (a : Answer) → IsStructure s name first end a → TellsOne (OneBlamed (member_spans first end)) a
  structure-tells name first end (answers.Type t) h = tt
  structure-tells name first end (answers.Named n) h = no_structure-tells first end (answers.Named n) h.1
  structure-tells name first end (answers.Bitcast t) h = no_structure-tells first end (answers.Bitcast t) h.1
  structure-tells name first end (answers.Value v) h = tt
  structure-tells name first end (answers.Variable v) h = tt
  structure-tells name first end (answers.Skipped k) h = tt
  structure-tells name first end (answers.Wrong m g) h = no_structure-tells first end (answers.Wrong m g) h.1
  structure-tells name first end answers.Faulty h = no_structure-tells first end answers.Faulty h.1

  -- a declaration is a fault, or one of its expressions is to blame where it is faulty
  pub declared-tells : (name : ℕ) (d : Declared) (a : Answer) → IsDeclared s name (Some d) a → TellsOne (OneBlamed (spans_of s.source (Some d))) a
  declared-tells name (declareds.Const ty value) a h = value-one (OneBlamed (option_to_list ty ++ value ∷ [])) a (constant-tells ty value a h)
  declared-tells name (declareds.Override ty value) a h =
      value-one (OneBlamed (option_to_list ty ++ option_to_list value)) a (override_named-tells name ty value a h)
  declared-tells name (declareds.Alias ty) a h = no_type-tells (OneBlamed (ty ∷ [])) h.0 a h.2 (one ty h.0 h.1)
  declared-tells name (declareds.Variable v) a h = variable-tells v a h
  declared-tells name declareds.Function a h = value-one (OneBlamed []) a (skipped-tells (OneBlamed []) needs.Function a h)
  declared-tells name (declareds.Struct first end) a h = structure-tells name first end a h

  -- one that may have a value has one, is skipped or is a fault, or else one of its expressions is to blame
  pub const-tells : (name : ℕ) (ty : Option Span) (value : Span) (a : Answer) → IsDeclared s name (Some (declareds.Const ty value)) a
      → TellsValue (OneBlamed (spans_of s.source (Some (declareds.Const ty value)))) a
  const-tells name ty value a h = constant-tells ty value a h

  pub overridden-tells : (name : ℕ) (ty value : Option Span) (a : Answer) → IsDeclared s name (Some (declareds.Override ty value)) a
      → TellsValue (OneBlamed (spans_of s.source (Some (declareds.Override ty value)))) a
  overridden-tells name ty value a h = override_named-tells name ty value a h
