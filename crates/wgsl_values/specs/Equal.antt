-- `same_value` tells whether two values are the same, and so do the tests of views and signatures: each
-- is an equivalence.
use Rattle.std.proofs.Common.{◌≡◌, ◌∙◌, ℕ, List, [], ◌∷◌, Option, Some, None, Bool, IsTrue, ◌↔◌, refl, sym, ap, rules}
use Rattle.std.specs.Bool.{Decides}
use Rattle.std.specs.Cmp.{IsEquivalence, booleans_Decides}
use Rattle.std.specs.Cmp.Lexicographic.{pointwise}
use Rattle.std.specs.Option.{option_eq}
use Rattle.std.proofs.lemmas.Bool.Decides.{Decides-and, Decides-like, Decides-eqb, Decides-int_eq, same_from_decides}
use Rattle.std.proofs.lemmas.Cmp.{on_equiv}
use Rattle.std.proofs.lemmas.Slice.Eq.{bytes_eq-Decides, slice_eq-Decides}
use Rattle.wgsl_rules.specs.Equal.{one, two, no, space_decided, access_decided, format_decided, same-Decides}
use Rattle.wgsl_rules.specs.Kinds as kinds
use Rattle.wgsl_rules.specs.Kinds.{Kind}
use Rattle.wgsl_rules.specs.Types.{Ty}
use Rattle.wgsl_rules.specs.Values.{Step, member, index, Reference, Val, truth, number, record_of, array_of, vector, matrix, atomic_of, pointer, reference, deferred, Vals, no_vals, val, type_of}
use Rattle.wgsl_rules.specs.declared.syntax.AddressSpace.{AddressSpace}
use Rattle.wgsl_rules.specs.declared.syntax.AccessMode.{AccessMode}
use Rattle.wgsl_rules.specs.declared.syntax.Enumerant.{Enumerant}
use Rattle.wgsl_rules.specs.declared.syntax.Enumerant.TheVariants as enumerants
use Rattle.wgsl_values.specs.Same.{same_kind, same_steps, same_reference, same_value, same_values, same_enumerant, same_param, same_signature}
use Rattle.wgsl_values.specs.Signatures.{Param, of_type, of_value, of_enumerant, Signature, param_view, signature_view}
use Rattle.wgsl_values.specs.View.{value_of, array_view, atomic_view, mat_view, struct_view, vec_view, ptr_view, ref_view, steps_of}

-- what decides whether two are the same is an equivalence
equiv_from_Decides : {A : Type 0} (eq : A → A → Bool) → ((a b : A) → Decides (eq a b) (a ≡ b)) → IsEquivalence eq
equiv_from_Decides eq d = record {
  refl = λ a. (d a a).1 refl;
  symm = λ a b. same_from_decides (eq a b) (eq b a) (d a b) (Decides-like (eq b a) (λ p. sym p) (λ p. sym p) (d b a));
  congr = λ a b c h. let e = (d a b).0 h in ap (λ x. eq x c) e;
}

kind-Decides : (j k : Kind) → Decides (same_kind j k) (j ≡ k)
kind-Decides kinds.abstract_int kinds.abstract_int = (λ p. refl, λ p. refl)
kind-Decides kinds.abstract_int k = no (λ p. cc)
kind-Decides kinds.i32 kinds.i32 = (λ p. refl, λ p. refl)
kind-Decides kinds.i32 k = no (λ p. cc)
kind-Decides kinds.u32 kinds.u32 = (λ p. refl, λ p. refl)
kind-Decides kinds.u32 k = no (λ p. cc)
kind-Decides kinds.i64 kinds.i64 = (λ p. refl, λ p. refl)
kind-Decides kinds.i64 k = no (λ p. cc)
kind-Decides kinds.u64 kinds.u64 = (λ p. refl, λ p. refl)
kind-Decides kinds.u64 k = no (λ p. cc)

steps-Decides : (ss ts : List Step) → Decides (same_steps ss ts) (ss ≡ ts)
steps-Decides [] [] = (λ p. refl, λ p. refl)
steps-Decides [] (t ∷ ts) = no (λ p. cc)
steps-Decides (member n ∷ ss) (member m ∷ ts) = two (bytes_eq-Decides n m) (steps-Decides ss ts) (λ p. cc) (λ p. (cc, cc))
steps-Decides (member n ∷ ss) ts = no (λ p. cc)
steps-Decides (index i ∷ ss) (index j ∷ ts) = two (Decides-eqb i j) (steps-Decides ss ts) (λ p. cc) (λ p. (cc, cc))
steps-Decides (index i ∷ ss) ts = no (λ p. cc)

abbrev made : ℕ → List Step → Ty → AddressSpace → AccessMode → Reference
made c v t s a = record { cell = c; view = v; ty = t; space = s; access = a }

same_references : (r s : Reference) → r.cell ≡ s.cell → r.view ≡ s.view → type_of (reference r) ≡ type_of (reference s) → r ≡ s
same_references r s c v t =
    let ty : r.ty ≡ s.ty = cc in
    let space : r.space ≡ s.space = cc in
    let access : r.access ≡ s.access = cc in
    ap (λ x. made x r.view r.ty r.space r.access) c ∙ ap (λ x. made s.cell x r.ty r.space r.access) v ∙ ap (λ x. made s.cell s.view x r.space r.access) ty ∙ ap (λ x. made s.cell s.view s.ty x r.access) space ∙ ap (made s.cell s.view s.ty s.space) access

reference-Decides : (r s : Reference) → Decides (same_reference r s) (r ≡ s)
reference-Decides r s =
    let typed = same-Decides (type_of (reference r)) (type_of (reference s)) in
    let viewed = Decides-and (same_steps r.view s.view) _ (steps-Decides r.view s.view) typed in
    two (Decides-eqb r.cell s.cell) viewed (λ p. same_references r s p.0 p.1.0 p.1.1)
    (λ p. (ap (λ x. x.cell) p, (ap (λ x. x.view) p, ap (λ x. type_of (reference x)) p)))

mutual
  pub same_value-Decides : (v w : Val) → Decides (same_value v w) (v ≡ w)
  same_value-Decides (truth a) (truth b) = one (booleans_Decides a b) (λ p. cc) (λ p. cc)
  same_value-Decides (truth a) w = no (λ p. cc)
  same_value-Decides (number j y) (number k z) = two (kind-Decides j k) (Decides-int_eq y z) (λ p. cc) (λ p. (cc, cc))
  same_value-Decides (number j y) w = no (λ p. cc)
  same_value-Decides (record_of t vs) (record_of u ws) = two (same-Decides t u) (same_values-Decides vs ws) (λ p. cc) (λ p. (cc, cc))
  same_value-Decides (record_of t vs) w = no (λ p. cc)
  same_value-Decides (array_of a vs) (array_of b ws) = two (booleans_Decides a b) (same_values-Decides vs ws) (λ p. cc) (λ p. (cc, cc))
  same_value-Decides (array_of a vs) w = no (λ p. cc)
  same_value-Decides (vector vs) (vector ws) = one (same_values-Decides vs ws) (λ p. cc) (λ p. cc)
  same_value-Decides (vector vs) w = no (λ p. cc)
  same_value-Decides (matrix vs) (matrix ws) = one (same_values-Decides vs ws) (λ p. cc) (λ p. cc)
  same_value-Decides (matrix vs) w = no (λ p. cc)
  same_value-Decides (atomic_of v) (atomic_of w) = one (same_value-Decides v w) (λ p. cc) (λ p. cc)
  same_value-Decides (atomic_of v) w = no (λ p. cc)
  same_value-Decides (pointer r) (pointer s) = one (reference-Decides r s) (λ p. cc) (λ p. cc)
  same_value-Decides (pointer r) w = no (λ p. cc)
  same_value-Decides (reference r) (reference s) = one (reference-Decides r s) (λ p. cc) (λ p. cc)
  same_value-Decides (reference r) w = no (λ p. cc)
  same_value-Decides (deferred t) (deferred u) = one (same-Decides t u) (λ p. cc) (λ p. cc)
  same_value-Decides (deferred t) w = no (λ p. cc)

  same_values-Decides : (vs ws : Vals) → Decides (same_values vs ws) (vs ≡ ws)
  same_values-Decides no_vals no_vals = (λ p. refl, λ p. refl)
  same_values-Decides no_vals ws = no (λ p. cc)
  same_values-Decides (val v vs) (val w ws) = two (same_value-Decides v w) (same_values-Decides vs ws) (λ p. cc) (λ p. (cc, cc))
  same_values-Decides (val v vs) ws = no (λ p. cc)

pub same_value_is : (v w : Val) → IsTrue (same_value v w) ↔ (v ≡ w)
same_value_is v w = search (rules, same_value-Decides v w)

pub same_steps_is : (ss ts : List Step) → IsTrue (same_steps ss ts) ↔ (ss ≡ ts)
same_steps_is ss ts = search (rules, steps-Decides ss ts)

same_value-equiv : IsEquivalence same_value
same_value-equiv = equiv_from_Decides same_value same_value-Decides

pub values_equiv : IsEquivalence (λ v w. same_value (value_of v) (value_of w))
values_equiv = on_equiv value_of same_value-equiv

pub structs_equiv : IsEquivalence (λ v w. same_value (struct_view v) (struct_view w))
structs_equiv = on_equiv struct_view same_value-equiv

pub arrays_equiv : IsEquivalence (λ v w. same_value (array_view v) (array_view w))
arrays_equiv = on_equiv array_view same_value-equiv

pub vecs_equiv : IsEquivalence (λ v w. same_value (vec_view v) (vec_view w))
vecs_equiv = on_equiv vec_view same_value-equiv

pub mats_equiv : IsEquivalence (λ v w. same_value (mat_view v) (mat_view w))
mats_equiv = on_equiv mat_view same_value-equiv

pub atomics_equiv : IsEquivalence (λ v w. same_value (atomic_view v) (atomic_view w))
atomics_equiv = on_equiv atomic_view same_value-equiv

pub ptrs_equiv : IsEquivalence (λ v w. same_value (ptr_view v) (ptr_view w))
ptrs_equiv = on_equiv ptr_view same_value-equiv

pub refs_equiv : IsEquivalence (λ v w. same_value (ref_view v) (ref_view w))
refs_equiv = on_equiv ref_view same_value-equiv

pub views_equiv : IsEquivalence (λ v w. same_steps (steps_of v) (steps_of w))
views_equiv = on_equiv steps_of (equiv_from_Decides same_steps steps-Decides)

-- ---- signatures

enumerant-Decides : (d e : Enumerant) → Decides (same_enumerant d e) (d ≡ e)
enumerant-Decides (enumerants.AccessMode a) (enumerants.AccessMode b) = one (access_decided a b) (λ p. cc) (λ p. cc)
enumerant-Decides (enumerants.AccessMode a) e = no (λ p. cc)
enumerant-Decides (enumerants.AddressSpace s) (enumerants.AddressSpace t) = one (space_decided s t) (λ p. cc) (λ p. cc)
enumerant-Decides (enumerants.AddressSpace s) e = no (λ p. cc)
enumerant-Decides (enumerants.TexelFormat f) (enumerants.TexelFormat g) = one (format_decided f g) (λ p. cc) (λ p. cc)
enumerant-Decides (enumerants.TexelFormat f) e = no (λ p. cc)

param-Decides : (p q : Param) → Decides (same_param p q) (p ≡ q)
param-Decides (of_type t) (of_type u) = one (same-Decides t u) (λ p. cc) (λ p. cc)
param-Decides (of_type t) q = no (λ p. cc)
param-Decides (of_value v) (of_value w) = one (same_value-Decides v w) (λ p. cc) (λ p. cc)
param-Decides (of_value v) q = no (λ p. cc)
param-Decides (of_enumerant d) (of_enumerant e) = one (enumerant-Decides d e) (λ p. cc) (λ p. cc)
param-Decides (of_enumerant d) q = no (λ p. cc)

template-Decides : (ps qs : Option (List Param)) → Decides (option_eq (pointwise same_param) ps qs) (ps ≡ qs)
template-Decides None None = (λ p. refl, λ p. refl)
template-Decides None (Some qs) = no (λ p. cc)
template-Decides (Some ps) None = no (λ p. cc)
template-Decides (Some ps) (Some qs) = one (slice_eq-Decides param-Decides ps qs _ refl) (λ p. cc) (λ p. cc)

abbrev signed : List ℕ → Option (List Param) → List Ty → Signature
signed n ps ts = record { name = n; template = ps; args = ts }

signature-Decides : (s t : Signature) → Decides (same_signature s t) (s ≡ t)
signature-Decides s t =
    let typed = Decides-and _ _ (template-Decides s.template t.template) (slice_eq-Decides same-Decides s.args t.args _ refl) in
    two (bytes_eq-Decides s.name t.name) typed
    (λ p. ap (λ x. signed x s.template s.args) p.0 ∙ ap (λ x. signed t.name x s.args) p.1.0 ∙ ap (signed t.name t.template) p.1.1)
    (λ p. (ap (λ x. x.name) p, (ap (λ x. x.template) p, ap (λ x. x.args) p)))

pub same_param_is : (p q : Param) → IsTrue (same_param p q) ↔ (p ≡ q)
same_param_is p q = search (rules, param-Decides p q)

pub same_signature_is : (s t : Signature) → IsTrue (same_signature s t) ↔ (s ≡ t)
same_signature_is s t = search (rules, signature-Decides s t)

pub params_equiv : IsEquivalence (λ p q. same_param (param_view p) (param_view q))
params_equiv = on_equiv param_view (equiv_from_Decides same_param param-Decides)

pub signatures_equiv : IsEquivalence (λ s t. same_signature (signature_view s) (signature_view t))
signatures_equiv = on_equiv signature_view (equiv_from_Decides same_signature signature-Decides)
