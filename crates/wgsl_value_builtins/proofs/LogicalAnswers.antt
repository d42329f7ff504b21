-- What logical builtin functions answer may be stored.
use Rattle.std.proofs.Common.{◌≡◌, suc, Bool, true, false, ◌&&◌, ◌||◌, if◌then◌else◌, Ok, Err, refl, sym, ap, ◌∙◌, subst}
use Rattle.wgsl_rules.specs.Refusals.{Outcome, and_then, builtin}
use Rattle.wgsl_rules.specs.Types.{Ty}
use Rattle.wgsl_rules.specs.Values.{Val, truth, vector, Vals, no_vals, val, count, first_type, type_of, AllOfType, IsLiteral, IsStorable, IsWellFormed}
use Rattle.wgsl_value_builtins.proofs.ComponentLemmas.{components-are}
use Rattle.wgsl_value_builtins.proofs.Lifted.{AreLiteralsOf, vector-storable, common-pair}
use Rattle.wgsl_value_builtins.proofs.Known.{common-known, known-storable}
use Rattle.wgsl_value_ops.proofs.Outcomes.{then-is}
use Rattle.wgsl_value_builtins.specs.Components.{components_of}
use Rattle.wgsl_value_builtins.specs.Laws.{Answers1, Answers3}
use Rattle.wgsl_value_builtins.specs.Lifts.{in_common_type}
use Rattle.wgsl_value_builtins.specs.Logical.{truth_in, truths_joined, joined_by, all_hold, any_holds, one_selected, each_selected, components_selected, selected_by, is_known, selected}

joined-storable : (f : Bool → Bool → Bool) (b : Bool) → Answers1 (joined_by f b)
joined-storable f b (vector vs) x h e =
    let a = then-is (truths_joined f b vs) (λ c. Ok (truth c)) x e in
    let same : truth a.first ≡ x = let r = a.rest in cc in
    subst IsStorable same tt
joined-storable f b v x h e =
    let a = then-is (truth_in v) (λ c. Ok (truth c)) x e in
    let same : truth a.first ≡ x = let r = a.rest in cc in
    subst IsStorable same tt

pub all-storable : Answers1 all_hold
all-storable = joined-storable ◌&&◌ true

pub any-storable : Answers1 any_holds
any-storable = joined-storable ◌||◌ false

-- ---- select

chosen : (P : Val → Type 0) (b : Bool) (v w : Val) → P v → P w → P (if b then w else v)
chosen P true v w h k = k
chosen P false v w h k = h

one-selected : (P : Val → Type 0) (c v w x : Val) → P v → P w → one_selected c v w ≡ Ok x → P x
one-selected P c v w x h k e =
    let a = then-is (truth_in c) (λ b. Ok (if b then w else v)) x e in
    let same : (if a.first then w else v) ≡ x = let r = a.rest in cc in
    subst P same (chosen P a.first v w h k)

each-selected : (t : Ty) (bs vs ws xs : Vals) → AreLiteralsOf t (count vs) vs → AreLiteralsOf t (count ws) ws → each_selected bs vs ws ≡ Ok xs → AreLiteralsOf t (count vs) xs
each-selected t no_vals no_vals no_vals xs h k e = let same : no_vals ≡ xs = cc in subst (AreLiteralsOf t 0) same h
each-selected t (val c bs) (val v vs) (val w ws) xs h k e =
    let o = then-is (one_selected c v w) (λ x. and_then (each_selected bs vs ws) (λ us. Ok (val x us))) xs e in
    let a = then-is (each_selected bs vs ws) (λ us. Ok (val o.first us)) xs o.rest in
    let same : val o.first a.first ≡ xs = let r = a.rest in cc in
    let more = each-selected t bs vs ws a.first (record { literals = h.literals.1; typed = h.typed.1; storable = h.storable.1; counted = refl }) (record { literals = k.literals.1; typed = k.typed.1; storable = k.storable.1; counted = refl }) a.is in
    subst (AreLiteralsOf t (suc (count vs))) same
    (record {
      literals = (one-selected IsLiteral c v w o.first h.literals.0 k.literals.0 o.is, more.literals);
      typed = (one-selected (λ x. type_of x ≡ t) c v w o.first h.typed.0 k.typed.0 o.is, more.typed);
      storable = (one-selected IsStorable c v w o.first h.storable.0 k.storable.0 o.is, more.storable);
      counted = ap suc more.counted;
    })
each-selected t bs vs ws xs h k e = absurd (cc)

-- what is picked from two vectors of one type is a vector
pub picked-storable : (bs vs ws xs : Vals) → IsStorable (vector vs) → IsStorable (vector ws) → type_of (vector vs) ≡ type_of (vector ws) → each_selected bs vs ws ≡ Ok xs → IsStorable (vector xs)
picked-storable bs vs ws xs h k t e =
    let firsts : first_type vs ≡ first_type ws = cc in
    let l = each-selected (first_type vs) bs vs ws xs (record { literals = h.2; typed = h.3; storable = h.4; counted = refl })
    (record { literals = k.2; typed = subst (λ (u : Ty). AllOfType u ws) (sym firsts) k.3; storable = k.4; counted = refl }) e in
    vector-storable (first_type vs) (count vs) xs l h.0 h.1

components-selected : (bs : Vals) (v w x : Val) → IsStorable v → IsStorable w → type_of v ≡ type_of w → components_selected bs v w ≡ Ok x → IsStorable x
components-selected bs v w x h k t e =
    let a = then-is (components_of v) (λ vs. and_then (components_of w) (λ ws. and_then (each_selected bs vs ws) (λ xs. Ok (vector xs)))) x e in
    let b = then-is (components_of w) (λ ws. and_then (each_selected bs a.first ws) (λ xs. Ok (vector xs))) x a.rest in
    let c = then-is (each_selected bs a.first b.first) (λ xs. Ok (vector xs)) x b.rest in
    let same : vector c.first ≡ x = let r = c.rest in cc in
    let p = components-are v a.first a.is in
    let q = components-are w b.first b.is in
    subst IsStorable same (picked-storable bs a.first b.first c.first (subst IsStorable p h) (subst IsStorable q k) (ap type_of (sym p) ∙ t ∙ ap type_of q) c.is)

pub selected_by-storable : (c v w x : Val) → IsStorable v → IsStorable w → type_of v ≡ type_of w → selected_by c v w ≡ Ok x → IsStorable x
selected_by-storable (vector bs) v w x h k t e = components-selected bs v w x h k t e
selected_by-storable c v w x h k t e = one-selected IsStorable c v w x h k e

choice : Val → Val → Val → Bool → Bool → Outcome Val
choice v w c a b = if a && b then and_then (in_common_type v w) (λ p. selected_by c p.0 p.1) else Err builtin

by-choice : (v w c x : Val) (a b : Bool) → IsWellFormed v → IsWellFormed w → is_known v ≡ a → is_known w ≡ b → choice v w c a b ≡ Ok x → IsStorable x
unfolding choice
by-choice v w c x true true h k a b e =
    let i = then-is (in_common_type v w) (λ p. selected_by c p.0 p.1) x e in
    let p = common-pair v w i.first h k i.is in
    let q = common-known v w i.first a b i.is in
    selected_by-storable c i.first.0 i.first.1 x (known-storable i.first.0 q.0 p.left) (known-storable i.first.1 q.1 p.right) p.typed i.rest
by-choice v w c x true false h k a b e = absurd (cc)
by-choice v w c x false b h k a d e = absurd (cc)

pub selected-storable : Answers3 selected
unfolding choice
selected-storable v w c x h k l e = by-choice v w c x (is_known v) (is_known w) h k refl refl e
