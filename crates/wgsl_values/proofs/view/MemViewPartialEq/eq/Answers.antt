use Rattle.std.proofs.Common.{◌≡◌, ℕ, List, ◌∷◌, false, refl, rules, Box, String, Global}
use Rattle.wgsl_rules.specs.Values.{Step, member, index}
use Rattle.wgsl_values.specs.Same.{same_steps}
use Rattle.wgsl_values.specs.View.{steps_of}
use Rattle.wgsl_values.specs.declared.view.MemView.{MemView, Member, Index, Member', Index', the_lemmas}
use Rattle.wgsl_values.specs.declared.view.MemView.TheVariants as views
use Rattle.wgsl_values.proofs.lemmas.Views.{steps_of-Member, steps_of-Index}
use Rattle.wgsl_values.proofs.view.MemViewPartialEq.eq.Goals as goal

same_steps-not_member : (n : List ℕ) (ss : List Step) (v : MemView) → ((m : String Global) (rest : Box MemView Global) → v ≡ Member m rest → ⊥) → false ≡ same_steps (member n ∷ ss) (steps_of v)
same_steps-not_member n ss (Member' m p rest) h = absurd (h m (record { ptr = p.ptr; alloc = p.alloc; value = rest }) refl)
same_steps-not_member n ss (Index' i p rest) h = rw (steps_of-Index i (record { ptr = p.ptr; alloc = p.alloc; value = rest })) refl
same_steps-not_member n ss views.Whole h = search (rules, the_lemmas)

same_steps-not_index : (i : ℕ) (ss : List Step) (v : MemView) → ((j : ℕ) (rest : Box MemView Global) → v ≡ Index j rest → ⊥) → false ≡ same_steps (index i ∷ ss) (steps_of v)
same_steps-not_index i ss (Index' j p rest) h = absurd (h j (record { ptr = p.ptr; alloc = p.alloc; value = rest }) refl)
same_steps-not_index i ss (Member' m p rest) h = rw (steps_of-Member m (record { ptr = p.ptr; alloc = p.alloc; value = rest })) refl
same_steps-not_index i ss views.Whole h = search (rules, the_lemmas)

pub returns-in_default-2 : goal.returns-in_default-2
returns-in_default-2 c =
    rw c.loop-own.invariant (simp (c.in_default.is-0, steps_of-Member) (same_steps-not_member _ _ _ c.in_default.not-Member-1))

pub returns-in_default-3 : goal.returns-in_default-3
returns-in_default-3 c =
    rw c.loop-own.invariant (simp (c.in_default.is-0, steps_of-Index) (same_steps-not_index _ _ _ c.in_default.not-Index-1))
