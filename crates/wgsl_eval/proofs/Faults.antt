-- The faults of the members of a structure.
use Rattle.std.proofs.Common.{◌≡◌, ◌∙◌, ◌+◌, ◌-◌, ◌≤◌, ℕ, List, [], ◌∷◌, ◌++◌, length, length-append, refl, sym, ap, subst, append-nil, append_assoc, arith}
use Rattle.wgsl_eval.specs.Lists.{AllFrom}
use Rattle.wgsl_eval.specs.Evaluators.{Setting}
use Rattle.wgsl_eval.specs.Messages.{added, all_added}
use Rattle.wgsl_eval.specs.Structures.{AreFaultsOf, IsFoundNumber, fault_of, faults_of}
use Rattle.wgsl_eval.specs.declared.message.Message.{Message}
use Rattle.wgsl_eval.specs.declared.structure.FoundMember.{FoundMember}
use Rattle.wgsl_eval.proofs.Told.{all_pushed}

-- the last one is added first
pub all_added_last : (faults ms : List Message) (m : Message) → all_added faults (ms ++ m ∷ []) ≡ all_added (added faults m) ms
all_added_last faults [] m = refl
all_added_last faults (n ∷ ms) m = ap (λ fs. added fs n) (all_added_last faults ms m)

faults-last : (fs : List FoundMember) (f : FoundMember) → faults_of (fs ++ f ∷ []) ≡ faults_of fs ++ fault_of f
faults-last [] f = append-nil (fault_of f)
faults-last (g ∷ fs) f = ap (λ ms. fault_of g ++ ms) (faults-last fs f) ∙ sym (append_assoc (fault_of g) (faults_of fs) (fault_of f))

pub nothing_more : (faults : List Message) → faults ≡ faults ++ []
nothing_more faults = sym (append-nil faults)

-- the faults of the members so far
pub record AreFaultsSoFar (s : Setting) (first number : ℕ) (faults : List Message) : Type 0 where
  pub members : List FoundMember
  pub count : first + length members ≡ number
  pub found : AllFrom (IsFoundNumber s) first members
  pub are : faults ≡ faults_of members

pub no_faults : (s : Setting) (first : ℕ) → AreFaultsSoFar s first first []
no_faults s first = record { members = []; count = omega arith; found = tt; are = refl }

pub more_faults : (s t : Setting) (first number : ℕ) (faults all : List Message) (f : FoundMember) → t ≡ s → AreFaultsSoFar s first number faults
    → IsFoundNumber t number f → all ≡ faults ++ fault_of f → AreFaultsSoFar s first (number + 1) all
more_faults s t first number faults all f same so_far one put =
    let P : Setting → Type 0 = λ u. IsFoundNumber u number f in
    let Q : ℕ → Type 0 = λ n. IsFoundNumber s n f in
    record {
      members = so_far.members ++ f ∷ [];
      count = rw length-append (omega (arith, so_far.count));
      found = all_pushed (IsFoundNumber s) first so_far.members f so_far.found (subst Q (sym so_far.count) (subst P same one));
      are = put ∙ ap (λ ms. ms ++ fault_of f) so_far.are ∙ sym (faults-last so_far.members f);
    }

pub all_faults : (s : Setting) (first end number : ℕ) (faults : List Message) → number ≡ first + (end - first) → AreFaultsSoFar s first number faults → AreFaultsOf s first end faults
all_faults s first end number faults e so_far = record {
  members = so_far.members;
  count = omega (arith, so_far.count, e);
  found = so_far.found;
  are = so_far.are;
}
