-- What a walk has told after several steps.
use Rattle.std.proofs.Common.{◌≡◌, ◌∙◌, ◌+◌, ◌-◌, ℕ, zero, suc, List, [], ◌∷◌, ◌++◌, take, length, min, refl, sym, ap, arith, append_assoc, ◌<◌, ◌≤◌, length-append, string_bytes}
use Rattle.std.proofs.lemmas.List.{append-nil, length-take, take_at}
use Rattle.wgsl_interface.specs.Faults.{Fault, faults_view, with_more, member_path}
use Rattle.wgsl_interface.specs.Walks.{IsTold}
use Rattle.wgsl_interface.specs.declared.faults.Walk.{Walk}

take-both : (k : ℕ) (a b : List Fault) → take k (a ++ b) ≡ take k a ++ take (k - length a) b
take-both zero a b = let e : 0 - length a ≡ 0 = omega arith in rw e refl
take-both (suc k) [] b = let e : suc k - 0 ≡ suc k = omega arith in rw e refl
take-both (suc k) (x ∷ a) b =
    let e : suc k - suc (length a) ≡ k - length a = omega arith in
    rw e (ap (λ (fs : List Fault). x ∷ fs) (take-both k a b))

pub with_more-both : (fs a b : List Fault) → with_more (with_more fs a) b ≡ with_more fs (a ++ b)
with_more-both fs a b =
    let k = 100 - length fs in
    let len : length (fs ++ take k a) ≡ length fs + min k (length a) = length-append fs (take k a) ∙ ap (λ (n : ℕ). length fs + n) (length-take k a) in
    let room : 100 - (length fs + min k (length a)) ≡ k - length a = omega arith in
    rw (len, room) (append_assoc fs (take k a) (take (k - length a) b) ∙ ap (λ (gs : List Fault). fs ++ gs) (sym (take-both k a b)))

-- two steps; the second tells what it does by where it stands
pub then-told : (old mid new : Walk) (a : List Fault) (F : List ℕ → List Fault) → IsTold old mid a → IsTold mid new (F (string_bytes mid.path)) → IsTold old new (a ++ F (string_bytes old.path))
then-told old mid new a F h k = record {
  path = k.path ∙ h.path;
  faults = k.faults ∙ ap (λ (fs : List Fault). with_more fs (F (string_bytes mid.path))) h.faults
      ∙ ap (λ (p : List ℕ). with_more (with_more (faults_view old.faults.items) a) (F p)) h.path
      ∙ with_more-both (faults_view old.faults.items) a (F (string_bytes old.path));
}

-- steps further down the path, and back
pub below-told : (old down inner new : Walk) (end : ℕ) (more : List Fault) (rest : List ℕ) → string_bytes down.path ≡ string_bytes old.path ++ rest → faults_view down.faults.items ≡ faults_view old.faults.items
    → length (string_bytes old.path) ≡ end → string_bytes new.path ≡ take end (string_bytes inner.path) → faults_view new.faults.items ≡ faults_view inner.faults.items
    → IsTold down inner more → IsTold old new more
below-told old down inner new end more rest at same len back kept h = record {
  path = back ∙ ap (take end) (h.path ∙ at) ∙ take_at (string_bytes old.path) rest end len;
  faults = kept ∙ h.faults ∙ ap (λ (fs : List Fault). with_more fs more) same;
}

pub told-none : (fs : List Fault) → fs ≡ with_more fs []
told-none fs = none (100 - length fs) where
  none : (k : ℕ) → fs ≡ fs ++ take k []
  none zero = sym (append-nil fs)
  none (suc k) = sym (append-nil fs)

-- ---- the path of a member, behind a dot or not

pub named : (down at given name : List ℕ) → down ≡ at ++ given → given ≡ name → down ≡ at ++ name
named down at given name h e = h ∙ ap (λ (n : List ℕ). at ++ n) e

pub dotted : (down at p n : List ℕ) → down ≡ at ++ n → at ≡ p ++ 46 ∷ [] → 0 < length p → down ≡ member_path p n
dotted down at [] n d e h = absurd (omega arith)
dotted down at (c ∷ p) n d e h = d ∙ ap (λ (q : List ℕ). q ++ n) e ∙ append_assoc (c ∷ p) (46 ∷ []) n

pub undotted : (down at p n : List ℕ) → down ≡ at ++ n → at ≡ p → length p ≤ 0 → down ≡ member_path p n
undotted down at [] n d e h = d ∙ ap (λ (q : List ℕ). q ++ n) e
undotted down at (c ∷ p) n d e h = absurd (omega arith)

abbrev pub member_rest : List ℕ → List ℕ → List ℕ
member_rest [] n = n
member_rest (c ∷ p) n = 46 ∷ n

pub behind : (down p n : List ℕ) → down ≡ member_path p n → down ≡ p ++ member_rest p n
behind down [] n h = h
behind down (c ∷ p) n h = h
