-- What is found while the tokens of a function are looked at.
use Rattle.std.proofs.Common.{All, IsTrue, ◌↔◌, List, [], ◌∷◌, ◌++◌, Option, None, Contains, take, length, get_or, IfOk, OnOk, Result, Ok, Err, ◌≡◌, ◌⊎◌, inl, inr, ℕ, ◌+◌, ◌-◌, ◌<◌, ◌≤◌, ◌||◌, ◌&&◌, not, Bool, true, false, Some, suc, codes, refl, ◌∙◌, ap, sym, subst, arith}
use Rattle.std.proofs.lemmas.Bool.{false≢true}
use Rattle.std.proofs.lemmas.List.{take_more}
use Rattle.std.proofs.lemmas.List.Elements.{All-contains_itself, All-weaker, Contains-append_left, Contains-append_right, Contains-append_cases, Contains-push, Contains-push_cases}
use Rattle.std.specs.BTreeSet.{contains}
use Rattle.std.specs.List.Sorted.{IsStrictlyIncreasing}
use Rattle.std.specs.Ordering.{nat_cmp}
use Rattle.wgsl_source.proofs.ReadingLemmas.{contains_is}
use Rattle.wgsl_source.specs.declared.expression.Step.{Step}
use Rattle.wgsl_source.specs.declared.scopes.Scopes.{Scopes}
use Rattle.wgsl_source.specs.Finders.{HasAdded, HasFound, HasFoundIn, IsFinderBehind, IsStep, IsStepOf, has_found}
use Rattle.wgsl_source.specs.Readings.{Outline, steps_at}
use Rattle.wgsl_source.specs.Scopes.{IsKnown}
use Rattle.wgsl_source.specs.Uses.{declares, IsDeclaring, IsShadowed, IsUse, IsUsed, begins_body, is_in_body, is_of_attribute, is_of_other, named_at, name_of, named_by, AreUses, IsFunction, IsLookedUp, IsNamed, stands}
use Rattle.wgsl_source.specs.declared.uses.Finder.{Finder}

-- what is found before a token of the function
pub record IsFinding (f : Finder) (name end at : ℕ) (g : Finder) : Type 0 where
  pub reading : g.reading.now ≡ f.reading.now
  pub kept : (n : ℕ) → has_found f n ≡ true → has_found g n ≡ true
  pub found : (n : ℕ) → has_found g n ≡ true → (has_found f n ≡ true) ⊎ IsUsed f.reading.now name end n
  pub used : (n t : ℕ) → name < t → t < at → IsUse f.reading.now (is_in_body f.reading.now name t) t n
      → ¬ IsShadowed f.reading.now name end n → has_found g n ≡ true
  pub known : (n : ℕ) → IsKnown g.scopes n → IsShadowed f.reading.now name end n
  pub body : name < at → g.in_body ≡ is_in_body f.reading.now name at

-- no body has begun right behind the name
pub body-first : (o : Outline) (name at : ℕ) → at ≤ name + 1 → is_in_body o name at ≡ false
body-first o name at low =
    let none : at - (name + 1) ≡ 0 = omega arith in
    ap (begins_body o (name + 1)) none

-- one token further
pub body-next : (o : Outline) (name at : ℕ) → name < at → is_in_body o name (at + 1) ≡ (is_in_body o name at || stands o at (codes "{"))
body-next o name at low =
    let count : ℕ = at - (name + 1) in
    let more : (at + 1) - (name + 1) ≡ suc count = omega arith in
    let there : (name + 1) + count ≡ at = omega arith in
    ap (begins_body o (name + 1)) more ∙ ap (λ (t : ℕ). begins_body o (name + 1) count || stands o t (codes "{")) there

finding-found : (f g h : Finder) (name end at n : ℕ) → name < at → at < end → IsFinding f name end at g → (has_found g n ≡ true) ⊎ IsUse g.reading.now g.in_body at n
    → (has_found f n ≡ true) ⊎ IsUsed f.reading.now name end n
finding-found f g h name end at n low high so_far (inl before) = so_far.found n before
finding-found f g h name end at n low high so_far (inr used) =
    let P : Outline → Type 0 = λ o. IsUse o g.in_body at n in
    let Q : Bool → Type 0 = λ b. IsUse f.reading.now b at n in
    inr (at, low, high, subst Q (so_far.body low) (subst P so_far.reading used))

finding-known : (f g : Finder) (name end at n : ℕ) → name < at → at < end → IsFinding f name end at g → IsKnown g.scopes n ⊎ IsDeclaring g.reading.now g.in_body at n
    → IsShadowed f.reading.now name end n
finding-known f g name end at n low high so_far (inl before) = so_far.known n before
finding-known f g name end at n low high so_far (inr declaring) =
    let P : Outline → Type 0 = λ o. IsDeclaring o g.in_body at n in
    let Q : Bool → Type 0 = λ b. IsDeclaring f.reading.now b at n in
    (at, low, high, subst Q (so_far.body low) (subst P so_far.reading declaring))

split-last : (t at : ℕ) → t < at + 1 → (t < at) ⊎ (t ≡ at)
split-last t at before = grind arith

finding-used : (f g h : Finder) (name end at n t : ℕ) → name < at → at < end → IsFinding f name end at g → IsStep at g h → name < t → t < at + 1
    → IsUse f.reading.now (is_in_body f.reading.now name t) t n → ¬ IsShadowed f.reading.now name end n → has_found h n ≡ true
finding-used f g h name end at n t low high so_far step behind before used free =
    elim (split-last t at before) [
      | inl earlier ↦ step.step.kept n (so_far.used n t behind earlier used free)
      | inr same ↦
          let P : ℕ → Type 0 = λ k. IsUse f.reading.now (is_in_body f.reading.now name k) k n in
          let Q : Bool → Type 0 = λ b. IsUse f.reading.now b at n in
          let R : Outline → Type 0 = λ o. IsUse o g.in_body at n in
          let here = subst R (sym so_far.reading) (subst Q (sym (so_far.body low)) (subst P same used)) in
          elim (step.step.used n here) [
            | inl found ↦ found
            | inr known ↦ absurd (free (so_far.known n known))
          ]
    ]

-- one token further
pub finding-step : (f g h : Finder) (name end at : ℕ) → name < at → at < end → IsFinding f name end at g → IsStep at g h → IsFinding f name end (at + 1) h
finding-step f g h name end at low high so_far step = record {
  reading = step.step.reading ∙ so_far.reading;
  kept = λ n found. step.step.kept n (so_far.kept n found);
  found = λ n found. finding-found f g h name end at n low high so_far (step.step.found n found);
  used = λ n t behind before used free. finding-used f g h name end at n t low high so_far step behind before used free;
  known = λ n known. finding-known f g name end at n low high so_far (step.step.known n known);
  body = λ behind.
      let S : Outline → Type 0 = λ o. h.in_body ≡ (g.in_body || stands o at (codes "{")) in
      let T : Bool → Type 0 = λ b. h.in_body ≡ (b || stands f.reading.now at (codes "{")) in
      subst T (so_far.body low) (subst S so_far.reading step.body) ∙ sym (body-next f.reading.now name at low);
}

-- all tokens
pub finding-done : (f g : Finder) (name end at : ℕ) → end ≤ at → IsFinding f name end at g → HasFound f name end g
finding-done f g name end at all so_far = record {
  reading = so_far.reading;
  kept = so_far.kept;
  found = so_far.found;
  used = λ n used free. so_far.used n used.0 used.1 (omega (arith, used.2, all)) used.3 free;
}

-- ---- one token

some_same : (a b : ℕ) → Some a ≡ Some b → a ≡ b
some_same a b e = cc

neither : (a b : Bool) → (not a && not b) ≡ true → (a ≡ false) × (b ≡ false)
neither true b e = absurd (false≢true e)
neither false true e = absurd (false≢true e)
neither false false e = (refl, refl)

neither_given : (a b : Bool) → (not a && not b) ≡ false → a ≡ false → b ≡ false → ⊥
neither_given a b e h k = false≢true (sym e ∙ ap (λ (x : Bool). not x && not b) h ∙ ap (λ (x : Bool). not false && not x) k)

-- a token that adds nothing
step-none : (at k : ℕ) (f : Finder) → named_at f.reading.now at ≡ Some k → (IsUse f.reading.now f.in_body at k → IsKnown f.scopes k) → IsStepOf at f f
step-none at k f named known = record {
  reading = refl;
  kept = λ n found. found;
  found = λ n found. inl found;
  known = λ n known. inl known;
  used = λ n used.
      let same : n ≡ k = some_same n k (sym used.3 ∙ named) in
      let P : ℕ → Type 0 = λ m. IsUse f.reading.now f.in_body at m in
      let Q : ℕ → Type 0 = λ m. IsKnown f.scopes m in
      inr (subst Q (sym same) (known (subst P same used)));
}

pub step-other : (at k : ℕ) (f : Finder) (plain : Bool) → named_at f.reading.now at ≡ Some k
    → plain ≡ (not (is_of_other f.reading.now at) && not (is_of_attribute f.reading.now at)) → plain ≡ false → IsStepOf at f f
step-other at k f plain named is false_ =
    step-none at k f named (λ used. absurd (neither_given (is_of_other f.reading.now at) (is_of_attribute f.reading.now at) (sym is ∙ false_) used.0 used.1))

pub step-hidden : (at k : ℕ) (f : Finder) → named_at f.reading.now at ≡ Some k → IsKnown f.scopes k → IsStepOf at f f
step-hidden at k f named known = step-none at k f named (λ used. known)

-- a token that adds a declaration
pub step-used : (at k : ℕ) (f g : Finder) (plain : Bool) → named_at f.reading.now at ≡ Some k
    → plain ≡ (not (is_of_other f.reading.now at) && not (is_of_attribute f.reading.now at)) → plain ≡ true → declares f.reading.now f.in_body at ≡ false
    → IsFinderBehind f g → has_found g k ≡ true → ((n : ℕ) → has_found g n ≡ true → (has_found f n ≡ true) ⊎ (n ≡ k)) → IsStepOf at f g
step-used at k f g plain named is true_ free behind found only =
    let parts = neither (is_of_other f.reading.now at) (is_of_attribute f.reading.now at) (sym is ∙ true_) in
    let P : ℕ → Type 0 = λ m. IsUse f.reading.now f.in_body at m in
    let Q : ℕ → Type 0 = λ m. has_found g m ≡ true in
    let used : P k = (parts.0, parts.1, free, named) in
    record {
      reading = behind.reading;
      kept = behind.kept;
      found = λ n is. elim (only n is) [ inl before ↦ inl before | inr same ↦ inr (subst P (sym same) used) ];
      known = λ n known. inl (subst (λ s. IsKnown s n) behind.scopes known);
      used = λ n other. inl (subst Q (sym (some_same n k (sym other.3 ∙ named))) found);
    }

-- ---- steps

none_looked_up : (o : Outline) (n : ℕ) → IsLookedUp o [] n → ⊥
none_looked_up o n looked = omega (arith, looked.1.1)

first_looked_up : (o : Outline) (s : Step) (n : ℕ) → IsLookedUp o (s ∷ []) n → named_by o s ≡ Some n
first_looked_up o s n looked =
    let P : Step → Type 0 = λ t. named_by o t ≡ Some n in
    elim (Contains-push_cases [] s looked.0 looked.1) [
      | inl none ↦ absurd (none_looked_up o n (looked.0, none, looked.2))
      | inr same ↦ subst P (sym same) looked.2
    ]

looked_up_alike : (o p : Outline) (ss : List Step) (n : ℕ) → o ≡ p → IsLookedUp o ss n → IsLookedUp p ss n
looked_up_alike o p ss n e looked = subst (λ (x : Outline). IsLookedUp x ss n) e looked

nothing : (n : ℕ) → None ≡ Some n → ⊥
nothing n e = cc

-- nothing yet
pub adding-none : (f : Finder) → HasAdded f [] f
adding-none f = record {
  same = record { reading = refl; scopes = refl; body = refl; kept = λ n found. found };
  found = λ n looked. absurd (none_looked_up f.reading.now n looked);
  named = λ n found. inl found;
}

-- a step that looks up no declaration
pub adding-other : (f : Finder) (s : Step) (found : Option ℕ) → found ≡ named_by f.reading.now s → found ≡ None → HasAdded f (s ∷ []) f
adding-other f s found is none = record {
  same = record { reading = refl; scopes = refl; body = refl; kept = λ n found. found };
  found = λ n looked. absurd (nothing n (sym none ∙ is ∙ first_looked_up f.reading.now s n looked));
  named = λ n found. inl found;
}

-- one that looks up a declaration
pub adding-one : (f g : Finder) (s : Step) (found : Option ℕ) (k : ℕ) → found ≡ named_by f.reading.now s → found ≡ Some k → IsFinderBehind f g → has_found g k ≡ true
    → ((n : ℕ) → has_found g n ≡ true → (has_found f n ≡ true) ⊎ (n ≡ k)) → HasAdded f (s ∷ []) g
adding-one f g s found k is some behind there only =
    let Q : ℕ → Type 0 = λ m. has_found g m ≡ true in
    record {
      same = behind;
      found = λ n looked. subst Q (some_same k n (sym some ∙ is ∙ first_looked_up f.reading.now s n looked)) there;
      named = λ n has.
          elim (only n has) [
            | inl before ↦ inl before
            | inr same ↦ inr (s, Contains-push [] s, sym is ∙ some ∙ ap (λ (m : ℕ). Some m) (sym same))
          ];
    }

-- some steps behind others
adding-both : (f g h : Finder) (ss ts : List Step) → HasAdded f ss g → HasAdded g ts h → HasAdded f (ss ++ ts) h
adding-both f g h ss ts first then = record {
  same = record {
    reading = then.same.reading ∙ first.same.reading;
    scopes = then.same.scopes ∙ first.same.scopes;
    body = then.same.body ∙ first.same.body;
    kept = λ n found. then.same.kept n (first.same.kept n found);
  };
  found = λ n looked.
      elim (Contains-append_cases ss ts looked.0 looked.1) [
        | inl early ↦ then.same.kept n (first.found n (looked.0, early, looked.2))
        | inr late ↦ then.found n (looked_up_alike f.reading.now g.reading.now ts n (sym first.same.reading) (looked.0, late, looked.2))
      ];
  named = λ n found.
      elim (then.named n found) [
        | inl before ↦
            elim (first.named n before) [
              | inl earliest ↦ inl earliest
              | inr looked ↦ inr (looked.0, Contains-append_left ss ts looked.0 looked.1, looked.2)
            ]
        | inr looked ↦
            let here = looked_up_alike g.reading.now f.reading.now ts n first.same.reading looked in
            inr (here.0, Contains-append_right ss ts here.0 here.1, here.2)
      ];
}

-- one more step of a slice
pub adding-more : (f g h : Finder) (all : List Step) (i : ℕ) (d : Step) → i < length all → HasAdded f (take i all) g → HasAdded g (get_or all i d ∷ []) h
    → HasAdded f (take (i + 1) all) h
adding-more f g h all i d within first then =
    let P : List Step → Type 0 = λ ss. HasAdded f ss h in
    subst P (sym (take_more all i d within)) (adding-both f g h (take i all) (get_or all i d ∷ []) first then)

-- ---- scopes

pub weaker : {T E : Type 0} (r : Result T E) (A B : Type 0) → (A → B) → OnOk r A → OnOk r B
weaker (Ok x) A B f a = f a
weaker (Err e) A B f a = tt

-- the last of those that wait is known without it, or is it
pub known-popped : (old mid : Scopes) (k : ℕ) → mid.hidden ≡ old.hidden → old.waiting.items ≡ mid.waiting.items ++ k ∷ [] → (n : ℕ) → IsKnown mid n ⊎ (n ≡ k) → IsKnown old n
known-popped old mid k same popped n (inl (inl hidden)) = inl (subst (λ h. contains nat_cmp h n ≡ true) same hidden)
known-popped old mid k same popped n (inl (inr waits)) =
    let P : List ℕ → Type 0 = λ ws. Contains ws n in
    inr (subst P (sym popped) (Contains-append_left mid.waiting.items (k ∷ []) n waits))
known-popped old mid k same popped n (inr is) =
    let P : List ℕ → Type 0 = λ ws. Contains ws k in
    let Q : ℕ → Type 0 = λ m. Contains old.waiting.items m in
    inr (subst Q (sym is) (subst P (sym popped) (Contains-push mid.waiting.items k)))

-- ---- answers

-- a token whose name the function declares
pub step-declared : (at k : ℕ) (f : Finder) (s : Scopes) (is : Bool) → named_at f.reading.now at ≡ Some k → is ≡ declares f.reading.now f.in_body at → is ≡ true
    → ((n : ℕ) → IsKnown s n → IsKnown f.scopes n ⊎ (n ≡ k)) → IsStepOf at f (record f { scopes = s })
step-declared at k f s is named same true_ known =
    let P : ℕ → Type 0 = λ m. IsDeclaring f.reading.now f.in_body at m in
    record {
      reading = refl;
      kept = λ n found. found;
      found = λ n found. inl found;
      known = λ n now. elim (known n now) [ inl before ↦ inl before | inr here ↦ inr (subst P (sym here) (sym same ∙ true_, named)) ];
      used = λ n other. absurd (false≢true (sym other.2 ∙ (sym same ∙ true_)));
    }

-- a token of which no name is declared
pub step-unnamed : (at : ℕ) (f : Finder) (found : Option ℕ) → found ≡ named_at f.reading.now at → found ≡ None → IsStepOf at f f
step-unnamed at f found is none = record {
  reading = refl;
  kept = λ n found. found;
  found = λ n found. inl found;
  known = λ n known. inl known;
  used = λ n other. absurd (nothing n (sym none ∙ is ∙ other.3));
}

-- a token, with what it begins or ends
pub step-followed : (at : ℕ) (f m : Finder) (s : Scopes) (b : Bool) → IsStepOf at f m → b ≡ (f.in_body || stands f.reading.now at (codes "{"))
    → ((n : ℕ) → IsKnown s n → IsKnown m.scopes n) → IsStep at f (record m { scopes = s; in_body = b })
step-followed at f m s b step body known = record {
  step = record {
    reading = step.reading;
    kept = step.kept;
    found = step.found;
    known = λ n now. step.known n (known n now);
    used = step.used;
  };
  body = body;
}

between : (name t at : ℕ) → name < t → t < at → at ≤ name + 1 → ⊥
between name t at behind before low = omega (arith, behind, before, low)

-- the name of a function is read, and no token behind it
pub finding-none : (f : Finder) (name end at : ℕ) → ((n : ℕ) → IsKnown f.scopes n → ⊥) → f.in_body ≡ false → at ≤ name + 1 → IsFinding f name end at f
finding-none f name end at free body low = record {
  reading = refl;
  kept = λ n found. found;
  found = λ n found. inl found;
  used = λ n t behind before use_ not. absurd (between name t at behind before low);
  known = λ n known. absurd (free n known);
  body = λ behind. body ∙ sym (body-first f.reading.now name at low);
}

-- ---- a declaration

there_then_found : (f : Finder) (n : ℕ) → Contains f.found.keys n → has_found f n ≡ true
there_then_found f n there = (contains_is n f.found.keys (has_found f n) refl).1 there

found_then_there : (f : Finder) (n : ℕ) → has_found f n ≡ true → Contains f.found.keys n
found_then_there f n found = (contains_is n f.found.keys (has_found f n) refl).0 found

-- a function
pub function-found : (o : Outline) (f g : Finder) (number end name : ℕ) (is : Bool) → f.reading.now ≡ o → IsTrue is ↔ IsFunction o number → is ≡ true → name ≡ name_of o number
    → HasFound f name end g → HasFoundIn f number end g
function-found o f g number end name is same test true_ named has =
    let P : Outline → Type 0 = λ x. IsFunction x number in
    let Q : Outline → Type 0 = λ x. name ≡ name_of x number in
    let R : ℕ → Type 0 = λ k. HasFound f k end g in
    let function : IsFunction f.reading.now number = subst P (sym same) (test.0 true_) in
    let h : HasFound f (name_of f.reading.now number) end g = subst R (subst Q (sym same) named) has in
    record {
      reading = h.reading;
      kept = h.kept;
      found = λ n found. elim (h.found n found) [ inl before ↦ inl before | inr used ↦ inr (function, used) ];
      used = λ n known used free. h.used n used free;
    }

-- another declaration
pub function-none : (o : Outline) (f : Finder) (number end : ℕ) (is : Bool) → f.reading.now ≡ o → IsTrue is ↔ IsFunction o number → is ≡ false → HasFoundIn f number end f
function-none o f number end is same test false_ =
    let P : Outline → Type 0 = λ x. IsFunction x number in
    record {
      reading = refl;
      kept = λ n found. found;
      found = λ n found. inl found;
      used = λ n function used free. absurd (false≢true (sym false_ ∙ test.1 (subst P same function)));
    }

named-found : (o : Outline) (number end : ℕ) (f g h : Finder) → f.reading.now ≡ o → ((n : ℕ) → has_found f n ≡ false) → HasAdded f (steps_at o number) g → HasFoundIn g number end h
    → (n : ℕ) → has_found h n ≡ true → IsNamed o number end n
named-found o number end f g h same none added found n there =
    let P : Outline → Type 0 = λ x. IsLookedUp x (steps_at o number) n in
    let Q : Outline → Type 0 = λ x. IsFunction x number × IsUsed x (name_of x number) end n in
    elim (found.found n there) [
      | inl before ↦
          elim (added.named n before) [
            | inl first ↦ absurd (false≢true (sym (none n) ∙ first))
            | inr looked ↦ inl (subst P same looked)
          ]
      | inr used ↦ inr (subst Q (added.same.reading ∙ same) used)
    ]

-- what is found of a declaration are those that it names
pub uses-found : (o : Outline) (number end : ℕ) (f g h : Finder) (list : List ℕ) → f.reading.now ≡ o → ((n : ℕ) → has_found f n ≡ false) → HasAdded f (steps_at o number) g
    → HasFoundIn g number end h → list ≡ h.found.keys → IsStrictlyIncreasing list → AreUses o number end list
uses-found o number end f g h list same none added found is rising =
    let A : List ℕ → Type 0 = λ xs. All (IsNamed o number end) xs in
    let there : (n : ℕ) → has_found h n ≡ true → Contains list n =
    λ n has. subst (λ (xs : List ℕ). Contains xs n) (sym is) (found_then_there h n has) in
    record {
      rising = rising;
      named =
          subst A (sym is)
          (All-weaker (Contains h.found.keys) (IsNamed o number end)
          (λ n inside. named-found o number end f g h same none added found n (there_then_found h n inside)) h.found.keys (All-contains_itself h.found.keys));
      steps = λ n looked.
          let P : Outline → Type 0 = λ x. IsLookedUp x (steps_at o number) n in
          there n (found.kept n (added.found n (subst P (sym same) looked)));
      tokens = λ n function used free.
          let e : o ≡ g.reading.now = sym (added.same.reading ∙ same) in
          let P : Outline → Type 0 = λ x. IsFunction x number in
          let Q : Outline → Type 0 = λ x. IsUsed x (name_of x number) end n in
          let R : Outline → Type 0 = λ x. IsShadowed x (name_of x number) end n → ⊥ in
          there n (found.used n (subst P e function) (subst Q e used) (subst R e free));
    }

-- of a list that is made of what is found
pub list-answered : {L E : Type 0} (r : Result L E) (items : L → List ℕ) (keys : List ℕ) (A : List ℕ → Type 0) → IfOk r (λ l. IsStrictlyIncreasing (items l)) → IfOk r (λ l. items l ≡ keys)
    → ((list : List ℕ) → list ≡ keys → IsStrictlyIncreasing list → A list) → IfOk r (λ l. A (items l))
list-answered (Ok l) items keys A rising same all = all (items l) same rising
list-answered (Err e) items keys A rising same all = tt
