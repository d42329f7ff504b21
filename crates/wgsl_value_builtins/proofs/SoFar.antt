-- What loops over values have found so far.
use Rattle.std.proofs.Common.{◌≡◌, ◌∙◌, ℕ, ◌+◌, ◌<◌, ◌≤◌, List, [], ◌∷◌, ◌++◌, length, drop, get_or, Bool, true, false, ◌&&◌, ◌||◌, Option, Some, None, Result, Ok, Err, refl, sym, ap}
use Rattle.std.proofs.lemmas.List.{drop_all}
use Rattle.std.specs.Prelude.{IfOk, IsSomeAnd, MatchOption}
use Rattle.wgsl_value_ops.specs.Lift.{lifted}
use Rattle.wgsl_rules.specs.Refusals.{Refusal, Outcome, and_then}
use Rattle.wgsl_rules.specs.Values.{Val, Vals, no_vals, val, IsStorable}
use Rattle.wgsl_scalar.specs.Answers.{Gives}
use Rattle.wgsl_scalar.specs.declared.error.Error.{Error}
use Rattle.wgsl_value_builtins.specs.Logical.{truth_in, truths_joined, one_selected, each_selected}
use Rattle.wgsl_values.specs.View.{value_of, vals_view}
use Rattle.wgsl_values.specs.declared.instance.Instance.{Instance}
use Rattle.wgsl_layout.proofs.Writing.{vals-from as rest-is}

-- ---- outcomes

-- a refusal of one outcome, where it is that of another
pub refused-as : {A B : Type 0} (o : Option Refusal) (p : Outcome A) (q : Outcome B) → ((r : Refusal) → p ≡ Err r → q ≡ Err r) → IsSomeAnd o (λ r. p ≡ Err r) → IsSomeAnd o (λ r. q ≡ Err r)
refused-as None p q f h = absurd h
refused-as (Some r) p q f h = f r h

pub gives-as : {A B : Type 0} (o : Option Refusal) (p : Outcome A) (q : Outcome B) → ((r : Refusal) → p ≡ Err r → q ≡ Err r) → IsSomeAnd o (λ r. p ≡ Err r) → MatchOption o (Unit {0}) (λ r. q ≡ Err r)
gives-as None p q f h = tt
gives-as (Some r) p q f h = f r h

pub gives-through : {A B : Type 0} (o : Option Refusal) (p : Outcome A) (q : Outcome B) → ((r : Refusal) → p ≡ Err r → q ≡ Err r) → MatchOption o (Unit {0}) (λ r. p ≡ Err r) → MatchOption o (Unit {0}) (λ r. q ≡ Err r)
gives-through None p q f h = tt
gives-through (Some r) p q f h = f r h

-- what a call answers may be stored, where the answers of its definition may
pub gives-storable : (r : Result Instance Error) (o : Outcome Val) → ((x : Val) → o ≡ Ok x → IsStorable x) → Gives value_of r o → IfOk r (λ v. IsStorable (value_of v))
gives-storable (Ok v) o f g = f (value_of v) g
gives-storable (Err e) o f g = tt

then-same : {A : Type 0} (o : Outcome A) (g : A → A) → ((x : A) → g x ≡ x) → and_then o (λ x. Ok (g x)) ≡ o
then-same (Ok x) g h = ap (λ y. Ok y) (h x)
then-same (Err r) g h = refl

then-then : {A : Type 0} (o : Outcome A) (g h k : A → A) → ((x : A) → h (g x) ≡ k x) → and_then (and_then o (λ x. Ok (g x))) (λ x. Ok (h x)) ≡ and_then o (λ x. Ok (k x))
then-then (Ok x) g h k e = ap (λ y. Ok y) (e x)
then-then (Err r) g h k e = refl

-- ---- what is left of a list

-- ---- truths joined

-- what is left of the list from i on decides the whole, after the truth values so far
pub record HasJoined (f : Bool → Bool → Bool) (b : Bool) (xs : List Instance) (i : ℕ) (acc : Bool) : Type 0 where
  pub joined : truths_joined f b (vals_view xs) ≡ and_then (truths_joined f b (vals_view (drop i xs))) (λ c. Ok (f acc c))

module _ (f : Bool → Bool → Bool) (b : Bool) (xs : List Instance) where
  pub joined-start : ((c : Bool) → f b c ≡ c) → HasJoined f b xs 0 b
  joined-start h = record { joined = sym (then-same (truths_joined f b (vals_view xs)) (f b) h) }

  -- at a value, by its truth value
  at : (i : ℕ) (x : Instance) (acc : Bool) → i < length xs → x ≡ get_or xs i x → HasJoined f b xs i acc
      → truths_joined f b (vals_view xs) ≡ and_then (and_then (truth_in (value_of x)) (λ a. and_then (truths_joined f b (vals_view (drop (i + 1) xs))) (λ c. Ok (f a c)))) (λ c. Ok (f acc c))
  at i x acc h e j = j.joined ∙ ap (λ (vs : Vals). and_then (truths_joined f b vs) (λ c. Ok (f acc c))) (rest-is xs i x h e)

  pub joined-more : (i : ℕ) (x : Instance) (acc a : Bool) → ((c : Bool) → f acc (f a c) ≡ f (f acc a) c) → i < length xs → x ≡ get_or xs i x → HasJoined f b xs i acc → truth_in (value_of x) ≡ Ok a → HasJoined f b xs (i + 1) (f acc a)
  joined-more i x acc a assoc h e j t = record {
    joined = at i x acc h e j
        ∙ ap (λ (o : Outcome Bool). and_then (and_then o (λ a. and_then (truths_joined f b (vals_view (drop (i + 1) xs))) (λ c. Ok (f a c)))) (λ c. Ok (f acc c))) t
        ∙ then-then (truths_joined f b (vals_view (drop (i + 1) xs))) (f a) (f acc) (f (f acc a)) assoc;
  }

  pub joined-refused : (i : ℕ) (x : Instance) (acc : Bool) (r : Refusal) → i < length xs → x ≡ get_or xs i x → HasJoined f b xs i acc → truth_in (value_of x) ≡ Err r → truths_joined f b (vals_view xs) ≡ Err r
  joined-refused i x acc r h e j t =
      at i x acc h e j
      ∙ ap (λ (o : Outcome Bool). and_then (and_then o (λ a. and_then (truths_joined f b (vals_view (drop (i + 1) xs))) (λ c. Ok (f a c)))) (λ c. Ok (f acc c))) t

  pub joined-all : (i : ℕ) (acc : Bool) → f acc b ≡ acc → length xs ≤ i → HasJoined f b xs i acc → truths_joined f b (vals_view xs) ≡ Ok acc
  joined-all i acc s h j = j.joined ∙ ap (λ (ys : List Instance). and_then (truths_joined f b (vals_view ys)) (λ c. Ok (f acc c))) (drop_all i xs h) ∙ ap (λ (c : Bool). Ok c) s

pub and-assoc : (a b c : Bool) → (a && (b && c)) ≡ (a && b && c)
and-assoc true b c = refl
and-assoc false b c = refl

pub or-assoc : (a b c : Bool) → (a || (b || c)) ≡ (a || b || c)
or-assoc true b c = refl
or-assoc false b c = refl

pub or-false : (a : Bool) → (a || false) ≡ a
or-false true = refl
or-false false = refl

-- ---- values picked

-- these values, then others
pub after : List Instance → Vals → Vals
after [] vs = vs
after (x ∷ xs) vs = val (value_of x) (after xs vs)

after-append : (out : List Instance) (y : Instance) (vs : Vals) → after (out ++ y ∷ []) vs ≡ after out (val (value_of y) vs)
unfolding after
after-append [] y vs = refl
after-append (x ∷ xs) y vs = ap (val (value_of x)) (after-append xs y vs)

after-none : (out : List Instance) → after out no_vals ≡ vals_view out
unfolding after
after-none [] = refl
after-none (x ∷ xs) = ap (val (value_of x)) (after-none xs)

-- what is left of the lists from i on decides the whole, after what is picked so far
pub record HasPicked (bs vs ws : List Instance) (i : ℕ) (out : List Instance) : Type 0 where
  pub picked : each_selected (vals_view bs) (vals_view vs) (vals_view ws)
      ≡ and_then (each_selected (vals_view (drop i bs)) (vals_view (drop i vs)) (vals_view (drop i ws))) (λ xs. Ok (after out xs))

-- a place in three lists
pub record AreAt (bs vs ws : List Instance) (i : ℕ) (b v w : Instance) : Type 0 where
  pub within : i < length bs
  pub first_within : i < length vs
  pub second_within : i < length ws
  pub bool : b ≡ get_or bs i b
  pub first : v ≡ get_or vs i v
  pub second : w ≡ get_or ws i w

module _ (bs vs ws : List Instance) where
  abbrev rest : ℕ → Outcome Vals
  rest i = each_selected (vals_view (drop i bs)) (vals_view (drop i vs)) (vals_view (drop i ws))

  pub picked-start : HasPicked bs vs ws 0 []
  unfolding after
  picked-start = record { picked = sym (then-same (each_selected (vals_view bs) (vals_view vs) (vals_view ws)) (λ xs. xs) (λ xs. refl)) }

  rest-at : (i : ℕ) (b v w : Instance) → AreAt bs vs ws i b v w
      → rest i ≡ and_then (one_selected (value_of b) (value_of v) (value_of w)) (λ x. and_then (rest (i + 1)) (λ xs. Ok (val x xs)))
  rest-at i b v w a =
      ap (λ (us : Vals). each_selected us (vals_view (drop i vs)) (vals_view (drop i ws))) (rest-is bs i b a.within a.bool)
      ∙ ap (λ (us : Vals). each_selected (val (value_of b) (vals_view (drop (i + 1) bs))) us (vals_view (drop i ws))) (rest-is vs i v a.first_within a.first)
      ∙ ap (λ (us : Vals). each_selected (val (value_of b) (vals_view (drop (i + 1) bs))) (val (value_of v) (vals_view (drop (i + 1) vs))) us) (rest-is ws i w a.second_within a.second)

  picked-at : (i : ℕ) (b v w : Instance) (out : List Instance) (o : Outcome Val) → AreAt bs vs ws i b v w → HasPicked bs vs ws i out → one_selected (value_of b) (value_of v) (value_of w) ≡ o
      → each_selected (vals_view bs) (vals_view vs) (vals_view ws) ≡ and_then (and_then o (λ x. and_then (rest (i + 1)) (λ xs. Ok (val x xs)))) (λ xs. Ok (after out xs))
  picked-at i b v w out o a p e =
      p.picked ∙ ap (λ (q : Outcome Vals). and_then q (λ xs. Ok (after out xs))) (rest-at i b v w a ∙ ap (λ (q : Outcome Val). and_then q (λ x. and_then (rest (i + 1)) (λ xs. Ok (val x xs)))) e)

  pub picked-more : (i : ℕ) (b v w y : Instance) (out : List Instance) → AreAt bs vs ws i b v w → HasPicked bs vs ws i out → one_selected (value_of b) (value_of v) (value_of w) ≡ Ok (value_of y) → HasPicked bs vs ws (i + 1) (out ++ y ∷ [])
  picked-more i b v w y out a p e = record {
    picked = picked-at i b v w out (Ok (value_of y)) a p e
        ∙ then-then (rest (i + 1)) (val (value_of y)) (after out) (after (out ++ y ∷ [])) (λ xs. sym (after-append out y xs));
  }

  pub picked-refused : (i : ℕ) (b v w : Instance) (out : List Instance) (r : Refusal) → AreAt bs vs ws i b v w → HasPicked bs vs ws i out → one_selected (value_of b) (value_of v) (value_of w) ≡ Err r → each_selected (vals_view bs) (vals_view vs) (vals_view ws) ≡ Err r
  picked-refused i b v w out r a p e = picked-at i b v w out (Err r) a p e

  pub picked-all : (i : ℕ) (out : List Instance) → length bs ≤ i → length vs ≤ i → length ws ≤ i → HasPicked bs vs ws i out → each_selected (vals_view bs) (vals_view vs) (vals_view ws) ≡ Ok (vals_view out)
  picked-all i out h k l p =
      p.picked
      ∙ ap (λ (us : List Instance). and_then (each_selected (vals_view us) (vals_view (drop i vs)) (vals_view (drop i ws))) (λ xs. Ok (after out xs))) (drop_all i bs h)
      ∙ ap (λ (us : List Instance). and_then (each_selected no_vals (vals_view us) (vals_view (drop i ws))) (λ xs. Ok (after out xs))) (drop_all i vs k)
      ∙ ap (λ (us : List Instance). and_then (each_selected no_vals no_vals (vals_view us)) (λ xs. Ok (after out xs))) (drop_all i ws l)
      ∙ ap (λ (xs : Vals). Ok xs) (after-none out)

-- ---- values made

-- what is left of the list from i on decides the whole, after what is made so far
pub record HasMade (f : Val → Outcome Val) (xs : List Instance) (i : ℕ) (out : List Instance) : Type 0 where
  pub made : lifted f (vals_view xs) ≡ and_then (lifted f (vals_view (drop i xs))) (λ us. Ok (after out us))

module _ (f : Val → Outcome Val) (xs : List Instance) where
  pub made-start : HasMade f xs 0 []
  unfolding after
  made-start = record { made = sym (then-same (lifted f (vals_view xs)) (λ us. us) (λ us. refl)) }

  made-at : (i : ℕ) (x : Instance) (out : List Instance) (o : Outcome Val) → i < length xs → x ≡ get_or xs i x → HasMade f xs i out → f (value_of x) ≡ o
      → lifted f (vals_view xs) ≡ and_then (and_then o (λ y. and_then (lifted f (vals_view (drop (i + 1) xs))) (λ us. Ok (val y us)))) (λ us. Ok (after out us))
  made-at i x out o h e m t =
      m.made
      ∙ ap (λ (vs : Vals). and_then (lifted f vs) (λ us. Ok (after out us))) (rest-is xs i x h e)
      ∙ ap (λ (q : Outcome Val). and_then (and_then q (λ y. and_then (lifted f (vals_view (drop (i + 1) xs))) (λ us. Ok (val y us)))) (λ us. Ok (after out us))) t

  pub made-more : (i : ℕ) (x y : Instance) (out : List Instance) → i < length xs → x ≡ get_or xs i x → HasMade f xs i out → f (value_of x) ≡ Ok (value_of y) → HasMade f xs (i + 1) (out ++ y ∷ [])
  made-more i x y out h e m t = record {
    made = made-at i x out (Ok (value_of y)) h e m t
        ∙ then-then (lifted f (vals_view (drop (i + 1) xs))) (val (value_of y)) (after out) (after (out ++ y ∷ [])) (λ us. sym (after-append out y us));
  }

  pub made-refused : (i : ℕ) (x : Instance) (out : List Instance) (r : Refusal) → i < length xs → x ≡ get_or xs i x → HasMade f xs i out → f (value_of x) ≡ Err r → lifted f (vals_view xs) ≡ Err r
  made-refused i x out r h e m t = made-at i x out (Err r) h e m t

  pub made-all : (i : ℕ) (out : List Instance) → length xs ≤ i → HasMade f xs i out → lifted f (vals_view xs) ≡ Ok (vals_view out)
  made-all i out h m =
      m.made
      ∙ ap (λ (ys : List Instance). and_then (lifted f (vals_view ys)) (λ us. Ok (after out us))) (drop_all i xs h)
      ∙ ap (λ (us : Vals). Ok us) (after-none out)
