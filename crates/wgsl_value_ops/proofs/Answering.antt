-- What a closure has answered so far, in a loop over values.
use Rattle.std.proofs.Common.{◌≡◌, inl, inr, ℕ, zero, suc, ◌+◌, ◌<◌, ◌≤◌, List, [], ◌∷◌, ◌++◌, length, drop, get_or, map, Result, Ok, Err, Some, IsTrue, refl, ap, sym, ◌∙◌, subst, arith, add-one, append_assoc, append-nil, Bool, true, false, ◌&&◌, ◌==◌, ◌≢◌, None}
use Rattle.std.proofs.lemmas.List.{drop_all}
use Rattle.std.proofs.lemmas.Bool.{eq-eqb}
use Rattle.std.proofs.lemmas.Bool.Decides.{nat_tests}
use Rattle.wgsl_rules.specs.Refusals.{compwise_binary}
use Rattle.wgsl_scalar.specs.Answers.{refusal_of}
use Rattle.wgsl_scalar.specs.declared.error.Error.TheVariants.{Memory}
use Rattle.wgsl_rules.specs.Values.{Val, truth, number, vector, Vals, no_vals, val, count, type_of, first_type, AllOfType, AreLiterals, AreStorable, IsLiteral, IsStorable, IsWellFormed}
use Rattle.wgsl_scalar.specs.declared.error.Error.{Error}
use Rattle.wgsl_values.specs.View.{value_of, vals_view}
use Rattle.wgsl_values.specs.declared.instance.Instance.{Instance}
use Rattle.wgsl_value_ops.specs.Closures.{Answered, Refused, AnswersAt, AnswersAtPair, AnswersEach, AnswersOneKind, AnswersPairs, pairs_of, components_of, answer_of}
use Rattle.wgsl_rules.specs.Paths.{parts, has_none, same_paths, all_same_paths}
use Rattle.wgsl_rules.specs.Types.{Ty}
use Rattle.wgsl_values.proofs.lemmas.Literals.{is-literal}
use Rattle.wgsl_values.proofs.lemmas.Views.{vec_view-is}
use Rattle.wgsl_values.specs.Iterators.{listed}
use Rattle.wgsl_values.specs.View.{vals_of, vec_view}
use Rattle.wgsl_values.specs.declared.vector.VecInstance.{VecInstance}
use Rattle.wgsl_scalar.specs.Literals.{literal_of}
use Rattle.wgsl_scalar.specs.declared.literal.LiteralInstance.{LiteralInstance}
use Rattle.std.specs.List.{zip}
use Rattle.std.specs.Prelude.{slice_get}
use Rattle.std.specs.Borrow.{Bor}
use denote.Param.Members.{Shared}

-- ---- lists of values

pub values-append : (vs ws : List Instance) → map value_of (vs ++ ws) ≡ map value_of vs ++ map value_of ws
values-append [] ws = refl
values-append (v ∷ vs) ws = ap (λ l. value_of v ∷ l) (values-append vs ws)

pub drop-values : (vs : List Instance) (i : ℕ) (d : Instance) → i < length vs → drop i (map value_of vs) ≡ value_of (get_or vs i d) ∷ drop (suc i) (map value_of vs)
drop-values [] i d h = absurd (omega arith)
drop-values (v ∷ vs) zero d h = refl
drop-values (v ∷ vs) (suc i) d h = drop-values vs i d (omega arith)

pub length-values : (vs : List Instance) → length (map value_of vs) ≡ length vs
length-values [] = refl
length-values (v ∷ vs) = ap suc (length-values vs)

-- ---- the answers so far

-- what is left of xs from i on decides the whole, after the answers so far
pub record IsSoFar {X Y : Type 0} (R : X → Result Y Error → Type 0) (xs : List X) (i : ℕ) (out : List Y) : Type 0 where
  pub answered : (ys : List Y) → Answered R (drop i xs) ys → Answered R xs (out ++ ys)
  pub refused : (e : Error) → Refused R (drop i xs) e → Refused R xs e

pub so_far_more : {X Y : Type 0} (R : X → Result Y Error → Type 0) (xs : List X) (i : ℕ) (out : List Y) (x : X) (y : Y) → drop i xs ≡ x ∷ drop (suc i) xs → IsSoFar R xs i out → R x (Ok y) → IsSoFar R xs (suc i) (out ++ y ∷ [])
so_far_more R xs i out x y split h r = record {
  answered = λ ys a. rw append_assoc (h.answered (y ∷ ys) (rw split (r, a)));
  refused = λ e a. h.refused e (rw split (inr (y, r, a)));
}

-- one more answer
pub so_far_push : (R : Val → Result Val Error → Type 0) (vs : List Instance) (i : ℕ) (d : Instance) (out : List Instance) (y : Instance) → i < length vs
    → IsSoFar R (map value_of vs) i (map value_of out) → R (value_of (get_or vs i d)) (Ok (value_of y)) → IsSoFar R (map value_of vs) (i + 1) (map value_of (out ++ y ∷ []))
so_far_push R vs i d out y h s r =
    rw (add-one, values-append out (y ∷ [])) (so_far_more R (map value_of vs) i (map value_of out) (value_of (get_or vs i d)) (value_of y) (drop-values vs i d h) s r)

pub refused_here : (R : Val → Result Val Error → Type 0) (vs : List Instance) (i : ℕ) (d : Instance) (out : List Instance) (e : Error) → i < length vs
    → IsSoFar R (map value_of vs) i (map value_of out) → R (value_of (get_or vs i d)) (Err e) → Refused R (map value_of vs) e
refused_here R vs i d out e h s r = s.refused e (rw (drop-values vs i d h) (inl r))

-- at the end of the list
pub so_far_all : (R : Val → Result Val Error → Type 0) (vs : List Instance) (i : ℕ) (out : List Instance) → length vs ≤ i
    → IsSoFar R (map value_of vs) i (map value_of out) → Answered R (map value_of vs) (map value_of out)
so_far_all R vs i out end s =
    let a = s.answered [] (rw (drop_all i (map value_of vs) (rw (length-values vs) end)) tt) in rw append-nil at a

-- ---- the same of two lists

pub drop-pairs : (vs ws : List Instance) (i : ℕ) (d e : Instance) → i < length vs → length vs ≡ length ws
    → drop i (zip (map value_of vs) (map value_of ws)) ≡ (value_of (get_or vs i d), value_of (get_or ws i e)) ∷ drop (suc i) (zip (map value_of vs) (map value_of ws))
drop-pairs [] ws i d e h k = absurd (omega arith)
drop-pairs (v ∷ vs) [] i d e h k = absurd (omega arith)
drop-pairs (v ∷ vs) (w ∷ ws) zero d e h k = refl
drop-pairs (v ∷ vs) (w ∷ ws) (suc i) d e h k = drop-pairs vs ws i d e (omega arith) (omega arith)

pub length-pairs : (vs ws : List Instance) → length vs ≡ length ws → length (zip (map value_of vs) (map value_of ws)) ≡ length vs
length-pairs [] ws k = refl
length-pairs (v ∷ vs) [] k = absurd (omega arith)
length-pairs (v ∷ vs) (w ∷ ws) k = ap suc (length-pairs vs ws (omega arith))

pub pair-got : (vs ws : List Instance) (i : ℕ) (d e : Instance) → i < length vs → length vs ≡ length ws
    → slice_get (zip (map value_of vs) (map value_of ws)) i ≡ Some (value_of (get_or vs i d), value_of (get_or ws i e))
pair-got [] ws i d e h k = absurd (omega arith)
pair-got (v ∷ vs) [] i d e h k = absurd (omega arith)
pair-got (v ∷ vs) (w ∷ ws) zero d e h k = refl
pair-got (v ∷ vs) (w ∷ ws) (suc i) d e h k = pair-got vs ws i d e (omega arith) (omega arith)

module _ (R : Val × Val → Result Val Error → Type 0) (vs ws : List Instance) where
  pub pairs_push : (i : ℕ) (d e : Instance) (out : List Instance) (y : Instance) → i < length vs → length vs ≡ length ws
      → IsSoFar R (zip (map value_of vs) (map value_of ws)) i (map value_of out) → R (value_of (get_or vs i d), value_of (get_or ws i e)) (Ok (value_of y))
      → IsSoFar R (zip (map value_of vs) (map value_of ws)) (i + 1) (map value_of (out ++ y ∷ []))
  pairs_push i d e out y h k s r =
      rw (add-one, values-append out (y ∷ [])) (so_far_more R (zip (map value_of vs) (map value_of ws)) i (map value_of out) _ (value_of y) (drop-pairs vs ws i d e h k) s r)

  pub pair_refused : (i : ℕ) (d e : Instance) (out : List Instance) (x : Error) → i < length vs → length vs ≡ length ws
      → IsSoFar R (zip (map value_of vs) (map value_of ws)) i (map value_of out) → R (value_of (get_or vs i d), value_of (get_or ws i e)) (Err x)
      → Refused R (zip (map value_of vs) (map value_of ws)) x
  pair_refused i d e out x h k s r = s.refused x (rw (drop-pairs vs ws i d e h k) (inl r))

  pub pairs_all : (i : ℕ) (out : List Instance) → length vs ≤ i → length vs ≡ length ws
      → IsSoFar R (zip (map value_of vs) (map value_of ws)) i (map value_of out) → Answered R (zip (map value_of vs) (map value_of ws)) (map value_of out)
  pairs_all i out end k s =
      let a = s.answered [] (rw (drop_all i (zip (map value_of vs) (map value_of ws)) (rw (length-pairs vs ws k) end)) tt) in rw append-nil at a

pub storable-append : (vs : List Instance) (w : Instance) → AreStorable (vals_view vs) → IsStorable (value_of w) → AreStorable (vals_view (vs ++ w ∷ []))
storable-append [] w h k = (k, tt)
storable-append (v ∷ vs) w h k = (h.0, storable-append vs w h.1 k)

pub item-got : (vs : List Instance) (i : ℕ) (d : Instance) → i < length vs → slice_get (map value_of vs) i ≡ Some (value_of (get_or vs i d))
item-got [] i d h = absurd (omega arith)
item-got (v ∷ vs) zero d h = refl
item-got (v ∷ vs) (suc i) d h = item-got vs i d (omega arith)

-- ---- vectors of answers

pub count-of : (vs : List Val) → count (vals_of vs) ≡ length vs
count-of [] = refl
count-of (v ∷ vs) = ap suc (count-of vs)

pub answered-length : {X Y : Type 0} (R : X → Result Y Error → Type 0) (xs : List X) (ys : List Y) → Answered R xs ys → length ys ≡ length xs
answered-length R [] [] a = refl
answered-length R [] (y ∷ ys) a = absurd a
answered-length R (x ∷ xs) [] a = absurd a
answered-length R (x ∷ xs) (y ∷ ys) a = ap suc (answered-length R xs ys a.1)

-- each answer is a literal
abbrev pub GivesLiterals : {X : Type 0} → (X → Result Val Error → Type 0) → Type 0
GivesLiterals {X} R = (x : X) (w : Val) → R x (Ok w) → IsLiteral w

pub answer-literal : (r : Result LiteralInstance Error) (w : Val) → answer_of r ≡ Ok w → IsLiteral w
answer-literal (Ok l) w h = let e : literal_of l ≡ w = cc in rw (← e) (is-literal l)
answer-literal (Err e) w h = cc

pub unary-literals : {F : Type 0} (g : Shared F (Bor LiteralInstance × Unit {0}) (Result LiteralInstance Error)) (f : F) → GivesLiterals (AnswersAt g f)
unary-literals g f x w r = answer-literal r.answer w r.gives

pub pair-literals : {F : Type 0} (g : Shared F (Bor LiteralInstance × (Bor LiteralInstance × Unit {0})) (Result LiteralInstance Error)) (f : F) → GivesLiterals (AnswersAtPair g f)
pair-literals g f x w r = answer-literal r.answer w r.gives

pub answered-literals : {X : Type 0} (R : X → Result Val Error → Type 0) → GivesLiterals R → (xs : List X) (ys : List Val) → Answered R xs ys → AreLiterals (vals_of ys)
answered-literals R l [] [] a = tt
answered-literals R l [] (y ∷ ys) a = absurd a
answered-literals R l (x ∷ xs) [] a = absurd a
answered-literals R l (x ∷ xs) (y ∷ ys) a = (l x y a.0, answered-literals R l xs ys a.1)

answered-typed : {X : Type 0} (R : X → Result Val Error → Type 0) (t : Ty) (xs : List X) (ys : List Val)
    → ((i : ℕ) (x : X) (w : Val) → slice_get xs i ≡ Some x → R x (Ok w) → type_of w ≡ t) → Answered R xs ys → AllOfType t (vals_of ys)
answered-typed R t [] [] h a = tt
answered-typed R t [] (y ∷ ys) h a = absurd a
answered-typed R t (x ∷ xs) [] h a = absurd a
answered-typed R t (x ∷ xs) (y ∷ ys) h a = (h 0 x y refl a.0, answered-typed R t xs ys (λ i z w e r. h (suc i) z w e r) a.1)

pub answered-one-type : {X : Type 0} (R : X → Result Val Error → Type 0) (xs : List X) (ys : List Val) → AnswersOneKind R xs → Answered R xs ys → AllOfType (first_type (vals_of ys)) (vals_of ys)
answered-one-type R [] [] o a = tt
answered-one-type R [] (y ∷ ys) o a = absurd a
answered-one-type R (x ∷ xs) [] o a = absurd a
answered-one-type R (x ∷ xs) (y ∷ ys) o a = answered-typed R (type_of y) (x ∷ xs) (y ∷ ys) (λ i z w e r. o.one i 0 z x w y e refl r a.0) a

pub answers-storable : {X : Type 0} (R : X → Result Val Error → Type 0) (xs : List X) (out : List Instance) → GivesLiterals R → AnswersOneKind R xs
    → 2 ≤ length xs → length xs ≤ 4 → Answered R xs (map value_of out) → AreStorable (vals_view out) → IsStorable (vector (vals_view out))
answers-storable R xs out l o least most a stored =
    let c = count-of (map value_of out) in
    let k = answered-length R xs (map value_of out) a in
    (omega arith, omega arith, answered-literals R l xs (map value_of out) a, answered-one-type R xs (map value_of out) o a, stored)

-- ---- vectors

pub listed-values : (vs : List Instance) → listed (vals_view vs) ≡ map value_of vs
listed-values [] = refl
listed-values (v ∷ vs) = ap (λ l. value_of v ∷ l) (listed-values vs)

pub vector-components : (v : VecInstance) (s : List Instance) → vals_view s ≡ parts (vec_view v) → components_of (vec_view v) ≡ map value_of s
vector-components v s e =
    let is = vec_view-is v in
    let same : vals_view s ≡ vals_view v.components.items = e ∙ ap parts is in
    ap components_of is ∙ ap listed (sym same) ∙ listed-values s

-- what is known of a vector that is well-formed
pub record IsVectorOf (v : VecInstance) (s : List Instance) : Type 0 where
  pub is : vec_view v ≡ vector (vals_view s)
  pub least : 2 ≤ length s
  pub most : length s ≤ 4
  pub literals : AreLiterals (vals_view s)
  pub one_type : AllOfType (first_type (vals_view s)) (vals_view s)

pub vector-known : (v : VecInstance) (s : List Instance) → vals_view s ≡ parts (vec_view v) → IsWellFormed (vec_view v) → IsVectorOf v s
vector-known v s e w =
    let is = vec_view-is v in
    let same : vec_view v ≡ vector (vals_view s) = is ∙ ap vector (sym (e ∙ ap parts is)) in
    let k : IsStorable (vector (vals_view s)) = subst IsWellFormed same w in
    let c = count-of (map value_of s) in
    let n = length-values s in
    record { is = same; least = omega (arith, k.0); most = omega (arith, k.1); literals = k.2; one_type = k.3 }

pub unary-storable : {F : Type 0} (g : Shared F (Bor LiteralInstance × Unit {0}) (Result LiteralInstance Error)) (f : F) (v : VecInstance) (s out : List Instance) → IsVectorOf v s
    → AnswersOneKind (AnswersAt g f) (map value_of s) → AnswersEach (AnswersAt g f) (map value_of s) (Ok (map value_of out)) → AreStorable (vals_view out) → IsStorable (vector (vals_view out))
unary-storable g f v s out k o a stored =
    let n = length-values s in
    answers-storable (AnswersAt g f) (map value_of s) out (unary-literals g f) o (rw n k.least) (rw n k.most) a.each stored

pub pair-storable : {F : Type 0} (g : Shared F (Bor LiteralInstance × (Bor LiteralInstance × Unit {0})) (Result LiteralInstance Error)) (f : F) (v : VecInstance) (s t out : List Instance) → IsVectorOf v s
    → length s ≡ length t → AnswersOneKind (AnswersAtPair g f) (zip (map value_of s) (map value_of t)) → AnswersEach (AnswersAtPair g f) (zip (map value_of s) (map value_of t)) (Ok (map value_of out))
    → AreStorable (vals_view out) → IsStorable (vector (vals_view out))
pair-storable g f v s t out k e o a stored =
    let n = length-pairs s t e in
    answers-storable (AnswersAtPair g f) (zip (map value_of s) (map value_of t)) out (pair-literals g f) o (rw n k.least) (rw n k.most) a.each stored

pub both-true : (a b : Bool) → IsTrue a → IsTrue b → IsTrue (a && b)
both-true true b h k = k
both-true false b h k = cc

no-parts : (w : Val) → IsLiteral w → IsTrue (has_none (parts w))
no-parts (truth b) l = refl
no-parts (number k z) l = refl
no-parts w l = absurd l

literal-paths : (v w : Val) → IsLiteral v → IsLiteral w → IsTrue (same_paths v w)
literal-paths (truth a) w k l = no-parts w l
literal-paths (number j y) w k l = no-parts w l
literal-paths v w k l = absurd k

pub literals-paths : (vs ws : Vals) → AreLiterals vs → AreLiterals ws → count vs ≡ count ws → IsTrue (all_same_paths vs ws)
literals-paths no_vals no_vals k l e = refl
literals-paths no_vals (val w ws) k l e = absurd (omega arith)
literals-paths (val v vs) no_vals k l e = absurd (omega arith)
literals-paths (val v vs) (val w ws) k l e = both-true (same_paths v w) _ (literal-paths v w k.0 l.0) (literals-paths vs ws k.1 l.1 (omega arith))

-- ---- what the calls on vectors answer

module _ {X : Type 0} (R : X → Result Val Error → Type 0) (xs : List X) (lits : GivesLiterals R) where
  -- the vector of the answers has the components of the answers
  pub vector-answered : (v : VecInstance) (out : List Instance) → vec_view v ≡ vector (vals_view out) → Answered R xs (map value_of out)
      → AnswersEach R xs (Ok (components_of (vec_view v)))
  vector-answered v out e a = record { each = rw (e, listed-values out) a }

  pub vector-paths : (v w : VecInstance) (s out : List Instance) → vec_view v ≡ vector (vals_view out) → IsVectorOf w s
      → length xs ≡ length s → Answered R xs (map value_of out) → IsTrue (same_paths (vec_view v) (vec_view w))
  vector-paths v w s out e k n a =
      let c = count-of (map value_of out) in
      let d = count-of (map value_of s) in
      let m = length-values s in
      let l = answered-length R xs (map value_of out) a in
      rw (e, k.is) (literals-paths (vals_view out) (vals_view s) (answered-literals R lits xs (map value_of out) a) k.literals (omega arith))

unequal-eqb : (m n : ℕ) → m ≢ n → (m == n) ≡ false
unequal-eqb m n h = grind (arith, nat_tests)

suc-eqb : (m n : ℕ) → (m == n) ≡ (suc m == suc n)
suc-eqb m n = grind (arith, nat_tests)

-- two vectors have equal shapes exactly where they have as many components
pub literals-shape : (vs ws : Vals) → AreLiterals vs → AreLiterals ws → all_same_paths vs ws ≡ (count vs == count ws)
literals-shape no_vals no_vals k l = refl
literals-shape no_vals (val w ws) k l = rw (unequal-eqb 0 (suc (count ws)) (omega arith)) refl
literals-shape (val v vs) no_vals k l = rw (unequal-eqb (suc (count vs)) 0 (omega arith)) refl
literals-shape (val v vs) (val w ws) k l = rw (literal-paths v w k.0 l.0, literals-shape vs ws k.1 l.1) (suc-eqb (count vs) (count ws))

pub vectors-shape : (v w : VecInstance) (s t : List Instance) → IsVectorOf v s → IsVectorOf w t → same_paths (vec_view v) (vec_view w) ≡ (length s == length t)
vectors-shape v w s t k l =
    let c = count-of (map value_of s) in
    let d = count-of (map value_of t) in
    rw (k.is, l.is, literals-shape (vals_view s) (vals_view t) k.literals l.literals, c, d, length-values s, length-values t) refl

module _ {F : Type 0} (g : Shared F (Bor LiteralInstance × (Bor LiteralInstance × Unit {0})) (Result LiteralInstance Error)) (f : F) (v w : VecInstance) (s t : List Instance) (k : IsVectorOf v s) (l : IsVectorOf w t) where
  shapes : same_paths (vec_view v) (vec_view w) ≡ (length s == length t)
  shapes = vectors-shape v w s t k l

  pub pairs-are : pairs_of (vec_view v) (vec_view w) ≡ zip (map value_of s) (map value_of t)
  pairs-are = rw (k.is, l.is, listed-values s, listed-values t) refl

  pub pairs-answered : (r : Result (List Val) Error) → length s ≡ length t → AnswersEach (AnswersAtPair g f) (zip (map value_of s) (map value_of t)) r
      → AnswersPairs (AnswersAtPair g f) (vec_view v) (vec_view w) r
  pairs-answered r e a = record {
    equal = λ same. rw pairs-are a;
    unequal = λ h. absurd (equal-shapes e h);
  }
    where
      equal-shapes : length s ≡ length t → same_paths (vec_view v) (vec_view w) ≡ false → ⊥
      equal-shapes e h = let x = shapes in let y = eq-eqb (length s) (length t) e in cc

  pub pairs-unequal : (x : Error) → length s ≢ length t → refusal_of x ≡ Some (compwise_binary (type_of (vec_view v)) (type_of (vec_view w)))
      → AnswersPairs (AnswersAtPair g f) (vec_view v) (vec_view w) (Err x)
  pairs-unequal x n h = record {
    equal = λ same. absurd (unequal-shapes n same);
    unequal = λ e. rw h refl;
  }
    where
      unequal-shapes : length s ≢ length t → IsTrue (same_paths (vec_view v) (vec_view w)) → ⊥
      unequal-shapes n e = let x = shapes in let y = unequal-eqb (length s) (length t) n in cc

  pub pairs-memory : (x : Error) → refusal_of x ≡ None → x ≡ Memory → AnswersPairs (AnswersAtPair g f) (vec_view v) (vec_view w) (Err x)
  pairs-memory x h e = record {
    equal = λ same. record { each = inl e };
    unequal = λ n. rw h tt;
  }

-- vectors of unequal counts have no equal shapes
pub unequal-vectors : (v w : VecInstance) (s t : List Instance) → vals_view s ≡ parts (vec_view v) → IsWellFormed (vec_view v) → vals_view t ≡ parts (vec_view w) → IsWellFormed (vec_view w)
    → length s ≢ length t → IsTrue (same_paths (vec_view v) (vec_view w)) → ⊥
unequal-vectors v w s t e h d k n same =
    let x = vectors-shape v w s t (vector-known v s e h) (vector-known w t d k) in
    let y = unequal-eqb (length s) (length t) n in
    cc
