-- Vectors whose components are replaced in place.
use Rattle.std.proofs.Common.{◌≡◌, inl, ℕ, zero, suc, ◌+◌, ◌<◌, ◌≤◌, List, [], ◌∷◌, ◌++◌, length, drop, take, get_or, map, set, Result, Ok, Err, IsTrue, ◌≢◌, Option, None, IsSomeAnd, option_map, refl, ap, sym, ◌∙◌, subst, arith, add-one, append_assoc, append-nil}
use Rattle.std.proofs.lemmas.List.{drop_all, length-append, length-drop, length-take-le, map-append, take_more, take_more_set}
use Rattle.std.specs.List.{zip}
use Rattle.wgsl_rules.specs.Paths.{parts, replace_item, same_paths}
use Rattle.wgsl_rules.specs.Values.{Val, vector, Vals, no_vals, val, count, item, AreStorable, IsStorable}
use Rattle.wgsl_scalar.specs.Literals.{literal_of}
use Rattle.wgsl_scalar.specs.declared.error.Error.{Error}
use Rattle.wgsl_scalar.specs.declared.literal.LiteralInstance.{LiteralInstance}
use Rattle.wgsl_values.proofs.Columns.{item-within}
use Rattle.wgsl_values.proofs.lemmas.Views.{vec_view-is}
use Rattle.wgsl_values.specs.Iterators.{listed}
use Rattle.wgsl_values.specs.View.{value_of, vals_of, vals_view, vec_view}
use Rattle.wgsl_values.specs.Written.{with_part}
use Rattle.wgsl_values.specs.declared.instance.Instance.{Instance}
use Rattle.wgsl_values.specs.declared.vector.VecInstance.{VecInstance}
use Rattle.wgsl_values.proofs.Listed.{length-listed}
use Rattle.wgsl_value_ops.specs.Closures.{Answered, Refused, AnswersEach, AnswersOneKind, components_of}
use Rattle.wgsl_value_ops.proofs.Answering.{GivesLiterals, IsSoFar, IsVectorOf, answered-length, answered-literals, answered-one-type, count-of, drop-pairs, drop-values, length-pairs, length-values, literals-paths, so_far_more}

-- ---- answers that stand in the first places of a list

module _ (R : Val → Result Val Error → Type 0) (vs : List Instance) (answers : List LiteralInstance) where
  pub so_far_set : (i : ℕ) (d : Instance) (l : LiteralInstance) → i < length vs → i < length answers
      → IsSoFar R (map value_of vs) i (map literal_of (take i answers)) → R (value_of (get_or vs i d)) (Ok (literal_of l)) → IsSoFar R (map value_of vs) (i + 1) (map literal_of (take (i + 1) (set answers i l)))
  so_far_set i d l h k s r =
      rw (take_more_set answers i l k, map-append literal_of (take i answers) (l ∷ []), add-one)
      (so_far_more R (map value_of vs) i (map literal_of (take i answers)) (value_of (get_or vs i d)) (literal_of l) (drop-values vs i d h) s r)

  pub refused_at : (i : ℕ) (d : Instance) (e : Error) → i < length vs → IsSoFar R (map value_of vs) i (map literal_of (take i answers)) → R (value_of (get_or vs i d)) (Err e) → Refused R (map value_of vs) e
  refused_at i d e h s r = s.refused e (rw (drop-values vs i d h) (inl r))

  pub so_far_taken : (i : ℕ) → length vs ≡ i → IsSoFar R (map value_of vs) i (map literal_of (take i answers)) → Answered R (map value_of vs) (map literal_of (take (length vs) answers))
  so_far_taken i e s = let a = s.answered [] (rw (drop_all i (map value_of vs) (omega (arith, length-values vs, e))) tt) in rw e (rw append-nil at a)

module _ (R : Val × Val → Result Val Error → Type 0) (vs ws : List Instance) (answers : List LiteralInstance) where
  pub pairs_set : (i : ℕ) (d e : Instance) (l : LiteralInstance) → i < length vs → length vs ≡ length ws → i < length answers
      → IsSoFar R (zip (map value_of vs) (map value_of ws)) i (map literal_of (take i answers)) → R (value_of (get_or vs i d), value_of (get_or ws i e)) (Ok (literal_of l))
      → IsSoFar R (zip (map value_of vs) (map value_of ws)) (i + 1) (map literal_of (take (i + 1) (set answers i l)))
  pairs_set i d e l h equal k s r =
      rw (take_more_set answers i l k, map-append literal_of (take i answers) (l ∷ []), add-one)
      (so_far_more R (zip (map value_of vs) (map value_of ws)) i (map literal_of (take i answers)) (value_of (get_or vs i d), value_of (get_or ws i e)) (literal_of l) (drop-pairs vs ws i d e h equal) s r)

  pub pairs_refused_at : (i : ℕ) (d e : Instance) (x : Error) → i < length vs → length vs ≡ length ws
      → IsSoFar R (zip (map value_of vs) (map value_of ws)) i (map literal_of (take i answers)) → R (value_of (get_or vs i d), value_of (get_or ws i e)) (Err x) → Refused R (zip (map value_of vs) (map value_of ws)) x
  pairs_refused_at i d e x h equal s r = s.refused x (rw (drop-pairs vs ws i d e h equal) (inl r))

  pub pairs_taken : (i : ℕ) → length vs ≡ i → length vs ≡ length ws → IsSoFar R (zip (map value_of vs) (map value_of ws)) i (map literal_of (take i answers))
      → Answered R (zip (map value_of vs) (map value_of ws)) (map literal_of (take (length vs) answers))
  pairs_taken i e equal s =
      let a = s.answered [] (rw (drop_all i (zip (map value_of vs) (map value_of ws)) (omega (arith, length-pairs vs ws equal, e))) tt) in rw e (rw append-nil at a)

-- ---- components that are written one after the other

-- a component that exists
pub place_there : {A : Type 0} (f : A → Val) (o : Option A) (vs : Vals) (i : ℕ) → option_map f o ≡ item i vs → i < count vs → o ≢ None
place_there f o vs i e h none = absurd (subst (λ x. IsSomeAnd x (λ v. Unit {0})) (sym (ap (option_map f) (sym none) ∙ e)) (item-within vs i h))

replaced-next : (f : Val → Val) (xs : List Val) (x : Val) (later : List Val) → replace_item (length xs) f (vals_of (xs ++ x ∷ later)) ≡ vals_of (xs ++ f x ∷ later)
replaced-next f [] x later = refl
replaced-next f (y ∷ xs) x later = ap (val y) (replaced-next f xs x later)

next-of : (vs : List Val) (i : ℕ) → i < length vs → (x : Val) × (drop i vs ≡ x ∷ drop (suc i) vs)
next-of [] i h = absurd (omega arith)
next-of (v ∷ vs) zero h = (v, refl)
next-of (v ∷ vs) (suc i) h = next-of vs i (omega arith)

pub length-mapped : (ls : List LiteralInstance) → length (map literal_of ls) ≡ length ls
length-mapped [] = refl
length-mapped (l ∷ ls) = ap suc (length-mapped ls)

-- the first literals, and behind them what was there
abbrev pub written : List LiteralInstance → ℕ → List Val → List Val
written ls i olds = map literal_of (take i ls) ++ drop i olds

pub written-next : (olds : List Val) (ls : List LiteralInstance) (i : ℕ) (d : LiteralInstance) → i < length olds → i < length ls
    → with_part i (literal_of (get_or ls i d)) (vector (vals_of (written ls i olds))) ≡ vector (vals_of (written ls (i + 1) olds))
written-next olds ls i d h k =
    let next = next-of olds i h in
    let here : length (map literal_of (take i ls)) ≡ i = length-mapped (take i ls) ∙ length-take-le i ls (omega arith) in
    let more : map literal_of (take (i + 1) ls) ≡ map literal_of (take i ls) ++ literal_of (get_or ls i d) ∷ [] =
    ap (map literal_of) (take_more ls i d k) ∙ map-append literal_of (take i ls) (get_or ls i d ∷ []) in
    let placed : replace_item i (λ _. literal_of (get_or ls i d)) (vals_of (map literal_of (take i ls) ++ next.0 ∷ drop (suc i) olds)) ≡ vals_of (map literal_of (take i ls) ++ literal_of (get_or ls i d) ∷ drop (suc i) olds) =
    subst (λ n. replace_item n (λ _. literal_of (get_or ls i d)) (vals_of (map literal_of (take i ls) ++ next.0 ∷ drop (suc i) olds)) ≡ vals_of (map literal_of (take i ls) ++ literal_of (get_or ls i d) ∷ drop (suc i) olds)) here
    (replaced-next (λ _. literal_of (get_or ls i d)) (map literal_of (take i ls)) next.0 (drop (suc i) olds)) in
    ap vector
    (ap (λ l. replace_item i (λ _. literal_of (get_or ls i d)) (vals_of (map literal_of (take i ls) ++ l))) next.1 ∙ placed
    ∙ ap vals_of (sym (ap (λ l. l ++ drop (i + 1) olds) more ∙ append_assoc (map literal_of (take i ls)) (literal_of (get_or ls i d) ∷ []) (drop (i + 1) olds)
    ∙ ap (λ n. map literal_of (take i ls) ++ literal_of (get_or ls i d) ∷ drop n olds) (add-one i))))

pub written-count : (olds : Vals) (ls : List LiteralInstance) (i : ℕ) → i ≤ count olds → i ≤ length ls → count (vals_of (written ls i (listed olds))) ≡ count olds
written-count olds ls i h k =
    let all = length-append (map literal_of (take i ls)) (drop i (listed olds)) in
    let first = length-mapped (take i ls) in
    let taken = length-take-le i ls k in
    let rest = length-drop i (listed olds) in
    let listed_all = length-listed olds in
    omega (arith, count-of (written ls i (listed olds)), all, first, taken, rest, listed_all)

pub vals-listed : (vs : Vals) → vals_of (listed vs) ≡ vs
vals-listed no_vals = refl
vals-listed (val v vs) = ap (val v) (vals-listed vs)

-- nothing is written at first, and everything in the end
pub written-none : (v : VecInstance) (ls : List LiteralInstance) → vec_view v ≡ vector (vals_of (written ls 0 (listed (parts (vec_view v)))))
written-none v ls =
    let is = vec_view-is v in
    is ∙ ap vector (sym (ap parts is) ∙ sym (vals-listed (parts (vec_view v))))

pub written-all : (ls : List LiteralInstance) (i : ℕ) (olds : Vals) → count olds ≡ i → written ls i (listed olds) ≡ map literal_of (take (count olds) ls)
written-all ls i olds e =
    ap (λ l. map literal_of (take i ls) ++ l) (drop_all i (listed olds) (omega (arith, length-listed olds, e))) ∙ append-nil _ ∙ ap (λ n. map literal_of (take n ls)) (sym e)

storable-mapped : (ls : List LiteralInstance) (v : Val) → AreStorable (vals_of (map literal_of ls)) → IsStorable v → AreStorable (vals_of (map literal_of ls ++ v ∷ []))
storable-mapped [] v h k = (k, tt)
storable-mapped (l ∷ ls) v h k = (h.0, storable-mapped ls v h.1 k)

pub storable-next : (ls : List LiteralInstance) (i : ℕ) (d : LiteralInstance) → i < length ls → AreStorable (vals_of (map literal_of (take i ls))) → IsStorable (literal_of (get_or ls i d))
    → AreStorable (vals_of (map literal_of (take (i + 1) ls)))
storable-next ls i d h a k = rw (take_more ls i d h, map-append literal_of (take i ls) (get_or ls i d ∷ [])) (storable-mapped (take i ls) (literal_of (get_or ls i d)) a k)

-- ---- the vector after all was written

pub listed-vals : (ys : List Val) → listed (vals_of ys) ≡ ys
listed-vals [] = refl
listed-vals (y ∷ ys) = ap (λ l. y ∷ l) (listed-vals ys)

-- w is v with the answers, which are the first literals, in the place of the components
module _ {X : Type 0} (R : X → Result Val Error → Type 0) (xs : List X) (lits : GivesLiterals R) (o : AnswersOneKind R xs) (v w : VecInstance) (s : List Instance) (k : IsVectorOf v s) (n : length xs ≡ length s) (ls : List LiteralInstance)
    (a : AnswersEach R xs (Ok (map literal_of (take (length s) ls)))) (is : vec_view w ≡ vector (vals_of (map literal_of (take (count (parts (vec_view v))) ls)))) where
  counted : count (parts (vec_view v)) ≡ length s
  counted = ap (λ x. count (parts x)) k.is ∙ count-of (map value_of s) ∙ length-values s

  taken : vec_view w ≡ vector (vals_of (map literal_of (take (length s) ls)))
  taken = is ∙ ap (λ m. vector (vals_of (map literal_of (take m ls)))) counted

  pub replaced-answered : AnswersEach R xs (Ok (components_of (vec_view w)))
  replaced-answered =
      let seen : components_of (vec_view w) ≡ map literal_of (take (length s) ls) = ap components_of taken ∙ listed-vals (map literal_of (take (length s) ls)) in
      record { each = rw seen a.each }

  pub replaced-storable : AreStorable (vals_of (map literal_of (take (count (parts (vec_view v))) ls))) → IsStorable (vec_view w)
  replaced-storable stored =
      let kept : AreStorable (vals_of (map literal_of (take (length s) ls))) = subst (λ m. AreStorable (vals_of (map literal_of (take m ls)))) counted stored in
      let c = count-of (map literal_of (take (length s) ls)) in
      let m = answered-length R xs (map literal_of (take (length s) ls)) a.each in
      let all : IsStorable (vector (vals_of (map literal_of (take (length s) ls)))) = (
        omega (arith, k.least),
        omega (arith, k.most),
        answered-literals R lits xs (map literal_of (take (length s) ls)) a.each,
        answered-one-type R xs (map literal_of (take (length s) ls)) o a.each,
        kept,
      ) in
      subst IsStorable (sym taken) all

  pub replaced-paths : IsTrue (same_paths (vec_view w) (vec_view v))
  replaced-paths =
      let c = count-of (map literal_of (take (length s) ls)) in
      let m = answered-length R xs (map literal_of (take (length s) ls)) a.each in
      let d = count-of (map value_of s) in
      let e = length-values s in
      rw (taken, k.is) (literals-paths (vals_of (map literal_of (take (length s) ls))) (vals_view s) (answered-literals R lits xs (map literal_of (take (length s) ls)) a.each) k.literals (omega arith))
