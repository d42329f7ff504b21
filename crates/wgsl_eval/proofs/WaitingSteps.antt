-- Answers that stand for what waits, before a step and behind it.
use Rattle.std.specs.declared.alloc.AllocError.{AllocError}
use Rattle.std.proofs.Common.{◌≡◌, ◌∙◌, ℕ, zero, suc, Some, Result, Ok, Err, IfOk, ◌+◌, ◌-◌, ◌<◌, List, [], ◌∷◌, ◌++◌, All, IsSomeAnd, get_or, length, map, slice_get, take, unwrap_or, refl, sym, ap, subst, arith}
use Rattle.std.specs.Prelude.{reverse}
use Rattle.std.proofs.lemmas.List.{reverse-append}
use Rattle.std.proofs.lemmas.List.Elements.{All-head, All-push, All-tail, All-take}
use Rattle.wgsl_rules.specs.declared.syntax.BinaryOperator.{BinaryOperator}
use Rattle.wgsl_rules.specs.declared.syntax.UnaryOperator.{UnaryOperator}
use Rattle.wgsl_rules.specs.Values.{Val, IsStorable}
use Rattle.wgsl_values.specs.View.{value_of}
use Rattle.wgsl_source.specs.Readings.{steps_in, word_at}
use Rattle.wgsl_source.specs.declared.expression.Callee.TheVariants as callees
use Rattle.wgsl_source.specs.declared.expression.Span.{Span}
use Rattle.wgsl_source.specs.declared.expression.Step.{Step}
use Rattle.wgsl_source.specs.declared.expression.Step.TheVariants as steps
use Rattle.wgsl_eval.specs.Answers.{AreAnswers, IsAnswer, IsSoundValue, meaning_at}
use Rattle.wgsl_eval.specs.Calls.{IsCall, IsCallOf, IsTemplate}
use Rattle.wgsl_eval.specs.Evaluators.{Setting}
use Rattle.wgsl_eval.specs.Given.{IsGiven, IsOfOne, IsOfTwo, UnlessRefused, below, last_ones, rest_of, top, without}
use Rattle.wgsl_eval.specs.Parts.{IsElementOf, IsMemberOf}
use Rattle.wgsl_eval.specs.Runs.{IsFound, IsRun}
use Rattle.wgsl_eval.specs.Waitings.{AllStand, AreWaiting, HasValueOf, IsDone, IsKept, IsTaken, IsWaiting, Stands, WereLast, answer_of, name_in, value_of_answer}
use Rattle.wgsl_eval.specs.declared.answer.Answer.{Answer}
use Rattle.wgsl_eval.specs.declared.answer.Answer.TheVariants as answers
use Rattle.wgsl_eval.specs.declared.answer.Value.{Value}
use Rattle.wgsl_eval.proofs.Stacks.{below_pushed, top_pushed}
use Rattle.wgsl_eval.proofs.Walks.{IsRunSoFar, more, run_all}

-- ---- what stands for one

has_its_own : (a : Answer) → IsSomeAnd (value_of_answer a) IsSoundValue → HasValueOf a a
has_its_own (answers.Value v) h = refl
has_its_own a h = absurd h

stands_for_own : (meanings : List Answer) (w : Answer) → IsWaiting meanings w → Stands meanings w (answer_of meanings w)
stands_for_own meanings (answers.Named n) h = has_its_own (meaning_at meanings n) h
stands_for_own meanings w h = refl

-- an answer stands for itself, and for it no other
itself : (meanings : List Answer) (a b : Answer) → IsAnswer a → Stands meanings a b → b ≡ a
itself meanings (answers.Named n) b h k = absurd h
itself meanings a b h k = k

pub answer-waits : (meanings : List Answer) (a : Answer) → IsAnswer a → IsWaiting meanings a
answer-waits meanings (answers.Named n) h = absurd h
answer-waits meanings a h = h

pub name-is : (a : Answer) (n : ℕ) → Some n ≡ name_in a → a ≡ answers.Named n
name-is (answers.Named k) n e = ap answers.Named (cc)
name-is a n e = absurd (cc)

-- ---- one for each

all_stand : (meanings : List Answer) (ws : List Answer) → AreWaiting meanings ws → AllStand meanings ws (map (answer_of meanings) ws)
all_stand meanings [] h = tt
all_stand meanings (w ∷ ws) h = (
  stands_for_own meanings w (All-head (IsWaiting meanings) w ws h),
  all_stand meanings ws (All-tail (IsWaiting meanings) w ws h),
)

none_stand : (meanings gs : List Answer) → AllStand meanings [] gs → gs ≡ []
none_stand meanings [] h = refl
none_stand meanings (a ∷ gs) h = absurd h

all_stand-pushed : (meanings : List Answer) (ws : List Answer) (w : Answer) (gs : List Answer) (a : Answer)
    → AllStand meanings ws gs → Stands meanings w a → AllStand meanings (ws ++ w ∷ []) (gs ++ a ∷ [])
all_stand-pushed meanings [] w [] a h k = (k, tt)
all_stand-pushed meanings [] w (b ∷ bs) a h k = absurd h
all_stand-pushed meanings (v ∷ ws) w [] a h k = absurd h
all_stand-pushed meanings (v ∷ ws) w (b ∷ bs) a h k = (h.0, all_stand-pushed meanings ws w bs a h.1 k)

-- those before the last one, and it
record AreParted (meanings : List Answer) (ws : List Answer) (w : Answer) (gs : List Answer) : Type 0 where
  left : List Answer
  last : Answer
  are : gs ≡ left ++ last ∷ []
  stood : AllStand meanings ws left
  stands : Stands meanings w last

parted : (meanings : List Answer) (ws : List Answer) (w : Answer) (gs : List Answer) → AllStand meanings (ws ++ w ∷ []) gs → AreParted meanings ws w gs
parted meanings [] w [] h = absurd h
parted meanings [] w (a ∷ []) h = record { left = []; last = a; are = refl; stood = tt; stands = h.0 }
parted meanings [] w (a ∷ b ∷ gs) h = absurd h.1
parted meanings (v ∷ ws) w [] h = absurd h
parted meanings (v ∷ ws) w (a ∷ gs) h =
    let p = parted meanings ws w gs h.1 in
    record { left = a ∷ p.left; last = p.last; are = ap (λ xs. a ∷ xs) p.are; stood = (h.0, p.stood); stands = p.stands }

-- ---- what is taken away

one_less : (n : ℕ) → n ≡ suc n - 1
one_less n = omega arith

ends_at : (w : Answer) (ws : List Answer) → w ∷ ws ≡ take (length ws) (w ∷ ws) ++ unwrap_or (slice_get (w ∷ ws) (length ws)) answers.Faulty ∷ []
ends_at w [] = refl
ends_at w (v ∷ ws) = ap (λ xs. w ∷ xs) (ends_at v ws)

ends : (w : Answer) (ws : List Answer) → w ∷ ws ≡ below (w ∷ ws) ++ top (w ∷ ws) ∷ []
ends w ws =
    let P : ℕ → Type 0 = λ n. w ∷ ws ≡ take n (w ∷ ws) ++ unwrap_or (slice_get (w ∷ ws) n) answers.Faulty ∷ [] in
    subst P (one_less (length ws)) (ends_at w ws)

last_of_all : (P : Answer → Type 0) (xs : List Answer) (w : Answer) → All P (xs ++ w ∷ []) → P w
last_of_all P [] w h = All-head P w [] h
last_of_all P (x ∷ xs) w h = last_of_all P xs w (All-tail P x (xs ++ w ∷ []) h)

pub last_waits : (meanings : List Answer) (ws : List Answer) → AreWaiting meanings ws → IsWaiting meanings (top ws)
last_waits meanings [] h = tt
last_waits meanings (w ∷ ws) h =
    let P : List Answer → Type 0 = λ xs. All (IsWaiting meanings) xs in
    last_of_all (IsWaiting meanings) (below (w ∷ ws)) (top (w ∷ ws)) (subst P (ends w ws) h)

one_of : (meanings : List Answer) (old : List Answer) (a : Answer) (front : List Answer)
    → Stands meanings (top old) a → AllStand meanings (below old) front → WereLast meanings 1 old (a ∷ []) front
one_of meanings [] a front k h = record {
  answers = [];
  stood = tt;
  were = ap (λ x. x ∷ []) (sym k);
  left = sym (none_stand meanings front h);
}
one_of meanings (v ∷ ws) a front k h =
    let Q : List Answer → Type 0 = λ xs. AllStand meanings xs (front ++ a ∷ []) in
    record {
      answers = front ++ a ∷ [];
      stood = subst Q (sym (ends v ws)) (all_stand-pushed meanings (below (v ∷ ws)) (top (v ∷ ws)) front a h k);
      were = ap (λ x. x ∷ []) (top_pushed a front);
      left = below_pushed a front;
    }

taken_one : (meanings : List Answer) (old new : List Answer) (a : Answer)
    → new ≡ below old → Stands meanings (top old) a → IsTaken meanings 1 old (a ∷ []) new
taken_one meanings old new a left k = λ front h.
    let P : List Answer → Type 0 = λ xs. AllStand meanings xs front in
    one_of meanings old a front k (subst P left h)

-- an answer that was kept is taken
pub taken_kept : (meanings : List Answer) (old mid new : List Answer) (a : Answer)
    → IsKept meanings old mid → a ≡ top mid → new ≡ below mid → IsTaken meanings 1 old (a ∷ []) new
taken_kept meanings old mid new a kept is left =
    let P : Answer → Type 0 = λ x. Stands meanings (top old) x in
    taken_one meanings old new a (left ∙ kept.rest) (subst P (sym is) kept.stands)

-- what waits is taken for the answer that it is or names
pub taken_whole : (meanings : List Answer) (old new : List Answer) (w : Answer)
    → w ≡ top old → new ≡ below old → AreWaiting meanings old → IsTaken meanings 1 old (answer_of meanings w ∷ []) new
taken_whole meanings old new w is left h =
    let P : Answer → Type 0 = λ x. IsWaiting meanings x in
    let Q : Answer → Type 0 = λ x. Stands meanings x (answer_of meanings w) in
    taken_one meanings old new (answer_of meanings w) left (subst Q is (stands_for_own meanings w (subst P (sym is) (last_waits meanings old h))))

last_ones-deeper : (n : ℕ) (before : List Answer) → last_ones (suc n) before ≡ top (without n before) ∷ last_ones n before
last_ones-deeper zero before = refl
last_ones-deeper (suc n) before = ap (λ xs. xs ++ top before ∷ []) (last_ones-deeper n (below before))

without-deeper : (n : ℕ) (before : List Answer) → without (suc n) before ≡ below (without n before)
without-deeper zero before = refl
without-deeper (suc n) before = without-deeper n (below before)

were_more : (meanings : List Answer) (n : ℕ) (old mid : List Answer) (ones : List Answer) (a : Answer) (front : List Answer)
    → IsTaken meanings n old ones mid → WereLast meanings 1 mid (a ∷ []) front → WereLast meanings (suc n) old (a ∷ ones) front
were_more meanings n old mid ones a front first q =
    let p = first q.answers q.stood in
    record {
      answers = p.answers;
      stood = p.stood;
      were = last_ones-deeper n p.answers ∙ ap (λ x. x ∷ last_ones n p.answers) (ap top p.left ∙ ap top q.were) ∙ ap (λ xs. a ∷ xs) p.were;
      left = without-deeper n p.answers ∙ ap below p.left ∙ q.left;
    }

taken_more : (meanings : List Answer) (n : ℕ) (old mid new : List Answer) (ones : List Answer) (a : Answer)
    → IsTaken meanings n old ones mid → IsTaken meanings 1 mid (a ∷ []) new → IsTaken meanings (suc n) old (a ∷ ones) new
taken_more meanings n old mid new ones a first second = λ front h. were_more meanings n old mid ones a front first (second front h)

-- ---- steps

-- the step takes one
done_one : (s : Setting) (step : Step) (old new : List Answer) (o a : Answer) (G : Answer → Answer → Type 0)
    → ((before : List Answer) (b : Answer) → G (top before) b → IsGiven s step before b) → ((before : List Answer) → rest_of step before ≡ below before)
    → IsTaken s.meanings 1 old (o ∷ []) new → G o a → IsAnswer a → IsDone s step old new a
done_one s step old new o a G gives rest taken given sound = λ front h b k.
    let p = taken front h in
    let Q : Answer → Type 0 = λ x. G o x in
    let R : Answer → Type 0 = λ x. G x b in
    record {
      answers = p.answers;
      stood = p.stood;
      given = gives p.answers b (subst R (sym (ap top p.were)) (subst Q (sym (itself s.meanings a b sound k)) given));
      rest = rest p.answers ∙ p.left;
    }

-- the step takes two
done_two : (s : Setting) (step : Step) (old mid new : List Answer) (l r a : Answer) (G : Answer → Answer → Answer → Type 0)
    → ((before : List Answer) (b : Answer) → G (top (below before)) (top before) b → IsGiven s step before b) → ((before : List Answer) → rest_of step before ≡ below (below before))
    → IsTaken s.meanings 1 old (r ∷ []) mid → IsTaken s.meanings 1 mid (l ∷ []) new → G l r a → IsAnswer a → IsDone s step old new a
done_two s step old mid new l r a G gives rest right left given sound = λ front h b k.
    let q = left front h in
    let p = right q.answers q.stood in
    let Q : Answer → Type 0 = λ x. G l r x in
    let L : Answer → Type 0 = λ x. G x r b in
    let R : Answer → Type 0 = λ x. G (top (below p.answers)) x b in
    record {
      answers = p.answers;
      stood = p.stood;
      given = gives p.answers b (subst R (sym (ap top p.were)) (subst L (sym (ap top p.left ∙ ap top q.were)) (subst Q (sym (itself s.meanings a b sound k)) given)));
      rest = rest p.answers ∙ ap below p.left ∙ q.left;
    }

-- the step takes so many
done_list : (s : Setting) (step : Step) (n : ℕ) (old new : List Answer) (list : List Answer) (a : Answer) (G : List Answer → Answer → Type 0)
    → ((before : List Answer) (b : Answer) → G (last_ones n before) b → IsGiven s step before b) → ((before : List Answer) → rest_of step before ≡ without n before)
    → IsTaken s.meanings n old list new → G list a → IsAnswer a → IsDone s step old new a
done_list s step n old new list a G gives rest taken given sound = λ front h b k.
    let p = taken front h in
    let Q : Answer → Type 0 = λ x. G list x in
    let R : List Answer → Type 0 = λ xs. G xs b in
    record {
      answers = p.answers;
      stood = p.stood;
      given = gives p.answers b (subst R (sym p.were) (subst Q (sym (itself s.meanings a b sound k)) given));
      rest = rest p.answers ∙ p.left;
    }

-- the step takes so many, and one before them
done_call : (s : Setting) (step : Step) (n : ℕ) (old mid new : List Answer) (list : List Answer) (o a : Answer) (G : Answer → List Answer → Answer → Type 0)
    → ((before : List Answer) (b : Answer) → G (top (without n before)) (last_ones n before) b → IsGiven s step before b) → ((before : List Answer) → rest_of step before ≡ below (without n before))
    → IsTaken s.meanings n old list mid → IsTaken s.meanings 1 mid (o ∷ []) new → G o list a → IsAnswer a → IsDone s step old new a
done_call s step n old mid new list o a G gives rest taken one given sound = λ front h b k.
    let q = one front h in
    let p = taken q.answers q.stood in
    let Q : Answer → Type 0 = λ x. G o list x in
    let L : Answer → Type 0 = λ x. G x list b in
    let R : List Answer → Type 0 = λ xs. G (top (without n p.answers)) xs b in
    record {
      answers = p.answers;
      stood = p.stood;
      given = gives p.answers b (subst R (sym p.were) (subst L (sym (ap top p.left ∙ ap top q.were)) (subst Q (sym (itself s.meanings a b sound k)) given)));
      rest = rest p.answers ∙ ap below p.left ∙ q.left;
    }

-- a step of each kind

pub done_unary : (s : Setting) (old new : List Answer) (op : UnaryOperator) (token : ℕ) (o a : Answer)
    → IsTaken s.meanings 1 old (o ∷ []) new → UnlessRefused s.source token a (IsOfOne op o a) → IsAnswer a → IsDone s (steps.Unary op token) old new a
done_unary s old new op token o a taken given sound =
    done_one s (steps.Unary op token) old new o a (λ x b. UnlessRefused s.source token b (IsOfOne op x b)) (λ before b g. g) (λ before. refl) taken given sound

pub done_binary : (s : Setting) (old mid new : List Answer) (op : BinaryOperator) (token : ℕ) (l r a : Answer)
    → IsTaken s.meanings 1 old (r ∷ []) mid → IsTaken s.meanings 1 mid (l ∷ []) new → UnlessRefused s.source token a (IsOfTwo s op l r a) → IsAnswer a
    → IsDone s (steps.Binary op token) old new a
done_binary s old mid new op token l r a right left given sound =
    done_two s (steps.Binary op token) old mid new l r a (λ x y b. UnlessRefused s.source token b (IsOfTwo s op x y b)) (λ before b g. g) (λ before. refl) right left given sound

pub done_template : (s : Setting) (old new list : List Answer) (token n : ℕ) (a : Answer)
    → IsTaken s.meanings n old list new → IsTemplate s (word_at s.source token) list a → IsAnswer a → IsDone s (steps.Template token n) old new a
done_template s old new list token n a taken given sound =
    done_list s (steps.Template token n) n old new list a (λ xs b. IsTemplate s (word_at s.source token) xs b) (λ before b g. g) (λ before. refl) taken given sound

pub done_call_name : (s : Setting) (old new list : List Answer) (token n : ℕ) (a : Answer)
    → IsTaken s.meanings n old list new → IsCall s (word_at s.source token) list a → IsAnswer a → IsDone s (steps.Call token callees.Name n) old new a
done_call_name s old new list token n a taken given sound =
    done_list s (steps.Call token callees.Name n) n old new list a (λ xs b. IsCall s (word_at s.source token) xs b) (λ before b g. g) (λ before. refl) taken given sound

pub done_call_answer : (s : Setting) (old mid new list : List Answer) (token n : ℕ) (o a : Answer)
    → IsTaken s.meanings n old list mid → IsTaken s.meanings 1 mid (o ∷ []) new → IsCallOf s.dialect o list a → IsAnswer a → IsDone s (steps.Call token callees.Answer n) old new a
done_call_answer s old mid new list token n o a taken one given sound =
    done_call s (steps.Call token callees.Answer n) n old mid new list o a (λ x xs b. IsCallOf s.dialect x xs b) (λ before b g. g) (λ before. refl) taken one given sound

pub done_member : (s : Setting) (old new : List Answer) (token : ℕ) (o a : Answer)
    → IsTaken s.meanings 1 old (o ∷ []) new → IsMemberOf (word_at s.source token) o a → IsAnswer a → IsDone s (steps.Member token) old new a
done_member s old new token o a taken given sound =
    done_one s (steps.Member token) old new o a (IsMemberOf (word_at s.source token)) (λ before b g. g) (λ before. refl) taken given sound

pub done_index : (s : Setting) (old mid new : List Answer) (token : ℕ) (l r a : Answer)
    → IsTaken s.meanings 1 old (r ∷ []) mid → IsTaken s.meanings 1 mid (l ∷ []) new → IsElementOf l r a → IsAnswer a → IsDone s (steps.Index token) old new a
done_index s old mid new token l r a right left given sound =
    done_two s (steps.Index token) old mid new l r a IsElementOf (λ before b g. g) (λ before. refl) right left given sound

-- ---- all steps

-- whatever answers stand for what waits, they are those of the steps so far
abbrev pub AreRunSoFar : Setting → List Step → ℕ → List Answer → Type 0
AreRunSoFar s all i ws = (gs : List Answer) → AllStand s.meanings ws gs → IsRunSoFar s all i gs

runs_on : (s : Setting) (all : List Step) (i : ℕ) (now new : List Answer) (w : Answer) (d : Step) (gs : List Answer) → i < length all
    → AreRunSoFar s all i now → IsDone s (get_or all i d) now new w → AllStand s.meanings (new ++ w ∷ []) gs → IsRunSoFar s all (i + 1) gs
runs_on s all i now new w d gs inside so_far done h =
    let p = parted s.meanings new w gs h in
    let g = done p.left p.stood p.last p.stands in
    let P : List Answer → Type 0 = λ xs. IsRunSoFar s all (i + 1) xs in
    let same : rest_of (get_or all i d) g.answers ++ p.last ∷ [] ≡ gs = ap (λ xs. xs ++ p.last ∷ []) g.rest ∙ sym p.are in
    subst P same (more s all i g.answers d p.last inside (so_far g.answers g.stood) g.given)

pub runs_more : (s t : Setting) (all : List Step) (i : ℕ) (now new next : List Answer) (w : Answer) (d : Step) → i < length all → t ≡ s
    → next ≡ new ++ w ∷ [] → AreRunSoFar s all i now → IsDone t (get_or all i d) now new w → AreRunSoFar s all (i + 1) next
runs_more s t all i now new next w d inside same added so_far done = λ gs h.
    let D : Setting → Type 0 = λ u. IsDone u (get_or all i d) now new w in
    let P : List Answer → Type 0 = λ xs. AllStand s.meanings xs gs in
    runs_on s all i now new w d gs inside so_far (subst D same done) (subst P added h)

runs_all : (s : Setting) (span : Span) (all : List Step) (ws new : List Answer) (a : Answer) → all ≡ steps_in s.source span
    → AreRunSoFar s all (length all) ws → AreWaiting s.meanings new → IsTaken s.meanings 1 ws (a ∷ []) new → IsFound s span a
runs_all s span all ws new a are so_far left taken =
    let p = taken (map (answer_of s.meanings) new) (all_stand s.meanings new left) in
    let P : List Step → Type 0 = λ xs. IsRun s xs [] p.answers in
    record {
      after = p.answers;
      run = subst P are (run_all s all p.answers (so_far p.answers p.stood));
      last = sym (ap top p.were);
    }

-- ---- results

pub if_both : (r : Result Answer AllocError) (P Q R : Answer → Type 0) → ((a : Answer) → P a → Q a → R a) → IfOk r P → IfOk r Q → IfOk r R
if_both (Ok a) P Q R f h k = f a h k
if_both (Err x) P Q R f h k = tt

pub lasts_taken : (meanings : List Answer) (i : ℕ) (old mid new : List Answer) (list more : List Answer) (a : Answer) → more ≡ list ++ a ∷ []
    → IsTaken meanings i old (reverse list) mid → IsTaken meanings 1 mid (a ∷ []) new → IsTaken meanings (i + 1) old (reverse more) new
lasts_taken meanings i old mid new list more a added first second =
    let P : List Answer → Type 0 = λ xs. IsTaken meanings (i + 1) old xs new in
    let Q : ℕ → Type 0 = λ n. IsTaken meanings n old (a ∷ reverse list) new in
    let turned : a ∷ reverse list ≡ reverse more = sym (ap reverse added ∙ reverse-append list (a ∷ [])) in
    let next : suc i ≡ i + 1 = omega arith in
    subst P turned (subst Q next (taken_more meanings i old mid new (reverse list) a first second))

pub waiting_more : (s t : Setting) (new next : List Answer) (w : Answer) → t ≡ s → next ≡ new ++ w ∷ []
    → AreWaiting s.meanings new → IsWaiting s.meanings w → AreWaiting t.meanings next
waiting_more s t new next w same added h k =
    let P : List Answer → Type 0 = λ xs. AreWaiting s.meanings xs in
    let Q : Setting → Type 0 = λ u. AreWaiting u.meanings next in
    subst Q (sym same) (subst P (sym added) (All-push (IsWaiting s.meanings) new w h k))

pub below_waits : (meanings : List Answer) (old new : List Answer) → new ≡ below old → AreWaiting meanings old → AreWaiting meanings new
below_waits meanings old new left h =
    let P : List Answer → Type 0 = λ xs. AreWaiting meanings xs in
    subst P (sym left) (All-take (IsWaiting meanings) (length old - 1) old h)

pub last_found : (s t : Setting) (span : Span) (all : List Step) (ws mid new : List Answer) (a : Answer) → t ≡ s → all ≡ steps_in s.source span
    → AreRunSoFar s all (length all) ws → AreWaiting t.meanings mid → IsKept t.meanings ws mid → a ≡ top mid → new ≡ below mid → IsFound s span a
last_found s t span all ws mid new a same are so_far waits kept is left =
    let P : Setting → Type 0 = λ u. AreWaiting u.meanings new in
    let Q : Setting → Type 0 = λ u. IsTaken u.meanings 1 ws (a ∷ []) new in
    runs_all s span all ws new a are so_far (subst P same (below_waits t.meanings mid new left waits)) (subst Q same (taken_kept t.meanings ws mid new a kept is left))

pub answers_more : (list more : List Answer) (a : Answer) → more ≡ list ++ a ∷ [] → AreAnswers list → IsAnswer a → AreAnswers more
answers_more list more a added h k =
    let P : List Answer → Type 0 = λ xs. AreAnswers xs in
    subst P (sym added) (All-push IsAnswer list a h k)

-- an answer that was kept is one
pub kept_answer : (meanings : List Answer) (old mid : List Answer) (a : Answer) → IsKept meanings old mid → a ≡ top mid → IsAnswer a
kept_answer meanings old mid a kept is =
    let P : Answer → Type 0 = λ x. IsAnswer x in
    subst P (sym is) kept.answer

-- the name of a value is kept by a copy of it
pub kept_copy : (meanings : List Answer) (old short new : List Answer) (n : ℕ) (v w : Value) → Some n ≡ name_in (top old) → meaning_at meanings n ≡ answers.Value v
    → value_of w.instance ≡ value_of v.instance → short ≡ below old → new ≡ short ++ answers.Value w ∷ [] → AreWaiting meanings old → IsKept meanings old new
kept_copy meanings old short new n v w e is copy left added h =
    let last : top new ≡ answers.Value w = ap top added ∙ top_pushed (answers.Value w) short in
    let named : top old ≡ answers.Named n = name-is (top old) n e in
    let P : Answer → Type 0 = λ x. IsWaiting meanings x in
    let Q : Answer → Type 0 = λ x. IsSomeAnd (value_of_answer x) IsSoundValue in
    let R : Answer → Type 0 = λ x. HasValueOf x (answers.Value w) in
    let S : Answer → Type 0 = λ x. IsAnswer x in
    let T : Answer → Type 0 = λ x. Stands meanings x (top new) in
    let U : Answer → Type 0 = λ x. Stands meanings (answers.Named n) x in
    let V : Val → Type 0 = λ x. IsStorable x in
    let sound : IsSoundValue v = subst Q is (subst P named (last_waits meanings old h)) in
    let has : HasValueOf (answers.Value v) (answers.Value w) = ap Some copy in
    record {
      stands = subst T (sym named) (subst U (sym last) (subst R (sym is) has));
      answer = subst S (sym last) (subst V (sym copy) sound);
      rest = ap below added ∙ below_pushed (answers.Value w) short ∙ left;
    }

pub copy_waits : (meanings : List Answer) (old short new : List Answer) (w : Value) → short ≡ below old → new ≡ short ++ answers.Value w ∷ []
    → AreWaiting meanings old → IsKept meanings old new → AreWaiting meanings new
copy_waits meanings old short new w left added h kept =
    let P : List Answer → Type 0 = λ xs. AreWaiting meanings xs in
    let Q : Answer → Type 0 = λ x. IsAnswer x in
    let last : top new ≡ answers.Value w = ap top added ∙ top_pushed (answers.Value w) short in
    subst P (sym added) (All-push (IsWaiting meanings) short (answers.Value w) (below_waits meanings old short left h)
    (answer-waits meanings (answers.Value w) (subst Q last kept.answer)))
