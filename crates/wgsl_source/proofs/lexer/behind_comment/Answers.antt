use Rattle.std.proofs.Common.{◌≡◌, ◌+◌, List, ℕ, false, true, length, sym, subst, ap, drop, ◌∙◌, add-one, length-drop, arith}
use Rattle.wgsl_source.proofs.BlankLemmas.{Comments, comment_opens_here, comment_closes_here, comment_closed, comment_passes, comment_passes_other}
use Rattle.wgsl_source.proofs.lexer.behind_comment.Goals as goal

pub returns-then-inner-eq0 : goal.returns-then-inner-eq0
returns-then-inner-eq0 c =
    let left = c.loop-left.left.now in
    let behind = c.behind.result.now in
    let P : List ℕ → Type 0 = λ text. Comments 0 left text in
    let Q : ℕ → Type 0 = λ n. Comments n left behind in
    let closed = subst P (sym c.behind.ensures) (comment_closed left c.starts_with-in-loop-left.result c.starts_with-in-loop-left.ensures.value c.if-not-starts_with.false) in
    c.loop-left.invariant.closing behind (subst Q (sym c.if-inner-eq0.true) closed)

pub loop-left-preserved-then-not-may_begin_mark : goal.loop-left-preserved-then-not-may_begin_mark
loop-left-preserved-then-not-may_begin_mark c =
    let left = c.loop-left.left.now in
    let inner : ℕ = c.loop-left.inner in
    record {
      short = omega (arith, ap length c.behind-left.ensures, length-drop 1 left, c.loop-left.invariant.short);
      closing = λ behind rest.
          let P : List ℕ → Type 0 = λ text. Comments inner text behind in
          c.loop-left.invariant.closing behind
          (comment_passes_other inner left behind (omega arith) (λ mark. let not_so : false ≡ true = sym c.if-not-may_begin_mark.true ∙ c.may_begin_mark.ensures.1 mark in cc) (subst P c.behind-left.ensures rest));
    }

pub loop-left-preserved-then-starts_with : goal.loop-left-preserved-then-starts_with
loop-left-preserved-then-starts_with c =
    let left = c.loop-left.left.now in
    let inner : ℕ = c.loop-left.inner in
    let more : c.saturating_add-inner.result ≡ inner + 1 = omega (arith, c.loop-left.invariant.short) in
    record {
      short = omega (arith, ap length c.behind-left-then-starts_with.ensures, length-drop 2 left, c.loop-left.invariant.short);
      closing = λ behind rest.
          let P : List ℕ → Type 0 = λ text. Comments c.saturating_add-inner.result text behind in
          let Q : ℕ → Type 0 = λ n. Comments n (drop 2 left) behind in
          c.loop-left.invariant.closing behind
          (comment_opens_here inner left behind c.starts_with.result c.starts_with.ensures.value c.if-starts_with.true (subst Q (more ∙ add-one inner) (subst P c.behind-left-then-starts_with.ensures rest)));
    }

pub loop-left-preserved-then-not-starts_with : goal.loop-left-preserved-then-not-starts_with
loop-left-preserved-then-not-starts_with c =
    let left = c.loop-left.left.now in
    let inner : ℕ = c.loop-left.inner in
    record {
      short = omega (arith, ap length c.behind-left-then-not-starts_with.ensures, length-drop 1 left, c.loop-left.invariant.short);
      closing = λ behind rest.
          let P : List ℕ → Type 0 = λ text. Comments inner text behind in
          c.loop-left.invariant.closing behind
          (comment_passes inner left behind c.starts_with.result c.starts_with-in-loop-left.result (omega arith) c.starts_with.ensures.value c.if-starts_with.false c.starts_with-in-loop-left.ensures.value c.if-not-starts_with.true (subst P c.behind-left-then-not-starts_with.ensures rest));
    }

pub loop-left-preserved : goal.loop-left-preserved
loop-left-preserved c =
    let left = c.loop-left.left.now in
    let inner : ℕ = c.loop-left.inner in
    let fewer : ℕ = c.saturating_sub-inner.result in
    let less : fewer + 1 ≡ inner = omega arith in
    record {
      short = omega (arith, ap length c.behind-left-in-loop-left.ensures, length-drop 2 left, c.loop-left.invariant.short);
      closing = λ behind rest.
          let P : List ℕ → Type 0 = λ text. Comments fewer text behind in
          let Q : ℕ → Type 0 = λ n. Comments n left behind in
          c.loop-left.invariant.closing behind
          (subst Q (sym (add-one fewer) ∙ less) (comment_closes_here fewer left behind c.starts_with-in-loop-left.result c.starts_with-in-loop-left.ensures.value c.if-not-starts_with.false (subst P c.behind-left-in-loop-left.ensures rest)));
    }
