use Rattle.std.proofs.Common.{◌≡◌, ◌++◌, [], ◌∷◌, ◌∙◌, ◌+◌, List, ℕ, Vec, Global, ap, map, subst, sym, take}
use Rattle.wgsl_source.specs.Uses.{AreUsesOf, endings}
use Rattle.wgsl_source.specs.declared.piece.Piece.{Piece}
use Rattle.wgsl_source.specs.declared.piece.PieceKind.TheVariants.{Declaration}
use Rattle.wgsl_source.proofs.EndingLemmas.{uses_more, uses_same}
use Rattle.wgsl_source.proofs.module.Reading.uses.Goals.{in-Declaration+in_ok-uses_of+in_ok-push, in_default}
use Rattle.wgsl_source.proofs.module.Reading.uses.Goals as goal

pub loop-piece-preserved : goal.loop-piece-preserved
loop-piece-preserved c =
    let d : Piece = record { start = 0; end = 0; kind = Declaration 0 } in
    let o = c.args.self.now in
    let all : List Piece = c.pieces-pieces.result.now in
    let i : ℕ = c.loop-piece.piece-index in
    let items : Vec ℕ Global → List ℕ = λ list. list.items in
    elim c.match-piece.branch [
      | in-Declaration+in_ok-uses_of+in_ok-push w ↦
          uses_more items o all i d w.in-Declaration.number c.loop-piece.lists.items c.match-piece.lists.items w.in_ok-uses_of.field-0 c.loop-piece-test.true w.in-Declaration.is (ap (λ (ls : Vec (Vec ℕ Global) Global). ls.items) w.lists-is ∙ w.in_ok-push.ensures.items) w.in_ok-uses_of.ensures c.loop-piece.invariant
      | in_default w ↦
          let P : Vec (Vec ℕ Global) Global → Type 0 = λ ls. AreUsesOf o (endings (take (i + 1) all)) (map items ls.items) in
          subst P (sym w.lists-is) (uses_same o all i d (map items c.loop-piece.lists.items) c.loop-piece-test.true w.in_default.not-Declaration c.loop-piece.invariant)
    ]
