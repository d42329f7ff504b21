use Rattle.std.proofs.Common.{refl, ◌∙◌, arith}
use Rattle.wgsl_source.specs.declared.piece.PieceKind.TheVariants.{Directive, Semicolon}
use Rattle.wgsl_source.proofs.DirectiveLemmas.{directive_piece}
use Rattle.wgsl_source.proofs.PieceLemmas.{added-declaration, added-assertion, added-other}
use Rattle.wgsl_source.proofs.ReadingLemmas.{word_of-token}
use Rattle.wgsl_source.proofs.declaration.Reader.add.Goals as goal

pub returns-in-Declaration-clause-read : goal.returns-in-Declaration-clause-read
returns-in-Declaration-clause-read c = λ faults read.
    let old = c.args.self.now in
    let new = c.add_declaration.new.self in
    let item = rw c.in-Declaration.is at c.requires.item in
    added-declaration c.add_declaration.result c.args.cursor old.pieces.items new.pieces.items old.declarations.items new.declarations.items old.asserts.items new.asserts.items faults c.args.start c.end_of-end.result c.in-Declaration.declaration c.add_declaration.ensures item.0 (omega (arith, item.1, item.2)) read

pub returns-in-Assertion-clause-read : goal.returns-in-Assertion-clause-read
returns-in-Assertion-clause-read c = λ faults read.
    let old = c.args.self.now in
    let new = c.add_assertion.new.self in
    added-assertion c.add_assertion.result c.args.cursor old.pieces.items new.pieces.items old.declarations.items new.declarations.items old.asserts.items new.asserts.items faults c.args.start c.end_of-end.result c.in-Assertion.condition c.add_assertion.ensures (omega arith) read

pub returns-in-Directive-clause-read : goal.returns-in-Directive-clause-read
returns-in-Directive-clause-read c = λ faults read.
    let old = c.args.self.now in
    let new = c.add_piece.new.self in
    let item = rw c.in-Directive.is at c.requires.item in
    let cursor = c.args.cursor in
    let has = directive_piece cursor c.args.start old.expressions.cursor.at c.end_of-end.result item.0 item.1 item.2 c.end_of-end.ensures in
    added-other c.add_piece.result cursor old.pieces.items new.pieces.items old.declarations.items new.declarations.items old.asserts.items new.asserts.items faults c.args.start c.end_of-end.result Directive c.add_piece.ensures (omega arith) refl refl has read

pub returns-in-Semicolon-clause-read : goal.returns-in-Semicolon-clause-read
returns-in-Semicolon-clause-read c = λ faults read.
    let old = c.args.self.now in
    let new = c.add_piece-in-Semicolon.new.self in
    let item = rw c.in-Semicolon.is at c.requires.item in
    added-other c.add_piece-in-Semicolon.result c.args.cursor old.pieces.items new.pieces.items old.declarations.items new.declarations.items old.asserts.items new.asserts.items faults c.args.start c.end_of-end.result Semicolon c.add_piece-in-Semicolon.ensures (omega arith) refl refl (omega (arith, item.0), word_of-token c.args.cursor c.args.start ∙ item.1) read
