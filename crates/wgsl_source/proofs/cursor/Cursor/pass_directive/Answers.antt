use Rattle.std.proofs.Common.{◌≡◌, ℕ, ◌+◌, ◌-◌, ◌<◌, List, codes, length, ap, sym, ◌∙◌, arith}
use Rattle.wgsl_source.specs.Cursors.{text_of}
use Rattle.wgsl_source.specs.declared.cursor.Cursor.{Cursor}
use Rattle.wgsl_source.proofs.DirectiveLemmas.{word_within}
use Rattle.wgsl_source.proofs.cursor.Cursor.pass_directive.Goals as goal

pub directive_end-end-requires : goal.directive_end-end-requires
directive_end-end-requires c = word_within c.args.self.now c.args.self.now.at c.requires

pub returns-in-text-clause-parted : goal.returns-in-text-clause-parted
returns-in-text-clause-parted c =
    let old = c.args.self.now in
    let end : ℕ = c.directive_end-end.result in
    let parts = c.directive_end-end.ensures in
    let word : text_of old end ≡ codes ";" = sym (c.word.ensures ∙ ap (λ (x : Cursor). text_of x x.at) c.moved_to.ensures) ∙ c.in-text.is in
    let within : end < length old.tokens.now = word_within old end (omega (arith, ap (λ (w : List ℕ). length w) word)) in
    let count = c.len.ensures ∙ ap (λ (x : Cursor). length x.tokens.now) c.moved_to.ensures in
    let behind : c.min-behind.result ≡ end + 1 = omega (arith, c.min-behind.ensures, c.saturating_add.ensures, count, within, c.len.type_inv) in
    let at : c.moved_to-in-text.result.at ≡ end + 1 = ap (λ (x : Cursor). x.at) c.moved_to-in-text.ensures ∙ behind in
    let last : c.moved_to-in-text.result.at - 1 ≡ end = omega (arith, at) in
    record {
      long = omega (arith, at, parts.later);
      parts = λ t above below. parts.parts t above (omega (arith, below, at));
      ends = ap (text_of old) last ∙ word;
    }

pub returns-in-text-clause-within : goal.returns-in-text-clause-within
returns-in-text-clause-within c =
    let count = c.len.ensures ∙ ap (λ (x : Cursor). length x.tokens.now) c.moved_to.ensures in
    omega (arith, ap (λ (x : Cursor). x.at) c.moved_to-in-text.ensures, c.min-behind.ensures, count)
