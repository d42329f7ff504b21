use Rattle.std.proofs.Common.{List, [], ◌∷◌, ◌++◌, map, ℕ, ◌≡◌}
use Rattle.wgsl_source.specs.Blanks.{IsCut, fault_from}
use Rattle.wgsl_source.specs.Blanks.IsCut.{blank, token, passed, placeholder}
use Rattle.wgsl_source.specs.Readings.{extent_in}
use Rattle.wgsl_source.specs.declared.fault.Fault.{Fault}
use Rattle.wgsl_source.specs.declared.fault.Reason.TheVariants as reasons
use Rattle.wgsl_source.specs.declared.fault.Reason.{Reason}
use Rattle.wgsl_source.specs.declared.module.Extent.{Extent}
use Rattle.wgsl_source.specs.declared.token.Token.{Token}
use Rattle.wgsl_source.proofs.UseLemmas.{weaker}
use Rattle.wgsl_source.proofs.lexer.Lexed.add.Goals as goal

pub returns-in-Blank : goal.returns-in-Blank
returns-in-Blank c = λ text begins later within cut. blank cut later within (rw c.in-Blank.is at begins)

-- more tokens and faults of a text, up to this place
with_token : (text : List ℕ) (tokens more : List Extent) (faults told : List Fault) (start end : ℕ) → more ≡ tokens ++ record { start = start; end = end } ∷ [] → told ≡ faults
    → IsCut text (tokens ++ record { start = start; end = end } ∷ []) faults end → IsCut text more told end
with_token text tokens more faults told start end is same cut = rw is (rw same cut)

pub returns-in-Token : goal.returns-in-Token
returns-in-Token c =
    let before = map extent_in c.args.self.now.tokens.items in
    let faults = c.args.self.now.faults.items in
    weaker c.add_token.result _ _
    (λ is text begins later within cut. with_token text before _ faults _ c.args.start c.args.piece.end is c.add_token.ensures.faults (token cut later within (rw c.in-Token.is at begins)))
    c.add_token.ensures.tokens

passed_with : (text : List ℕ) (before more : List Token) (faults told : List Fault) (start end : ℕ) (reason : Reason) → more ≡ before → told ≡ faults ++ fault_from start end reason ∷ []
    → IsCut text (map extent_in before) (faults ++ fault_from start end reason ∷ []) end → IsCut text (map extent_in more) told end
passed_with text before more faults told start end reason same is cut = rw same (rw is cut)

pub returns-in-OpenComment : goal.returns-in-OpenComment
returns-in-OpenComment c =
    let before = c.args.self.now.tokens.items in
    let faults = c.args.self.now.faults.items in
    weaker c.add_fault.result _ _
    (λ is text begins later within cut. passed_with text before _ faults _ c.args.start c.args.piece.end reasons.OpenComment c.add_fault.ensures.tokens is (passed reasons.OpenComment cut later within (rw c.in-OpenComment.is at begins)))
    c.add_fault.ensures.faults

pub returns-in-HashLine : goal.returns-in-HashLine
returns-in-HashLine c =
    let before = c.args.self.now.tokens.items in
    let faults = c.args.self.now.faults.items in
    weaker c.add_fault-in-HashLine.result _ _
    (λ is text begins later within cut. passed_with text before _ faults _ c.args.start c.args.piece.end reasons.Preprocessor c.add_fault-in-HashLine.ensures.tokens is (passed reasons.Preprocessor cut later within (rw c.in-HashLine.is at begins)))
    c.add_fault-in-HashLine.ensures.faults

-- a token, and then its fault
placed : (text : List ℕ) (tokens middle more : List Token) (faults kept told : List Fault) (start end : ℕ) (reason : Reason) → map extent_in middle ≡ map extent_in tokens ++ record { start = start; end = end } ∷ []
    → kept ≡ faults → more ≡ middle → told ≡ kept ++ fault_from start end reason ∷ []
    → IsCut text (map extent_in tokens ++ record { start = start; end = end } ∷ []) (faults ++ fault_from start end reason ∷ []) end → IsCut text (map extent_in more) told end
placed text tokens middle more faults kept told start end reason is same same_tokens is_told cut = rw same_tokens (rw is (rw is_told (rw same cut)))

pub returns-in_ok-add_token-in-Placeholder : goal.returns-in_ok-add_token-in-Placeholder
returns-in_ok-add_token-in-Placeholder c =
    let before = c.args.self.now.tokens.items in
    let faults = c.args.self.now.faults.items in
    weaker c.add_fault-in-Placeholder.result _ _
    (λ is text begins later within cut.
    placed text before c.add_token-in-Placeholder.new.self.tokens.items _ faults c.add_token-in-Placeholder.new.self.faults.items _ c.args.start c.args.piece.end reasons.Placeholder
    c.in_ok-add_token-in-Placeholder.ensures.tokens c.in_ok-add_token-in-Placeholder.ensures.faults c.add_fault-in-Placeholder.ensures.tokens is
    (placeholder cut later within (rw c.in-Placeholder.is at begins)))
    c.add_fault-in-Placeholder.ensures.faults
