use Rattle.std.proofs.Common.{refl}
use Rattle.wgsl_source.specs.Finders.{HasFound, HasFoundIn}
use Rattle.wgsl_source.proofs.UseLemmas.{function-found, function-none, weaker}
use Rattle.wgsl_source.proofs.uses.Finder.add_function.Goals as goal

pub returns-then-not-is_function : goal.returns-then-not-is_function
returns-then-not-is_function c =
    function-none c.args.self.now.reading.now c.args.self.now c.args.number c.args.end c.is_function.result refl c.is_function.ensures c.if-not-is_function.true

pub returns : goal.returns
returns c =
    let f = c.args.self.now in
    let g = c.add_tokens.new.self in
    weaker c.add_tokens.result (HasFound f c.name.result c.args.end g) (HasFoundIn f c.args.number c.args.end g)
    (function-found f.reading.now f g c.args.number c.args.end c.name.result c.is_function.result refl c.is_function.ensures c.if-not-is_function.false c.name.ensures) c.add_tokens.ensures
