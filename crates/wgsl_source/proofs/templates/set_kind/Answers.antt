use Rattle.std.proofs.Common.{refl}
use Rattle.wgsl_source.specs.Readings.{extent_in}
use Rattle.wgsl_source.proofs.ReadingLemmas.{map-set_alike}
use Rattle.wgsl_source.specs.declared.token.Token.{Token}
use Rattle.wgsl_source.proofs.templates.set_kind.Goals as goal

pub returns-in-Some : goal.returns-in-Some
returns-in-Some c =
    let new : Token = record { kind = c.args.kind; start = c.in-Some.token.now.start; end = c.in-Some.token.now.end } in
    record { extents = map-set_alike extent_in c.args.tokens.now.items c.args.at c.in-Some.token.now new c.in-Some.ensures.value refl }
