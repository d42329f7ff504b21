use Rattle.std.proofs.Common.{rules, ◌≡◌, Ok}
use Rattle.wgsl_rules.specs.Values.{type_of}
use Rattle.wgsl_scalar.specs.Literals.{literal_of}
use Rattle.wgsl_values.specs.View.{reference_of, value_of}
use Rattle.wgsl_types.specs.Atomics.{argument_in, atomic_loaded, writable}
use Rattle.wgsl_types.proofs.Exchanges.{takes_new}
use Rattle.wgsl_types.proofs.exchange.atomicCompareExchangeWeak.Goals as goal

pub exchange_if_equal-requires-clause-storable : goal.exchange_if_equal-requires-clause-storable
exchange_if_equal-requires-clause-storable c =
    let l : atomic_loaded c.args.store.now (value_of c.args.p.now) ≡ Ok (literal_of c.in_ok-old.old) = search rules in
    let a : argument_in (type_of (literal_of c.in_ok-old.old)) (value_of c.args.new.now) ≡ Ok (value_of c.in_ok-number.number) = search rules in
    let w : writable (value_of c.args.p.now) ≡ Ok (reference_of c.in_ok-reference.reference.now) = search rules in
    (takes_new c.args.store.now (value_of c.args.p.now) (value_of c.args.new.now) (literal_of c.in_ok-old.old) (value_of c.in_ok-number.number) (reference_of c.in_ok-reference.reference.now) c.len-cells.ensures.sound c.requires.kept c.requires.new l a w).storable
