use Rattle.std.proofs.Common.{rules, ◌≡◌, Ok, true, false}
use Rattle.wgsl_rules.specs.Access.{can_read}
use Rattle.wgsl_scalar.specs.Literals.{literal_of}
use Rattle.wgsl_values.specs.View.{reference_of, value_of}
use Rattle.wgsl_types.specs.Atomics.{pointed}
use Rattle.wgsl_types.proofs.AtomicLoads.{load_refused, no_number_loaded, number_loaded}
use Rattle.wgsl_types.proofs.atomic.load.Goals as goal

pub returns-then-not-is_read : goal.returns-then-not-is_read
returns-then-not-is_read c =
    let w : pointed (value_of c.args.p.now) ≡ Ok (reference_of c.in_ok-reference.reference.now) = search rules in
    let b : can_read (reference_of c.in_ok-reference.reference.now).access ≡ false = search rules in
    load_refused c.args.store.now (value_of c.args.p.now) (reference_of c.in_ok-reference.reference.now) w b

pub returns-in-Some : goal.returns-in-Some
returns-in-Some c =
    let w : pointed (value_of c.args.p.now) ≡ Ok (reference_of c.in_ok-reference.reference.now) = search rules in
    let b : can_read (reference_of c.in_ok-reference.reference.now).access ≡ true = search rules in
    number_loaded c.args.store.now (value_of c.args.p.now) (reference_of c.in_ok-reference.reference.now) (literal_of c.in-Some.number) c.requires w b c.in-Some.ensures

pub returns-in-None : goal.returns-in-None
returns-in-None c =
    let w : pointed (value_of c.args.p.now) ≡ Ok (reference_of c.in_ok-reference.reference.now) = search rules in
    let b : can_read (reference_of c.in_ok-reference.reference.now).access ≡ true = search rules in
    no_number_loaded c.args.store.now (value_of c.args.p.now) (reference_of c.in_ok-reference.reference.now) c.requires w b c.in-None.ensures
