use Rattle.std.proofs.Common.{◌≡◌, ℕ, ◌+◌, ◌*◌, length, map, drop, get_or, sym, ap, ◌∙◌, subst, arith}
use Rattle.wgsl_rules.specs.Values.{Vals}
use Rattle.wgsl_scalar.specs.Literals.{literal_of}
use Rattle.wgsl_values.specs.View.{vals_of}
use Rattle.wgsl_layout.specs.Plan.{scalar}
use Rattle.wgsl_layout.specs.Walk.{put_row, StandInRow}
use Rattle.wgsl_layout.proofs.Writing.{row-next}
use Rattle.wgsl_places.proofs.SideBySide.{literals-from, literals-past, nothing, put-number}
use Rattle.wgsl_places.proofs.rows.put_row.Goals as goal

pub loop-i-init : goal.loop-i-init
loop-i-init c =
    let row = vals_of (map literal_of c.args.numbers.now) in
    let start : c.args.at ≡ c.args.at + 0 * c.args.width = omega arith in
    record {
      places = subst (λ (o : ℕ). StandInRow row c.args.width scalar o (length c.args.bytes.now)) start c.requires;
      rest = ap (λ (o : ℕ). put_row row c.args.width scalar o c.args.bytes.now) (sym start);
    }

pub overflow_mul-i : goal.overflow_mul-i
overflow_mul-i c =
    let ls = c.args.numbers.now in
    let i = c.loop-i.i in
    let n = row-next (vals_of (map literal_of (drop i ls))) (vals_of (map literal_of (drop (i + 1) ls))) (literal_of (get_or ls i nothing)) scalar c.args.at i c.args.width c.loop-i.bytes _ (literals-from ls i c.loop-i-test.true) c.loop-i.invariant.places c.loop-i.invariant.rest in
    omega (arith, n.within)

pub overflow_add-at : goal.overflow_add-at
overflow_add-at c =
    let ls = c.args.numbers.now in
    let i = c.loop-i.i in
    let n = row-next (vals_of (map literal_of (drop i ls))) (vals_of (map literal_of (drop (i + 1) ls))) (literal_of (get_or ls i nothing)) scalar c.args.at i c.args.width c.loop-i.bytes _ (literals-from ls i c.loop-i-test.true) c.loop-i.invariant.places c.loop-i.invariant.rest in
    omega (arith, n.within)

pub put-requires : goal.put-requires
put-requires c =
    let ls = c.args.numbers.now in
    let i = c.loop-i.i in
    let n = row-next (vals_of (map literal_of (drop i ls))) (vals_of (map literal_of (drop (i + 1) ls))) (literal_of (get_or ls i nothing)) scalar c.args.at i c.args.width c.loop-i.bytes _ (literals-from ls i c.loop-i-test.true) c.loop-i.invariant.places c.loop-i.invariant.rest in
    n.stands

pub loop-i-preserved : goal.loop-i-preserved
loop-i-preserved c =
    let ls = c.args.numbers.now in
    let i = c.loop-i.i in
    let l = get_or ls i nothing in
    let n = row-next (vals_of (map literal_of (drop i ls))) (vals_of (map literal_of (drop (i + 1) ls))) (literal_of l) scalar c.args.at i c.args.width c.loop-i.bytes _ (literals-from ls i c.loop-i-test.true) c.loop-i.invariant.places c.loop-i.invariant.rest in
    let next = n.after c.put.new.bytes c.put.auto.bytes (c.put.ensures ∙ put-number l (c.args.at + i * c.args.width) c.loop-i.bytes) in
    record { places = next.0; rest = next.1 }

pub returns : goal.returns
returns c =
    let none = literals-past c.args.numbers.now c.loop-i.i (omega arith) in
    sym (ap (λ (vs : Vals). put_row vs c.args.width scalar (c.args.at + c.loop-i.i * c.args.width) c.loop-i.bytes) none) ∙ c.loop-i.invariant.rest
