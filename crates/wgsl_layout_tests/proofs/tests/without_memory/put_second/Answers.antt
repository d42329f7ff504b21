use Rattle.std.proofs.Common.{◌≡◌, Some, option_map, sym}
use Rattle.std.specs.Result.{result_ok}
use Rattle.wgsl_rules.specs.Paths.{part_at}
use Rattle.wgsl_scalar.specs.Literals.{literal_of}
use Rattle.wgsl_layout.specs.FlatCells.{part_value}
use Rattle.wgsl_layout_tests.proofs.Numbers.{second-number}
use Rattle.wgsl_layout_tests.proofs.tests.without_memory.put_second.Goals as goal

pub put_number-requires : goal.put_number-requires
put_number-requires g c =
    let x = part_value c.part_at-part.result in
    let y = part_value c.expect-second.result in
    let w = literal_of c.args.number in
    let at : option_map part_value (Some c.expect-second.result) ≡ option_map (λ p. p.1) (result_ok (part_at 1 x)) = rw c.expect-second.ensures at c.index.ensures.value in
    rw c.part_at-part.ensures.there (second-number x y w c.assert_three.ensures.vector c.assert_three.ensures.typed (sym at) c.assert_like.ensures)
