use Rattle.std.proofs.Common.{rules}
use Rattle.wgsl_values.specs.declared.view.MemView.{the_lemmas}
use Rattle.wgsl_values.proofs.instance.Instance.+part_viewed.Goals as goal

pub part_viewed-requires : goal.part_viewed-requires
part_viewed-requires t c = (search (rules, the_lemmas), tt)

pub part_viewed-requires-in-Index : goal.part_viewed-requires-in-Index
part_viewed-requires-in-Index t c = (search (rules, the_lemmas), tt)
