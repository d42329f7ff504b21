use Rattle.wgsl_c.proofs.Tables.{asked-for}
use Rattle.wgsl_c.proofs.nodes.table_named.Goals as goal

pub returns-clause-records : goal.returns-clause-records
returns-clause-records c =
    asked-for (λ nodes. nodes.items) c.in_ok-records_of.field-0.nodes c.args.source.now c.args.name.now c.in_ok-source.source.now c.in_ok-name.name.now c.args.stage c.args.flags
    c.in_ok-settings.settings c.in_ok-settings.ensures.settings c.in_ok-source.ensures.text c.in_ok-name.ensures.text c.in_ok-records_of.ensures
