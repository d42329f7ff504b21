use Rattle.std.proofs.Common.{◌∙◌, ap}
use Rattle.wgsl_rules.specs.Values.{atomic_of}
use Rattle.wgsl_values.proofs.lemmas.Views.{value_of-Atomic}
use Rattle.wgsl_values.specs.View.{value_of}
use Rattle.wgsl_store.proofs.parts.with_number.Goals as goal

pub returns : goal.returns
returns c =
    value_of-Atomic _ ∙ c.inner_mut.ensures.written c.replace.new.dest ∙ ap atomic_of (ap value_of c.replace.ensures.after ∙ c.from.ensures.value)
