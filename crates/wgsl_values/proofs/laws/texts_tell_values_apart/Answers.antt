use Rattle.wgsl_values.proofs.TextLaws.{literals_apart, vectors_apart, matrices_apart, atomics_apart}
use Rattle.wgsl_values.proofs.laws.texts_tell_values_apart.Goals as goal

pub returns : goal.returns
returns c = record { literals = literals_apart; vectors = vectors_apart; matrices = matrices_apart; atomics = atomics_apart }
