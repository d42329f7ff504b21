-- The code of a memory, which the prover asks of what a session shows; no rule rests on it.
use Rattle.std.specs.Prelude.{List, refl}
use Rattle.std.specs.Coded.{Coded, code_by, coded×, coded_list}
use Rattle.wgsl_rules.specs.Values.{Reference, Val}
use Rattle.wgsl_rules.specs.Codes.{val_code, reference_code}
use Rattle.wgsl_session.specs.Calls.{State}

abbrev pub state_code : Coded (State Val)
state_code =
    code_by (List Val × List Reference) (coded× (coded_list val_code) (coded_list reference_code)) (λ s. (s.cells, s.handles)) (λ p. record { cells = p.0; handles = p.1 }) (λ _. refl)
