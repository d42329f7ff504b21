use Rattle.std.proofs.Common.{◌≡◌, ◌%◌, length, take, ◌∙◌, ap}
use Rattle.std.proofs.Math.Nat.{min_comm}
use Rattle.std.proofs.lemmas.List.{take_min}
use Rattle.std.specs.Hash.FoldHasher.{initial, write, finish}
use Rattle.wgsl_source.proofs.name_table.map_of.Goals as goal

pub returns-clause-map : goal.returns-clause-map
returns-clause-map c =
    let bytes = c.as_bytes-bytes.result.now in
    let front : take c.min.result bytes ≡ take 64 c.args.name.now =
    ap (λ n. take n bytes) (c.min.ensures ∙ min_comm (length bytes) 64) ∙ take_min 64 bytes ∙ ap (take 64) c.as_bytes-bytes.ensures.value in
    let written : c.write.new.self ≡ write initial (take 64 c.args.name.now) =
    c.write.ensures ∙ ap (λ h. write h (take c.min.result bytes)) c.default-hasher.ensures ∙ ap (write initial) front in
    ap (λ n. n % c.args.maps) (c.finish.ensures ∙ ap finish written)
