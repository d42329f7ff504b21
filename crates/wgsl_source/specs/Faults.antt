-- The faults that are told of a source.
use Rattle.std.specs.Prelude.{◌<◌, ◌≤◌, List, length, Contains}
use Rattle.wgsl_source.specs.declared.fault.Fault.{Fault}

-- the fault is told, unless as many are as are told of a source
abbrev pub IsTold : List Fault → Fault → Type 0
IsTold faults fault = length faults < 100 → Contains faults fault

-- what was told is told
abbrev pub KeepsFaults : List Fault → List Fault → Type 0
KeepsFaults before after = (length before ≤ length after) × ((fault : Fault) → Contains before fault → Contains after fault)
