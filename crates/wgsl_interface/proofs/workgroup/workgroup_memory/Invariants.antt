use Rattle.std.proofs.Common.{◌≡◌, ◌<◌, ◌^◌, take}
use Rattle.wgsl_interface.specs.Workgroups.{workgroup_memory}
use Rattle.wgsl_interface.proofs.workgroup.workgroup_memory.Given as goal

abbrev pub invariant-loop-size : goal.invariant-loop-size
invariant-loop-size l = record {
  sum : l.total ≡ workgroup_memory (take l.size-index l.sizes);
  fits : l.total < 2 ^ 64;
}
