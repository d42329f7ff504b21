use Rattle.std.proofs.Common.{◌+◌, ◌*◌, length}
use Rattle.wgsl_script.proofs.structs.+build.Given as goal

-- a structure goes on among those before it
abbrev pub decreases-struct_in : goal.decreases-struct_in
decreases-struct_in l = 2 * length l.earlier.now

abbrev pub decreases-type_in : goal.decreases-type_in
decreases-type_in l = 2 * length l.earlier.now + 1
