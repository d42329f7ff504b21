use Rattle.std.proofs.Common.{◌≡◌, ◌++◌, length, map}
use Rattle.std.specs.Char.{to_ascii_lowercase}
use Rattle.wgsl_script.specs.Hexadecimal.{hexadecimal}
use Rattle.wgsl_script.proofs.hexadecimal.bytes_of.Given as goal

-- the digits of the bytes so far and those that are left are the whole word
abbrev pub invariant-loop-digits : goal.invariant-loop-digits
invariant-loop-digits l = map to_ascii_lowercase l.word ≡ hexadecimal l.bytes.items ++ map to_ascii_lowercase l.digits

abbrev pub decreases-loop-digits : goal.decreases-loop-digits
decreases-loop-digits l = length l.digits
