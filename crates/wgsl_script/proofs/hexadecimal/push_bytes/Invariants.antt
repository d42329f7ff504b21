use Rattle.std.proofs.Common.{◌≡◌, ◌++◌, drop, string_bytes}
use Rattle.wgsl_script.specs.Hexadecimal.{hexadecimal}
use Rattle.wgsl_script.proofs.hexadecimal.push_bytes.Given as goal

-- the text so far and the digits of the bytes that are left are the whole
abbrev pub invariant-loop-byte : goal.invariant-loop-byte
invariant-loop-byte l = string_bytes l.text ++ hexadecimal (drop l.byte-index l.bytes) ≡ string_bytes l.initial.text ++ hexadecimal l.bytes
