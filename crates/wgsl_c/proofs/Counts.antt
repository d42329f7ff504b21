-- The errors are counted of what is handed out.
use Rattle.std.proofs.Common.{◌≡◌, ◌≤◌, ◌-◌, ◌^◌, ◌++◌, List, Bool, true, false, ap, arith, drop, if◌then◌else◌, length, min, nat_lt, sym, take, ℕ}
use Rattle.std.proofs.Math.Seq.{take-append_seam}
use Rattle.wgsl_c.specs.Answers.{answer_of, left_in, stopped}
use Rattle.wgsl_c.specs.Faults.{CountsErrors, errors_in}
use Rattle.wgsl_c.specs.declared.answer.Stop.{Stop}
use Rattle.wgsl_c.specs.declared.answer.Stop.TheVariants as stops
use Rattle.wgsl_c.specs.declared.answer.TheConstants.{OK, FAULT, ROOM}
use Rattle.wgsl_c.specs.declared.faults.Fault.{Fault}

-- the front of what is left is what is handed out
front : (things rest : List Fault) → min (errors_in things) (2 ^ 32 - 1) ≡ min (errors_in (take (length things) (things ++ rest))) (2 ^ 32 - 1)
front things rest = ap (λ those. min (errors_in those) (2 ^ 32 - 1)) (sym (take-append_seam things rest))

-- where there is room, and where there is none
counted_if : (b : Bool) (status : ℕ) (things old : List Fault) → CountsErrors (if b then record { status = ROOM; number = 0; length = length things } else record { status = status; number = min (errors_in things) (2 ^ 32 - 1); length = length things }) (if b then old else things ++ drop (length things) old)
counted_if true status things old le = absurd (omega arith)
counted_if false status things old le = front things (drop (length things) old)

pub counted : (things old : List Fault) → CountsErrors (answer_of (errors_in things) (length things) (length old)) (left_in things old)
counted things old = counted_if (nat_lt (length old) (length things)) (if nat_lt 0 (errors_in things) then FAULT else OK) things old

pub uncounted : (stop : Stop) (records : List Fault) → CountsErrors (stopped stop) records
uncounted (stops.Refused refusal) records le = absurd (omega arith)
uncounted stops.Memory records le = absurd (omega arith)
uncounted (stops.Misuse argument) records le = absurd (omega arith)
