-- What a call from C answers, and what it leaves in the caller's memory.
use Rattle.std.specs.Prelude.{ℕ, List, length, drop, ◌≡◌, ◌<◌, ◌≤◌, ◌+◌, ◌-◌, ◌^◌, ◌++◌, nat_lt, min, if◌then◌else◌}
use Rattle.wgsl_eval.specs.declared.answer.Need.{Need}
use Rattle.wgsl_eval.specs.declared.answer.Need.TheVariants as needs
use Rattle.wgsl_c.specs.declared.answer.Answer.{Answer}
use Rattle.wgsl_c.specs.declared.answer.Refusal.{Refusal}
use Rattle.wgsl_c.specs.declared.answer.Refusal.TheVariants as refusals
use Rattle.wgsl_c.specs.declared.answer.Stop.{Stop}
use Rattle.wgsl_c.specs.declared.answer.Stop.TheVariants as stops
use Rattle.wgsl_c.specs.declared.answer.TheConstants.{OK, FAULT, REFUSED, ROOM, MEMORY, MISUSE}

-- the numbers of the header
abbrev pub refusal_number : Refusal → ℕ
refusal_number refusals.NeedsFloat = 1
refusal_number refusals.NeedsOverride = 2
refusal_number refusals.NeedsVariable = 3
refusal_number refusals.NeedsFunction = 4
refusal_number refusals.NeedsOpaque = 5
refusal_number refusals.NeedsRunTime = 6
refusal_number refusals.NoBytes = 7
refusal_number refusals.NoSuchFault = 8
refusal_number refusals.ScriptTooLong = 9
refusal_number refusals.NoLayout = 10

-- why an expression has no value here
abbrev pub refusal_for : Need → Refusal
refusal_for needs.Float = refusals.NeedsFloat
refusal_for needs.Override = refusals.NeedsOverride
refusal_for needs.Variable = refusals.NeedsVariable
refusal_for needs.Function = refusals.NeedsFunction
refusal_for needs.Opaque = refusals.NeedsOpaque
refusal_for needs.Runtime = refusals.NeedsRunTime

-- of a call that hands nothing out
abbrev pub stopped : Stop → Answer
stopped (stops.Refused refusal) = record { status = REFUSED; number = refusal_number refusal; length = 0 }
stopped stops.Memory = record { status = MEMORY; number = 0; length = 0 }
stopped (stops.Misuse argument) = record { status = MISUSE; number = argument; length = 0 }

-- of a call that has so many things to hand out, of a source of so many faults, where there is room for so many
abbrev pub answer_of : ℕ → ℕ → ℕ → Answer
answer_of faults count room =
    if nat_lt room count
    then record { status = ROOM; number = 0; length = count }
    else record { status = (if nat_lt 0 faults then FAULT else OK); number = min faults (2 ^ 32 - 1); length = count }

-- the things stand at the front, where there is room for all of them, and what is behind them is as before
abbrev pub left_in : {X : Type 0} → List X → List X → List X
left_in things old = if nat_lt (length old) (length things) then old else things ++ drop (length things) old

-- what each call answers that hands out things of which P holds, and what it leaves where there was something before
pub record IsAnswer {X : Type 0} (P : List X → Type 0) (answer : Answer) (old new : List X) : Type 0 where
  pub listed : answer.status ≤ MISUSE
  -- what is handed out is whole, and all behind it is as before
  pub whole : answer.status ≤ FAULT → (things : List X) × P things × (answer.length ≡ length things) × (length things ≤ length old) × (new ≡ things ++ drop (length things) old)
  pub sound : answer.status ≡ OK → answer.number ≡ 0
  pub faulty : answer.status ≡ FAULT → 0 < answer.number
  -- so much room is needed, and there is less
  pub wanting : answer.status ≡ ROOM → (things : List X) × P things × (answer.length ≡ length things) × (length old < length things)
  -- nothing is written
  pub nothing : FAULT < answer.status → new ≡ old

-- the argument of this number is none
abbrev pub misuse : ℕ → Answer
misuse argument = stopped (stops.Misuse argument)

-- a stage and flags, the arguments of this number and the next, are told where they are none
pub record TellsNumbers (stage flags argument : ℕ) (answer : Answer) : Type 0 where
  pub of_stage : 3 ≤ stage → answer ≡ misuse argument
  pub of_flags : stage < 3 → 4 ≤ flags → answer ≡ misuse (argument + 1)
