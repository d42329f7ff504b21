-- The laws of lists of calls. Each is proved of the definitions alone.
use Rattle.std.specs.Prelude.{◌≡◌, List, Option, slice_get}
use Rattle.wgsl_rules.specs.Values.{Reference, Val}
use Rattle.wgsl_session.specs.Calls.{State, Call, Answer, IsStep, IsRun, IsSoundCall, AreSoundCalls, IsGood}
use Rattle.wgsl_session.specs.Flat.{Cell, IsNamed, Holds, found, IsFlatStep, IsFlatRun, flat_of}

-- ---- what references hold in a memory of bytes

-- it is one value at most
abbrev pub AReferenceNamesOneValue : Type 0
AReferenceNamesOneValue = (cells : List Cell) (r : Reference) (v w : Val) → IsNamed (slice_get cells r.cell) r v → IsNamed (slice_get cells r.cell) r w → w ≡ v

-- decoding gives it
abbrev pub DecodingFindsWhatIsHeld : Type 0
DecodingFindsWhatIsHeld = (cells : List Cell) → Holds cells (found cells)

-- ---- values and bytes

-- in a good memory of values, each step of a sound call is a step of the memory of bytes that it stands for
abbrev pub ValuesAndBytesAreInStep : Type 0
ValuesAndBytesAreInStep = (before after : State Val) (call : Call) (answer : Option Answer) → IsGood before → IsSoundCall call → IsStep before call after answer
    → IsFlatStep (flat_of before) call (flat_of after) answer

-- and so for every list of sound calls, after which the memory is good again
abbrev pub RunsAreInStep : Type 0
RunsAreInStep = (before after : State Val) (calls : List Call) (answers : List (Option Answer)) → IsGood before → AreSoundCalls calls → IsRun before calls after answers
    → IsFlatRun (flat_of before) calls (flat_of after) answers × IsGood after
