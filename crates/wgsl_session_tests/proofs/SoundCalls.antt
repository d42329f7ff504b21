-- Lists of calls that a session takes, made one call after the other.
use Rattle.std.proofs.Common.{List, [], ◌∷◌, ◌++◌, map}
use Rattle.wgsl_session.specs.Calls.{Call, IsSoundCall, AreSoundCalls}

pub sound_pushed : {A : Type 0} (view : A → Call) (items : List A) (item : A) → AreSoundCalls (map view items) → IsSoundCall (view item) → AreSoundCalls (map view (items ++ item ∷ []))
sound_pushed view [] item sound last = (last, tt)
sound_pushed view (first ∷ items) item sound last = (sound.0, sound_pushed view items item sound.1 last)
