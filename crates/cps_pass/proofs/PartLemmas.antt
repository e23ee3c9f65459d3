-- Parts that are done one after the other.
use Rattle.std.proofs.Common.{◌∙◌, Result, Ok, Err}
use Rattle.std.specs.Prelude.{OnOk}
use Rattle.cps_state.specs.Course.{Part}
use Rattle.cps_state.specs.Code.Line.{Line, Does, Hands}
use Rattle.cps_state.specs.Keys.{State}

-- a value is handed on, and then something is done with it
pub handed-then : {T U V S : Type 0} (part : (T → Part) → Part) (value : T) (next : T → Part) (f : S → State) (s t u : Line S) (r : Result U V)
    → Hands part value f s t → OnOk r (Does (next value) f t u) → OnOk r (Does (part next) f s u)
handed-then part value next f s t u (Ok x) hands does = λ rest. hands next rest ∙ does rest
handed-then part value next f s t u (Err x) hands does = tt
