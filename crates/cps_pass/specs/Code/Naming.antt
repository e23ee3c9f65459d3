-- For the code of LOCAL lines, not part of what a reader believes: what a function does that hands on what stands for names.
use Rattle.std.specs.Prelude.{◌≡◌, Bool}
use Rattle.cps_text.specs.Insertion.{Pairs}
use Rattle.cps_state.specs.Course.{Course, Part}
use Rattle.cps_state.specs.Keys.{State}
use Rattle.cps_state.specs.Code.Line.{Line, runs, goes_on}

-- LOCAL lines were completed, and hand on what is inserted behind them, or came to one that is too much
abbrev pub Names : {S : Type 0} → ((Pairs → Part) → Part) → Bool → Pairs → (S → State) → Line S → Line S → Type 0
Names part complete pairs answer old new = (next : Pairs → Part) (rest : Course) → runs (part next rest) answer old ≡ goes_on complete (next pairs rest) answer new
