-- The machine for which a line of a text is assembled.
use Rattle.std.specs.Prelude.{ℕ, List, take}
use Rattle.cps_expr.specs.declared.machine.Machine.{Machine}
use Rattle.cps_state.specs.Course.{Trace}
use Rattle.cps_state.specs.declared.key.Key.TheVariants as key
use Rattle.cps_state.specs.Keys.{State, control_of, first_state, overwritten}
use Rattle.cps_final.specs.Layout.{puts_of}
use Rattle.cps_edit.specs.Assembly.{traces_of}
use Rattle.cps_server.specs.Document.{source_of_text}

-- the machine in a state
abbrev pub machine_in : State → Machine
machine_in state = (control_of (state key.Control)).machine

-- the machine behind lines that did this in pass one
abbrev pub machine_behind : List Trace → Machine
machine_behind traces = machine_in (overwritten first_state (puts_of traces))

-- the machine of a line of a text, from 0, and behind the last one
abbrev pub machine_at : List ℕ → ℕ → Machine
machine_at text line = machine_behind (take line (traces_of (source_of_text text)))
