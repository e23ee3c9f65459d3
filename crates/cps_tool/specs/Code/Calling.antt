-- For the code, not part of what a reader believes: what is done, by the call as the code has it.
use Rattle.std.specs.Prelude.{ℕ, List, Option, Some, ◌⊎◌}
use Rattle.clap.specs.Words.{Text}
use Rattle.cps_text.specs.declared.counted.Counted.{Counted}
use Rattle.cps_words.specs.declared.export.Export.{Export}
use Rattle.cps_words.specs.Export.{wanted_of}
use Rattle.cps_words.specs.Outputs.{name_of}
use Rattle.cps_words.specs.Placing.{Placed}
use Rattle.cps_words.specs.declared.request.Call.{Call}
use Rattle.cps_words.specs.Request.{asked_by, asks}
use Rattle.cps_words.specs.Hints.{hints_of}
use Rattle.cps_words.specs.Task.{disassemble, session, task_of}
use Rattle.cps_tool.specs.declared.disassembling.DisassemblyCall.{DisassemblyCall}
use Rattle.cps_tool.specs.CommandLine.{Calls, Disassembled, Exported, IsUndone, ServesOne, ServesWith}

-- this was done, or nothing was
abbrev pub UndoneOr : {R W : Type 0} → (ℕ → Counted R → Counted R → Counted W → Counted W → Type 0) → ℕ
    → Counted R → Counted R → Counted W → Counted W → Type 0
UndoneOr Does status reader reader' writer writer' = IsUndone status reader reader' writer writer' ⊎ Does status reader reader' writer writer'

-- what a call asks of one input was done
abbrev pub DoesRequest : {R W : Type 0} → (R → Option (List ℕ)) → (W → Option (List ℕ)) → Call → ℕ → Counted R → Counted R → Counted W → Counted W → Type 0
DoesRequest remaining contents call status reader reader' writer writer' =
    Calls remaining contents (task_of call.request) (name_of call.file) status reader reader' writer writer'

-- at the call of a session that begins with the lines of the file of that name
abbrev pub DoesSession : {F R W : Type 0} → (List ℕ → Option (List ℕ)) → (F → Option (List ℕ)) → (R → Option (List ℕ)) → (W → Option (List ℕ)) → Text → ℕ
    → Counted R → Counted R → Counted W → Counted W → Type 0
DoesSession holds opened remaining contents name status reader reader' writer writer' =
    ServesWith holds opened remaining contents (asks session (Some name)) status reader reader' writer writer'

-- a source that makes the words that are asked for was written
abbrev pub Disassembles : {R W : Type 0} → (R → Option (List ℕ)) → (W → Option (List ℕ)) → DisassemblyCall → ℕ
    → Counted R → Counted R → Counted W → Counted W → Type 0
Disassembles remaining contents asked status reader reader' writer writer' =
    Disassembled remaining contents asked.request status reader reader' writer writer'

-- at a call of a disassembly
abbrev pub DoesDisassembly : {F R W : Type 0} → (List ℕ → Option (List ℕ)) → (F → Option (List ℕ)) → (R → Option (List ℕ)) → (W → Option (List ℕ)) → DisassemblyCall → ℕ
    → Counted R → Counted R → Counted W → Counted W → Type 0
DoesDisassembly holds opened remaining contents asked status reader reader' writer writer' =
    ServesWith holds opened remaining contents (asks (disassemble asked.request (hints_of asked.hints)) (name_of asked.file)) status reader reader' writer writer'

-- the texts that an export wants were written into files, and then the part
abbrev pub DoesExport : {T R W : Type 0} → (T → Option (List Placed)) → (R → Option (List ℕ)) → (W → Option (List ℕ)) → Export → ℕ
    → T → T → Counted R → Counted R → Counted W → Counted W → Type 0
DoesExport placed remaining contents export status files files' reader reader' writer writer' =
    Exported placed remaining contents (wanted_of export) status files files' reader reader' writer writer'

-- at a call of one input
abbrev pub DoesOne : {F R W : Type 0} → (List ℕ → Option (List ℕ)) → (F → Option (List ℕ)) → (R → Option (List ℕ)) → (W → Option (List ℕ)) → Call → ℕ
    → Counted R → Counted R → Counted W → Counted W → Type 0
DoesOne holds opened remaining contents call status reader reader' writer writer' =
    ServesOne holds opened remaining contents (asked_by call) status reader reader' writer writer'

-- at a call of any inputs
abbrev pub DoesWith : {F R W : Type 0} → (List ℕ → Option (List ℕ)) → (F → Option (List ℕ)) → (R → Option (List ℕ)) → (W → Option (List ℕ)) → Call → ℕ
    → Counted R → Counted R → Counted W → Counted W → Type 0
DoesWith holds opened remaining contents call status reader reader' writer writer' =
    ServesWith holds opened remaining contents (asked_by call) status reader reader' writer writer'
