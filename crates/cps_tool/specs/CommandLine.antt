-- What a call of the program does, and the status that it ends with. Our own.
use Rattle.std.specs.Prelude.{◌≡◌, ℕ, Bool, true, false, ◌⊎◌, List, [], Option, Some, None, Result, Ok, Err, if◌then◌else◌, ◌==◌, codes, unwrap_or, ⊤}
use Rattle.cps_text.specs.declared.counted.Counted.{Counted}
use Rattle.cps_text.specs.Counted.{inner_of, calls_of, failures_of, moved_of, idle_of, FailsOnce}
use Rattle.cps_batch.specs.declared.fault.BatchFault.{BatchFault}
use Rattle.cps_batch.specs.Batch.{RunsBatch}
use Rattle.cps_check.specs.declared.fault.CheckFault.{CheckFault}
use Rattle.cps_check.specs.Check.{RunsCheck}
use Rattle.cps_compare.specs.declared.compare_options.CompareOptions.{CompareOptions}
use Rattle.cps_compare.specs.declared.octal_fault.OctalFault.{OctalFault}
use Rattle.cps_compare.specs.Octal.{RunsComparison}
use Rattle.cps_disassembly.specs.declared.request.Request.{Request}
use Rattle.cps_disassembly.specs.declared.run_fault.RunFault as disassembly
use Rattle.cps_disassembly.specs.Running.{RunsDisassembly}
use Rattle.clap.specs.Words.{Text}
use Rattle.cps_input.specs.Sources.{IsSource, IsReadWhole}
use Rattle.cps_check.specs.Manual as manual
use Rattle.cps_words.specs.declared.export_fault.ExportFault.{ExportFault}
use Rattle.cps_words.specs.Export.{Exports, Wanted}
use Rattle.cps_words.specs.Placing.{Placed}
use Rattle.cps_words.specs.Same.{KeepsAll, Sameness}
use Rattle.cps_server.specs.Running.{RunsServer}
use Rattle.cps_rpc.specs.declared.fault.ServerFault.{ServerFault}
use Rattle.cps_words.specs.Task.{Task, batch, export, session, check, compare, disassemble, explain, server}
use Rattle.cps_words.specs.Shown.{shown}
use Rattle.cps_words.specs.declared.unread.Unread.{Unread}
use Rattle.cps_words.specs.declared.unread.Unread.TheVariants.{Told, Wrong, Memory}
use Rattle.cps_words.specs.Request.{Answer, asks, tells, refuses}
use Rattle.cps_tool.specs.declared.writing.RunFault.{RunFault}
use Rattle.cps_tool.specs.Script.{RunsScript}
use Rattle.cps_tool.specs.Written.{IsWritten, IsFrontWritten}

-- the status with so many flagged lines, or words that differ
abbrev pub status_with : ℕ → ℕ
status_with count = if count == 0 then 0 else 1

-- the status where an error was told, or none
abbrev pub status_if : Bool → ℕ
status_if is_wrong = if is_wrong then 1 else 0

-- the status where `shutdown` came before the end, or didn't
abbrev pub status_at_end : Bool → ℕ
status_at_end was_shut_down = if was_shut_down then 0 else 1

-- 2 after a fault, else 1 where a line is flagged or a word differs, else 0
abbrev pub status_of : {F : Type 0} → Result ℕ F → ℕ
status_of (Ok count) = status_with count
status_of (Err fault) = 2

-- 2 after a fault, else 1 where an error was told, else 0
abbrev pub status_of_check : {F : Type 0} → Result Bool F → ℕ
status_of_check (Ok is_wrong) = status_if is_wrong
status_of_check (Err fault) = 2

-- 2 after a fault, else 0 where `shutdown` came before the end, else 1
abbrev pub status_of_server : {F : Type 0} → Result Bool F → ℕ
status_of_server (Ok was_shut_down) = status_at_end was_shut_down
status_of_server (Err fault) = 2

-- nothing was done: the words are wrong, a file can't be opened, or there was no memory for either
abbrev pub IsUndone : {R W : Type 0} → ℕ → Counted R → Counted R → Counted W → Counted W → Type 0
IsUndone status reader reader' writer writer' = (status ≡ 2) × (reader' ≡ reader) × (writer' ≡ writer)

-- nothing was written, after a fault
abbrev pub IsIdle : {W : Type 0} → ℕ → Counted W → Counted W → Type 0
IsIdle status writer writer' = (status ≡ 2) × (writer' ≡ writer)

-- A text was told: the writer took the whole of it, and no write failed; or it took a front of it, where a write failed.
abbrev pub TellsText : {W : Type 0} → (W → Option (List ℕ)) → ℕ → List ℕ → Counted W → Counted W → Type 0
TellsText contents status text writer writer' =
    ((status ≡ 0) × IsWritten contents writer writer' text × (failures_of writer' ≡ failures_of writer))
    ⊎ ((status ≡ 2) × IsFrontWritten contents writer writer' text × FailsOnce writer writer')

-- a script is run over a source that begins with these lines
abbrev pub RunsFrom : {R W : Type 0} → (R → Option (List ℕ)) → (W → Option (List ℕ)) → List (List ℕ) → ℕ → Counted R → Counted R → Counted W → Counted W → Type 0
RunsFrom remaining contents lines status reader reader' writer writer' =
    (result : Result ℕ RunFault) × (source : List (List ℕ)) × (status ≡ status_of result) × RunsScript remaining contents lines source result reader reader' writer writer'

-- what is told of a word: there is something, and of an instruction it is the rows of the tables
pub record Explains (word text : List ℕ) : Type 0 where
  pub some : manual.is_told word ≡ true
  pub rows : manual.is_told_by_sentences word ≡ false → manual.TellsForms word text

-- what a word means is told
abbrev pub TellsWord : {W : Type 0} → (W → Option (List ℕ)) → List ℕ → ℕ → Counted W → Counted W → Type 0
TellsWord contents word status writer writer' = (text : List ℕ) × Explains word text × TellsText contents status text writer writer'

-- the name under which a check tells: that of the file, as a message shows it
abbrev pub told_name : Option Text → List ℕ
told_name named = shown (unwrap_or named (codes "<stdin>"))

-- a check told under a name, perhaps errors alone
abbrev pub ChecksAs : {R W : Type 0} → (R → Option (List ℕ)) → (W → Option (List ℕ)) → Bool → List ℕ → ℕ → Counted R → Counted R → Counted W → Counted W → Type 0
ChecksAs remaining contents errors_only name status reader reader' writer writer' =
    (result : Result Bool CheckFault) × (status ≡ status_of_check result) × RunsCheck remaining contents errors_only name result reader reader' writer writer'

-- 2 after a fault, else 0
abbrev pub status_of_run : {X F : Type 0} → Result X F → ℕ
status_of_run (Ok done) = 0
status_of_run (Err fault) = 2

-- an octal text was read, and a source that makes its words was written
abbrev pub Disassembled : {R W : Type 0} → (R → Option (List ℕ)) → (W → Option (List ℕ)) → Request → ℕ → Counted R → Counted R → Counted W → Counted W → Type 0
Disassembled remaining contents request status reader reader' writer writer' =
    (result : Result ⊤ disassembly.RunFault) × (status ≡ status_of_run result) × RunsDisassembly remaining contents request result reader reader' writer writer'

-- What is done that the words ask with one input, which is the file of that name, or standard input: batch assembly; or the script of a session that
-- begins with no line; or a check; or a source is made for the words of an octal text; or a word is explained, and nothing is read; or an editor is
-- answered. A comparison has two inputs, and an export writes files.
abbrev pub Calls : {R W : Type 0} → (R → Option (List ℕ)) → (W → Option (List ℕ)) → Task → Option Text → ℕ
    → Counted R → Counted R → Counted W → Counted W → Type 0
Calls remaining contents (batch part) named status reader reader' writer writer' =
    (result : Result ℕ BatchFault) × (status ≡ status_of result) × RunsBatch remaining contents part result reader reader' writer writer'
Calls remaining contents session named status reader reader' writer writer' = RunsFrom remaining contents [] status reader reader' writer writer'
Calls remaining contents (check errors_only) named status reader reader' writer writer' =
    ChecksAs remaining contents errors_only (told_name named) status reader reader' writer writer'
Calls remaining contents (disassemble request hints) named status reader reader' writer writer' =
    Disassembled remaining contents request status reader reader' writer writer'
Calls remaining contents (explain word) named status reader reader' writer writer' = (reader' ≡ reader) × TellsWord contents word status writer writer'
Calls remaining contents server named status reader reader' writer writer' =
    (result : Result Bool ServerFault) × (status ≡ status_of_server result) × RunsServer remaining contents result reader reader' writer writer'
Calls remaining contents (export names part) named status reader reader' writer writer' = ⊥
Calls remaining contents (compare octal options) named status reader reader' writer writer' = ⊥

-- the help or the version is told
abbrev pub Tells : {W : Type 0} → (W → Option (List ℕ)) → ℕ → Counted W → Counted W → Type 0
Tells contents status writer writer' = (text : List ℕ) × TellsText contents status text writer writer'

-- it is told, or nothing is written
abbrev pub TellsUnread : {W : Type 0} → (W → Option (List ℕ)) → Unread → ℕ → Counted W → Counted W → Type 0
TellsUnread contents (Told text) status writer writer' = Tells contents status writer writer'
TellsUnread contents (Wrong text) status writer writer' = (status ≡ 2) × (writer' ≡ writer)
TellsUnread contents Memory status writer writer' = (status ≡ 2) × (writer' ≡ writer)

-- What a call does that has no files, by what its words are answered: what they ask is done; or the help or the version is told; or they are
-- refused, and so is each file. Nothing is read where they ask nothing. Memory may be refused at any words.
abbrev pub Serves : {R W : Type 0} → (R → Option (List ℕ)) → (W → Option (List ℕ)) → Answer → ℕ → Counted R → Counted R → Counted W → Counted W → Type 0
Serves remaining contents (asks task None) status reader reader' writer writer' =
    IsUndone status reader reader' writer writer' ⊎ Calls remaining contents task None status reader reader' writer writer'
Serves remaining contents (asks task (Some name)) status reader reader' writer writer' = IsUndone status reader reader' writer writer'
Serves remaining contents tells status reader reader' writer writer' =
    IsUndone status reader reader' writer writer' ⊎ ((reader' ≡ reader) × Tells contents status writer writer')
Serves remaining contents refuses status reader reader' writer writer' = IsUndone status reader reader' writer writer'

-- ---- files

-- a file that was opened, of which nothing was read yet, and which holds these bytes
pub record IsOpened {F : Type 0} (holds : Option (List ℕ)) (opened : F → Option (List ℕ)) (file : Counted F) : Type 0 where
  pub bytes : opened (inner_of file) ≡ holds
  pub calls : calls_of file ≡ 0
  pub failures : failures_of file ≡ 0
  pub moved : moved_of file ≡ 0
  pub idle : idle_of file ≡ 0

-- a file that holds these bytes was opened, and this was done with it
pub record WithFile {F : Type 0} (holds : Option (List ℕ)) (opened : F → Option (List ℕ)) (Does : Counted F → Counted F → Type 0) : Type 0 where
  pub file : Counted F
  pub file' : Counted F
  pub is_opened : IsOpened holds opened file
  pub does : Does file file'

-- the octal text and the source of a comparison were read, and words that differ were told
abbrev pub Compared : {O R W : Type 0} → (O → Option (List ℕ)) → (R → Option (List ℕ)) → (W → Option (List ℕ)) → CompareOptions → ℕ
    → Counted O → Counted O → Counted R → Counted R → Counted W → Counted W → Type 0
Compared given remaining contents options status octal octal' source source' writer writer' =
    (result : Result ℕ OctalFault) × (status ≡ status_of result)
    × RunsComparison given remaining contents options result octal octal' source source' writer writer'

-- a comparison, by the names of the octal text and of the source: standard input is the one that has no name
abbrev pub Compares : {F R W : Type 0} → (List ℕ → Option (List ℕ)) → (F → Option (List ℕ)) → (R → Option (List ℕ)) → (W → Option (List ℕ))
    → CompareOptions → Option Text → Option Text → ℕ → Counted R → Counted R → Counted W → Counted W → Type 0
Compares holds opened remaining contents options (Some octal) (Some source) status reader reader' writer writer' =
    (reader' ≡ reader) × WithFile (holds octal) opened (λ file file'. WithFile (holds source) opened (λ deck deck'.
    Compared opened opened contents options status file file' deck deck' writer writer'))
Compares holds opened remaining contents options (Some octal) None status reader reader' writer writer' =
    WithFile (holds octal) opened (λ file file'. Compared opened remaining contents options status file file' reader reader' writer writer')
Compares holds opened remaining contents options None (Some source) status reader reader' writer writer' =
    WithFile (holds source) opened (λ deck deck'. Compared remaining opened contents options status reader reader' deck deck' writer writer')
Compares holds opened remaining contents options None None status reader reader' writer writer' = ⊥

-- a session that begins with the lines of a file, which is read as batch reads it
abbrev pub EditsFile : {F R W : Type 0} → (F → Option (List ℕ)) → (R → Option (List ℕ)) → (W → Option (List ℕ)) → ℕ
    → Counted F → Counted F → Counted R → Counted R → Counted W → Counted W → Type 0
EditsFile opened remaining contents status file file' reader reader' writer writer' =
    (lines : List (List ℕ)) × IsReadWhole opened file file' lines × IsSource lines × RunsFrom remaining contents lines status reader reader' writer writer'

-- What a call of one input does that may name a file: what is asked is done with it in the place of standard input, which isn't read. It may be that
-- the file can't be opened, and then nothing is done.
abbrev pub ServesOne : {F R W : Type 0} → (List ℕ → Option (List ℕ)) → (F → Option (List ℕ)) → (R → Option (List ℕ)) → (W → Option (List ℕ)) → Answer → ℕ
    → Counted R → Counted R → Counted W → Counted W → Type 0
ServesOne holds opened remaining contents (asks task (Some name)) status reader reader' writer writer' =
    IsUndone status reader reader' writer writer'
    ⊎ ((reader' ≡ reader) × WithFile (holds name) opened (λ file file'. Calls opened contents task (Some name) status file file' writer writer'))
ServesOne holds opened remaining contents answer status reader reader' writer writer' = Serves remaining contents answer status reader reader' writer writer'

-- What a call does that may name files. The file of a session is its source, and standard input its script; a session whose file is no source does nothing.
abbrev pub ServesWith : {F R W : Type 0} → (List ℕ → Option (List ℕ)) → (F → Option (List ℕ)) → (R → Option (List ℕ)) → (W → Option (List ℕ)) → Answer → ℕ
    → Counted R → Counted R → Counted W → Counted W → Type 0
ServesWith holds opened remaining contents (asks (compare octal options) source) status reader reader' writer writer' =
    IsUndone status reader reader' writer writer'
    ⊎ Compares holds opened remaining contents options octal source status reader reader' writer writer'
ServesWith holds opened remaining contents (asks session (Some name)) status reader reader' writer writer' =
    IsUndone status reader reader' writer writer'
    ⊎ WithFile (holds name) opened (λ file file'. EditsFile opened remaining contents status file file' reader reader' writer writer')
ServesWith holds opened remaining contents answer status reader reader' writer writer' = ServesOne holds opened remaining contents answer status reader reader' writer writer'

-- ---- files that are written

-- the texts of a source were written into files, and then a part
abbrev pub Exported : {T R W : Type 0} → (T → Option (List Placed)) → (R → Option (List ℕ)) → (W → Option (List ℕ)) → Wanted → ℕ
    → T → T → Counted R → Counted R → Counted W → Counted W → Type 0
Exported placed remaining contents wanted status files files' reader reader' writer writer' =
    (result : Result ℕ ExportFault) × (status ≡ status_of result) × Exports placed remaining contents wanted result files files' reader reader' writer writer'

-- What a call does that may write files. An export reads the file that is named in the place of standard input, and no other call places a file. It is
-- done only where no text goes over the source or over another one, as far as is known of the names; else nothing is read and nothing written.
abbrev pub ServesCall : {T F R W : Type 0} → (T → List ℕ → Option (List ℕ)) → (T → Option (List Placed)) → (T → Sameness) → (F → Option (List ℕ))
    → (R → Option (List ℕ)) → (W → Option (List ℕ)) → Answer → ℕ → T → T → Counted R → Counted R → Counted W → Counted W → Type 0
ServesCall holds placed same opened remaining contents (asks (export names part) None) status files files' reader reader' writer writer' =
    (KeepsAll (same files) None (record { names = names; part = part })
    × Exported placed remaining contents (record { names = names; part = part }) status files files' reader reader' writer writer')
    ⊎ (IsUndone status reader reader' writer writer' × (placed files' ≡ placed files))
ServesCall holds placed same opened remaining contents (asks (export names part) (Some name)) status files files' reader reader' writer writer' =
    (KeepsAll (same files) (Some name) (record { names = names; part = part })
    × (reader' ≡ reader) × WithFile (holds files name) opened (λ file file'.
    Exported placed opened contents (record { names = names; part = part }) status files files' file file' writer writer'))
    ⊎ (IsUndone status reader reader' writer writer' × (placed files' ≡ placed files))
ServesCall holds placed same opened remaining contents answer status files files' reader reader' writer writer' =
    ServesWith (holds files) opened remaining contents answer status reader reader' writer writer' × (placed files' ≡ placed files)

-- nothing is said of a call that ends with another status than 2
abbrev pub IsQuiet : {E : Type 0} → ℕ → Counted E → Counted E → Type 0
IsQuiet status errors errors' = (status ≡ 2) ⊎ (errors' ≡ errors)
