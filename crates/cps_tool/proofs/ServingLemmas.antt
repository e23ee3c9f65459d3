-- What the proofs of a call by its words cite.
use Rattle.std.proofs.Common.{Bool, ◌≡◌, ap, ℕ, List, Option, Some, None, Result, refl, sym, subst, inl, inr, ◌⊎◌}
use Rattle.cps_text.specs.declared.counted.Counted.{Counted}
use Rattle.clap.specs.Words.{Text}
use Rattle.cps_words.specs.declared.unread.Unread.{Unread}
use Rattle.cps_words.specs.declared.unread.Unread.TheVariants.{Told, Wrong, Memory}
use Rattle.cps_compare.specs.declared.compare_options.CompareOptions.{CompareOptions}
use Rattle.cps_compare.specs.declared.octal_fault.OctalFault.{OctalFault}
use Rattle.cps_compare.specs.Octal.{RunsComparison}
use Rattle.cps_words.specs.Request.{Answer, IsAnswer, answer_of, asks, refuses, tells}
use Rattle.cps_input.specs.Sources.{IsReadWhole, IsSource}
use Rattle.cps_words.specs.declared.comparand.Comparand.{Comparand}
use Rattle.cps_words.specs.declared.request.Request.{Request}
use Rattle.cps_words.specs.declared.request.Request.TheVariants.{Check, Compare, Export}
use Rattle.cps_list.specs.declared.part.Part.{Part}
use Rattle.cps_words.specs.declared.outputs.Outputs.{Outputs}
use Rattle.cps_words.specs.Outputs.{name_of, names_of}
use Rattle.cps_words.specs.Hints.{hints_of}
use Rattle.cps_words.specs.Placing.{Placed}
use Rattle.cps_words.specs.Same.{KeepsAll, Sameness}
use Rattle.std.specs.Borrow.{Bor}
use Rattle.std.specs.Prelude.{option_map, unwrap_or}
use Rattle.cps_words.specs.Task.{task_of, Task, batch, export, check, compare, disassemble, explain, server, session}
use Rattle.cps_disassembly.specs.declared.request.Request as disassembly
use Rattle.cps_tool.specs.declared.disassembling.DisassemblyCall.{DisassemblyCall}
use Rattle.cps_tool.specs.Code.Calling.{DoesDisassembly}
use Rattle.cps_tool.specs.CommandLine.{Calls, ChecksAs, Compares, Disassembled, EditsFile, Exported, IsOpened, IsUndone, RunsFrom, Serves, ServesCall, ServesOne, ServesWith, TellsUnread, WithFile, status_of, told_name}
use Rattle.cps_tool.specs.Code.Files.{AreFiles, ComparesFiles}
use Rattle.cps_tool.specs.declared.comparing.Files.{Files}
use Rattle.cps_tool.specs.declared.comparing.Files.TheVariants.{Both, Octal, Source}

module _ {R W : Type 0} (remaining : R → Option (List ℕ)) (contents : W → Option (List ℕ)) (status : ℕ) (reader : Counted R) (writer writer' : Counted W) where
  -- nothing was done
  undone : (answer : Answer) → status ≡ 2 → writer' ≡ writer → Serves remaining contents answer status reader reader writer writer'
  undone (asks request None) s w = inl (s, refl, w)
  undone (asks request (Some name)) s w = (s, refl, w)
  undone tells s w = inl (s, refl, w)
  undone refuses s w = (s, refl, w)

  pub serves_unread : (words : List Text) (unread : Unread) → IsAnswer words unread → TellsUnread contents unread status writer writer'
      → Serves remaining contents (answer_of words) status reader reader writer writer'
  serves_unread words (Told text) is told = subst (λ answer. Serves remaining contents answer status reader reader writer writer') (sym is) (inr (refl, told))
  serves_unread words (Wrong text) is told = undone (answer_of words) told.0 told.1
  serves_unread words Memory is told = undone (answer_of words) told.0 told.1

  pub serves_unread_with : {F : Type 0} (holds : List ℕ → Option (List ℕ)) (opened : F → Option (List ℕ)) (words : List Text) (unread : Unread)
      → IsAnswer words unread → TellsUnread contents unread status writer writer'
      → ServesWith holds opened remaining contents (answer_of words) status reader reader writer writer'
  serves_unread_with holds opened words unread is told = go (answer_of words) (serves_unread words unread is told)
    where
      go : (answer : Answer) → Serves remaining contents answer status reader reader writer writer'
          → ServesWith holds opened remaining contents answer status reader reader writer writer'
      go (asks (batch part) None) s = s
      go (asks (export names part) None) s = s
      go (asks session None) s = s
      go (asks (check errors_only) None) s = s
      go (asks (disassemble request hints) None) s = s
      go (asks (explain word) None) s = s
      go (asks server None) s = s
      go (asks (compare octal options) None) (inl idle) = inl idle
      go (asks (compare octal options) None) (inr calls) = elim calls [ ]
      go (asks (batch part) (Some name)) s = inl s
      go (asks (export names part) (Some name)) s = inl s
      go (asks session (Some name)) s = inl s
      go (asks (check errors_only) (Some name)) s = inl s
      go (asks (disassemble request hints) (Some name)) s = inl s
      go (asks (explain word) (Some name)) s = inl s
      go (asks server (Some name)) s = inl s
      go (asks (compare octal options) (Some name)) s = inl s
      go tells s = s
      go refuses s = s

-- ---- a call that places no file

module _ {T F R W : Type 0} (holds : T → List ℕ → Option (List ℕ)) (placed : T → Option (List Placed)) (same : T → Sameness) (opened : F → Option (List ℕ))
    (remaining : R → Option (List ℕ)) (contents : W → Option (List ℕ)) (status : ℕ) (files : T) (reader reader' : Counted R) (writer writer' : Counted W) where
  pub serves_call : (answer : Answer) → ServesWith (holds files) opened remaining contents answer status reader reader' writer writer'
      → ServesCall holds placed same opened remaining contents answer status files files reader reader' writer writer'
  serves_call (asks (export names part) None) (inl idle) = inr (idle, refl)
  serves_call (asks (export names part) None) (inr calls) = elim calls [ ]
  serves_call (asks (export names part) (Some name)) (inl idle) = inr (idle, refl)
  serves_call (asks (export names part) (Some name)) (inr with) = absurd with.1.does
  serves_call (asks (batch part) file) s = (s, refl)
  serves_call (asks session file) s = (s, refl)
  serves_call (asks (check errors_only) file) s = (s, refl)
  serves_call (asks (compare octal options) file) s = (s, refl)
  serves_call (asks (disassemble request hints) file) s = (s, refl)
  serves_call (asks (explain word) file) s = (s, refl)
  serves_call (asks server file) s = (s, refl)
  serves_call tells s = (s, refl)
  serves_call refuses s = (s, refl)

-- an export was asked, of standard input or of a file
module _ {T F R W : Type 0} (holds : T → List ℕ → Option (List ℕ)) (placed : T → Option (List Placed)) (same : T → Sameness) (opened : F → Option (List ℕ))
    (remaining : R → Option (List ℕ)) (contents : W → Option (List ℕ)) (request : Request) (outputs : Outputs) (part : Option Part) (is : request ≡ Export outputs part)
    (status : ℕ) (files files' : T) (reader : Counted R) (writer writer' : Counted W) where
  pub exports_input : (reader' : Counted R) → KeepsAll (same files) None (record { names = names_of outputs; part = part })
      → Exported placed remaining contents (record { names = names_of outputs; part = part }) status files files' reader reader' writer writer'
      → ServesCall holds placed same opened remaining contents (asks (task_of request) None) status files files' reader reader' writer writer'
  exports_input reader' keeps exported =
      subst (λ request. ServesCall holds placed same opened remaining contents (asks (task_of request) None) status files files' reader reader' writer writer') (sym is)
      (inl (keeps, exported))

  pub exports_file : (name : Text) (file file' : Counted F) → KeepsAll (same files) (Some name) (record { names = names_of outputs; part = part })
      → IsOpened (holds files name) opened file
      → Exported placed opened contents (record { names = names_of outputs; part = part }) status files files' file file' writer writer'
      → ServesCall holds placed same opened remaining contents (asks (task_of request) (Some name)) status files files' reader reader writer writer'
  exports_file name file file' keeps opens exported =
      subst (λ request. ServesCall holds placed same opened remaining contents (asks (task_of request) (Some name)) status files files' reader reader writer writer') (sym is)
      (inl (keeps, refl, record { file = file; file' = file'; is_opened = opens; does = exported }))

  -- nothing is done, whatever file is named
  pub exports_nothing : (named : Option Text) → status ≡ 2
      → ServesCall holds placed same opened remaining contents (asks (task_of request) named) status files files reader reader writer writer
  exports_nothing named two =
      subst (λ request. ServesCall holds placed same opened remaining contents (asks (task_of request) named) status files files reader reader writer writer) (sym is)
      (undone_export named)
    where
      undone_export : (named : Option Text)
          → ServesCall holds placed same opened remaining contents (asks (export (names_of outputs) part) named) status files files reader reader writer writer
      undone_export None = inr ((two, refl, refl), refl)
      undone_export (Some name) = inr ((two, refl, refl), refl)

-- files that were opened by their names, and compared
pub compares : {F R W : Type 0} (holds : List ℕ → Option (List ℕ)) (opened : F → Option (List ℕ)) (remaining : R → Option (List ℕ)) (contents : W → Option (List ℕ))
    (options : CompareOptions) (octal source : Option Text) (status : ℕ) (result : Result ℕ OctalFault) (files : Files F) (reader reader' : Counted R) (writer writer' : Counted W)
    → AreFiles holds opened octal source files → ComparesFiles opened remaining contents options result files reader reader' writer writer' → status ≡ status_of result
    → Compares holds opened remaining contents options octal source status reader reader' writer writer'
compares holds opened remaining contents options (Some octal) (Some source) status result (Both file deck) reader reader' writer writer' are ran is = (
  ran.0,
  record {
    file = file;
    file' = ran.1.0;
    is_opened = are.0;
    does = record { file = deck; file' = ran.1.1; is_opened = are.1; does = (result, is, ran.1.2) };
  },
)
compares holds opened remaining contents options (Some octal) None status result (Octal file) reader reader' writer writer' are ran is =
    record { file = file; file' = ran.0; is_opened = are; does = (result, is, ran.1) }
compares holds opened remaining contents options None (Some source) status result (Source deck) reader reader' writer writer' are ran is =
    record { file = deck; file' = ran.0; is_opened = are; does = (result, is, ran.1) }
compares holds opened remaining contents options None None status result files reader reader' writer writer' are ran is = elim are [ ]
compares holds opened remaining contents options None (Some source) status result (Octal file) reader reader' writer writer' are ran is = elim are [ ]
compares holds opened remaining contents options None (Some source) status result (Both file deck) reader reader' writer writer' are ran is = elim are [ ]
compares holds opened remaining contents options (Some octal) None status result (Source deck) reader reader' writer writer' are ran is = elim are [ ]
compares holds opened remaining contents options (Some octal) None status result (Both file deck) reader reader' writer writer' are ran is = elim are [ ]
compares holds opened remaining contents options (Some octal) (Some source) status result (Octal file) reader reader' writer writer' are ran is = elim are [ ]
compares holds opened remaining contents options (Some octal) (Some source) status result (Source deck) reader reader' writer writer' are ran is = elim are [ ]

-- a session over the lines of a file
pub edits_file : {F R W : Type 0} (holds : Option (List ℕ)) (opened : F → Option (List ℕ)) (remaining : R → Option (List ℕ)) (contents : W → Option (List ℕ)) (status : ℕ)
    (lines : List (List ℕ)) (file file' : Counted F) (reader reader' : Counted R) (writer writer' : Counted W)
    → IsOpened holds opened file → IsReadWhole opened file file' lines × IsSource lines
    → IsUndone status reader reader' writer writer' ⊎ RunsFrom remaining contents lines status reader reader' writer writer'
    → IsUndone status reader reader' writer writer'
    ⊎ WithFile holds opened (λ file file'. EditsFile opened remaining contents status file file' reader reader' writer writer')
edits_file holds opened remaining contents status lines file file' reader reader' writer writer' is read (inl idle) = inl idle
edits_file holds opened remaining contents status lines file file' reader reader' writer writer' is read (inr runs) =
    inr (record { file = file; file' = file'; is_opened = is; does = (lines, read.0, read.1, runs) })

-- what is asked of one input, done with a file
module _ {F R W : Type 0} (holds : List ℕ → Option (List ℕ)) (opened : F → Option (List ℕ)) (remaining : R → Option (List ℕ)) (contents : W → Option (List ℕ))
    (task : Task) (name : Text) (status : ℕ) (file file' : Counted F) (reader : Counted R) (writer writer' : Counted W) (is : IsOpened (holds name) opened file) where
  serves_named : IsUndone status file file' writer writer' ⊎ Calls opened contents task (Some name) status file file' writer writer'
      → ServesOne holds opened remaining contents (asks task (Some name)) status reader reader writer writer'
  serves_named (inl idle) = inl (idle.0, refl, idle.2)
  serves_named (inr calls) = inr (refl, record { file = file; file' = file'; is_opened = is; does = calls })

  pub serves_file : (named : Option Text) → named ≡ Some name → IsUndone status file file' writer writer' ⊎ Calls opened contents task named status file file' writer writer'
      → ServesOne holds opened remaining contents (asks task named) status reader reader writer writer'
  serves_file named same done =
      subst (λ (n : Option Text). ServesOne holds opened remaining contents (asks task n) status reader reader writer writer') (sym same)
      (serves_named (subst (λ (n : Option Text). IsUndone status file file' writer writer' ⊎ Calls opened contents task n status file file' writer writer') same done))

-- the name of a file, or that of standard input
pub unwrapped : (file : Option (Bor (List ℕ))) (default found : Bor (List ℕ)) → found ≡ unwrap_or file default → found.now ≡ unwrap_or (name_of file) default.now
unwrapped None default found same = ap (λ (name : Bor (List ℕ)). name.now) same
unwrapped (Some name) default found same = ap (λ (name : Bor (List ℕ)). name.now) same

-- a check was asked, and done under the input's name
pub checks_as : {R W : Type 0} (remaining : R → Option (List ℕ)) (contents : W → Option (List ℕ)) (request : Request) (named : Option Text) (errors_only : Bool) (name : List ℕ)
    (status : ℕ) (reader reader' : Counted R) (writer writer' : Counted W) → request ≡ Check errors_only → name ≡ told_name named
    → ChecksAs remaining contents errors_only name status reader reader' writer writer'
    → IsUndone status reader reader' writer writer' ⊎ Calls remaining contents (task_of request) named status reader reader' writer writer'
checks_as remaining contents request named errors_only name status reader reader' writer writer' is same done =
    subst (λ request. IsUndone status reader reader' writer writer' ⊎ Calls remaining contents (task_of request) named status reader reader' writer writer') (sym is)
    (inr (subst (λ (name : List ℕ). ChecksAs remaining contents errors_only name status reader reader' writer writer') same done))

-- ---- files that were compared, by the sides that are files

module _ {F R W : Type 0} (opened : F → Option (List ℕ)) (remaining : R → Option (List ℕ)) (contents : W → Option (List ℕ)) (options : CompareOptions)
    (result : Result ℕ OctalFault) (files : Files F) (reader reader' : Counted R) (writer writer' : Counted W) where
  compares_as : (sides : Files F) → files ≡ sides → ComparesFiles opened remaining contents options result sides reader reader' writer writer'
      → ComparesFiles opened remaining contents options result files reader reader' writer writer'
  compares_as sides is ran = subst (λ (files : Files F). ComparesFiles opened remaining contents options result files reader reader' writer writer') (sym is) ran

  pub octal_compared : (file file' : Counted F) → files ≡ Octal file
      → RunsComparison opened remaining contents options result file file' reader reader' writer writer'
      → ComparesFiles opened remaining contents options result files reader reader' writer writer'
  octal_compared file file' is ran = compares_as (Octal file) is (file', ran)

  pub source_compared : (deck deck' : Counted F) → files ≡ Source deck
      → RunsComparison remaining opened contents options result reader reader' deck deck' writer writer'
      → ComparesFiles opened remaining contents options result files reader reader' writer writer'
  source_compared deck deck' is ran = compares_as (Source deck) is (deck', ran)

  pub both_compared : (file file' deck deck' : Counted F) → files ≡ Both file deck → reader' ≡ reader
      → RunsComparison opened opened contents options result file file' deck deck' writer writer'
      → ComparesFiles opened remaining contents options result files reader reader' writer writer'
  both_compared file file' deck deck' is still ran = compares_as (Both file deck) is (still, (file', deck', ran))

-- a comparison was asked, and done
pub serves_compared : {F R W : Type 0} (holds : List ℕ → Option (List ℕ)) (opened : F → Option (List ℕ)) (remaining : R → Option (List ℕ)) (contents : W → Option (List ℕ))
    (request : Request) (comparand : Comparand) (named : Option Text) (status : ℕ) (reader reader' : Counted R) (writer writer' : Counted W) → request ≡ Compare comparand
    → Compares holds opened remaining contents comparand.options (option_map (λ (name : Bor Text). name.now) comparand.octal) named status reader reader' writer writer'
    → ServesWith holds opened remaining contents (asks (task_of request) named) status reader reader' writer writer'
serves_compared holds opened remaining contents request comparand named status reader reader' writer writer' is done =
    subst (λ request. ServesWith holds opened remaining contents (asks (task_of request) named) status reader reader' writer writer') (sym is) (inr done)

-- ---- a disassembly

module _ {F R W : Type 0} (holds : List ℕ → Option (List ℕ)) (opened : F → Option (List ℕ)) (remaining : R → Option (List ℕ)) (contents : W → Option (List ℕ))
    (asked : DisassemblyCall) (status : ℕ) (reader : Counted R) (writer writer' : Counted W) where
  -- a file was read
  pub disassembles_file : (name : Text) (file file' : Counted F) (request : disassembly.Request) → request ≡ asked.request → name_of asked.file ≡ Some name
      → IsOpened (holds name) opened file → Disassembled opened contents request status file file' writer writer'
      → DoesDisassembly holds opened remaining contents asked status reader reader writer writer'
  disassembles_file name file file' request same some is done =
      serves_file holds opened remaining contents (disassemble asked.request (hints_of asked.hints)) name status file file' reader writer writer' is (name_of asked.file) some
      (inr (subst (λ (request : disassembly.Request). Disassembled opened contents request status file file' writer writer') same done))
