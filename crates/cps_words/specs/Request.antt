-- What the words of a call ask of the program. Our own; what words mean to a command line is `clap`'s.
use Rattle.std.specs.Prelude.{◌≡◌, List, [], ◌∷◌, Option, Some, None, if◌then◌else◌, codes, bytes_eq, option_map, unwrap_or, ⊤}
use Rattle.std.specs.Borrow.{Bor}
use Rattle.clap.specs.Words.{Kinds, Row, Text, fault_of, first_of, subcommand_of}
use Rattle.clap.specs.declared.error.kind.ErrorKind.{ErrorKind}
use Rattle.clap.specs.declared.error.kind.ErrorKind.TheVariants.{DisplayHelp, DisplayVersion}
use Rattle.cps_compare.specs.declared.compare_options.CompareOptions.{CompareOptions}
use Rattle.cps_disassembly.specs.declared.request.Request.{Request}
use Rattle.cps_list.specs.declared.part.Part.{Part}
use Rattle.cps_list.specs.declared.part.Part.TheVariants.{All}
use Rattle.cps_words.specs.Outputs.{Names}
use Rattle.cps_words.specs.Commands.{compass}
use Rattle.cps_words.specs.Values.{are_apart, disassembly_in, file_in, has_flag, is_command, names_in, octal_in, options_in, part_in, wants_no_file, word_explained}
use Rattle.cps_words.specs.Hints.{Hints, hints_in}
use Rattle.cps_words.specs.Task.{Task, batch, export, session, check, compare, disassemble, explain, server, task_of}
use Rattle.cps_words.specs.declared.request.Call.{Call}
use Rattle.cps_words.specs.declared.unread.Unread.{Unread}
use Rattle.cps_words.specs.declared.unread.Unread.TheVariants.{Told, Wrong, Memory}

-- What the words ask, with the name of a file; None is standard input, for a session no line, and for a word that is explained nothing. A server has
-- none. Or that the help or the version is told; or that the words are wrong.
pub data Answer : Type 0 where
  asks : Task → Option Text → Answer
  tells : Answer
  refuses : Answer

-- with no file for a text a part is written, which is `all` where none is named
abbrev pub answer_of_part : Names → Option (Option Part) → Option Text → Answer
answer_of_part names None file = refuses
answer_of_part names (Some part) file =
    if wants_no_file names then asks (batch (unwrap_or part All)) file
    else if are_apart file names then asks (export names part) file
    else refuses

abbrev pub answer_of_batch : List Row → Answer
answer_of_batch rows = answer_of_part (names_in rows) (part_in rows) (file_in rows)

-- standard input has the script, so a session can't begin with its lines
abbrev pub answer_of_source : Option Text → Answer
answer_of_source None = asks session None
answer_of_source (Some word) = if bytes_eq word (codes "-") then refuses else asks session (Some word)

abbrev pub answer_of_session : List Row → Answer
answer_of_session rows = answer_of_source (first_of (codes "source") rows)

-- the octal text and the source can't both be standard input
abbrev pub answer_of_options : Option CompareOptions → Option Text → Option Text → Answer
answer_of_options None octal file = refuses
answer_of_options (Some options) None None = refuses
answer_of_options (Some options) octal file = asks (compare octal options) file

abbrev pub answer_of_compare : List Row → Answer
answer_of_compare rows = answer_of_options (options_in rows) (octal_in rows) (file_in rows)

-- the source that is made goes to standard output
abbrev pub answer_of_disassembly : Option Request → Option Hints → Option Text → Answer
answer_of_disassembly None hints octal = refuses
answer_of_disassembly (Some request) None octal = refuses
answer_of_disassembly (Some request) (Some hints) octal = asks (disassemble request hints) octal

abbrev pub answer_of_disassemble : List Row → Answer
answer_of_disassemble rows = answer_of_disassembly (disassembly_in rows) (hints_in rows) (octal_in rows)

-- the help of the program, or of a command
abbrev pub answer_of_help : Option Text → Answer
answer_of_help None = tells
answer_of_help (Some name) = if is_command name then tells else refuses

-- what is answered where a command of that name was met, with the values of its options and operands
abbrev pub answer_named : Text → List Row → Answer
answer_named name rows = if bytes_eq name (codes "batch") then answer_of_batch rows
    else if bytes_eq name (codes "session") then answer_of_session rows
    else if bytes_eq name (codes "check") then asks (check (has_flag (codes "errors") rows)) (file_in rows)
    else if bytes_eq name (codes "compare") then answer_of_compare rows
    else if bytes_eq name (codes "disassemble") then answer_of_disassemble rows
    else if bytes_eq name (codes "explain") then asks (explain (word_explained rows)) None
    else if bytes_eq name (codes "server") then asks server None
    else if bytes_eq name (codes "help") then answer_of_help (first_of (codes "command") rows)
    else refuses

abbrev pub answer_from : Option (Text × List Row) → Answer
answer_from (Some met) = answer_named met.0 met.1
answer_from None = refuses

-- for `clap` it is a fault too where the help or the version is asked for
abbrev pub answer_at : ErrorKind → Answer
answer_at DisplayHelp = tells
answer_at DisplayVersion = tells
answer_at _ = refuses

-- the first fault decides, and where there is none, the command that was met
abbrev pub answer_unless : Kinds → Option (Text × List Row) → Answer
answer_unless [] met = answer_from met
answer_unless (fault ∷ faults) met = answer_at fault

-- what is answered to the words of a call
abbrev pub answer_of : List Text → Answer
answer_of words = answer_unless (fault_of compass words) (subcommand_of compass words)

-- that a call is what the words ask
abbrev pub asked_by : Call → Answer
asked_by call = asks (task_of call.request) (option_map (λ (name : Bor Text). name.now) call.file)

-- what the words of a call ask
abbrev pub request_in : Answer → Option Task
request_in (asks task file) = Some task
request_in tells = None
request_in refuses = None

abbrev pub request_of : List Text → Option Task
request_of words = request_in (answer_of words)

-- a text says what is answered, and memory may be refused at any words
abbrev pub IsAnswer : List Text → Unread → Type 0
IsAnswer words (Told text) = answer_of words ≡ tells
IsAnswer words (Wrong text) = answer_of words ≡ refuses
IsAnswer words Memory = ⊤
