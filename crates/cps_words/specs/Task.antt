-- What a call of the program is to do. Our own.
use Rattle.std.specs.Prelude.{Bool, Option, option_map}
use Rattle.std.specs.Borrow.{Bor}
use Rattle.clap.specs.Words.{Text}
use Rattle.cps_list.specs.declared.part.Part.{Part}
use Rattle.cps_compare.specs.declared.compare_options.CompareOptions.{CompareOptions}
use Rattle.cps_disassembly.specs.declared.request.Request as disassembly
use Rattle.cps_words.specs.Hints.{Hints, hints_of}
use Rattle.cps_words.specs.Outputs.{Names, names_of}
use Rattle.cps_words.specs.declared.request.Request.{Request}
use Rattle.cps_words.specs.declared.request.Request.TheVariants.{Batch, Export, Session, Check, Compare, Disassemble, Explain, Server}

-- to assemble a source and write a part of that; the same, with texts that go into files, where no part may be wanted; to run a script; to tell what is wrong in a source, perhaps errors alone; to compare one with an octal text,
-- which is standard input where it has no name; to make a source for the words of an octal text; to explain a flag or an operation; to answer an editor
pub data Task : Type 0 where
  batch : Part → Task
  export : Names → Option Part → Task
  session : Task
  check : (errors_only : Bool) → Task
  compare : Option Text → CompareOptions → Task
  disassemble : disassembly.Request → Hints → Task
  explain : Text → Task
  server : Task

-- what a request of the code asks
abbrev pub task_of : Request → Task
task_of (Batch part) = batch part
task_of (Export outputs part) = export (names_of outputs) part
task_of Session = session
task_of (Check errors_only) = check errors_only
task_of (Compare comparand) = compare (option_map (λ (name : Bor Text). name.now) comparand.octal) comparand.options
task_of (Disassemble request words) = disassemble request (hints_of words)
task_of (Explain word) = explain word.now
task_of Server = server
