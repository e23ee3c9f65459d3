-- What a script writes, and the source after it. Our own.
use Rattle.std.specs.Prelude.{◌≡◌, ℕ, Bool, true, false, not, List, [], ◌∷◌, ◌++◌, map, length, ◌⊎◌, Option, IfSome, Result, Ok, Err, if◌then◌else◌}
use Rattle.std.specs.List.{list_all}
use Rattle.std.specs.Io.KnownBytes.{Consumes, IsAtEnd}
use Rattle.cps_text.specs.declared.counted.Counted.{Counted}
use Rattle.cps_text.specs.Counted.{inner_of, failures_of, FailsOnce, LastReadGave}
use Rattle.cps_state.specs.Work.{Counts}
use Rattle.cps_tool.specs.declared.reply.Refusal.TheVariants as refusals
use Rattle.cps_list.specs.ListingText.{listing_text}
use Rattle.cps_list.specs.Binary.{binary_text}
use Rattle.cps_list.specs.Symbols.{symbols_text}
use Rattle.cps_list.specs.Flagged.{flags_text}
use Rattle.cps_edit.specs.Assembly.{assembly_of}
use Rattle.cps_edit.specs.Flagged.{flagged_lines}
use Rattle.cps_input.specs.Reads.{EndsEarly}
use Rattle.cps_input.specs.Lines.{Splits, without_return, last_line, lines_of}
use Rattle.cps_tool.specs.Command.{Order, append, insert, replace, delete, move, list, binary, symbols, flags, work, quit, Spells, is_quit}
use Rattle.cps_tool.specs.declared.writing.RunFault.{RunFault}
use Rattle.cps_tool.specs.declared.writing.RunFault.TheVariants as faults
use Rattle.cps_tool.specs.EditReplies.{Standing, at, beginning, Inserted, Replaced, Deleted, Moved}
use Rattle.cps_tool.specs.Reply.{Response, accepted, refused, shown, worked, reply_text}
use Rattle.cps_tool.specs.Written.{IsWritten}

-- a query was answered: its text is shown whole, or memory was refused; nothing is changed
abbrev pub Queried : Standing → List ℕ → Response → Standing → Type 0
Queried old text (accepted count) new = ⊥
Queried old text (refused refusal) new = (refusal ≡ refusals.NoMemory) × (new ≡ old)
Queried old text (shown bytes) new = (bytes ≡ text) × (new ≡ old)
Queried old text (worked ones twos) new = ⊥

-- an order was answered; the end of a script is not
abbrev pub Obeys : Standing → Order → Response → Standing → Type 0
Obeys old (append text) response new = Inserted old.source (length old.source) text response new
Obeys old (insert after text) response new = Inserted old.source after text response new
Obeys old (replace at text) response new = Replaced old.source at text response new
Obeys old (delete first last) response new = Deleted old.source first last response new
Obeys old (move first last after) response new = Moved old.source first last after response new
Obeys old list response new = Queried old (listing_text (assembly_of old.source)) response new
Obeys old binary response new = Queried old (binary_text (assembly_of old.source)) response new
Obeys old symbols response new = Queried old (symbols_text (assembly_of old.source)) response new
Obeys old flags response new = Queried old (flags_text (assembly_of old.source)) response new
Obeys old work response new = (response ≡ worked old.work.ones old.work.twos) × (new ≡ old)
Obeys old quit response new = ⊥

-- a command line was answered; one that spells no order is refused
abbrev pub IsAnswered : Standing → List ℕ → Response → Standing → Type 0
IsAnswered old line response new =
    ((order : Order) × Spells line order × Obeys old order response new)
    ⊎ (((order : Order) → Spells line order → ⊥) × (response ≡ refused refusals.BadCommand) × (new ≡ old))

-- what command lines may write, one after another, and where the script stands after them
abbrev pub Run : Standing → List (List ℕ) → List ℕ → Standing → Type 0
Run old [] text new = (text ≡ []) × (new ≡ old)
Run old (line ∷ lines) text new =
    (response : Response) × (mid : Standing) × (later : List ℕ)
    × IsAnswered old line response mid × Run mid lines later new × (text ≡ reply_text response ++ later)

-- a command line does not end the script
abbrev pub goes_on : List ℕ → Bool
goes_on line = not (is_quit line)

-- the lines before the one that ends a script
abbrev pub before_quit : List (List ℕ) → List (List ℕ)
before_quit [] = []
before_quit (line ∷ lines) = if is_quit line then [] else line ∷ before_quit lines

-- the command lines of a script that was cut into lines, up to the one that ends it
abbrev pub command_lines : List (List ℕ) → List ℕ → List (List ℕ)
command_lines lines rest = before_quit (lines_of lines rest)

-- what a script's bytes may write, and where it stands after them
pub record Script (old : Standing) (bytes text : List ℕ) (new : Standing) : Type 0 where
  pub lines : List (List ℕ)
  pub rest : List ℕ
  pub splits : Splits bytes lines rest
  pub run : Run old (command_lines lines rest) text new

-- what the lines that a newline ends may write, none of which ends the script, and where it stands after them
pub record LinesOfScript (old : Standing) (bytes text : List ℕ) (new : Standing) : Type 0 where
  pub lines : List (List ℕ)
  pub rest : List ℕ
  pub splits : Splits bytes lines rest
  pub going : list_all goes_on (map without_return lines) ≡ true
  pub run : Run old (map without_return lines) text new

-- ---- where reading stops

-- a newline ended a line in these bytes that ends the script
abbrev pub HasQuit : List ℕ → Type 0
HasQuit bytes = (lines : List (List ℕ)) × (rest : List ℕ) × Splits bytes lines rest × (list_all goes_on (map without_return lines) ≡ false)

-- no newline ended such a line
abbrev pub LacksQuit : List ℕ → Type 0
LacksQuit bytes = (lines : List (List ℕ)) × (rest : List ℕ) × Splits bytes lines rest × (list_all goes_on (map without_return lines) ≡ true)

-- the input is at its end: the last read gave no byte, and no known byte is left
abbrev pub IsInputEnd : List ℕ → Option (List ℕ) → Type 0
IsInputEnd last left = (last ≡ []) × IsAtEnd left

-- A script was read to its end and no further: no newline in the bytes before the last read ended a line that ends the script, and the last
-- read found the end of the input or gave the newline of such a line.
abbrev pub IsReadToEnd : List ℕ → List ℕ → Option (List ℕ) → Type 0
IsReadToEnd before last left = LacksQuit before × (IsInputEnd last left ⊎ HasQuit (before ++ last))

-- ---- where a write fails

-- the command lines that have come: those that a newline ended, and at the end of the input the last one too
abbrev pub HaveCome : List (List ℕ) → List ℕ → List ℕ → Option (List ℕ) → List (List ℕ) → Type 0
HaveCome lines rest last left commands =
    (commands ≡ map without_return lines)
    ⊎ (IsInputEnd last left × (commands ≡ map without_return lines ++ last_line rest))

-- The first command lines that have come were answered, none of which ends the script; `last` are the bytes of the last read, and `left` are
-- those to come. The replies to the earlier lines stand in `text`, and after them a front of the reply to the final one; `unsaid` is the
-- rest of it.
pub record FrontOfScript (old : Standing) (bytes last : List ℕ) (left : Option (List ℕ)) (text unsaid : List ℕ) (new : Standing) : Type 0 where
  pub lines : List (List ℕ)
  pub rest : List ℕ
  pub splits : Splits bytes lines rest
  pub earlier : List (List ℕ)
  pub final : List ℕ
  pub later : List (List ℕ)
  pub commands : HaveCome lines rest last left (earlier ++ final ∷ later)
  pub going : list_all goes_on (earlier ++ final ∷ []) ≡ true
  pub replies : List ℕ
  pub mid : Standing
  pub run : Run old earlier replies mid
  pub response : Response
  pub answers : IsAnswered mid final response new
  pub front : List ℕ
  pub written : text ≡ replies ++ front
  pub cut : reply_text response ≡ front ++ unsaid

-- the replies to the lines that newlines ended in these bytes stand whole in a text
abbrev pub AreAnswered : Standing → List ℕ → List ℕ → Type 0
AreAnswered old bytes text = (said more : List ℕ) × (mid : Standing) × LinesOfScript old bytes said mid × (text ≡ said ++ more)

-- ---- a run

-- A script was read to its end, and what was written is a text that it may write: `before` are the bytes before the last read, and `last` those
-- that it gave. The flagged lines of the source after it are counted.
pub record RanToEnd {R W : Type 0} (remaining : R → Option (List ℕ)) (contents : W → Option (List ℕ)) (old new : List (List ℕ)) (count : ℕ) (reader reader' : Counted R) (writer writer' : Counted W) : Type 0 where
  pub before : List ℕ
  pub last : List ℕ
  pub text : List ℕ
  pub work : Counts
  pub given : Consumes (remaining (inner_of reader)) (remaining (inner_of reader')) (before ++ last)
  pub replies : Script (beginning old) (before ++ last) text (at new work)
  pub written : IsWritten contents writer writer' text
  pub reads : LastReadGave reader reader' before last
  pub ended : IsReadToEnd before last (remaining (inner_of reader'))
  pub flagged : count ≡ flagged_lines new
  pub read_unfailed : failures_of reader' ≡ failures_of reader
  pub write_unfailed : failures_of writer' ≡ failures_of writer

-- A script was run as a whole: where all bytes that were to come are known, what was written is a text that they may write.
abbrev pub RanWhole : {R W : Type 0} → (R → Option (List ℕ)) → (W → Option (List ℕ)) → List (List ℕ) → List (List ℕ) → Counted R → Counted W → Counted W → Type 0
RanWhole remaining contents old new reader writer writer' =
    (work : Counts) × IfSome (remaining (inner_of reader)) (λ input.
    (text : List ℕ) × Script (beginning old) input text (at new work) × IsWritten contents writer writer' text)

-- Reading ended before the script did. What was written is a text of the lines that a newline ended.
pub record StoppedAtRead {R W : Type 0} (remaining : R → Option (List ℕ)) (contents : W → Option (List ℕ)) (old new : List (List ℕ)) (reader reader' : Counted R) (writer writer' : Counted W) : Type 0 where
  pub taken : List ℕ
  pub text : List ℕ
  pub work : Counts
  pub given : Consumes (remaining (inner_of reader)) (remaining (inner_of reader')) taken
  pub replies : LinesOfScript (beginning old) taken text (at new work)
  pub written : IsWritten contents writer writer' text
  pub early : EndsEarly reader reader' taken
  pub write_unfailed : failures_of writer' ≡ failures_of writer

-- A write failed. The replies to some first lines stand there, the last one in part, and no reply is left out to a line that a newline ended before
-- the last read.
pub record StoppedAtWrite {R W : Type 0} (remaining : R → Option (List ℕ)) (contents : W → Option (List ℕ)) (old new : List (List ℕ)) (reader reader' : Counted R) (writer writer' : Counted W) : Type 0 where
  pub before : List ℕ
  pub last : List ℕ
  pub text : List ℕ
  pub unsaid : List ℕ
  pub work : Counts
  pub given : Consumes (remaining (inner_of reader)) (remaining (inner_of reader')) (before ++ last)
  pub replies : FrontOfScript (beginning old) (before ++ last) last (remaining (inner_of reader')) text unsaid (at new work)
  pub written : IsWritten contents writer writer' text
  pub reads : LastReadGave reader reader' before last
  pub answered : AreAnswered (beginning old) before text
  pub failed : FailsOnce writer writer'
  pub read_unfailed : failures_of reader' ≡ failures_of reader

-- what a run of a script does, by its result: `old` is the source before it and `new` the source after it
abbrev pub RunsScript : {R W : Type 0} → (R → Option (List ℕ)) → (W → Option (List ℕ)) → List (List ℕ) → List (List ℕ) → Result ℕ RunFault → Counted R → Counted R → Counted W → Counted W → Type 0
RunsScript remaining contents old new (Ok count) reader reader' writer writer' = RanToEnd remaining contents old new count reader reader' writer writer'
RunsScript remaining contents old new (Err faults.ReadFault) reader reader' writer writer' = StoppedAtRead remaining contents old new reader reader' writer writer'
RunsScript remaining contents old new (Err faults.WriteFault) reader reader' writer writer' = StoppedAtWrite remaining contents old new reader reader' writer writer'
