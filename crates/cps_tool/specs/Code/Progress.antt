-- For the loop over a script's bytes, not part of what a reader believes: how far a script has come.
use Rattle.std.specs.Prelude.{◌≡◌, ℕ, true, false, List, [], ◌++◌, map, Option, Result, MatchOption, MatchResult}
use Rattle.std.specs.List.{list_all}
use Rattle.std.specs.Io.KnownBytes.{Appends}
use Rattle.cps_text.specs.declared.counted.Counted.{Counted}
use Rattle.cps_text.specs.Counted.{inner_of}
use Rattle.cps_live.specs.Edits.{Source}
use Rattle.cps_tool.specs.declared.reply.Reply.{Reply}
use Rattle.cps_tool.specs.declared.script.Interpreter.{Interpreter}
use Rattle.cps_tool.specs.declared.script.Flow.{Flow}
use Rattle.cps_tool.specs.declared.script.Flow.TheVariants.{GoesOn, Ends}
use Rattle.cps_tool.specs.declared.writing.RunFault.{RunFault}
use Rattle.cps_input.specs.declared.begun_line.BegunLine.{BegunLine}
use Rattle.cps_input.specs.Lines.{Splits, without_return}
use Rattle.cps_tool.specs.EditReplies.{Standing, at}
use Rattle.cps_tool.specs.Command.{is_quit}
use Rattle.cps_tool.specs.Reply.{Response, meaning_of, reply_text}
use Rattle.cps_tool.specs.Script.{IsAnswered, Run, Script, FrontOfScript, IsInputEnd, HasQuit, goes_on}
use Rattle.cps_tool.specs.Written.{AppendsFront}
use Rattle.cps_input.specs.Code.BegunLine.{IsBegun}

-- one fact where a script goes on, and another where it ends
abbrev pub MatchFlow : Flow → Type 0 → Type 0 → Type 0
MatchFlow GoesOn on ended = on
MatchFlow Ends on ended = ended

-- A command line was obeyed: to the one that ends the script there is no reply, and nothing is changed; any other was answered by this reply.
abbrev pub ObeysLine : Standing → List ℕ → Option Reply → Standing → Type 0
ObeysLine old line reply new = MatchOption reply
    ((is_quit line ≡ true) × (new ≡ old))
    (λ reply. (is_quit line ≡ false) × IsAnswered old line (meaning_of reply) new)

-- the same of a line as it was collected
abbrev pub ObeysBegun : Standing → BegunLine → Option Reply → Standing → Type 0
ObeysBegun old line reply new = (begun : List ℕ) → IsBegun line begun → ObeysLine old (without_return begun) reply new

-- a command line that does not end the script was answered, and its reply written
abbrev pub IsReplied : List ℕ → Standing → Standing → Option (List ℕ) → Option (List ℕ) → Type 0
IsReplied line old new before after =
    (is_quit line ≡ false) × (response : Response) × IsAnswered old line response new × Appends before after (reply_text response)

-- a command line that does not end the script was answered, and a front of its reply written
abbrev pub IsPartlyReplied : List ℕ → Standing → Standing → Option (List ℕ) → Option (List ℕ) → Type 0
IsPartlyReplied line old new before after =
    (is_quit line ≡ false) × (response : Response) × IsAnswered old line response new × AppendsFront before after (reply_text response)

-- a command line ends the script, and nothing is done
abbrev pub IsLast : List ℕ → Standing → Standing → Option (List ℕ) → Option (List ℕ) → Type 0
IsLast line old new before after = (is_quit line ≡ true) × (new ≡ old) × Appends before after []

-- what a command line that has come makes of a script
abbrev pub Answers : Result Flow RunFault → List ℕ → Standing → Standing → Option (List ℕ) → Option (List ℕ) → Type 0
Answers result line old new before after = MatchResult result
    (λ flow. MatchFlow flow (IsReplied line old new before after) (IsLast line old new before after))
    (λ _. IsPartlyReplied line old new before after)

-- the same of a line as it was collected
abbrev pub AnswersBegun : Result Flow RunFault → BegunLine → Standing → Standing → Option (List ℕ) → Option (List ℕ) → Type 0
AnswersBegun result line old new before after =
    (begun : List ℕ) → IsBegun line begun → Answers result (without_return begun) old new before after

-- the same, by what a counted writer took
abbrev pub AnswersLine : {W : Type 0} → (W → Option (List ℕ)) → Result Flow RunFault → BegunLine → Standing → Standing → Counted W → Counted W → Type 0
AnswersLine contents result line old new writer writer' =
    AnswersBegun result line old new (contents (inner_of writer)) (contents (inner_of writer'))

-- From where a script began, the lines that end in the bytes taken were answered by a text. A last line has begun.
pub record Progress (start : Standing) (taken : List ℕ) (line : BegunLine) (text : List ℕ) (now : Standing) : Type 0 where
  pub lines : List (List ℕ)
  pub rest : List ℕ
  pub splits : Splits taken lines rest
  pub begun : IsBegun line rest
  pub going : list_all goes_on (map without_return lines) ≡ true
  pub run : Run start (map without_return lines) text now

-- What taking further bytes comes to. Where the script goes on, it has come so much further; where it ends, no later byte matters;
-- where a write failed, the last line's reply was written in part.
abbrev pub Takes : Result Flow RunFault → BegunLine → BegunLine → Standing → Standing → Option (List ℕ) → Option (List ℕ) → List ℕ → Type 0
Takes result old_line new_line old new before after bytes =
    (start : Standing) (taken text : List ℕ) → Progress start taken old_line text old → MatchResult result
    (λ flow. (added : List ℕ) × Appends before after added × MatchFlow flow
    (Progress start (taken ++ bytes) new_line (text ++ added) new)
    ((more : List ℕ) → Script start (taken ++ bytes ++ more) (text ++ added) new × HasQuit (taken ++ bytes ++ more)))
    (λ _. (added unsaid : List ℕ) × Appends before after added
    × ((more last : List ℕ) (left : Option (List ℕ)) → FrontOfScript start (taken ++ bytes ++ more) last left (text ++ added) unsaid new))

-- the same of what obeys a script, by its session and its writer
abbrev pub TakesBytes : {W : Type 0} → (W → Option (List ℕ)) → Result Flow RunFault → Interpreter → Interpreter → Source → Source
    → Counted W → Counted W → List ℕ → Type 0
TakesBytes contents result old new session session' writer writer' bytes =
    Takes result old.line new.line (at session.lines old.work) (at session'.lines new.work)
    (contents (inner_of writer)) (contents (inner_of writer')) bytes

-- What the end of the bytes comes to: the line that has begun is answered as well.
abbrev pub Finishes : Result (Unit {0}) RunFault → BegunLine → Standing → Standing → Option (List ℕ) → Option (List ℕ) → Type 0
Finishes result line old new before after =
    (start : Standing) (taken text : List ℕ) → Progress start taken line text old → MatchResult result
    (λ _. (added : List ℕ) × Appends before after added × Script start taken (text ++ added) new)
    (λ _. (added unsaid : List ℕ) × Appends before after added
    × ((last : List ℕ) (left : Option (List ℕ)) → IsInputEnd last left → FrontOfScript start taken last left (text ++ added) unsaid new))

-- the same of what obeys a script, by its session and its writer
abbrev pub TakesEnd : {W : Type 0} → (W → Option (List ℕ)) → Result (Unit {0}) RunFault → Interpreter → Interpreter → Source → Source
    → Counted W → Counted W → Type 0
TakesEnd contents result old new session session' writer writer' =
    Finishes result old.line (at session.lines old.work) (at session'.lines new.work) (contents (inner_of writer)) (contents (inner_of writer'))
