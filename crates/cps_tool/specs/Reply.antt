-- Replies, and their text. Our own.
use Rattle.std.specs.Prelude.{ℕ, List, ◌++◌, codes, decimal}
use Rattle.cps_live.specs.declared.session.EditFault.{EditFault}
use Rattle.cps_live.specs.declared.session.EditFault.TheVariants as faults
use Rattle.cps_tool.specs.declared.reply.Refusal.{Refusal}
use Rattle.cps_tool.specs.declared.reply.Refusal.TheVariants as refusals
use Rattle.cps_tool.specs.declared.reply.Reply.{Reply}
use Rattle.cps_tool.specs.declared.reply.Reply.TheVariants.{Accepted, Refused, Shown, Worked}

-- what a reply says: how many lines there are, why not, a text, or how many steps were made in each pass
pub data Response : Type 0 where
  accepted : ℕ → Response
  refused : Refusal → Response
  shown : List ℕ → Response
  worked : ℕ → ℕ → Response

-- what a reply of the code says
abbrev pub meaning_of : Reply → Response
meaning_of (Accepted count) = accepted count
meaning_of (Refused refusal) = refused refusal
meaning_of (Shown text) = shown text.items
meaning_of (Worked ones twos) = worked ones twos

-- the refusal of an edit with this fault
abbrev pub refusal_of : EditFault → Refusal
refusal_of faults.NoSuchLine = refusals.NoSuchLine
refusal_of faults.TooManyLines = refusals.TooManyLines
refusal_of faults.Memory = refusals.NoMemory

-- the text of a refusal
abbrev pub refusal_text : Refusal → List ℕ
refusal_text refusals.NoSuchLine = codes "refused 1 no such line\n"
refusal_text refusals.LineTooLong = codes "refused 2 line too long\n"
refusal_text refusals.BadCharacter = codes "refused 3 bad character\n"
refusal_text refusals.TooManyLines = codes "refused 4 too many lines\n"
refusal_text refusals.BadCommand = codes "refused 5 bad command\n"
refusal_text refusals.NoMemory = codes "refused 6 no memory\n"

-- the text of a reply
abbrev pub reply_text : Response → List ℕ
reply_text (accepted count) = codes "ok " ++ decimal count ++ codes " lines\n"
reply_text (refused refusal) = refusal_text refusal
reply_text (shown text) = text
reply_text (worked ones twos) = codes "ones " ++ decimal ones ++ codes " twos " ++ decimal twos ++ codes "\n"
