-- How a command that edits is answered: what it makes of the source, why it is refused, and the steps that it takes. Our own.
use Rattle.std.specs.Prelude.{◌≡◌, ℕ, ◌-◌, ◌<◌, ◌≤◌, List, length, insert, slice_set}
use Rattle.cps_text.specs.Line.{longest_line, IsLine, HasBadCharacter}
use Rattle.cps_state.specs.Work.{Counts, no_work}
use Rattle.cps_edit.specs.Exchange.{exchanged, move}
use Rattle.cps_edit.specs.Splice.{Splice, insertion, replacement, deletion}
use Rattle.cps_edit.specs.Disturbed.{ones_of, twos_of, ones_of_exchange, twos_of_exchange}
use Rattle.cps_edit.specs.Limits.{most_lines}
use Rattle.cps_live.specs.Edits.{HasLine, LacksLine, HasLines, LacksLines, HasMove, LacksMove, without_lines, HaveStepped, HaveSteppedUpTo}
use Rattle.cps_tool.specs.declared.reply.Refusal.{Refusal}
use Rattle.cps_tool.specs.declared.reply.Refusal.TheVariants as refusals
use Rattle.cps_tool.specs.Reply.{Response, accepted, refused, shown, worked}

-- where a script stands: its source, and the steps of the latest command that edits
pub record Standing : Type 0 where
  pub source : List (List ℕ)
  pub work : Counts

abbrev pub at : List (List ℕ) → Counts → Standing
at source work = record { source = source; work = work }

-- before the first command that edits this source
abbrev pub beginning : List (List ℕ) → Standing
beginning source = at source no_work

-- ---- steps: those of the lines that an edit disturbs

abbrev pub StepsOf : List (List ℕ) → Splice → Counts → Type 0
StepsOf source edit work = HaveStepped (ones_of source edit) (twos_of source edit) no_work work

-- a refused command takes none; one for which there was no memory so many at most
abbrev pub StepsWhereRefused : Refusal → ℕ → ℕ → Counts → Type 0
StepsWhereRefused refusals.NoMemory ones twos work = HaveSteppedUpTo ones twos no_work work
StepsWhereRefused refusal ones twos work = work ≡ no_work

abbrev pub StepsOfRefused : Refusal → List (List ℕ) → Splice → Counts → Type 0
StepsOfRefused refusal source edit work = StepsWhereRefused refusal (ones_of source edit) (twos_of source edit) work

-- why a text is no line
abbrev pub IsNoLine : List ℕ → Refusal → Type 0
IsNoLine text refusals.NoSuchLine = ⊥
IsNoLine text refusals.LineTooLong = longest_line < length text
IsNoLine text refusals.BadCharacter = HasBadCharacter text
IsNoLine text refusals.TooManyLines = ⊥
IsNoLine text refusals.BadCommand = ⊥
IsNoLine text refusals.NoMemory = ⊥

-- ---- insertion

-- Why a text is not inserted after the line of number `after`, 0 for the front. Want of memory comes only where nothing else is wrong.
abbrev pub IsNotInserted : List (List ℕ) → ℕ → List ℕ → Refusal → Type 0
IsNotInserted source after text refusals.NoSuchLine = length source < after
IsNotInserted source after text refusals.LineTooLong = (after ≤ length source) × (longest_line < length text)
IsNotInserted source after text refusals.BadCharacter = (after ≤ length source) × HasBadCharacter text
IsNotInserted source after text refusals.TooManyLines = (after ≤ length source) × IsLine text × (length source ≡ most_lines)
IsNotInserted source after text refusals.BadCommand = ⊥
IsNotInserted source after text refusals.NoMemory = (after ≤ length source) × IsLine text × (length source < most_lines)

-- an insertion was answered: it was made and the lines counted, or refused and the source not changed
abbrev pub Inserted : List (List ℕ) → ℕ → List ℕ → Response → Standing → Type 0
Inserted old after text (accepted count) new =
    (after ≤ length old) × IsLine text × (length old < most_lines) × (new.source ≡ insert old after text) × (count ≡ length new.source)
    × StepsOf old (insertion after text) new.work
Inserted old after text (refused refusal) new =
    IsNotInserted old after text refusal × (new.source ≡ old) × StepsOfRefused refusal old (insertion after text) new.work
Inserted old after text (shown bytes) new = ⊥
Inserted old after text (worked ones twos) new = ⊥

-- ---- replacement

-- Why a text is not put in place of the line of that number. The number of lines stays the same, so there are never too many.
abbrev pub IsNotReplaced : List (List ℕ) → ℕ → List ℕ → Refusal → Type 0
IsNotReplaced source number text refusals.NoSuchLine = LacksLine source number
IsNotReplaced source number text refusals.LineTooLong = HasLine source number × (longest_line < length text)
IsNotReplaced source number text refusals.BadCharacter = HasLine source number × HasBadCharacter text
IsNotReplaced source number text refusals.TooManyLines = ⊥
IsNotReplaced source number text refusals.BadCommand = ⊥
IsNotReplaced source number text refusals.NoMemory = HasLine source number × IsLine text

-- a replacement was answered: it was made and the lines counted, or refused and the source not changed
abbrev pub Replaced : List (List ℕ) → ℕ → List ℕ → Response → Standing → Type 0
Replaced old number text (accepted count) new =
    HasLine old number × IsLine text × (new.source ≡ slice_set old (number - 1) text) × (count ≡ length new.source)
    × StepsOf old (replacement number text) new.work
Replaced old number text (refused refusal) new =
    IsNotReplaced old number text refusal × (new.source ≡ old) × StepsOfRefused refusal old (replacement number text) new.work
Replaced old number text (shown bytes) new = ⊥
Replaced old number text (worked ones twos) new = ⊥

-- ---- deletion

-- Why lines are not deleted.
abbrev pub IsNotDeleted : List (List ℕ) → ℕ → ℕ → Refusal → Type 0
IsNotDeleted source first last refusals.NoSuchLine = LacksLines source first last
IsNotDeleted source first last refusals.LineTooLong = ⊥
IsNotDeleted source first last refusals.BadCharacter = ⊥
IsNotDeleted source first last refusals.TooManyLines = ⊥
IsNotDeleted source first last refusals.BadCommand = ⊥
IsNotDeleted source first last refusals.NoMemory = HasLines source first last

-- a deletion was answered: it was made and the lines counted, or refused and the source not changed
abbrev pub Deleted : List (List ℕ) → ℕ → ℕ → Response → Standing → Type 0
Deleted old first last (accepted count) new =
    HasLines old first last × (new.source ≡ without_lines old first last) × (count ≡ length new.source)
    × StepsOf old (deletion first last) new.work
Deleted old first last (refused refusal) new =
    IsNotDeleted old first last refusal × (new.source ≡ old) × StepsOfRefused refusal old (deletion first last) new.work
Deleted old first last (shown bytes) new = ⊥
Deleted old first last (worked ones twos) new = ⊥

-- ---- a move

-- Why lines are not moved.
abbrev pub IsNotMoved : List (List ℕ) → ℕ → ℕ → ℕ → Refusal → Type 0
IsNotMoved source first last after refusals.NoSuchLine = LacksMove source first last after
IsNotMoved source first last after refusals.LineTooLong = ⊥
IsNotMoved source first last after refusals.BadCharacter = ⊥
IsNotMoved source first last after refusals.TooManyLines = ⊥
IsNotMoved source first last after refusals.BadCommand = ⊥
IsNotMoved source first last after refusals.NoMemory = HasMove source first last after

-- a move was answered: it was made and the lines counted, or refused and the source not changed
abbrev pub Moved : List (List ℕ) → ℕ → ℕ → ℕ → Response → Standing → Type 0
Moved old first last after (accepted count) new =
    HasMove old first last after × (new.source ≡ exchanged (move first last after) old) × (count ≡ length new.source)
    × HaveStepped (ones_of_exchange old (move first last after)) (twos_of_exchange old (move first last after)) no_work new.work
Moved old first last after (refused refusal) new =
    IsNotMoved old first last after refusal × (new.source ≡ old)
    × StepsWhereRefused refusal (ones_of_exchange old (move first last after)) (twos_of_exchange old (move first last after)) new.work
Moved old first last after (shown bytes) new = ⊥
Moved old first last after (worked ones twos) new = ⊥
