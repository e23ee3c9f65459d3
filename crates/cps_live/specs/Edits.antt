-- A source as a list of lines, and what an edit makes of it. Our own.
use Rattle.std.specs.Prelude.{◌≡◌, ℕ, ◌*◌, ◌+◌, ◌-◌, ◌<◌, ◌≤◌, ◌⊎◌, nat_lt, List, ◌++◌, All, length, take, drop, slice_get, Result, Ok, Err, if◌then◌else◌}
use Rattle.cps_state.specs.Work.{Counts, counted_on}
use Rattle.cps_final.specs.Outcome.{Outcome}
use Rattle.cps_edit.specs.declared.exchange.Exchange.{Exchange}
use Rattle.cps_chunk.specs.Division.{inserted_at}
use Rattle.cps_chunk.specs.Exchange.{exchanged_at, moved_at}
use Rattle.cps_chunk.specs.Put.{put_at}
use Rattle.cps_edit.specs.Splice.{Splice, insertion, splice_at, spliced}
use Rattle.cps_edit.specs.Disturbed.{ones_of, twos_of, ones_of_exchange, twos_of_exchange}
use Rattle.cps_edit.specs.Compares.{ComparesUpTo}
use Rattle.cps_chunk.specs.Touched.{touched_of, touched_of_exchange}
use Rattle.cps_edit.specs.Limits.{most_lines}
use Rattle.cps_edit.specs.Assembly.{outcomes_of}
use Rattle.cps_live.specs.declared.redone.Redone.{Redone}
use Rattle.cps_live.specs.declared.session.EditFault.{EditFault}
use Rattle.cps_live.specs.declared.session.EditFault.TheVariants as faults

-- what a session tells: the lines of its source, and how many lines each of its chunks has
pub record Source : Type 0 where
  pub lines : List (List ℕ)
  pub lengths : List ℕ

-- a source has a line of that number, where lines count from 1
abbrev pub HasLine : List (List ℕ) → ℕ → Type 0
HasLine source at = (1 ≤ at) × (at ≤ length source)

-- a source has no line of that number
abbrev pub LacksLine : List (List ℕ) → ℕ → Type 0
LacksLine source at = (at ≡ 0) ⊎ (length source < at)

-- a source has the lines from one number to another, which is no less
abbrev pub HasLines : List (List ℕ) → ℕ → ℕ → Type 0
HasLines source first last = (1 ≤ first) × (first ≤ last) × (last ≤ length source)

-- a source lacks one of these lines, or the last stands before the first
abbrev pub LacksLines : List (List ℕ) → ℕ → ℕ → Type 0
LacksLines source first last = (first ≡ 0) ⊎ ((last < first) ⊎ (length source < last))

-- a source without its lines from one number to another
abbrev pub without_lines : List (List ℕ) → ℕ → ℕ → List (List ℕ)
without_lines source first last = take (first - 1) source ++ drop last source

-- a source has the lines from one number to another, and these may go after a third: the front for 0, or a line that is none of them; after the last of
-- them, and after the line before the first, they stand already
abbrev pub HasMove : List (List ℕ) → ℕ → ℕ → ℕ → Type 0
HasMove source first last after = HasLines source first last × (after ≤ length source) × ((after < first) ⊎ (last ≤ after))

-- a source lacks one of these lines, or the one to go after, or they are to go into their own midst
abbrev pub LacksMove : List (List ℕ) → ℕ → ℕ → ℕ → Type 0
LacksMove source first last after = LacksLines source first last ⊎ ((length source < after) ⊎ ((first ≤ after) × (after < last)))

-- ---- several lines

-- lines in the place of those from one number to another; where the other is the number before, in front of the first
abbrev pub put_of : ℕ → ℕ → List (List ℕ) → Splice
put_of first last lines = splice_at (first - 1) last lines

-- a source has the lines from one number to another, or the first is one more than the last: then a line may stand there
abbrev pub HasPlace : List (List ℕ) → ℕ → ℕ → Type 0
HasPlace source first last = (1 ≤ first) × (first - 1 ≤ last) × (last ≤ length source)

-- a source lacks one of these lines, or the last stands before the one in front of the first
abbrev pub LacksPlace : List (List ℕ) → ℕ → ℕ → Type 0
LacksPlace source first last = (first ≡ 0) ⊎ ((last < first - 1) ⊎ (length source < last))

-- there is a place, and there are not too many lines then
abbrev pub MayPut : List (List ℕ) → ℕ → ℕ → List (List ℕ) → Type 0
MayPut source first last lines = HasPlace source first last × (length (spliced source (put_of first last lines)) ≤ most_lines)

-- there is a place, and there are too many lines then
abbrev pub MayNotPut : List (List ℕ) → ℕ → ℕ → List (List ℕ) → Type 0
MayNotPut source first last lines = HasPlace source first last × (most_lines < length (spliced source (put_of first last lines)))

-- a source with lines in the place of others, and its chunks
pub record IsPut (first last : ℕ) (come : List (List ℕ)) (old new : Source) : Type 0 where
  pub lines : new.lines ≡ spliced old.lines (put_of first last come)
  pub lengths : new.lengths ≡ put_at (first - 1) (last - (first - 1)) (length come) old.lengths
  pub allowed : MayPut old.lines first last come

-- ---- what an edit leaves; lines count from 0

-- a line isn't one of so many new ones that stand after the first `keep`
abbrev pub IsLeft : ℕ → ℕ → ℕ → Type 0
IsLeft keep count at = (at < keep) ⊎ (keep + count ≤ at)

-- where it stood before these came in the place of the lines up to the first `from`
abbrev pub place_before : ℕ → ℕ → ℕ → ℕ → ℕ
place_before keep from count at = if nat_lt at keep then at else at - (keep + count) + from

-- outside of these places each line that an edit leaves has the outcome that it had, where it stood
abbrev pub AreRedone : List Outcome → Splice → List Outcome → List ℕ → Type 0
AreRedone old splice new places =
    let count = length splice.new in
    (at : ℕ) → IsLeft splice.keep count at → All (λ place. place ≡ at → ⊥) places
    → slice_get new at ≡ slice_get old (place_before splice.keep splice.from count at)

-- the same, by what a session tells of its source before and after
abbrev pub HaveRedone : Source → Splice → Source → Redone → Type 0
HaveRedone old splice new redone = AreRedone (outcomes_of old.lines) splice (outcomes_of new.lines) redone.places.items

-- ---- work

-- so many steps of each pass were made
pub record HaveStepped (ones twos : ℕ) (old new : Counts) : Type 0 where
  pub first : new.ones ≡ counted_on old.ones ones
  pub second : new.twos ≡ counted_on old.twos twos

-- at most so many, and no count is less than it was
pub record HaveSteppedUpTo (ones twos : ℕ) (old new : Counts) : Type 0 where
  pub first : new.ones ≤ counted_on old.ones ones
  pub second : new.twos ≤ counted_on old.twos twos
  pub first_kept : old.ones ≤ new.ones
  pub second_kept : old.twos ≤ new.twos

-- An edit steps the lines that it disturbs in each pass, once, where it is accepted; none where it is wrong; at most these where there is no memory.
abbrev pub WorkOfEdit : {T : Type 0} → Result T EditFault → List (List ℕ) → Splice → Counts → Counts → Type 0
WorkOfEdit (Ok done) lines splice old new = HaveStepped (ones_of lines splice) (twos_of lines splice) old new
WorkOfEdit (Err faults.NoSuchLine) lines splice old new = new ≡ old
WorkOfEdit (Err faults.TooManyLines) lines splice old new = new ≡ old
WorkOfEdit (Err faults.Memory) lines splice old new = HaveSteppedUpTo (ones_of lines splice) (twos_of lines splice) old new

-- so does a move
abbrev pub WorkOfMove : {T : Type 0} → Result T EditFault → List (List ℕ) → Exchange → Counts → Counts → Type 0
WorkOfMove (Ok done) lines e old new = HaveStepped (ones_of_exchange lines e) (twos_of_exchange lines e) old new
WorkOfMove (Err faults.NoSuchLine) lines e old new = new ≡ old
WorkOfMove (Err faults.TooManyLines) lines e old new = new ≡ old
WorkOfMove (Err faults.Memory) lines e old new = HaveSteppedUpTo (ones_of_exchange lines e) (twos_of_exchange lines e) old new

-- An edit compares at most 64 lines in each pass for each chunk that it touches, and the count is no less than it was. So it is too where the edit is refused:
-- there the new lengths are those that it would make.
abbrev pub LooksOfEdit : Source → Splice → List ℕ → Counts → Counts → Type 0
LooksOfEdit old splice lengths was now = ComparesUpTo was now (128 * touched_of old.lines splice old.lengths lengths)

-- so does one that puts lines in the place of those behind the first `keep`, up to the first `from`
abbrev pub LooksOfSplice : Source → ℕ → ℕ → List (List ℕ) → Counts → Counts → Type 0
LooksOfSplice old keep from lines was now =
    LooksOfEdit old (splice_at keep from lines) (put_at keep (from - keep) (length lines) old.lengths) was now

-- so does a line behind the last
abbrev pub LooksOfAppend : Source → List ℕ → Counts → Counts → Type 0
LooksOfAppend old line was now =
    LooksOfEdit old (insertion (length old.lines) line) (inserted_at (length old.lines) old.lengths) was now

-- so does one of several lines
abbrev pub LooksOfPut : Source → ℕ → ℕ → List (List ℕ) → Counts → Counts → Type 0
LooksOfPut old first last lines was now =
    LooksOfEdit old (put_of first last lines) (put_at (first - 1) (last - (first - 1)) (length lines) old.lengths) was now

-- so does a move
abbrev pub LooksOfMove : Source → Exchange → Counts → Counts → Type 0
LooksOfMove old e was now = ComparesUpTo was now (128 * touched_of_exchange old.lines e old.lengths (moved_at e old.lengths))

-- the same where lines change their place
abbrev pub LooksOfExchange : Source → Exchange → Counts → Counts → Type 0
LooksOfExchange old e was now = ComparesUpTo was now (128 * touched_of_exchange old.lines e old.lengths (exchanged_at e old.lengths))
