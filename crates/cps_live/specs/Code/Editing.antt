-- For the code that makes an edit, not part of what a reader believes: what is kept of a source, and what the passes make of an edit.
use Rattle.std.specs.Prelude.{◌≡◌, ◌*◌, ℕ, ◌+◌, ◌-◌, ◌≤◌, List, ◌++◌, sum, take, drop, vec_len, vec_capacity, Result}
use Rattle.std.specs.declared.vec.Vec.{Vec}
use Rattle.cps_state.specs.Course.{Trace}
use Rattle.cps_state.specs.Code.Exchange.{room_of}
use Rattle.cps_state.specs.Keys.{first_state}
use Rattle.cps_state.specs.Work.{Counts}
use Rattle.cps_state.specs.contracts.state.StateLookup.TheImpl.{answer-value}
use Rattle.cps_final.specs.Changes.{changed}
use Rattle.cps_final.specs.Code.Kept.{changes_in, count_of}
use Rattle.cps_final.specs.Finals.{final_value, finals_of}
use Rattle.cps_final.specs.Outcome.{Outcome, Resolved}
use Rattle.cps_final.specs.Code.FinalsPatch.{patched}
use Rattle.cps_final.specs.declared.finals_patch.FinalsPatch.{FinalsPatch}
use Rattle.cps_final.specs.contracts.finals.FinalsGathered.TheImpl.{gathered-value}
use Rattle.cps_chunk.specs.Division.{AreChunks}
use Rattle.cps_chunk.specs.Recut.{recut}
use Rattle.cps_edit.specs.Compares.{ComparesUpTo, Steps}
use Rattle.cps_edit.specs.Disturbed.{finals_in, ones_of, twos_of}
use Rattle.cps_edit.specs.Passes.{state_after, traces_from, traces_of, outcomes_by}
use Rattle.cps_edit.specs.Splice.{Splice, splice_at, spliced}
use Rattle.cps_chunk.specs.Code.Chunk.{AreChunksOf, lengths_of}
use Rattle.cps_chunk.specs.declared.chunk.Chunk.{Chunk}
use Rattle.cps_chunk.specs.Code.Looks.{first_looks, second_looks}
use Rattle.cps_chunk.specs.Replayed.{redone_behind, redone_front, replayed_behind, state_front}
use Rattle.cps_chunk.specs.Code.Recuts.{Recuts}
use Rattle.cps_chunk.specs.Sparse.{renewed}
use Rattle.cps_chunk.specs.Touched.{touched_of}
use Rattle.cps_live.specs.Code.NamesRead.{HasRead, items_of}
use Rattle.cps_chunk.specs.declared.put.ChunkSplice.{ChunkSplice}
use Rattle.cps_live.specs.declared.first_pass.FirstPass.{FirstPass}
use Rattle.cps_live.specs.declared.kept_source.KeptSource.{KeptSource}
use Rattle.cps_live.specs.declared.names_read.NamesRead.{NamesRead}
use Rattle.cps_live.specs.declared.news.News.{News}

-- new lines in their places, as a splice
abbrev pub splice_of : ChunkSplice → Splice
splice_of cut = splice_at cut.keep cut.from cut.lines.items

-- what an edit of a source, in chunks of these lengths, makes of its division
pub record IsSplice (lines : List (List ℕ)) (olds : List ℕ) (cut : ChunkSplice) : Type 0 where
  pub recuts : Recuts lines (splice_of cut) cut.start cut.end cut.lengths.items olds
  pub before : cut.before ≡ sum (take cut.start olds)
  pub behind : cut.behind ≡ sum (take cut.end olds)

-- what the new lines do
abbrev pub traces_of_new : List (List ℕ) → ChunkSplice → List Trace
traces_of_new lines cut = traces_from (state_front lines (splice_of cut)) cut.lines.items

-- items in the place of those after the first `keep` up to the first `from`
abbrev pub put_between : {X : Type 0} → ℕ → ℕ → List X → List X → List X
put_between keep from news items = take keep items ++ (news ++ drop from items)

-- items with what a pass made of an edit: of the new lines, and of others in their places
abbrev pub with_news : {X : Type 0} → ChunkSplice → News X → List X → List X
with_news cut news items = put_between cut.keep cut.from news.entered.items (renewed 0 news.renewed.items items)

-- ---- what is kept

-- what each line did in pass one, what pass two makes of it, and the chunks
pub record AreKept (kept : KeptSource) : Type 0 where
  pub first : answer-value.it kept.first ≡ first_state
  pub did : kept.traces.items ≡ traces_of kept.lines.items
  pub made : kept.outcomes.items ≡ outcomes_by (finals_in kept.lines.items) (traces_of kept.lines.items)
  pub chunks : AreChunksOf kept.hashing kept.chunks.items kept.traces.items
  pub divided : AreChunks (lengths_of kept.chunks.items)
  pub read : HasRead kept.read kept.outcomes.items

-- and what stands behind the last line
pub record IsKept (kept : KeptSource) : Type 0 where
  pub lines : AreKept kept
  pub finals : gathered-value.it kept.finals ≡ finals_of (traces_of kept.lines.items)

-- there is room for the lines and chunks of an edit in the place of those that go, and in a list for the chunks
pub record HasRoomFor {Z : Type 0} (kept : KeptSource) (cut : ChunkSplice) (news : Vec Chunk Z) : Type 0 where
  pub lines : vec_len kept.lines + vec_len cut.lines ≤ vec_capacity kept.lines + (cut.from - cut.keep)
  pub traces : vec_len kept.traces + vec_len cut.lines ≤ vec_capacity kept.traces + (cut.from - cut.keep)
  pub outcomes : vec_len kept.outcomes + vec_len cut.lines ≤ vec_capacity kept.outcomes + (cut.from - cut.keep)
  pub chunks : vec_len kept.chunks + vec_len cut.lengths ≤ vec_capacity kept.chunks + (cut.end - cut.start)
  pub empty : vec_len news ≡ 0
  pub list : vec_len cut.lengths ≤ vec_capacity news

-- and for what an edit changes behind the last line, once and back
abbrev pub HasRoomToPatch : KeptSource → FinalsPatch → Type 0
HasRoomToPatch kept patch = count_of patch.changes + count_of patch.changes ≤ room_of kept.finals.state

-- the same is kept, whatever was gathered of chunks, and whatever room there is
pub record IsStill (old new : KeptSource) : Type 0 where
  pub hashing : new.hashing ≡ old.hashing
  pub lines : new.lines.items ≡ old.lines.items
  pub traces : new.traces.items ≡ old.traces.items
  pub outcomes : new.outcomes.items ≡ old.outcomes.items
  pub lengths : lengths_of new.chunks.items ≡ lengths_of old.chunks.items

-- there is as much room as there was
pub record HasAsMuchRoom (old new : KeptSource) : Type 0 where
  pub lines : vec_capacity new.lines ≡ vec_capacity old.lines
  pub traces : vec_capacity new.traces ≡ vec_capacity old.traces
  pub outcomes : vec_capacity new.outcomes ≡ vec_capacity old.outcomes
  pub chunks : vec_capacity new.chunks ≡ vec_capacity old.chunks

-- nor what stands behind the last line; and there is as much room as there was
pub record IsStillWith (old new : KeptSource) : Type 0 where
  pub still : IsStill old new
  pub finals : new.finals ≡ old.finals
  pub room : HasAsMuchRoom old new

-- ---- what the passes make

-- what the new lines do, and the lines behind them that are disturbed
pub record AreNewTraces (lines : List (List ℕ)) (splice : Splice) (news : News Trace) : Type 0 where
  pub entered : news.entered.items ≡ traces_from (state_front lines splice) splice.new
  pub renewed : news.renewed.items ≡ replayed_behind lines splice

-- and which keys are changed behind the last line
pub record IsFirstPass (lines : List (List ℕ)) (splice : Splice) (pass : FirstPass) : Type 0 where
  pub traces : AreNewTraces lines splice pass.traces
  pub state : changed (changes_in pass.changes) (state_after first_state lines) ≡ state_after first_state (spliced lines splice)

-- what pass two makes of the new lines, and of the lines around them that are disturbed
pub record AreNewOutcomes (was now : Resolved) (lines : List (List ℕ)) (splice : Splice) (news : News Outcome) : Type 0 where
  pub entered : news.entered.items ≡ outcomes_by now (traces_from (state_front lines splice) splice.new)
  pub renewed : news.renewed.items ≡ redone_front was now lines splice ++ redone_behind was now lines splice

-- the symbols that the new lines read, and those that pass two makes anew
pub record HasReadNews (read : NamesRead) (news : News Outcome) : Type 0 where
  pub entered : HasRead read news.entered.items
  pub renewed : HasRead read (items_of news.renewed.items)

-- ---- an edit

-- the new lines stand in their places, and the chunks that come there
pub record IsEdited (cut : ChunkSplice) (old now : KeptSource) : Type 0 where
  pub lines : now.lines.items ≡ spliced old.lines.items (splice_of cut)
  pub lengths : lengths_of now.chunks.items ≡ recut cut.start cut.end cut.lengths.items (lengths_of old.chunks.items)

-- the final values before the edit and after it
pub record AreEnds (lines : List (List ℕ)) (splice : Splice) (was now : Resolved) : Type 0 where
  pub before : was ≡ finals_in lines
  pub after : now ≡ finals_in (spliced lines splice)

-- the final values that are kept, and what was given back of those before
abbrev pub ArePatchedEnds : KeptSource → FinalsPatch → ChunkSplice → Type 0
ArePatchedEnds kept patch cut =
    AreEnds kept.lines.items (splice_of cut) (final_value (patched patch (gathered-value.it kept.finals))) (final_value (gathered-value.it kept.finals))

-- what pass two makes of an edit
abbrev pub AreOutcomesOf : KeptSource → ChunkSplice → News Outcome → Type 0
AreOutcomesOf kept cut news = AreNewOutcomes (finals_in kept.lines.items) (finals_in (spliced kept.lines.items (splice_of cut))) kept.lines.items (splice_of cut) news

-- each line that is disturbed is stepped, once in each pass
abbrev pub StepsOfSplice : {T E : Type 0} → Result T E → KeptSource → ChunkSplice → Counts → Counts → Type 0
StepsOfSplice result kept cut old new = Steps result old new (ones_of kept.lines.items (splice_of cut)) (twos_of kept.lines.items (splice_of cut))

-- in pass one alone, and in pass two alone
abbrev pub StepsOfFirst : {T E : Type 0} → Result T E → List (List ℕ) → ChunkSplice → Counts → Counts → Type 0
StepsOfFirst result lines cut old new = Steps result old new (ones_of lines (splice_of cut)) 0

abbrev pub StepsOfSecond : {T E : Type 0} → Result T E → List (List ℕ) → ChunkSplice → Counts → Counts → Type 0
StepsOfSecond result lines cut old new = Steps result old new 0 (twos_of lines (splice_of cut))

-- how many lines each pass compares
abbrev pub LooksOfFirst : List (List ℕ) → List ℕ → ChunkSplice → Counts → Counts → Type 0
LooksOfFirst lines olds cut old new = ComparesUpTo old new (first_looks lines (splice_of cut) (cut.behind - cut.from) (drop cut.end olds))

abbrev pub LooksOfSecond : List (List ℕ) → List ℕ → ChunkSplice → Counts → Counts → Type 0
LooksOfSecond lines olds cut old new =
    ComparesUpTo old new (second_looks lines (splice_of cut) (take cut.start olds) (cut.keep - cut.before) (cut.behind - cut.from) (drop cut.end olds))

-- at most 64 lines are compared in each pass for each chunk that is touched
abbrev pub LooksOfSplice : KeptSource → ChunkSplice → Counts → Counts → Type 0
LooksOfSplice kept cut old new =
    let olds = lengths_of kept.chunks.items in
    ComparesUpTo old new (128 * touched_of kept.lines.items (splice_of cut) olds (recut cut.start cut.end cut.lengths.items olds))

-- what pass two steps and compares
pub record HasPassedAgain {T E : Type 0} (result : Result T E) (kept : KeptSource) (cut : ChunkSplice) (old new : Counts) : Type 0 where
  pub steps : StepsOfSecond result kept.lines.items cut old new
  pub looked : LooksOfSecond kept.lines.items (lengths_of kept.chunks.items) cut old new
