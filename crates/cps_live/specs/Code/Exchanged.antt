-- For the code that moves lines, not part of what a reader believes: a source of which two runs of lines have changed places.
use Rattle.std.specs.Prelude.{◌≡◌, ◌*◌, ◌<◌, ◌≤◌, ℕ, List, [], length, sum, vec_len, vec_capacity, Option, Result}
use Rattle.cps_state.specs.Course.{Trace}
use Rattle.cps_state.specs.Keys.{first_state}
use Rattle.cps_state.specs.Work.{Counts}
use Rattle.cps_final.specs.Changes.{changed}
use Rattle.cps_final.specs.Code.Kept.{changes_in}
use Rattle.cps_edit.specs.declared.exchange.Exchange.{Exchange}
use Rattle.cps_edit.specs.Exchange.{exchanged}
use Rattle.cps_edit.specs.Numbers.{exchanged_numbers}
use Rattle.cps_final.specs.Finals.{final_value}
use Rattle.cps_final.specs.Outcome.{Outcome}
use Rattle.cps_final.specs.Code.FinalsPatch.{patched}
use Rattle.cps_final.specs.declared.finals_patch.FinalsPatch.{FinalsPatch}
use Rattle.cps_final.specs.declared.storage.Storage.{Storage}
use Rattle.cps_final.specs.contracts.finals.FinalsGathered.TheImpl.{gathered-value}
use Rattle.cps_chunk.specs.Exchange.{exchanged_at}
use Rattle.cps_chunk.specs.Code.Pieces.{ArePieces, lines_of}
use Rattle.cps_chunk.specs.declared.exchange.RecutChunk.{RecutChunk}
use Rattle.cps_edit.specs.Compares.{ComparesUpTo, Steps}
use Rattle.cps_edit.specs.Disturbed.{finals_in, ones_of_exchange, twos_of_exchange}
use Rattle.cps_edit.specs.Passes.{state_after, traces_of}
use Rattle.cps_chunk.specs.Code.Chunk.{lengths_of}
use Rattle.cps_chunk.specs.declared.sparse.SparseItem.{SparseItem}
use Rattle.cps_chunk.specs.Code.Moved.{replayed_moved}
use Rattle.cps_chunk.specs.Replayed.{redone}
use Rattle.cps_chunk.specs.Code.Looks.{looks_again}
use Rattle.cps_chunk.specs.Code.MoveLooks.{first_looks_moved}
use Rattle.cps_chunk.specs.Touched.{touched_of_exchange}
use Rattle.cps_live.specs.Code.Storing.{IsStoredBehind}
use Rattle.cps_live.specs.declared.exchange.MovedParts.{MovedParts}
use Rattle.cps_live.specs.declared.first_pass.FirstPass.{FirstPass}
use Rattle.cps_live.specs.declared.kept_source.KeptSource.{KeptSource}

-- both runs have a line, and stand among so many
pub record HasRuns (count : ℕ) (e : Exchange) : Type 0 where
  pub first : e.keep < e.mid
  pub second : e.mid < e.from
  pub within : e.from ≤ count

-- the lines have changed places, and so the division
pub record IsExchanged (e : Exchange) (old new : KeptSource) : Type 0 where
  pub lines : new.lines.items ≡ exchanged e old.lines.items
  pub lengths : lengths_of new.chunks.items ≡ exchanged_at e (lengths_of old.chunks.items)

-- what pass one makes of a move, and which keys are changed behind the last line
pub record IsMovedPass (lines : List (List ℕ)) (e : Exchange) (pass : FirstPass) : Type 0 where
  pub entered : pass.traces.entered.items ≡ []
  pub renewed : pass.traces.renewed.items ≡ replayed_moved lines e
  pub state : changed (changes_in pass.changes) (state_after first_state lines) ≡ state_after first_state (exchanged e lines)

-- where blocks and literals stand behind it
abbrev pub IsMovedStorage : List (List ℕ) → Exchange → Option Storage → Type 0
IsMovedStorage lines e next = IsStoredBehind (traces_of lines) next (traces_of (exchanged e lines))

-- the chunks of an exchange, with the old ones that they are
pub record IsRecutMoved (kept : KeptSource) (e : Exchange) (pieces : List RecutChunk) : Type 0 where
  pub lengths : lines_of pieces ≡ exchanged_at e (lengths_of kept.chunks.items)
  pub named : ArePieces (lengths_of kept.chunks.items) pieces (exchanged_numbers (sum (lengths_of kept.chunks.items)) e)

-- what pass two makes of lines of which these do something new, under the final values that are kept, and how many of them it compares
abbrev pub redone_by : KeptSource → FinalsPatch → List (SparseItem Trace) → List (SparseItem Outcome)
redone_by kept patch news = redone (final_value (patched patch (gathered-value.it kept.finals))) (final_value (gathered-value.it kept.finals)) 0 news kept.traces.items

abbrev pub looks_by : KeptSource → FinalsPatch → List (SparseItem Trace) → ℕ
looks_by kept patch news =
    looks_again (final_value (patched patch (gathered-value.it kept.finals))) (final_value (gathered-value.it kept.finals)) (lengths_of kept.chunks.items) 0 news kept.traces.items

-- what pass two makes of a move
abbrev pub redone_moved : List (List ℕ) → Exchange → List (SparseItem Outcome)
redone_moved lines e = redone (finals_in lines) (finals_in (exchanged e lines)) 0 (replayed_moved lines e) (traces_of lines)

-- all that comes with a move, and a list for its chunks
pub record AreMovedParts (kept : KeptSource) (e : Exchange) (parts : MovedParts) : Type 0 where
  pub traces : parts.traces.items ≡ replayed_moved kept.lines.items e
  pub outcomes : parts.outcomes.items ≡ redone_moved kept.lines.items e
  pub pieces : IsRecutMoved kept e parts.pieces.items
  pub empty : vec_len parts.chunks ≡ 0
  pub room : length parts.pieces.items ≤ vec_capacity parts.chunks

-- each line that is disturbed is stepped, once in each pass
abbrev pub StepsOfExchange : {T E : Type 0} → Result T E → Exchange → KeptSource → Counts → Counts → Type 0
StepsOfExchange result e kept old new = Steps result old new (ones_of_exchange kept.lines.items e) (twos_of_exchange kept.lines.items e)

-- at most 64 lines are compared in each pass for each chunk that is touched
abbrev pub LooksOfExchange : Exchange → KeptSource → Counts → Counts → Type 0
LooksOfExchange e kept old new =
    let olds = lengths_of kept.chunks.items in
    ComparesUpTo old new (128 * touched_of_exchange kept.lines.items e olds (exchanged_at e olds))

-- what pass one steps and compares
pub record HasPassedMoved {T E : Type 0} (result : Result T E) (lines : List (List ℕ)) (e : Exchange) (olds : List ℕ) (old new : Counts) : Type 0 where
  pub steps : Steps result old new (ones_of_exchange lines e) 0
  pub looked : ComparesUpTo old new (first_looks_moved lines e olds)
