-- For the code that puts a line behind the last, not part of what a reader believes.
use Rattle.std.specs.Prelude.{◌≡◌, ◌*◌, ℕ, ◌+◌, ◌<◌, List, [], ◌∷◌, ◌++◌, length, vec_len, vec_capacity, Result}
use Rattle.cps_state.specs.Course.{Trace}
use Rattle.cps_state.specs.Keys.{State, first_state, overwritten}
use Rattle.cps_state.specs.Work.{Counts}
use Rattle.cps_final.specs.Changes.{changed}
use Rattle.cps_final.specs.Code.Kept.{changes_in}
use Rattle.cps_final.specs.Code.FinalsPatch.{patched}
use Rattle.cps_final.specs.declared.finals_patch.FinalsPatch.{FinalsPatch}
use Rattle.cps_final.specs.contracts.finals.FinalsGathered.TheImpl.{gathered-value}
use Rattle.cps_final.specs.Finals.{final_value}
use Rattle.cps_final.specs.Outcome.{Resolved, outcome_of}
use Rattle.cps_pass.specs.Expansion.{trace_of}
use Rattle.cps_chunk.specs.Division.{inserted_at}
use Rattle.cps_edit.specs.Compares.{ComparesUpTo, Steps}
use Rattle.cps_edit.specs.Disturbed.{finals_in, ones_of, twos_of}
use Rattle.cps_edit.specs.Passes.{state_after}
use Rattle.cps_edit.specs.Splice.{Splice, insertion}
use Rattle.cps_chunk.specs.Code.Chunk.{lengths_of}
use Rattle.cps_chunk.specs.Replayed.{redone}
use Rattle.cps_chunk.specs.Touched.{touched_of}
use Rattle.cps_live.specs.Code.Exchanged.{looks_by, redone_by}
use Rattle.cps_live.specs.Code.NamesRead.{HasRead, items_of}
use Rattle.cps_live.specs.Code.Storing.{IsStoredBehind}
use Rattle.cps_live.specs.declared.append.OutcomesWith.{OutcomesWith}
use Rattle.cps_live.specs.declared.kept_source.KeptSource.{KeptSource}
use Rattle.cps_live.specs.declared.names_read.NamesRead.{NamesRead}

-- a line behind the last, as an edit
abbrev pub append_of : KeptSource → List ℕ → Splice
append_of kept line = insertion (length kept.lines.items) line

-- what the line does there
abbrev pub trace_behind : KeptSource → List ℕ → Trace
trace_behind kept line = trace_of line (state_after first_state kept.lines.items)

-- the source has one line more, and the last chunk has grown, or a new one came
pub record IsAppended (line : List ℕ) (old now : KeptSource) : Type 0 where
  pub lines : now.lines.items ≡ old.lines.items ++ line ∷ []
  pub lengths : lengths_of now.chunks.items ≡ inserted_at (length old.lines.items) (lengths_of old.chunks.items)

-- what a line that does this changes behind the last
pub record IsPatchOf (kept : KeptSource) (trace : Trace) (patch : FinalsPatch) : Type 0 where
  pub state : (state : State) → changed (changes_in patch.changes) state ≡ overwritten state trace.puts
  pub storage : IsStoredBehind kept.traces.items patch.storage (kept.traces.items ++ trace ∷ [])

-- there is room for one line more
pub record HasRoomForOne (kept : KeptSource) : Type 0 where
  pub lines : vec_len kept.lines < vec_capacity kept.lines
  pub traces : vec_len kept.traces < vec_capacity kept.traces
  pub outcomes : vec_len kept.outcomes < vec_capacity kept.outcomes
  pub chunks : vec_len kept.chunks < vec_capacity kept.chunks

-- what pass two makes of the line, and of lines in front of it, where these final values stood before and those stand now
pub record AreOutcomesUnder (was now : Resolved) (traces : List Trace) (trace : Trace) (made : OutcomesWith) : Type 0 where
  pub own : made.own ≡ outcome_of now trace
  pub renewed : made.renewed.items ≡ redone was now 0 [] traces

-- the final values that are kept, and those that what was given back says stood before
abbrev pub AreOutcomesBy : KeptSource → FinalsPatch → Trace → OutcomesWith → Type 0
AreOutcomesBy kept patch trace made =
    AreOutcomesUnder (final_value (patched patch (gathered-value.it kept.finals))) (final_value (gathered-value.it kept.finals)) kept.traces.items trace made

-- those of the source, and of the source with the line
abbrev pub AreOutcomesWith : KeptSource → List ℕ → OutcomesWith → Type 0
AreOutcomesWith kept line made =
    AreOutcomesUnder (finals_in kept.lines.items) (finals_in (kept.lines.items ++ line ∷ [])) kept.traces.items (trace_behind kept line) made

-- what pass two steps and compares
pub record HasPassedWith {T E : Type 0} (result : Result T E) (kept : KeptSource) (patch : FinalsPatch) (old new : Counts) : Type 0 where
  pub steps : Steps result old new 0 (1 + length (redone_by kept patch []))
  pub looked : ComparesUpTo old new (looks_by kept patch [])

-- the symbols that the line reads, and those that pass two makes anew
pub record HasReadWith (read : NamesRead) (made : OutcomesWith) : Type 0 where
  pub own : HasRead read (made.own ∷ [])
  pub renewed : HasRead read (items_of made.renewed.items)

-- each line that is disturbed is stepped, once in each pass
abbrev pub StepsOfAppend : {T E : Type 0} → Result T E → KeptSource → List ℕ → Counts → Counts → Type 0
StepsOfAppend result kept line old new =
    Steps result old new (ones_of kept.lines.items (append_of kept line)) (twos_of kept.lines.items (append_of kept line))

-- at most 64 lines are compared in each pass for each chunk that is touched
abbrev pub LooksOfAppend : KeptSource → List ℕ → Counts → Counts → Type 0
LooksOfAppend kept line old new =
    let olds = lengths_of kept.chunks.items in
    ComparesUpTo old new (128 * touched_of kept.lines.items (append_of kept line) olds (inserted_at (length kept.lines.items) olds))
