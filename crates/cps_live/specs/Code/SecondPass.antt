-- For the code that makes pass two of an edit, not part of what a reader believes.
use Rattle.std.specs.Prelude.{◌≡◌, ℕ, Bool, ◌+◌, ◌-◌, true, List, [], ◌++◌, length, drop, take, Result, if◌then◌else◌}
use Rattle.std.specs.List.{list_all}
use Rattle.cps_state.specs.Course.{Trace}
use Rattle.cps_state.specs.Work.{Counts}
use Rattle.cps_final.specs.Finals.{Named}
use Rattle.cps_final.specs.Outcome.{Outcome}
use Rattle.cps_final.specs.Agreeing.{same_at, same_named}
use Rattle.cps_final.specs.NamedFinals.{names_in}
use Rattle.cps_edit.specs.Compares.{Steps}
use Rattle.cps_chunk.specs.declared.sparse.SparseItem.{SparseItem}
use Rattle.cps_final.specs.Code.Ends.{was_of, now_of}
use Rattle.cps_chunk.specs.Code.Looks.{items_from, looks_again}
use Rattle.cps_chunk.specs.Code.Redo.{is_passed}
use Rattle.cps_chunk.specs.Replayed.{redone}
use Rattle.cps_chunk.specs.Code.Walk.{stretch}
use Rattle.cps_live.specs.Code.Differences.{AreSoughtBy, AreExact}
use Rattle.cps_chunk.specs.declared.put.ChunkSplice.{ChunkSplice}
use Rattle.cps_live.specs.declared.second_pass.SecondPass.{SecondPass}
use Rattle.cps_live.specs.declared.second_pass.ComparedSpan.{ComparedSpan}

-- all that lines name has the same final values
abbrev pub NameTheSame : SecondPass → List Trace → Type 0
NameTheSame pass traces = list_all (λ trace. same_named (was_of pass.redo.ends) (now_of pass.redo.ends) trace.items) traces ≡ true

-- it compares by the final values that it makes lines anew by
pub record IsExactPass (pass : SecondPass) : Type 0 where
  pub ends : pass.differences.ends ≡ pass.redo.ends
  pub exact : AreExact pass.differences
  pub sought : AreSoughtBy pass.base.hashing pass.differences
  pub known : pass.differences.unread ≡ true → NameTheSame pass pass.base.traces.now

-- what pass two makes now of the lines from one on up to another that are disturbed in it, of which these do something new
abbrev pub redone_in : SecondPass → ℕ → ℕ → List (SparseItem Trace) → List (SparseItem Outcome)
redone_in pass from to news = redone (was_of pass.redo.ends) (now_of pass.redo.ends) from news (stretch from to pass.base.traces.now)

-- lines from one on up to another were gone over
pub record GoesOver (old new : SecondPass) (from to : ℕ) (news : List (SparseItem Trace)) : Type 0 where
  pub made : new.redo.news.items ≡ old.redo.news.items ++ redone_in old from to news
  pub ends : new.redo.ends ≡ old.redo.ends
  pub base : new.base ≡ old.base
  pub differences : new.differences ≡ old.differences

-- how many lines of a chunk are compared, and how many of chunks
abbrev pub looks_at : SecondPass → ℕ → ℕ → List (SparseItem Trace) → ℕ
looks_at pass from to news =
    if is_passed (was_of pass.redo.ends) (now_of pass.redo.ends) (names_in (stretch from to pass.base.traces.now)) news then 0 else to - from

abbrev pub looks_in : SecondPass → List ℕ → ℕ → List (SparseItem Trace) → ℕ
looks_in pass lengths at news = looks_again (was_of pass.redo.ends) (now_of pass.redo.ends) lengths at news (drop at pass.base.traces.now)

-- whether something has the same final value
abbrev pub is_same_in : SecondPass → Named → Bool
is_same_in pass named = same_at (was_of pass.redo.ends) (now_of pass.redo.ends) named

-- nothing that these lines name has another final value, if that is known
abbrev pub NoneDiffers : SecondPass → ComparedSpan → Type 0
NoneDiffers pass lines = lines.none_differs ≡ true → NameTheSame pass (stretch lines.from lines.to pass.base.traces.now)

-- ---- around an edit

abbrev pub redone_around : SecondPass → ChunkSplice → List (SparseItem Trace) → List (SparseItem Outcome)
redone_around pass cut news = redone_in pass 0 cut.keep [] ++ redone_in pass cut.from (length pass.base.traces.now) news

pub record GoesAround (old new : SecondPass) (cut : ChunkSplice) (news : List (SparseItem Trace)) : Type 0 where
  pub made : new.redo.news.items ≡ old.redo.news.items ++ redone_around old cut news
  pub ends : new.redo.ends ≡ old.redo.ends

abbrev pub StepsAround : {T E : Type 0} → Result T E → SecondPass → ChunkSplice → List (SparseItem Trace) → Counts → Counts → Type 0
StepsAround result pass cut news old new = Steps result old new 0 (length (redone_around pass cut news))

abbrev pub looks_around : SecondPass → ChunkSplice → List ℕ → List (SparseItem Trace) → ℕ
looks_around pass cut olds news =
    looks_in pass (take cut.start olds) 0 [] + (cut.keep - cut.before) + (cut.behind - cut.from + looks_in pass (drop cut.end olds) cut.behind (items_from cut.behind news))
