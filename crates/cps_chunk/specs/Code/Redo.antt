-- For the code that makes pass two again, not part of what a reader believes.
use Rattle.std.specs.Prelude.{◌≡◌, ℕ, nat_eq, Bool, ◌&&◌, length, List, [], ◌∷◌, ◌++◌, Option, None, Some, is_some, if◌then◌else◌}
use Rattle.cps_state.specs.Course.{Trace}
use Rattle.cps_final.specs.Outcome.{Outcome, Resolved}
use Rattle.cps_final.specs.NamedFinals.{NamedFinals, all_pass}
use Rattle.cps_final.specs.Agreeing.{same_at}
use Rattle.cps_edit.specs.Disturbed.{is_redone}
use Rattle.cps_final.specs.declared.ends.Ends.{Ends}
use Rattle.cps_chunk.specs.declared.redo.Redo.{Redo}
use Rattle.cps_chunk.specs.declared.sparse.SparseItem.{SparseItem}
use Rattle.cps_final.specs.Code.Ends.{was_of, now_of}
use Rattle.cps_chunk.specs.Replayed.{redone}

-- what a line does now, at its place, if it is disturbed in pass one
abbrev pub new_at : ℕ → Option Trace → List (SparseItem Trace)
new_at at None = []
new_at at (Some trace) = record { at = at; item = trace } ∷ []

-- what is new at a place, of items of which none stands at an earlier one, and those behind it
abbrev pub first_at : ℕ → List (SparseItem Trace) → Option Trace
first_at at [] = None
first_at at (new ∷ news) = if nat_eq new.at at then Some new.item else None

abbrev pub behind : ℕ → List (SparseItem Trace) → List (SparseItem Trace)
behind at [] = []
behind at (new ∷ news) = if nat_eq new.at at then news else new ∷ news

-- nothing is new of some lines, and all that their statements name has the same final values
abbrev pub is_passed : Resolved → Resolved → NamedFinals → List (SparseItem Trace) → Bool
is_passed was now names news = nat_eq (length news) 0 && all_pass (same_at was now) names

-- what pass two makes now of lines from a place on that are disturbed in it, and whether a line is
abbrev pub redone_under : Ends → ℕ → List (SparseItem Trace) → List Trace → List (SparseItem Outcome)
redone_under ends at news olds = redone (was_of ends) (now_of ends) at news olds

abbrev pub is_redone_under : Ends → Bool → Trace → Bool
is_redone_under ends disturbed trace = is_redone (was_of ends) (now_of ends) disturbed trace

-- what pass two makes of one line that does this now, if it is disturbed, and in how many steps
abbrev pub redone_at : Ends → ℕ → Option Trace → Trace → List (SparseItem Outcome)
redone_at ends at new old = redone_under ends at (new_at at new) (old ∷ [])

abbrev pub steps_under : Ends → Option Trace → Trace → ℕ
steps_under ends new old = if is_redone_under ends (is_some new) old then 1 else 0

-- these outcomes come behind those so far
abbrev pub MakesAlso : Redo → Redo → List (SparseItem Outcome) → Type 0
MakesAlso old new made = new.news.items ≡ old.news.items ++ made
