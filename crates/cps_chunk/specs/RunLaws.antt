-- What holds of a run of lines that is gone through as one line is. Our own.
use Rattle.std.specs.Prelude.{◌≡◌, ℕ, true, List}
use Rattle.cps_state.specs.Course.{Trace}
use Rattle.cps_state.specs.Keys.{State, overwritten}
use Rattle.cps_edit.specs.Passes.{state_after, traces_from}
use Rattle.cps_edit.specs.Disturbed.{kept, disturbed_from}
use Rattle.cps_final.specs.Holds.{holds}
use Rattle.cps_final.specs.Run.{run_of}

-- What lines did stands in a state: there they do the same, none of them is disturbed, and the puts of the run lead to the state after them.
pub record RunStands (state : State) (lines : List (List ℕ)) (traces : List Trace) : Type 0 where
  pub same : traces_from state lines ≡ traces
  pub undisturbed : disturbed_from state (kept lines traces) ≡ 0
  pub behind : state_after state lines ≡ overwritten state (run_of traces).puts

-- what lines did in one state stands in each that answers what their run asked as that one does
abbrev pub RunLaw : Type 0
RunLaw = (state other : State) (lines : List (List ℕ)) → holds (run_of (traces_from state lines)).asks other ≡ true → RunStands other lines (traces_from state lines)

-- and a run asks no more than that: where none of its lines is disturbed, all that it asks has the same answers
abbrev pub RunAsksNoMore : Type 0
RunAsksNoMore = (state other : State) (lines : List (List ℕ)) → disturbed_from other (kept lines (traces_from state lines)) ≡ 0
    → holds (run_of (traces_from state lines)).asks other ≡ true
