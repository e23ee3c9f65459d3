-- A line does the same in two states that agree on what it asked.
use Rattle.std.proofs.Common.{◌≡◌, refl, sym, ap, subst, Bool, true, false, List}
use Rattle.cps_state.specs.declared.key.Asked.{Asked}
use Rattle.cps_state.specs.Course.{Course, Running, run, started, traced, Holds}
use Rattle.cps_state.specs.Keys.{State}
use Rattle.cps_state.proofs.AskLemmas.{run-same}

-- a line that is dropped has asked the same
pub same-asks : (r : Running × Bool) → r.0.asks ≡ (traced r).asks
same-asks (running, true) = refl
same-asks (running, false) = refl

pub trace-same : (course : Course) (f g : State) → Holds (traced (run course f started)).asks g → traced (run course g started) ≡ traced (run course f started)
trace-same course f g held =
    ap (λ (r : Running × Bool). traced r) (run-same course f g started (subst (λ (asks : List Asked). Holds asks g) (sym (same-asks (run course f started))) held))
