use Rattle.std.proofs.Common.{◌≡◌, ℕ, ◌-◌, ◌++◌, List}
use Rattle.cps_state.specs.Course.{Course, Part}
use Rattle.cps_state.specs.Code.Line.{runs}
use Rattle.cps_pass.specs.Scope.{asking_lines}
use Rattle.cps_pass.proofs.scope.ask_lines.Given as goal

abbrev pub invariant-loop-line : goal.invariant-loop-line
invariant-loop-line g l = (next : List (List ℕ) → Part) (rest : Course)
    → runs (asking_lines l.line (l.count - l.line) (λ later. next (l.lines.items ++ later)) rest) g.L.Lookup.answer l.recorder
    ≡ runs (asking_lines 0 l.count next rest) g.L.Lookup.answer l.fn.recorder
