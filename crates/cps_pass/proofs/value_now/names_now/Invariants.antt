use Rattle.std.proofs.Common.{◌≡◌, drop}
use Rattle.cps_expr.specs.Value.{Values}
use Rattle.cps_state.specs.Course.{Course, Part}
use Rattle.cps_state.specs.Code.Line.{runs}
use Rattle.cps_pass.specs.Code.NamesNow.{with_values}
use Rattle.cps_pass.specs.ValueNow.{names_now}
use Rattle.cps_pass.proofs.value_now.names_now.Given as goal

abbrev pub invariant-loop-name : goal.invariant-loop-name
invariant-loop-name g l = (next : Values → Part) (rest : Course)
    → runs (names_now (drop l.name-index l.names) (λ values. next (with_values l.now.items values)) rest) g.L.Lookup.answer l.recorder
    ≡ runs (names_now l.names next rest) g.L.Lookup.answer l.fn.recorder
