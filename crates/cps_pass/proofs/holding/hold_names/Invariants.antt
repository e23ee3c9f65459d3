use Rattle.std.proofs.Common.{◌≡◌, drop, List}
use Rattle.cps_state.specs.declared.made.SetValue.{SetValue}
use Rattle.cps_state.specs.Course.{Course, Part}
use Rattle.cps_state.specs.Code.Line.{runs}
use Rattle.cps_pass.specs.Code.Holding.{holding_after, IsHolding}
use Rattle.cps_pass.proofs.holding.hold_names.Given as goal

abbrev pub invariant-loop-name : goal.invariant-loop-name
invariant-loop-name g l = record {
  left : (next : List SetValue → Part) (rest : Course)
      → runs (holding_after l.holding.held.items (drop l.name-index l.names) next rest) g.L.Lookup.answer l.recorder
      ≡ runs (holding_after l.fn.holding.held.items l.names next rest) g.L.Lookup.answer l.fn.recorder;
  holding : IsHolding g.L.Lookup.answer l.recorder l.holding;
}
