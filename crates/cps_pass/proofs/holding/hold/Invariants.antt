use Rattle.std.proofs.Common.{◌≡◌, drop, flat_map, List}
use Rattle.cps_state.specs.declared.made.SetValue.{SetValue}
use Rattle.cps_state.specs.Course.{Course, Part}
use Rattle.cps_state.specs.Code.Line.{runs}
use Rattle.cps_state.specs.Made.{content_names}
use Rattle.cps_pass.specs.Code.Holding.{holding_after, IsHolding}
use Rattle.cps_pass.specs.Placing.{holding}
use Rattle.cps_pass.proofs.holding.hold.Given as goal

abbrev pub invariant-loop-content : goal.invariant-loop-content
invariant-loop-content g l = record {
  left : (next : List SetValue → Part) (rest : Course)
      → runs (holding_after l.holding.held.items (flat_map content_names (drop l.content-index l.contents)) next rest) g.L.Lookup.answer l.recorder
      ≡ runs (holding l.contents next rest) g.L.Lookup.answer l.fn.recorder;
  holding : IsHolding g.L.Lookup.answer l.recorder l.holding;
}
