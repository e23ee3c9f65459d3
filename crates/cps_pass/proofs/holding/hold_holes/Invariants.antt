use Rattle.std.proofs.Common.{◌≡◌, drop, flat_map, List}
use Rattle.cps_code.specs.Operand.{operand_names}
use Rattle.cps_state.specs.declared.made.SetValue.{SetValue}
use Rattle.cps_state.specs.Course.{Course, Part}
use Rattle.cps_state.specs.Code.Line.{runs}
use Rattle.cps_pass.specs.Code.Holding.{holding_after, IsHolding}
use Rattle.cps_pass.proofs.holding.hold_holes.Given as goal

abbrev pub invariant-loop-hole : goal.invariant-loop-hole
invariant-loop-hole g l = record {
  left : (next : List SetValue → Part) (rest : Course)
      → runs (holding_after l.holding.held.items (flat_map (λ hole. operand_names hole.operand) (drop l.hole-index l.holes)) next rest) g.L.Lookup.answer l.recorder
      ≡ runs (holding_after l.fn.holding.held.items (flat_map (λ hole. operand_names hole.operand) l.holes) next rest) g.L.Lookup.answer l.fn.recorder;
  holding : IsHolding g.L.Lookup.answer l.recorder l.holding;
}
