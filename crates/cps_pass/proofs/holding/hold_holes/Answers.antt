use Rattle.std.proofs.Common.{◌∙◌}
use Rattle.cps_code.specs.declared.hole.Hole.{Hole}
use Rattle.cps_code.specs.Operand.{operand_names}
use Rattle.cps_pass.proofs.HoldingLemmas.{item-next, item-end}
use Rattle.cps_pass.proofs.holding.hold_holes.Goals as goal

pub loop-hole-preserved : goal.loop-hole-preserved
loop-hole-preserved g c = record {
  left = λ next rest.
      item-next (λ (hole : Hole). operand_names hole.operand) c.args.holes.now c.loop-hole.hole-index c.hole-item.result c.names.result.now c.loop-hole.holding.held.items c.hold_names.new.holding.held.items g.L.Lookup.answer
      c.loop-hole.recorder c.hold_names.new.recorder c.loop-hole-test.true c.hole-item.is c.names.ensures c.in_ok-hold_names.ensures.held next rest ∙ c.loop-hole.invariant.left next rest;
  holding = c.in_ok-hold_names.ensures.holding;
}

pub returns-clause-held : goal.returns-clause-held
returns-clause-held g c = λ next rest.
    item-end (λ (hole : Hole). operand_names hole.operand) c.args.holes.now c.loop-hole.hole-index c.loop-hole.holding.held.items g.L.Lookup.answer c.loop-hole.recorder c.loop-hole-test.false next rest _ (c.loop-hole.invariant.left next rest)
