use Rattle.std.proofs.Common.{◌∙◌, ap, flat_map}
use Rattle.cps_code.specs.declared.hole.Hole.{Hole}
use Rattle.cps_code.specs.Operand.{operand_names}
use Rattle.cps_state.specs.Made.{content_names}
use Rattle.cps_pass.proofs.HoldingLemmas.{item-next, item-end}
use Rattle.cps_pass.proofs.holding.hold.Goals as goal

pub loop-content-preserved : goal.loop-content-preserved
loop-content-preserved g c = record {
  left = λ next rest.
      item-next content_names c.args.contents.now c.loop-content.content-index c.content-item.result (flat_map (λ hole. operand_names hole.operand) c.holes.result.now) c.loop-content.holding.held.items c.hold_holes.new.holding.held.items g.L.Lookup.answer
      c.loop-content.recorder c.hold_holes.new.recorder c.loop-content-test.true c.content-item.is (ap (flat_map (λ (hole : Hole). operand_names hole.operand)) c.holes.ensures) c.in_ok-hold_holes.ensures.held next rest ∙ c.loop-content.invariant.left next rest;
  holding = c.in_ok-hold_holes.ensures.holding;
}

pub returns-clause-held : goal.returns-clause-held
returns-clause-held g c = λ next rest.
    item-end content_names c.args.contents.now c.loop-content.content-index c.loop-content.holding.held.items g.L.Lookup.answer c.loop-content.recorder c.loop-content-test.false next rest _ (c.loop-content.invariant.left next rest)
