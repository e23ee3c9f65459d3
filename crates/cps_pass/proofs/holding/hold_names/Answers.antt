use Rattle.std.proofs.Common.{◌∙◌}
use Rattle.cps_pass.proofs.HoldingLemmas.{held-next, held-end}
use Rattle.cps_pass.proofs.holding.hold_names.Goals as goal

pub loop-name-preserved : goal.loop-name-preserved
loop-name-preserved g c = record {
  left = λ next rest.
      held-next c.args.names.now c.loop-name.name-index _ c.in_ok-value.value c.loop-name.holding.held.items c.push_held.new.held.items g.L.Lookup.answer c.loop-name.recorder c.setting_now.new.recorder
      c.loop-name-test.true c.in_ok-push_held.ensures.pushed c.in_ok-value.ensures.value next rest ∙ c.loop-name.invariant.left next rest;
  holding = record { each = c.in_ok-push_held.ensures.each; unset = c.in_ok-value.ensures.unset };
}

pub returns-clause-held : goal.returns-clause-held
returns-clause-held g c = λ next rest.
    held-end c.args.names.now c.loop-name.name-index c.loop-name.holding.held.items g.L.Lookup.answer c.loop-name.recorder c.loop-name-test.false next rest _ (c.loop-name.invariant.left next rest)
