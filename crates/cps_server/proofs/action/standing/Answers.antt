use Rattle.cps_server.specs.Actions.{IsAction}
use Rattle.cps_server.proofs.EditingLemmas.{all-grown}
use Rattle.cps_server.proofs.action.standing.Goals as goal

pub loop-action-preserved : goal.loop-action-preserved
loop-action-preserved c =
    all-grown (IsAction c.args.document.now) c.loop-action.actions.items c.push.new.self.items c.in_ok-standing.field-0 c.loop-action.invariant
    c.in_ok-standing.ensures c.in_ok-push.ensures.items
