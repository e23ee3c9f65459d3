use Rattle.std.proofs.Common.{◌≡◌, map, take}
use Rattle.serde_json.specs.View.{view}
use Rattle.cps_server.specs.Code.Telling.{action_in_deck}
use Rattle.cps_server.proofs.action.tell_each.Given as goal

abbrev pub invariant-loop-action : goal.invariant-loop-action
invariant-loop-action l = map view l.told.items ≡ map (action_in_deck l.deck) (take l.action-index l.actions)
