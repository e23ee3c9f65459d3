use Rattle.std.proofs.Common.{map}
use Rattle.serde_json.specs.View.{view}
use Rattle.cps_server.specs.Results.{hint_at}
use Rattle.cps_server.proofs.HintLemmas.{next-hint}
use Rattle.cps_server.proofs.hints.hints_between.Goals as goal

pub loop-number-preserved : goal.loop-number-preserved
loop-number-preserved c =
    next-hint (hint_at c.args.deck.encoding c.args.deck.document.now) (map view c.loop-number.told.items) (map view c.push_hint.new.told.items) _
    c.loop-number.number c.args.end c.loop-number-test.true c.in_ok-push_hint.ensures c.loop-number.invariant
