use Rattle.std.proofs.Common.{refl}
use Rattle.cps_final.proofs.RunGatherLemmas.{asked-again, asked-first}
use Rattle.cps_final.proofs.outside.OutsideAsks.add_ask.Goals as goal

pub returns-then-not-branch : goal.returns-then-not-branch
returns-then-not-branch c run is = asked-again run c.args.asked.now _ _ _ is c.in_ok-insert.ensures.added c.if-not-branch.true refl c.in_ok-insert.ensures.updates.0

pub returns : goal.returns
returns c run is = asked-first run c.args.asked.now _ _ _ c.in_ok-asked.asked is c.in_ok-insert.ensures.added c.if-not-branch.false c.in_ok-asked.ensures c.in_ok-push.ensures.items c.in_ok-insert.ensures.updates.0
