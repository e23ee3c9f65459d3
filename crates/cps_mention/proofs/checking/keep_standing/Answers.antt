use Rattle.cps_mention.specs.Mentions.{Stands}
use Rattle.cps_mention.proofs.CheckingLemmas.{all-grown}
use Rattle.cps_mention.proofs.checking.keep_standing.Goals as goal

pub loop-mention-preserved-in-Continue-branch-3 : goal.loop-mention-preserved-in-Continue-branch-3
loop-mention-preserved-in-Continue-branch-3 g c =
    let lines = (g.V.View.assembly c.args.view.now).lines in
    all-grown (Stands lines) c.loop-mention.mentions.items c.push.new.self.items c.in-Some.mention c.loop-mention.invariant
    (c.in_ok-stands.ensures c.if-branch.true) c.in_ok-push.ensures.items
