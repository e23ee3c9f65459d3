use Rattle.std.proofs.Common.{rules, ◌≡◌, get_or, ap}
use Rattle.cps_mention.specs.Spots.{spots_meant}
use Rattle.cps_mention.proofs.CheckingLemmas.{text-more}
use Rattle.cps_mention.proofs.spots.spots_said.Goals as goal

pub loop-mention-preserved : goal.loop-mention-preserved
loop-mention-preserved c =
    let mentions = c.args.mentions.now in
    let i = c.loop-mention.mention-index in
    let mention = c.mention-item.result in
    let there : mention ≡ get_or mentions i mention = search rules in
    text-more (spots_meant c.args.meaning) mentions i mention c.loop-mention.said.items (spots_meant c.args.meaning mention) c.push_meant.new.said.items
    c.loop-mention-test.true c.loop-mention.invariant (ap (spots_meant c.args.meaning) there) c.in_ok-push_meant.ensures
