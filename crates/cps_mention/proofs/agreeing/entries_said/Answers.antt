use Rattle.std.proofs.Common.{rules, ◌≡◌, get_or, ap}
use Rattle.cps_mention.specs.Agreement.{entries_of}
use Rattle.cps_mention.proofs.CheckingLemmas.{text-more}
use Rattle.cps_mention.proofs.agreeing.entries_said.Goals as goal

pub loop-mention-preserved : goal.loop-mention-preserved
loop-mention-preserved c =
    let mentions = c.args.mentions.now in
    let i = c.loop-mention.mention-index in
    let mention = c.mention-item.result in
    let there : mention ≡ get_or mentions i mention = search rules in
    text-more entries_of mentions i mention c.loop-mention.said.items (entries_of mention) c.push_entries.new.said.items c.loop-mention-test.true
    c.loop-mention.invariant (ap entries_of there) c.in_ok-push_entries.ensures
