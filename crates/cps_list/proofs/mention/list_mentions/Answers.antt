use Rattle.std.proofs.Common.{◌+◌, ◌++◌, ◌∙◌}
use Rattle.cps_list.specs.Symbols.{mentions_on}
use Rattle.cps_list.proofs.ViewLemmas.{mentions-next}
use Rattle.cps_list.proofs.mention.list_mentions.Goals as goal

pub loop-before-preserved : goal.loop-before-preserved
loop-before-preserved g c =
    let outcomes = (g.V.View.assembly c.args.view.now).outcomes in
    mentions-next outcomes c.loop-before.before c.in-Some.outcome.now c.in-Some.ensures.outcome c.loop-before.mentions.items c.push_mentions.new.mentions.items
    (c.in_ok-push_mentions.ensures ∙ (λ j. c.loop-before.mentions.items ++ mentions_on (c.loop-before.before + 1) (c.names_defined.ensures j) (c.names_read.ensures j)))
    ∙ c.loop-before.invariant
