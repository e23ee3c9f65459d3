use Rattle.std.proofs.Common.{All, subst}
use Rattle.std.proofs.lemmas.List.{take_all}
use Rattle.std.proofs.lemmas.List.Elements.{All-more}
use Rattle.cps_mention.specs.SameBut.{KeepsValue}
use Rattle.cps_mention.proofs.SameButLemmas.{kept-value}
use Rattle.cps_mention.proofs.same_but.keep_values.Goals as goal

pub loop-mention-preserved : goal.loop-mention-preserved
loop-mention-preserved g c =
    let before = g.V.View.assembly c.args.before.now in
    let after = g.W.View.assembly c.args.after.now in
    let kept =
    kept-value c.args.calling _ _ _ before.finals after.finals c.finals.ensures c.finals-in-loop-mention.ensures (c.keeps_value.ensures c.if-not-keeps_value.false) in
    All-more (KeepsValue c.args.calling before after) c.args.mentions.now c.loop-mention.mention-index _ c.loop-mention-test.true c.loop-mention.invariant kept

pub returns : goal.returns
returns g c =
    let before = g.V.View.assembly c.args.before.now in
    let after = g.W.View.assembly c.args.after.now in
    let whole = take_all c.loop-mention.mention-index c.args.mentions.now c.loop-mention-test.false in
    λ same. subst (All (KeepsValue c.args.calling before after)) whole c.loop-mention.invariant
