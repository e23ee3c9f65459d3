use Rattle.cps_mention.specs.Spacing.{unblanked}
use Rattle.cps_rpc.specs.Lines.{text_lines}
use Rattle.cps_server.proofs.HintLemmas.{if-ok-as}
use Rattle.cps_server.proofs.SpacingLemmas.{same-lines}
use Rattle.cps_server.proofs.formatting.has_same_lines.Goals as goal

pub returns : goal.returns
returns c =
    if-ok-as c.are_same_unblanked.result
    (λ same holds so. same-lines unblanked (λ line. line.items) c.lines.result.now c.lines-2.result.now (text_lines c.args.before.now) (text_lines c.args.after.now)
    c.lines.ensures c.lines-2.ensures (holds so))
    c.are_same_unblanked.ensures
