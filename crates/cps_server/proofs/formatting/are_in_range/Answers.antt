use Rattle.std.proofs.Common.{All, subst}
use Rattle.std.proofs.lemmas.List.{take_all}
use Rattle.std.proofs.lemmas.List.Elements.{All-more}
use Rattle.cps_server.specs.Code.Spacing.{StandsIn}
use Rattle.cps_server.proofs.formatting.are_in_range.Goals as goal

pub loop-edit-preserved : goal.loop-edit-preserved
loop-edit-preserved c =
    All-more (StandsIn c.args.range) c.args.edits.now c.loop-edit.edit-index _ c.loop-edit-test.true c.loop-edit.invariant
    (c.is_in_range.ensures c.if-not-is_in_range.false)

pub returns : goal.returns
returns c =
    let whole = take_all c.loop-edit.edit-index c.args.edits.now c.loop-edit-test.false in
    λ so. subst (All (StandsIn c.args.range)) whole c.loop-edit.invariant
