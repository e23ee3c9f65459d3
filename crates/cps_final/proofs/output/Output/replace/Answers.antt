use Rattle.std.proofs.Common.{◌<◌, length, rules}
use Rattle.cps_final.specs.Pieces.{pieces_of}
use Rattle.cps_final.specs.Rows.{rows_of}
use Rattle.cps_final.specs.Resolving.{resolved}
use Rattle.cps_final.proofs.OutcomeLemmas.{appends-more}
use Rattle.cps_final.proofs.output.Output.replace.Goals as goal

pub loop-item-preserved : goal.loop-item-preserved
loop-item-preserved c =
    let finals = resolved c.args.finals.now in
    let lt : c.loop-item.item-index < length c.args.items.now = search rules in
    record {
      rows = appends-more (rows_of finals) c.args.items.now c.loop-item.item-index c.item-item.result _ _ lt c.item-item.is c.loop-item.invariant.rows c.in_ok-push_statement.ensures.rows;
      pieces = appends-more (pieces_of finals) c.args.items.now c.loop-item.item-index c.item-item.result _ _ lt c.item-item.is c.loop-item.invariant.pieces c.in_ok-push_statement.ensures.pieces;
    }
