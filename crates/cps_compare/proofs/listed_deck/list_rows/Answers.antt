use Rattle.std.proofs.Common.{◌++◌, take, flat_map, subst}
use Rattle.cps_claims.specs.Code.Listed.{Lists}
use Rattle.cps_compare.specs.ListedSides.{row_codes}
use Rattle.cps_compare.proofs.ListingLemmas.{rows-more}
use Rattle.cps_compare.proofs.listed_deck.list_rows.Goals as goal

pub loop-row-preserved : goal.loop-row-preserved
loop-row-preserved c = λ codes was.
    let rows = c.args.rows.now in
    let before = codes ++ flat_map (row_codes c.args.number) (take c.loop-row.row-index rows) in
    rows-more c.args.number c.list_row.new.deck codes rows c.loop-row.row-index c.row-item.result c.loop-row-test.true
    (subst (λ row. Lists c.list_row.new.deck (before ++ row_codes c.args.number row)) c.row-item.is
    (c.in_ok-list_row.ensures before (c.loop-row.invariant codes was)))
