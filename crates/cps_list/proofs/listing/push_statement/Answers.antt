use Rattle.std.proofs.Common.{arith}
use Rattle.cps_list.proofs.listing.push_statement.Goals as goal

pub fill_columns-requires-2-clause-within : goal.fill_columns-requires-2-clause-within
fill_columns-requires-2-clause-within c =
    let within = c.requires in
    let filled = c.in_ok-fill_columns.ensures.grows in
    let numbered = c.in_ok-push_number.ensures.grows in
    omega (arith, within, filled, numbered)
