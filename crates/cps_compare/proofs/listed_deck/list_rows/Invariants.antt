use Rattle.std.proofs.Common.{◌++◌, List, take, flat_map}
use Rattle.cps_claims.specs.Listed.{ListedCode}
use Rattle.cps_claims.specs.Code.Listed.{Lists}
use Rattle.cps_compare.specs.ListedSides.{row_codes}
use Rattle.cps_compare.proofs.listed_deck.list_rows.Given as goal

abbrev pub invariant-loop-row : goal.invariant-loop-row
invariant-loop-row l = (codes : List ListedCode) → Lists l.fn.deck codes → Lists l.deck (codes ++ flat_map (row_codes l.number) (take l.row-index l.rows))
