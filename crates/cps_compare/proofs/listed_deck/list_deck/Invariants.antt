use Rattle.std.proofs.Common.{take}
use Rattle.cps_claims.specs.Code.Listed.{Lists}
use Rattle.cps_compare.specs.ListedSides.{line_codes}
use Rattle.cps_compare.proofs.listed_deck.list_deck.Given as goal

abbrev pub invariant-loop-before : goal.invariant-loop-before
invariant-loop-before g l = Lists l.deck (line_codes 1 (take l.before (g.V.View.assembly l.view).outcomes))
