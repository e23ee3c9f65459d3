use Rattle.std.proofs.Common.{◌≡◌, ◌++◌, length}
use Rattle.cps_final.specs.contracts.finals.FinalsGathered.TheImpl.{gathered-value}
use Rattle.cps_list.specs.Symbols.{symbol_rows}
use Rattle.cps_list.proofs.OrderLemmas.{Rising}
use Rattle.cps_list.proofs.symbols.push_rows.Given as goal

abbrev pub invariant-loop-first : goal.invariant-loop-first
invariant-loop-first l = record {
  rising : Rising l.rest;
  text : l.text.items ++ symbol_rows (gathered-value.it l.finals) l.rest ≡ l.fn.text.items ++ symbol_rows (gathered-value.it l.finals) l.mentions;
}

abbrev pub decreases-loop-first : goal.decreases-loop-first
decreases-loop-first l = length l.rest
