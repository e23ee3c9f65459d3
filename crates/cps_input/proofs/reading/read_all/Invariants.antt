use Rattle.std.proofs.Common.{List, ℕ}
use Rattle.cps_input.specs.Reads.{HasRead}
use Rattle.cps_input.proofs.reading.read_all.Given as goal

abbrev pub invariant-loop : goal.invariant-loop
invariant-loop g l = record { taken : List ℕ; read : HasRead g.R.Read.remaining l.fn.reader l.reader l.counter taken; come : g.T.Taker.has_come l.taker taken }
