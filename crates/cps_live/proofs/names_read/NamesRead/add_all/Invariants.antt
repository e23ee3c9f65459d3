use Rattle.std.proofs.Common.{take}
use Rattle.cps_live.specs.Code.NamesRead.{HasRead, StillHas}
use Rattle.cps_live.proofs.names_read.NamesRead.add_all.Given as goal

abbrev pub invariant-loop-outcome : goal.invariant-loop-outcome
invariant-loop-outcome l = record {
  still : StillHas l.fn.self l.self;
  read : HasRead l.self (take l.outcome-index l.outcomes);
}
