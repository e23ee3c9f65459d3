use Rattle.std.proofs.Common.{take}
use Rattle.cps_live.specs.Code.NamesRead.{HasRead, StillHas, items_of}
use Rattle.cps_live.proofs.names_read.NamesRead.add_renewed.Given as goal

abbrev pub invariant-loop-new : goal.invariant-loop-new
invariant-loop-new l = record {
  still : StillHas l.fn.self l.self;
  read : HasRead l.self (items_of (take l.new-index l.renewed));
}
