use Rattle.std.proofs.Common.{◌≡◌, true, take}
use Rattle.cps_live.specs.Code.NamesRead.{StillHas, has_all}
use Rattle.cps_live.proofs.names_read.NamesRead.add.Given as goal

abbrev pub invariant-loop-name : goal.invariant-loop-name
invariant-loop-name l = record {
  still : StillHas l.fn.self l.self;
  added : has_all l.self (take l.name-index l.names) ≡ true;
}
