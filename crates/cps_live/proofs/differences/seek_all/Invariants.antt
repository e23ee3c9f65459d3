use Rattle.std.proofs.Common.{◌≡◌, take}
use Rattle.cps_live.specs.Code.Differences.{marks_of}
use Rattle.cps_live.proofs.differences.seek_all.Given as goal

abbrev pub invariant-loop-name : goal.invariant-loop-name
invariant-loop-name l = l.sought ≡ marks_of l.hashing (take l.name-index l.labels)
