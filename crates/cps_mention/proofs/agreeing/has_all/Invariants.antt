use Rattle.std.proofs.Common.{All, Contains, take}
use Rattle.cps_mention.proofs.agreeing.has_all.Given as goal

abbrev pub invariant-loop-entry : goal.invariant-loop-entry
invariant-loop-entry l = All (Contains l.said) (take l.entry-index l.entries)
