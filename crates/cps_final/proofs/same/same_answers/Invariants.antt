use Rattle.std.proofs.Common.{◌≡◌, drop}
use Rattle.cps_final.specs.Holds.{holds}
use Rattle.cps_final.proofs.same.same_answers.Given as goal

-- the answer hangs on the keys that are left
abbrev pub invariant-loop-asked : goal.invariant-loop-asked
invariant-loop-asked g l = holds (drop l.asked-index l.asks) (g.L.Lookup.answer l.state) ≡ holds l.asks (g.L.Lookup.answer l.state)
