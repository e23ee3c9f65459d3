use Rattle.std.proofs.Common.{◌≡◌, drop, find}
use Rattle.cps_mention.specs.Spots.{is_at}
use Rattle.cps_mention.proofs.caret.Caret.first_of.Given as goal

-- the first is among those that are left
abbrev pub invariant-loop-stretch : goal.invariant-loop-stretch
invariant-loop-stretch l = find (is_at l.behind l.self) (drop l.stretch-index l.stretches) ≡ find (is_at l.behind l.self) l.stretches
