use Rattle.std.proofs.Common.{◌≡◌, drop}
use Rattle.cps_mention.specs.Spots.{first_at}
use Rattle.cps_mention.proofs.caret.Caret.first_in.Given as goal

-- the first is among those that are left
abbrev pub invariant-loop-mention : goal.invariant-loop-mention
invariant-loop-mention l = first_at l.behind l.self (drop l.mention-index l.mentions) ≡ first_at l.behind l.self l.mentions
