use Rattle.std.proofs.Common.{◌≡◌, take}
use Rattle.cps_mention.specs.Spots.{spots_said}
use Rattle.cps_mention.proofs.spots.spots_said.Given as goal

abbrev pub invariant-loop-mention : goal.invariant-loop-mention
invariant-loop-mention l = l.said.items ≡ spots_said l.meaning (take l.mention-index l.mentions)
