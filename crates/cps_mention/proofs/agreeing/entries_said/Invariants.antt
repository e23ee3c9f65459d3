use Rattle.std.proofs.Common.{◌≡◌, take}
use Rattle.cps_mention.specs.Agreement.{entries_said}
use Rattle.cps_mention.proofs.agreeing.entries_said.Given as goal

abbrev pub invariant-loop-mention : goal.invariant-loop-mention
invariant-loop-mention l = l.said.items ≡ entries_said (take l.mention-index l.mentions)
