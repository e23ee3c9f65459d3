use Rattle.std.proofs.Common.{take}
use Rattle.cps_page.specs.Code.Making.{AreEntriesTo}
use Rattle.cps_page.proofs.entries.entries_of.Given as goal

abbrev pub invariant-loop-mention : goal.invariant-loop-mention
invariant-loop-mention l = AreEntriesTo (take l.mention-index l.mentions) l.last l.entries.items
