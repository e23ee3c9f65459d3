use Rattle.std.proofs.Common.{◌≡◌, drop}
use Rattle.cps_list.specs.Symbols.{defining_line}
use Rattle.cps_list.proofs.symbols.defining_line.Given as goal

abbrev pub invariant-loop-mention : goal.invariant-loop-mention
invariant-loop-mention l = defining_line (drop l.mention-index l.mentions) ≡ defining_line l.mentions
