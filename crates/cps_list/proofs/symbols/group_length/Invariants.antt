use Rattle.std.proofs.Common.{◌≡◌, ◌+◌, drop}
use Rattle.std.specs.List.{prefix_len}
use Rattle.cps_list.proofs.SymbolLemmas.{is_of}
use Rattle.cps_list.proofs.symbols.group_length.Given as goal

abbrev pub invariant-loop-count : goal.invariant-loop-count
invariant-loop-count l = l.count + prefix_len (is_of l.name) (drop l.count l.mentions) ≡ prefix_len (is_of l.name) l.mentions
