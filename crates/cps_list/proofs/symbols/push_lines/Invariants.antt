use Rattle.std.proofs.Common.{◌≡◌, ◌++◌, take, flat_map, decimal}
use Rattle.cps_list.specs.Symbols.{defining_line, reading_text}
use Rattle.cps_list.proofs.symbols.push_lines.Given as goal

abbrev pub invariant-loop-mention : goal.invariant-loop-mention
invariant-loop-mention l = l.text.items ≡ (l.fn.text.items ++ decimal (defining_line l.mentions)) ++ flat_map reading_text (take l.mention-index l.mentions)
