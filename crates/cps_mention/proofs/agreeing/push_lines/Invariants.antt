use Rattle.std.proofs.Common.{◌≡◌, ◌++◌, drop}
use Rattle.cps_mention.specs.Agreement.{entries_as}
use Rattle.cps_mention.proofs.agreeing.push_lines.Given as goal

abbrev pub invariant-loop-line : goal.invariant-loop-line
invariant-loop-line l =
    l.said.items ++ entries_as l.is_definition l.name (drop l.line-index l.lines) ≡ l.fn.said.items ++ entries_as l.is_definition l.name l.lines
