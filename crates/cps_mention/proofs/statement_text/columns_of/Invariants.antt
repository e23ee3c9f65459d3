use Rattle.std.proofs.Common.{◌≡◌, ◌++◌, ◌≤◌, length, drop}
use Rattle.cps_text.specs.Line.{longest_line}
use Rattle.cps_mention.specs.CallLines.{origins_of, written_on}
use Rattle.cps_mention.proofs.statement_text.columns_of.Given as goal

abbrev pub invariant-loop-before : goal.invariant-loop-before
invariant-loop-before l = length l.text ≤ longest_line
    → l.origins.items ++ origins_of (written_on l.line l.before (drop l.before l.text)) ≡ origins_of (written_on l.line 0 l.text)
