use Rattle.std.proofs.Common.{◌≡◌, ◌++◌, ◌≤◌, ◌+◌, length, drop}
use Rattle.cps_text.specs.Line.{longest_line}
use Rattle.cps_mention.specs.Code.MacroNames.{kept_origins}
use Rattle.cps_mention.proofs.macro_text.push_unmarked.Given as goal

abbrev pub invariant-loop-byte : goal.invariant-loop-byte
invariant-loop-byte l = l.run.before + length l.run.text.now ≤ longest_line
    → (l.before ≡ l.run.before + l.byte-index)
    × (l.origins.items ++ kept_origins l.line l.before (drop l.byte-index l.run.text.now) ≡ l.initial.origins.items ++ kept_origins l.line l.run.before l.run.text.now)
