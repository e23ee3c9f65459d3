use Rattle.std.proofs.Common.{◌≡◌, ◌+◌, ◌-◌, ◌≤◌, drop, length}
use Rattle.std.specs.List.{prefix_len}
use Rattle.cps_server.specs.Words.{in_word}
use Rattle.cps_server.proofs.words.word_end.Given as goal

-- the bytes from the place to here are of words
pub record IsSoFar (l : goal.Live-loop-end) : Type 0 where
  pub behind : l.at ≤ l.end
  pub within : l.end ≤ length l.line
  pub same : prefix_len in_word (drop l.at l.line) ≡ l.end - l.at + prefix_len in_word (drop l.end l.line)

abbrev pub invariant-loop-end : goal.invariant-loop-end
invariant-loop-end l = IsSoFar l

abbrev pub decreases-loop-end : goal.decreases-loop-end
decreases-loop-end l = length l.line - l.end
