use Rattle.std.proofs.Common.{◌≡◌, ◌+◌, ◌-◌, ◌≤◌, take}
use Rattle.std.specs.List.{suffix_len}
use Rattle.cps_server.specs.Words.{in_word}
use Rattle.cps_server.proofs.words.word_start.Given as goal

-- the bytes from here to the place are of words
pub record IsSoFar (l : goal.Live-loop-start) : Type 0 where
  pub within : l.start ≤ l.at
  pub same : suffix_len in_word (take l.at l.line) ≡ l.at - l.start + suffix_len in_word (take l.start l.line)

abbrev pub invariant-loop-start : goal.invariant-loop-start
invariant-loop-start l = IsSoFar l

abbrev pub decreases-loop-start : goal.decreases-loop-start
decreases-loop-start l = l.start
