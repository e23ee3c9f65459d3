use Rattle.std.proofs.Common.{◌≡◌, ◌≤◌, length, reverse}
use Rattle.cps_state.specs.Code.KeptAnswers.{answers_in}
use Rattle.cps_state.specs.Code.OtherAnswers.{answer_of, spare_of}
use Rattle.cps_state.specs.Keys.{overwritten}
use Rattle.cps_state.proofs.state.State.put_all.Given as goal

-- what is left overwrites what is there to the same end, and there is room for it
abbrev pub invariant-loop-put : goal.invariant-loop-put
invariant-loop-put l = record {
  room : length l.puts.items ≤ spare_of l.self.others;
  left : overwritten (answers_in l.self.control l.self.nominal l.self.uses l.self.blocks l.self.ranges l.self.locals (answer_of l.self.others)) (reverse l.puts.items)
      ≡ overwritten (answers_in l.fn.self.control l.fn.self.nominal l.fn.self.uses l.fn.self.blocks l.fn.self.ranges l.fn.self.locals (answer_of l.fn.self.others)) (reverse l.fn.puts.items);
}

abbrev pub decreases-loop-put : goal.decreases-loop-put
decreases-loop-put l = length l.puts.items
