use Rattle.std.proofs.Common.{◌≡◌, ◌++◌, ◌<◌, All}
use Rattle.std.specs.Vec.Iter.{into_iter_items}
use Rattle.cps_state.specs.Made.{width_of, IsContent}
use Rattle.cps_pass.specs.Words.{value_words}
use Rattle.cps_pass.proofs.words.value_words.Given as goal

abbrev pub invariant-loop-value : goal.invariant-loop-value
invariant-loop-value l = record {
  left : l.contents.items ++ value_words l.machine (into_iter_items l.value-iterator) ≡ value_words l.machine l.fn.values;
  each : All IsContent l.contents.items;
  some : All (λ content. 0 < width_of content) l.contents.items;
}
