use Rattle.std.proofs.Common.{◌≡◌, ◌<◌, All, take}
use Rattle.cps_state.specs.Made.{width_of, IsContent}
use Rattle.cps_pass.specs.Words.{number_words}
use Rattle.cps_pass.proofs.words.number_words.Given as goal

abbrev pub invariant-loop-number : goal.invariant-loop-number
invariant-loop-number l = record {
  made : l.contents.items ≡ number_words l.machine (take l.number-index l.numbers);
  each : All IsContent l.contents.items;
  some : All (λ content. 0 < width_of content) l.contents.items;
}
