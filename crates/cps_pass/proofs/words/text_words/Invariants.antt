use Rattle.std.proofs.Common.{◌≡◌, ◌<◌, All}
use Rattle.cps_state.specs.Made.{width_of, IsContent}
use Rattle.cps_pass.specs.Words.{number_words, text_words}
use Rattle.cps_pass.proofs.words.text_words.Given as goal

abbrev pub invariant-loop-word : goal.invariant-loop-word
invariant-loop-word l = record {
  made : l.contents.items ≡ number_words l.machine (text_words l.machine l.fill l.word l.text);
  each : All IsContent l.contents.items;
  some : All (λ content. 0 < width_of content) l.contents.items;
}
