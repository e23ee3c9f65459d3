use Rattle.std.proofs.Common.{◌≡◌, ◌≤◌, ◌*◌, ◌^◌}
use Rattle.cps_final.specs.Finals.{words_of_first}
use Rattle.cps_final.specs.Code.Gathering.{layout_kept}
use Rattle.cps_final.proofs.blocks.Blocks.words_of_first.Given as goal

abbrev pub invariant-loop-index : goal.invariant-loop-index
invariant-loop-index l = record {
  words : l.words ≡ words_of_first l.index (layout_kept l.self.nominal l.self.named);
  bound : l.words ≤ 2 ^ 32 * l.index;
}
