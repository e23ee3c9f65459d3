use Rattle.std.proofs.Common.{◌≡◌, ◌≤◌, drop, length}
use Rattle.indexmap.specs.IndexMap.{keys, spare}
use Rattle.cps_final.specs.Code.Gathering.{grown_as, joined, layout_kept}
use Rattle.cps_final.proofs.blocks.Blocks.join.Given as goal

-- the blocks that are left grow to the same end, and there is room for them
abbrev pub invariant-loop-index : goal.invariant-loop-index
invariant-loop-index l = record {
  room : length (drop l.index (keys l.other.named)) ≤ spare l.self.named;
  left : grown_as (layout_kept l.other.nominal l.other.named) (drop l.index (keys l.other.named)) (layout_kept l.self.nominal l.self.named)
      ≡ joined (layout_kept l.fn.self.nominal l.fn.self.named) (layout_kept l.other.nominal l.other.named);
}
