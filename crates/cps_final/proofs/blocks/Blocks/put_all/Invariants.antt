use Rattle.std.proofs.Common.{◌≡◌, ◌≤◌, drop, length}
use Rattle.indexmap.specs.IndexMap.{spare}
use Rattle.cps_final.specs.Code.Gathering.{layout_kept, grown_by}
use Rattle.cps_final.specs.Layout.{names_put}
use Rattle.cps_final.proofs.blocks.Blocks.put_all.Given as goal

-- what is left makes the layout grow to the same end, and there is room for it
abbrev pub invariant-loop-put : goal.invariant-loop-put
invariant-loop-put l = record {
  room : length (names_put (drop l.put-index l.puts)) ≤ spare l.self.named;
  left : grown_by (layout_kept l.self.nominal l.self.named) (drop l.put-index l.puts) ≡ grown_by (layout_kept l.fn.self.nominal l.fn.self.named) l.puts;
}
