use Rattle.std.proofs.Common.{◌≡◌, ◌++◌, take, flat_map}
use Rattle.indexmap.specs.IndexSet.{insert_all}
use Rattle.cps_expr.specs.Value.{same_name}
use Rattle.cps_final.specs.Code.NamesGathering.{hole_labels, contents_labels}
use Rattle.cps_final.proofs.named_finals.insert_contents_labels.Given as goal

abbrev pub invariant-loop-content : goal.invariant-loop-content
invariant-loop-content l = l.found.keys ≡ insert_all same_name l.fn.found.keys (contents_labels l.held (take l.content-index l.contents))

abbrev pub invariant-loop-hole : goal.invariant-loop-hole
invariant-loop-hole l =
    l.found.keys ≡ insert_all same_name l.fn.found.keys
    (contents_labels l.held (take l.content-index l.contents) ++ flat_map (hole_labels l.held) (take l.hole-index l.hole-items))
