use Rattle.std.proofs.Common.{◌≡◌, take, flat_map}
use Rattle.indexmap.specs.IndexSet.{insert_all}
use Rattle.cps_expr.specs.Value.{same_name}
use Rattle.cps_final.specs.Outcome.{labels_read}
use Rattle.cps_final.proofs.named_finals.insert_labels.Given as goal

abbrev pub invariant-loop-item : goal.invariant-loop-item
invariant-loop-item l = l.found.keys ≡ insert_all same_name l.fn.found.keys (flat_map (λ item. labels_read item.made) (take l.item-index l.items))
