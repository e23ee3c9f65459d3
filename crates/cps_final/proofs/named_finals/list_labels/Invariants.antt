use Rattle.std.proofs.Common.{◌≡◌, [], take, flat_map}
use Rattle.indexmap.specs.IndexSet.{insert_all}
use Rattle.cps_expr.specs.Value.{same_name}
use Rattle.cps_final.specs.Outcome.{labels_read}
use Rattle.cps_final.proofs.named_finals.list_labels.Given as goal

abbrev pub invariant-loop-trace : goal.invariant-loop-trace
invariant-loop-trace l = l.found.keys ≡ insert_all same_name [] (flat_map (λ trace. flat_map (λ item. labels_read item.made) trace.items) (take l.trace-index l.traces))
