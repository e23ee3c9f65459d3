use Rattle.std.proofs.Common.{◌≡◌, take, flat_map}
use Rattle.indexmap.specs.IndexSet.{insert_all}
use Rattle.cps_expr.specs.Value.{same_name}
use Rattle.cps_final.specs.Code.NamesGathering.{label_of}
use Rattle.cps_final.proofs.named_finals.insert_free.Given as goal

abbrev pub invariant-loop-name : goal.invariant-loop-name
invariant-loop-name l = l.found.keys ≡ insert_all same_name l.fn.found.keys (flat_map (label_of l.held) (take l.name-index l.names))
