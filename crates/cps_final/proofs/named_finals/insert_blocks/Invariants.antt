use Rattle.std.proofs.Common.{◌≡◌, take, flat_map}
use Rattle.std.specs.Option.{option_eq}
use Rattle.indexmap.specs.IndexSet.{insert_all}
use Rattle.cps_expr.specs.Value.{same_name}
use Rattle.cps_final.specs.Outcome.{blocks_named}
use Rattle.cps_final.proofs.named_finals.insert_blocks.Given as goal

abbrev pub invariant-loop-item : goal.invariant-loop-item
invariant-loop-item l = l.found.keys ≡ insert_all (option_eq same_name) l.fn.found.keys (flat_map blocks_named (take l.item-index l.items))
