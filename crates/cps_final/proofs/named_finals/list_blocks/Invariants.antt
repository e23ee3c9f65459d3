use Rattle.std.proofs.Common.{◌≡◌, [], take, flat_map}
use Rattle.std.specs.Option.{option_eq}
use Rattle.indexmap.specs.IndexSet.{insert_all}
use Rattle.cps_expr.specs.Value.{same_name}
use Rattle.cps_final.specs.Outcome.{blocks_named}
use Rattle.cps_final.proofs.named_finals.list_blocks.Given as goal

abbrev pub invariant-loop-trace : goal.invariant-loop-trace
invariant-loop-trace l = l.found.keys ≡ insert_all (option_eq same_name) [] (flat_map (λ trace. flat_map blocks_named trace.items) (take l.trace-index l.traces))
