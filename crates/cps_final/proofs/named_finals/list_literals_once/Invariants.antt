use Rattle.std.proofs.Common.{◌≡◌, [], take, flat_map}
use Rattle.std.specs.Prelude.{nat_eq}
use Rattle.indexmap.specs.IndexSet.{insert_all}
use Rattle.cps_final.specs.Pool.{literals_of}
use Rattle.cps_final.proofs.named_finals.list_literals_once.Given as goal

abbrev pub invariant-loop-trace : goal.invariant-loop-trace
invariant-loop-trace l = l.found.keys ≡ insert_all nat_eq [] (flat_map (λ trace. flat_map (λ item. literals_of item.made) trace.items) (take l.trace-index l.traces))
