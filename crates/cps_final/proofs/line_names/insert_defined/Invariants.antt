use Rattle.std.proofs.Common.{◌≡◌, take, flat_map}
use Rattle.cps_expr.specs.Value.{same_name}
use Rattle.indexmap.specs.IndexSet.{insert_all}
use Rattle.cps_final.specs.LineNames.{symbol_put}
use Rattle.cps_final.proofs.line_names.insert_defined.Given as goal

abbrev pub invariant-loop-put : goal.invariant-loop-put
invariant-loop-put g l = g.S.NameSet.names l.names ≡ insert_all same_name (g.S.NameSet.names l.fn.names) (flat_map (λ p. symbol_put p.key) (take l.put-index l.puts))
