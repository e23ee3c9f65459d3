use Rattle.std.proofs.Common.{◌≡◌, take}
use Rattle.cps_expr.specs.Value.{same_name}
use Rattle.indexmap.specs.IndexSet.{insert_all}
use Rattle.cps_final.proofs.line_names.insert_names.Given as goal

abbrev pub invariant-loop-name : goal.invariant-loop-name
invariant-loop-name g l = g.S.NameSet.names l.names ≡ insert_all same_name (g.S.NameSet.names l.fn.names) (take l.name-index l.found)
