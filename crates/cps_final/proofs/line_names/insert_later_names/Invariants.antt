use Rattle.std.proofs.Common.{◌≡◌, take, flat_map}
use Rattle.cps_expr.specs.Value.{same_name}
use Rattle.indexmap.specs.IndexSet.{insert_all}
use Rattle.cps_state.specs.Made.{content_names}
use Rattle.cps_final.proofs.line_names.insert_later_names.Given as goal

abbrev pub invariant-loop-item : goal.invariant-loop-item
invariant-loop-item g l =
    g.S.NameSet.names l.names ≡ insert_all same_name (g.S.NameSet.names l.fn.names) (flat_map (λ item. flat_map content_names item.made.contents) (take l.item-index l.items))
