use Rattle.std.proofs.Common.{◌≡◌, ◌++◌, take, flat_map}
use Rattle.cps_expr.specs.Value.{same_name}
use Rattle.cps_code.specs.Operand.{operand_names}
use Rattle.indexmap.specs.IndexSet.{insert_all}
use Rattle.cps_state.specs.Made.{content_names}
use Rattle.cps_final.proofs.line_names.insert_contents_names.Given as goal

abbrev pub invariant-loop-content : goal.invariant-loop-content
invariant-loop-content g l = g.S.NameSet.names l.names ≡ insert_all same_name (g.S.NameSet.names l.fn.names) (flat_map content_names (take l.content-index l.contents))

abbrev pub invariant-loop-hole : goal.invariant-loop-hole
invariant-loop-hole g l =
    g.S.NameSet.names l.names ≡ insert_all same_name (g.S.NameSet.names l.fn.names)
    (flat_map content_names (take l.content-index l.contents) ++ flat_map (λ hole. operand_names hole.operand) (take l.hole-index l.hole-items))
