use Rattle.std.proofs.Common.{◌≡◌, ◌++◌, take, flat_map}
use Rattle.cps_code.specs.Operand.{operand_literals}
use Rattle.cps_state.specs.Made.{content_literals}
use Rattle.cps_final.proofs.literals.push_contents_literals.Given as goal

abbrev pub invariant-loop-content : goal.invariant-loop-content
invariant-loop-content l = l.literals.items ≡ l.fn.literals.items ++ flat_map content_literals (take l.content-index l.contents)

abbrev pub invariant-loop-hole : goal.invariant-loop-hole
invariant-loop-hole l =
    l.literals.items
    ≡ l.fn.literals.items ++ (flat_map content_literals (take l.content-index l.contents) ++ flat_map (λ hole. operand_literals hole.operand) (take l.hole-index l.hole-items))
