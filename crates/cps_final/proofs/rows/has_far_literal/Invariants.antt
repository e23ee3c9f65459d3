use Rattle.std.proofs.Common.{◌≡◌, drop, flat_map}
use Rattle.std.specs.Prelude.{nat_le}
use Rattle.std.specs.List.{list_any}
use Rattle.cps_code.specs.Operand.{operand_literals}
use Rattle.cps_state.specs.Machines.{limit}
use Rattle.cps_final.specs.Resolving.{view_of}
use Rattle.cps_final.proofs.rows.has_far_literal.Given as goal

abbrev pub invariant-loop-hole : goal.invariant-loop-hole
invariant-loop-hole l =
    list_any (λ word. nat_le (limit (view_of l.statement).machine) ((view_of l.statement).known.literals word)) (flat_map (λ hole. operand_literals hole.operand) (drop l.hole-index l.holes))
    ≡ list_any (λ word. nat_le (limit (view_of l.statement).machine) ((view_of l.statement).known.literals word)) (flat_map (λ hole. operand_literals hole.operand) l.holes)
