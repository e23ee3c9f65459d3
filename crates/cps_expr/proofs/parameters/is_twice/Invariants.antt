use Rattle.std.proofs.Common.{◌≡◌, ◌+◌, cond, drop}
use Rattle.std.specs.Prelude.{count_by}
use Rattle.cps_text.specs.Name.{is_one}
use Rattle.cps_expr.proofs.parameters.is_twice.Given as goal

abbrev pub invariant-loop-other : goal.invariant-loop-other
invariant-loop-other l =
    cond l.was_found 1 0 + count_by (is_one l.name) (drop l.other-index l.names) ≡ count_by (is_one l.name) l.names
