use Rattle.std.proofs.Common.{sym, ◌∙◌}
use Rattle.std.proofs.lemmas.List.Folds.{list_any_at}
use Rattle.cps_expr.specs.Code.Twice.{is_twice}
use Rattle.cps_expr.proofs.parameters.some_is_twice.Goals as goal

pub returns-then-is_twice : goal.returns-then-is_twice
returns-then-is_twice c =
    sym (list_any_at (is_twice c.args.names.now) c.args.names.now c.loop-name.name-index _ c.loop-name-test.true (sym c.is_twice.ensures ∙ c.if-is_twice.true))
