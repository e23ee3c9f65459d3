use Rattle.std.proofs.Common.{sym, subst}
use Rattle.cps_expr.specs.declared.pseudo.Pseudo.{Pseudo}
use Rattle.cps_expr.specs.Bounds.{IsBounded}
use Rattle.cps_expr.proofs.statement.Stmt.read.Goals as goal

pub returns-in-Ok-with_names-clause-bounded : goal.returns-in-Ok-with_names-clause-bounded
returns-in-Ok-with_names-clause-bounded c = subst (λ (row : Pseudo). IsBounded c.args.machine row) (sym c.in-Ok-with_names.ensures) c.in-Ok.ensures.bounded
