use Rattle.std.proofs.Common.{refl}
use Rattle.cps_expr.specs.Operation.{operations}
use Rattle.cps_server.proofs.operations.statement_names.Goals as goal

pub returns : goal.returns
unfolding operations
returns c = refl
