use Rattle.std.proofs.Common.{sym, ap, ◌∙◌, arith}
use Rattle.cps_expr.specs.Operation.{named_in}
use Rattle.cps_expr.proofs.OperationLemmas.{named_by_letter, no_empty_name}
use Rattle.cps_expr.proofs.operation.Operation.named.Goals as goal

pub returns-in-empty : goal.returns-in-empty
returns-in-empty c = let none = c.in-empty.len_below in sym (no_empty_name c.args.text.now (omega arith))

pub returns-in-len1-up : goal.returns-in-len1-up
returns-in-len1-up c =
    let table = rw c.capital.ensures at c.operations_with.ensures in
    c.named_in.ensures ∙ ap (λ entries. named_in entries c.args.text.now) table ∙ named_by_letter c.args.text.now c.in-len1-up.len_at_least
