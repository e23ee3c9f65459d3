use Rattle.std.proofs.Common.{sym, ap, ◌∙◌}
use Rattle.cps_code.specs.Rows.{named}
use Rattle.cps_code.specs.Table.{instruction_named}
use Rattle.cps_code.proofs.NameLemmas.{named_by_letter, no_empty_name}
use Rattle.cps_code.proofs.operation.named_operation.Goals as goal

pub returns-in-None-clause-operation : goal.returns-in-None-clause-operation
returns-in-None-clause-operation c = rw c.in-None.ensures no_empty_name

pub returns-in-Some-clause-operation : goal.returns-in-Some-clause-operation
returns-in-Some-clause-operation c =
    let table = rw c.capital.ensures at c.operations_with.ensures in
    ap instruction_named c.in-Some.ensures ∙ sym (named_by_letter c.in-Some.first c.in-Some._rest.now)
    ∙ (λ i. named (sym table i) (sym c.in-Some.ensures i)) ∙ c.find_operation.ensures.operation
