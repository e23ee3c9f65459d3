use Rattle.std.proofs.Common.{sym, ap, ◌∙◌}
use Rattle.std.specs.Prelude.{option_map}
use Rattle.cps_code.specs.PeripheralTable.{named, pp_table}
use Rattle.cps_code.specs.Code.PeripheralRows.{layout_and_number}
use Rattle.cps_code.proofs.RowLemmas.{named_by_letter, no_empty_name, small_numbers}
use Rattle.cps_code.proofs.peripheral_operation.named_operation.Goals as goal

pub returns-in-None-clause-operation : goal.returns-in-None-clause-operation
returns-in-None-clause-operation c = ap (λ name. option_map layout_and_number (named pp_table name)) c.in-None.ensures ∙ ap (option_map layout_and_number) no_empty_name

pub returns-in-Some-clause-operation : goal.returns-in-Some-clause-operation
returns-in-Some-clause-operation c =
    let table = rw c.capital.ensures at c.operations_with.ensures in
    ap (option_map layout_and_number) (ap (named pp_table) c.in-Some.ensures ∙ sym (named_by_letter c.in-Some.first c.in-Some._rest.now)
    ∙ (λ i. named (sym table i) (sym c.in-Some.ensures i)))
    ∙ c.find_operation.ensures

pub returns-in-Some-clause-small : goal.returns-in-Some-clause-small
returns-in-Some-clause-small c =
    let table = rw c.capital.ensures at c.operations_with.ensures in
    small_numbers c.args.name.now c.find_operation.result
    (ap (option_map layout_and_number) (ap (named pp_table) c.in-Some.ensures ∙ sym (named_by_letter c.in-Some.first c.in-Some._rest.now)
    ∙ (λ i. named (sym table i) (sym c.in-Some.ensures i)))
    ∙ c.find_operation.ensures)
