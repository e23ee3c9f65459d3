use Rattle.std.proofs.Common.{rules, ◌≡◌, ◌++◌, ◌∙◌, None, Some}
use Rattle.std.specs.Prelude.{codes}
use Rattle.cps_expr.specs.declared.radix.Radix.TheVariants.{Decimal}
use Rattle.cps_code.specs.PeripheralTable.{form_of}
use Rattle.cps_check.specs.Code.Kept.{sentence_values}
use Rattle.cps_check.specs.Peripheral.{row_text}
use Rattle.cps_check.proofs.Zero.{nothing_told, told_by_form}
use Rattle.cps_check.proofs.peripheral.push_peripheral.Goals as goal

pub returns-in_default-clause-text : goal.returns-in_default-clause-text
returns-in_default-clause-text c =
    let none : form_of c.args.name.now (codes "0") Decimal ≡ None = search rules in
    nothing_told (sentence_values c.args.sentences.now) c.args.name.now c.args.text.now.items none

pub returns-clause-text : goal.returns-clause-text
returns-clause-text c =
    let read : form_of c.args.name.now (codes "0") Decimal ≡ Some c.in-Some.form = search rules in
    let name = c.deref.ensures.value ∙ c.in_ok-shown.ensures in
    told_by_form (sentence_values c.args.sentences.now) c.args.name.now c.args.text.now.items c.push_row.new.text.items c.in-Some.form read
    (λ layout number is. c.in_ok-push_row.ensures layout number is ∙ (λ i. c.in_ok-push_head.ensures i ++ row_text (sentence_values c.args.sentences.now) (name i) layout number))
