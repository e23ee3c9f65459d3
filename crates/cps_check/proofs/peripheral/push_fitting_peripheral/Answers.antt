use Rattle.std.proofs.Common.{rules, ◌≡◌, ◌++◌, ◌∙◌, None, Some}
use Rattle.std.specs.Prelude.{codes}
use Rattle.cps_expr.specs.declared.radix.Radix.TheVariants.{Decimal}
use Rattle.cps_code.specs.PeripheralTable.{form_of}
use Rattle.cps_check.specs.Codes.{fitting_peripheral_text}
use Rattle.cps_check.proofs.Zero.{nothing_fits, fits_by_form}
use Rattle.cps_check.proofs.peripheral.push_fitting_peripheral.Goals as goal

pub returns-in_default : goal.returns-in_default
returns-in_default c =
    let none : form_of c.args.name.now (codes "0") Decimal ≡ None = search rules in
    nothing_fits c.args.given.now c.args.name.now c.args.text.now.items none

pub returns : goal.returns
returns c =
    let read : form_of c.args.name.now (codes "0") Decimal ≡ Some c.in-Some.form = search rules in
    let name = c.deref.ensures.value ∙ c.in_ok-shown.ensures in
    fits_by_form c.args.given.now c.args.name.now c.args.text.now.items c.push_fitting_form.new.text.items c.in-Some.form read
    (λ layout number is. c.in_ok-push_fitting_form.ensures layout number is ∙ (λ i. c.args.text.now.items ++ fitting_peripheral_text c.args.given.now (name i) layout number))
