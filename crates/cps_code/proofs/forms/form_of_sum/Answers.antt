use Rattle.std.specs.Prelude.{true, false, option_map}
use Rattle.cps_code.specs.Code.FoundForms.{set_form, jump_form, long_form}
use Rattle.cps_code.proofs.SummedLemmas.{form_with_constant}
use Rattle.cps_code.proofs.forms.form_of_sum.Goals as goal

pub returns-in-Set-true : goal.returns-in-Set-true
returns-in-Set-true c = rw c.in-Set-true.is-0 (form_with_constant (set_form c.args.digits) (λ operand. option_map (λ front. long_form front operand false) c.code_with_constant-front.result)
    c.args.kept c.long_form.result c.in-Set-true.is-1 c.code_with_constant-front.ensures.form c.long_form.ensures)

pub returns-in-Jump-true : goal.returns-in-Jump-true
returns-in-Jump-true c = rw c.in-Jump-true.is-0 (form_with_constant (jump_form c.args.digits) (λ operand. option_map (λ front. long_form front operand true) c.jump_front.result)
    c.args.kept c.long_form-in-Jump-true.result c.in-Jump-true.is-1 (c.jump_front.ensures.front c.args.digits) c.long_form-in-Jump-true.ensures)
