use Rattle.cps_text.specs.Operands.{operands_of}
use Rattle.cps_code.specs.Code.FoundForms.{sum_rows}
use Rattle.cps_code.specs.RowForms.{only_sum}
use Rattle.cps_code.proofs.SetLemmas.{sum_rows_short, form_of_summed, no_form}
use Rattle.cps_code.proofs.forms.summed_form.Goals as goal

pub returns-in-None : goal.returns-in-None
returns-in-None c =
    no_form c.args.radix c.args.digits (sum_rows c.args.forms) (operands_of c.args.tail.now) (only_sum c.args.radix c.args.tail.now) (sum_rows_short c.args.forms) c.in-None.ensures.sum

pub returns-in-Some : goal.returns-in-Some
returns-in-Some c =
    let read = c.in-Some.ensures.sum in
    rw (read.1, form_of_summed c.args.forms c.args.radix c.args.digits (operands_of c.args.tail.now) read.0) (c.form_of_sum.ensures read.0 read.2)
