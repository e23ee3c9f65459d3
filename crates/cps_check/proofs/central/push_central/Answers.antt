use Rattle.std.proofs.Common.{rules, ◌≡◌, ℕ, List, ◌++◌, ◌∙◌, ap, Some}
use Rattle.cps_code.specs.Code.Operations.{named_value, rows_of}
use Rattle.cps_code.specs.Rows.{Named}
use Rattle.cps_code.specs.Table.{instruction_named}
use Rattle.cps_check.specs.Central.{rows_text}
use Rattle.cps_check.specs.Code.Kept.{sentence_values}
use Rattle.cps_check.proofs.Words.{central_told}
use Rattle.cps_check.proofs.central.push_central.Goals as goal

pub returns-clause-text : goal.returns-clause-text
returns-clause-text c =
    let sentences = sentence_values c.args.sentences.now in
    let o : Named = named_value (c.in-Some.forms, c.in-Some.digits) in
    let is : instruction_named c.args.name.now ≡ Some (named_value (c.in-Some.forms, c.in-Some.digits)) = search rules in
    central_told sentences c.args.name.now c.args.text.now.items c.push_head.new.text.items c.push_forms.new.text.items o is
    c.in_ok-push_head.ensures
    (c.in_ok-push_forms.ensures
    ∙ ap (λ (shown : List ℕ). c.push_head.new.text.items ++ rows_text shown c.in-Some.digits.f sentences (rows_of c.in-Some.forms))
    (c.deref.ensures.value ∙ c.in_ok-shown.ensures))
