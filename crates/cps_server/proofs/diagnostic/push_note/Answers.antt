use Rattle.std.proofs.Common.{◌++◌, ◌∙◌, append_assoc}
use Rattle.std.specs.Prelude.{None, codes}
use Rattle.std.proofs.lemmas.Result.{on_ok_weaker}
use Rattle.cps_server.specs.Code.Writing.{written_report}
use Rattle.cps_server.proofs.diagnostic.push_note.Goals as goal

pub returns : goal.returns
returns c =
    on_ok_weaker c.push_report.result
    (λ told. told ∙ (λ i. c.in_ok-extend_from_slice.ensures.items i ++ written_report (c.severity_of.ensures i) c.args.stretch c.args.message.now None c.args.form.is_tagged)
    ∙ append_assoc c.args.text.now.items (codes "{") _)
    c.push_report.ensures
