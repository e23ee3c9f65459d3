use Rattle.std.proofs.Common.{rules, ◌-◌, sym, ap, subst, ◌∙◌}
use Rattle.std.specs.Prelude.{slice_set}
use Rattle.cps_text.specs.Line.{IsLine}
use Rattle.cps_edit.specs.Splice.{replacement}
use Rattle.cps_tool.specs.EditReplies.{IsNotReplaced, StepsOfRefused}
use Rattle.cps_tool.proofs.EditLemmas.{accepted_steps, refused_steps}
use Rattle.cps_tool.proofs.replying.replace_line.Goals as goal

pub returns-in-Ok-replace : goal.returns-in-Ok-replace
returns-in-Ok-replace c =
    let lines = c.args.session.now.lines in
    let number = c.args.line_number in
    let done = c.in-Ok-replace.ensures in
    let is_line : IsLine c.args.text.now = search rules in (
      done.allowed,
      is_line,
      done.ok ∙ ap (slice_set lines (number - 1)) c.in-Ok.ensures.ok,
      c.count-in-Ok-replace.ensures.count,
      accepted_steps lines (replacement number) c.in-Ok.line c.args.text.now c.new.result c.replace.new.work c.in-Ok.ensures.ok c.new.ensures done.work,
    )

pub returns-in-Err : goal.returns-in-Err
returns-in-Err c =
    let lines = c.args.session.now.lines in
    let number = c.args.line_number in
    let text = c.args.text.now in
    let wrong : IsNotReplaced lines number text c.refusal_of_edit.result = search rules in (
      wrong,
      search rules,
      subst (λ refusal. StepsOfRefused refusal lines (replacement number text) c.replace.new.work) (sym c.refusal_of_edit.ensures)
          (refused_steps c.in-Err.fault lines (replacement number) c.in-Ok.line text c.new.result c.replace.new.work c.in-Ok.ensures.ok c.new.ensures c.in-Err.ensures.work),
    )
