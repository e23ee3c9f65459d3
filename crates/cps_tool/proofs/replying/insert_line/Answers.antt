use Rattle.std.proofs.Common.{rules, sym, ap, subst, ◌∙◌}
use Rattle.std.specs.Prelude.{insert}
use Rattle.cps_text.specs.Line.{IsLine}
use Rattle.cps_edit.specs.Splice.{insertion}
use Rattle.cps_tool.specs.EditReplies.{IsNotInserted, StepsOfRefused}
use Rattle.cps_tool.proofs.EditLemmas.{accepted_steps, refused_steps}
use Rattle.cps_tool.proofs.replying.insert_line.Goals as goal

pub returns-in-Ok-insert : goal.returns-in-Ok-insert
returns-in-Ok-insert c =
    let lines = c.args.session.now.lines in
    let after = c.args.after in
    let done = c.in-Ok-insert.ensures in
    let is_line : IsLine c.args.text.now = search rules in (
      done.allowed.0,
      is_line,
      done.allowed.1,
      done.ok ∙ ap (insert lines after) c.in-Ok.ensures.ok,
      c.count-in-Ok-insert.ensures.count,
      accepted_steps lines (insertion after) c.in-Ok.line c.args.text.now c.new.result c.insert.new.work c.in-Ok.ensures.ok c.new.ensures done.work,
    )

pub returns-in-Err : goal.returns-in-Err
returns-in-Err c =
    let lines = c.args.session.now.lines in
    let after = c.args.after in
    let text = c.args.text.now in
    let wrong : IsNotInserted lines after text c.refusal_of_edit.result = search rules in (
      wrong,
      search rules,
      subst (λ refusal. StepsOfRefused refusal lines (insertion after text) c.insert.new.work) (sym c.refusal_of_edit.ensures)
          (refused_steps c.in-Err.fault lines (insertion after) c.in-Ok.line text c.new.result c.insert.new.work c.in-Ok.ensures.ok c.new.ensures c.in-Err.ensures.work),
    )
