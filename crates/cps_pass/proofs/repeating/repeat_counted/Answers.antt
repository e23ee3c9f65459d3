use Rattle.cps_pass.specs.ValueNow.{now_here}
use Rattle.cps_pass.specs.Repeating.{body_count, repeating_lines}
use Rattle.cps_pass.proofs.ScopeLemmas.{handed-on}
use Rattle.cps_pass.proofs.repeating.repeat_counted.Goals as goal

pub returns : goal.returns
returns g c =
    handed-on (now_here c.args.context.control c.args.lines.now) c.in_ok-value.value
    (λ value. repeating_lines c.args.context.control c.args.scope.now c.args.context.location c.args.times value (body_count value)) c.repeat_lines.new.scope g.L.Lookup.answer
    c.args.recorder.now c.value_here.new.recorder c.repeat_lines.new.recorder c.repeat_lines.result c.in_ok-value.ensures c.repeat_lines.ensures
