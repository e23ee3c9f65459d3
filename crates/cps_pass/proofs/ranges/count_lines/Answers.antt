use Rattle.cps_pass.specs.Ranges.{counting}
use Rattle.cps_pass.specs.ValueNow.{now_here}
use Rattle.cps_pass.proofs.ScopeLemmas.{handed-on}
use Rattle.cps_pass.proofs.ranges.count_lines.Goals as goal

pub returns : goal.returns
returns g c =
    handed-on (now_here c.args.context.control c.args.lines.now) c.in_ok-value.value (counting c.args.context.control c.args.scope.now c.args.context.location c.args.test) c.count.new.scope
    g.L.Lookup.answer c.args.recorder.now c.value_here.new.recorder c.count.new.recorder c.count.result c.in_ok-value.ensures c.count.ensures
