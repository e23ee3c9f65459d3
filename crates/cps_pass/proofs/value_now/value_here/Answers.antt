use Rattle.std.proofs.Common.{◌∙◌}
use Rattle.cps_pass.specs.ValueNow.{now}
use Rattle.cps_pass.proofs.value_now.value_here.Goals as goal

pub returns : goal.returns
returns g c = λ next rest. c.in_ok-here.ensures (λ here. now c.args.expression.now here next) rest ∙ c.in_ok-value.ensures next rest
