use Rattle.cps_pass.specs.ValueNow.{now_here}
use Rattle.cps_pass.specs.Repeating.{repeating_by}
use Rattle.cps_pass.proofs.ScopeLemmas.{handed-on}
use Rattle.cps_pass.proofs.repeating.dup.Goals as goal

pub returns : goal.returns
returns g c =
    let repetition = c.args.repetition.now in
    handed-on (now_here c.args.context.control repetition.count) c.in_ok-times.times (λ times. repeating_by c.args.context.control c.args.scope.now c.args.context.location times repetition.lines)
    c.repeat_by.new.scope g.L.Lookup.answer c.args.recorder.now c.value_here.new.recorder c.repeat_by.new.recorder c.repeat_by.result
    c.in_ok-times.ensures c.repeat_by.ensures
