use Rattle.cps_pass.specs.Ranges.{asking_compared, hanging}
use Rattle.cps_pass.proofs.ScopeLemmas.{handed-on}
use Rattle.cps_pass.proofs.ranges.if_compared.Goals as goal

pub returns : goal.returns
returns g c =
    handed-on (asking_compared c.args.context.control c.args.test.now) c.in_ok-tested.tested (hanging c.args.context.control c.args.scope.now c.args.context.location c.args.test.now.lines) c.hang.new.scope
    g.L.Lookup.answer c.args.recorder.now c.ask_compared.new.recorder c.hang.new.recorder c.hang.result c.in_ok-tested.ensures c.hang.ensures
