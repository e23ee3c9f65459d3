use Rattle.std.proofs.Common.{rules}
use Rattle.cps_pass.specs.Macros.{bound, call_at}
use Rattle.cps_pass.proofs.MacroLemmas.{call-opens}
use Rattle.cps_pass.proofs.macros.call.Goals as goal

pub returns : goal.returns
returns g c =
    let named = c.args.named.now in
    call-opens (call_at c.args.context.control c.args.context.location) c.in_ok-made.made c.in_ok-lines.lines (bound named.parameters c.args.tail.now) named c.args.scope.now
    g.L.Lookup.answer c.args.recorder.now c.call_at.new.recorder c.fill.new.self c.in_ok-made.ensures c.in_ok-lines.ensures (search rules)
