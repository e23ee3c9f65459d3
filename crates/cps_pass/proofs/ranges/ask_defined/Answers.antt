use Rattle.std.proofs.Common.{sym, ap, ◌∙◌}
use Rattle.cps_state.specs.Course.{◌before◌, tell}
use Rattle.cps_state.specs.Code.Line.{runs}
use Rattle.cps_pass.specs.declared.ranges.Tested.{Tested}
use Rattle.cps_pass.specs.Located.{has_value}
use Rattle.cps_pass.specs.Ranges.{defined}
use Rattle.cps_pass.proofs.ranges.ask_defined.Goals as goal

pub returns : goal.returns
returns g c = λ next rest.
    let state = g.L.Lookup.answer in
    let test = c.args.test.now in
    let definition = c.in_ok-definition.definition in
    c.in_ok-definition.ensures (λ s. tell test.symbol before next (defined test.is_defined (has_value s))) rest
    ∙ ap (λ r. runs (next (defined test.is_defined (has_value definition)) rest) state r) (sym c.in_ok-tell.ensures)
    ∙ ap (λ (t : Tested). runs (next t rest) state c.tell.new.self) (sym (c.defined.ensures ∙ ap (defined test.is_defined) c.has_value.ensures))
