use Rattle.std.proofs.Common.{sym, ap, ◌∙◌}
use Rattle.cps_state.specs.Code.Line.{runs}
use Rattle.cps_pass.specs.ValueNow.{now_here}
use Rattle.cps_pass.specs.declared.ranges.Tested.{Tested}
use Rattle.cps_pass.specs.Ranges.{compared}
use Rattle.cps_pass.proofs.ranges.ask_compared.Goals as goal

pub returns : goal.returns
returns g c = λ next rest.
    let test = c.args.test.now in
    let left = c.in_ok-left.left in
    c.in_ok-left.ensures (λ a. now_here c.args.control test.right (λ b. next (compared test.relation a b))) rest
    ∙ c.in_ok-right.ensures (λ b. next (compared test.relation left b)) rest
    ∙ ap (λ (tested : Tested). runs (next tested rest) g.L.Lookup.answer c.value_here-2.new.recorder) (sym c.compare.ensures)
