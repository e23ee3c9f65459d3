use Rattle.std.proofs.Common.{sym, ap, subst, ◌∙◌}
use Rattle.cps_state.specs.declared.key.Key.TheVariants as key
use Rattle.cps_state.specs.declared.key.Answer.TheVariants as answer
use Rattle.cps_state.specs.declared.key.Mode.TheVariants.{Normal}
use Rattle.cps_state.specs.Course.{◌before◌, putting}
use Rattle.cps_state.specs.Code.Line.{runs}
use Rattle.cps_pass.specs.declared.scope.Scope.{Scope}
use Rattle.cps_pass.specs.declared.scope.Scope.TheVariants.{Source}
use Rattle.cps_pass.specs.Scope.{taking_body}
use Rattle.cps_pass.specs.Code.Taking.{TakesBody}
use Rattle.cps_pass.proofs.scope.take_body.Goals as goal

pub returns-in_ok-put-in-Source : goal.returns-in_ok-put-in-Source
returns-in_ok-put-in-Source g c =
    let state = g.L.Lookup.answer in
    let lines = c.in_ok-lines-in-Source.lines.items in
    let takes : Scope → Type 0 = λ scope. TakesBody (taking_body c.args.control scope c.args.count) lines scope state c.args.recorder.now c.put.new.self in
    subst takes (sym c.in-Source.is) (λ next rest.
    c.in_ok-lines-in-Source.ensures (λ taken. putting key.Control (answer.Control c.args.control Normal) before next taken Source) rest
    ∙ ap (λ r. runs (next lines Source rest) state r) (sym (rw c.normal.ensures at c.in_ok-put-in-Source.ensures)))
