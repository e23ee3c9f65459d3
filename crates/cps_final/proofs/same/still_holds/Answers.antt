use Rattle.std.proofs.Common.{rules, ◌≡◌, subst, sym, Bool}
use Rattle.std.specs.Bool.{Decides}
use Rattle.cps_state.specs.Course.{Holds}
use Rattle.cps_final.specs.Holds.{holds}
use Rattle.cps_final.proofs.AnswerLemmas.{asks-decide}
use Rattle.cps_final.proofs.same.still_holds.Goals as goal

pub returns-clause-decides : goal.returns-clause-decides
returns-clause-decides g c =
    let state = g.L.Lookup.answer c.args.state.now in
    let test : c.same_answers.result ≡ holds c.args.trace.now.asks state = search rules in
    subst (λ (t : Bool). Decides t (Holds c.args.trace.now.asks state)) (sym test) (asks-decide c.args.trace.now.asks state)
