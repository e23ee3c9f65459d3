use Rattle.std.proofs.Common.{rules, ◌≡◌, ◌∙◌, subst, sym, Bool}
use Rattle.std.specs.Bool.{Decides}
use Rattle.cps_final.specs.Outcome.{AgreeOnNamed}
use Rattle.cps_final.specs.Agreeing.{same_named}
use Rattle.cps_final.proofs.AgreeLemmas.{named-alone, named-decides}
use Rattle.cps_final.specs.Code.Ends.{was_of, now_of}
use Rattle.cps_final.proofs.ends.ends_agree.Goals as goal

pub returns-clause-decides : goal.returns-clause-decides
returns-clause-decides c =
    let was = was_of c.args.ends in
    let now = now_of c.args.ends in
    let test : c.all_pass.result ≡ same_named was now c.args.trace.now.items = search rules in
    subst (λ (t : Bool). Decides t (AgreeOnNamed was now c.args.trace.now)) (sym test) (named-decides was now c.args.trace.now)

pub returns-clause-alone : goal.returns-clause-alone
returns-clause-alone c =
    let was = was_of c.args.ends in
    let now = now_of c.args.ends in
    let test : c.all_pass.result ≡ same_named was now c.args.trace.now.items = search rules in
    λ h. named-alone was now c.args.trace.now (sym test ∙ h)
