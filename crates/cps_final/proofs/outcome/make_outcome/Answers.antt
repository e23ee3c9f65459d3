use Rattle.std.proofs.Common.{sym, ◌∙◌}
use Rattle.cps_final.specs.Resolving.{resolved}
use Rattle.cps_final.proofs.AloneLemmas.{outcome-alone}
use Rattle.cps_final.proofs.OutcomeLemmas.{outcome-made}
use Rattle.cps_final.proofs.outcome.make_outcome.Goals as goal

pub returns : goal.returns
returns c =
    let finals = resolved c.args.finals.now in
    let made = outcome-made finals c.args.trace.now _ _ _ c.items-items.result.now c.items-items.ensures c.in_ok-replace.ensures c.in_ok-defined.ensures c.in_ok-read.ensures in
    let whole = c.in_ok-made.ensures ∙ made in
    record { outcome = whole; alone = λ others agree. outcome-alone others finals c.args.trace.now agree ∙ sym whole }
