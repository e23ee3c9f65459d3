use Rattle.std.proofs.Common.{◌-◌, ◌∙◌, sym, ap}
use Rattle.std.specs.Prelude.{slice_get}
use Rattle.cps_edit.specs.Assembly.{outcomes_of}
use Rattle.cps_state.specs.Flags.{has_flag}
use Rattle.cps_server.proofs.RowLemmas.{flagged, if-ok}
use Rattle.cps_server.proofs.why.why_of.Goals as goal

pub returns-then-has_flag : goal.returns-then-has_flag
returns-then-has_flag c =
    let there = sym (λ i. slice_get (outcomes_of (c.session.ensures i)) (c.args.number - 1)) ∙ c.in-Some.ensures.outcome in
    let has = sym (ap has_flag c.flags.ensures) ∙ sym c.has_flag.ensures ∙ c.if-has_flag.true in
    if-ok c.causes_of.result (λ why. flagged c.args.document.now (c.args.number - 1) c.in-Some.outcome.now why.items there has)
