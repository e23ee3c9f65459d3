use Rattle.std.proofs.Common.{◌≡◌, ◌∙◌, ap, refl, subst}
use Rattle.std.specs.Prelude.{IfOk}
use Rattle.cps_state.specs.Course.{Trace}
use Rattle.cps_state.specs.Keys.{State, first_state}
use Rattle.cps_pass.specs.Expansion.{trace_of}
use Rattle.cps_edit.proofs.SpliceLemmas.{puts-state}
use Rattle.cps_live.proofs.KeptLemmas.{kept-same}
use Rattle.cps_live.proofs.kept_source.KeptSource.step_behind.Goals as goal

pub returns-clause-kept : goal.returns-clause-kept
returns-clause-kept c = kept-same c.requires.kept refl refl refl refl refl refl refl refl

pub returns-clause-trace : goal.returns-clause-trace
returns-clause-trace c =
    let there = c.state.ensures ∙ ap (λ finals. finals.state) c.requires.kept.finals ∙ puts-state first_state c.args.self.now.lines.items in
    subst (λ (state : State). IfOk c.step_over.result (λ (trace : Trace). trace ≡ trace_of c.args.line.now state)) there c.step_over.ensures.trace
