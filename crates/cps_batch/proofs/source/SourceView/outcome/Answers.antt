use Rattle.std.proofs.Common.{◌≡◌, ◌-◌, ap, subst, ◌∙◌, Bor, List, ℕ}
use Rattle.std.specs.Prelude.{Some, IfSome, slice_get}
use Rattle.std.specs.List.{HoldsAt}
use Rattle.cps_final.specs.declared.outcome.Outcome.{Outcome}
use Rattle.cps_edit.specs.Assembly.{outcomes_of}
use Rattle.cps_batch.proofs.SourceLemmas.{looked_up}
use Rattle.cps_batch.proofs.source.SourceView.outcome.Goals as goal

pub returns-clause-outcome : goal.returns-clause-outcome
returns-clause-outcome c =
    let outcomes = c.deref.result.now in
    let there = looked_up (λ (outcome : Bor Outcome). outcome.now) outcomes (c.args.n - 1) c.get.result (λ outcome. HoldsAt (λ other. outcome.now ≡ other) outcomes (c.args.n - 1)) c.get.ensures.lookup.1 c.get.ensures.lookup.3 in
    subst (λ all. IfSome c.get.result (λ outcome. slice_get all (c.args.n - 1) ≡ Some outcome.now))
    (c.deref.ensures.value ∙ c.self.invariant.made ∙ ap (λ (lines : List (List ℕ)). outcomes_of lines) c.self.view_is) there
