use Rattle.std.proofs.Common.{Option, ap, ◌∙◌}
use Rattle.std.specs.Prelude.{unwrap_or}
use Rattle.cps_state.specs.declared.key.Answer.{Answer}
use Rattle.cps_state.specs.declared.key.Key.TheVariants.{Label}
use Rattle.cps_state.specs.contracts.state.StateLookup.TheImpl.{answer-value as state-answer}
use Rattle.cps_state.specs.Keys.{State, labels_of, value_of}
use Rattle.cps_final.proofs.former_finals.FormerFinals.value_of.Goals as goal

pub returns-in-Some : goal.returns-in-Some
returns-in-Some c =
    let before = state-answer.it c.args.self.finals.now.state (Label c.args.name) in
    c.value_of.ensures.value ∙ ap value_of c.as_ref.ensures.value ∙ ap (λ (o : Option (Option Answer)). value_of (unwrap_or o before)) c.in-Some.ensures

pub returns-in-None : goal.returns-in-None
returns-in-None c =
    let before = state-answer.it c.args.self.finals.now.state (Label c.args.name) in
    c.value_of-in-None.ensures ∙ ap (λ (s : State). labels_of s c.args.name) c.state.ensures
    ∙ ap (λ (o : Option (Option Answer)). value_of (unwrap_or o before)) c.in-None.ensures
