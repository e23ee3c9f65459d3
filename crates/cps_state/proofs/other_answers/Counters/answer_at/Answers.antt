use Rattle.std.proofs.Common.{sym, ap, ◌∙◌}
use Rattle.std.specs.Option.{option_copied}
use Rattle.cps_state.proofs.OtherLemmas.{none-at, answer-found}
use Rattle.cps_state.proofs.other_answers.Counters.answer_at.Goals as goal

pub returns-in_err-index : goal.returns-in_err-index
returns-in_err-index c =
    ap option_copied c.from_residual.ensures ∙ none-at c.args.self.now.places c.args.block (sym c.in_err-index.was ∙ c.index_of.ensures.index)

pub returns : goal.returns
returns c =
    answer-found c.args.self.now.places c.in_ok-index.index c.args.block (sym c.in_ok-index.was ∙ c.index_of.ensures.index) c.in_ok-answer.field-0-0.now c.in_ok-answer.answer.now
    c.in_ok-answer.ensures.entry c.in_ok-answer.ensures.value
