use Rattle.std.proofs.Common.{None, sym, ap, ◌∙◌}
use Rattle.cps_state.specs.Code.Exchange.{with_answer}
use Rattle.cps_state.proofs.ExchangeLemmas.{other-changed}
use Rattle.cps_state.proofs.state.State.replace.Goals as goal

pub returns-in-Some-clause-answer : goal.returns-in-Some-clause-answer
returns-in-Some-clause-answer c = c.exchange.ensures.answer ∙ ap (with_answer _ c.args.key) (sym c.in-Some.is)

pub returns-in-None-clause-answer : goal.returns-in-None-clause-answer
returns-in-None-clause-answer c =
    let other = rw c.in-None.is at c.requires.stands in
    other-changed c.args.self.now.control c.args.self.now.nominal c.args.self.now.uses c.args.self.now.blocks c.args.self.now.ranges c.args.self.now.locals
    _ _ c.args.key None other c.remove.ensures.answer
    ∙ ap (with_answer _ c.args.key) (sym c.in-None.is)
