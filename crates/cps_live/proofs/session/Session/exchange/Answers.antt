use Rattle.std.proofs.Common.{length, sym, subst, arith}
use Rattle.cps_edit.specs.Exchange.{IsWithin, exchanged}
use Rattle.cps_edit.proofs.ListLemmas.{exchanged-long}
use Rattle.cps_edit.specs.Disturbed.{ones_of_exchange, twos_of_exchange}
use Rattle.cps_live.specs.Edits.{Source, HaveStepped, HaveSteppedUpTo, LooksOfExchange}
use Rattle.cps_live.proofs.SessionLemmas.{held}
use Rattle.cps_live.proofs.session.Session.exchange.Goals as goal

pub invariant_of-self : goal.invariant_of-self
invariant_of-self c = held c.exchange-made.new.self c.self.inside.kept.lines.items c.exchange-made.ensures.kept c.in_default.ensures.err.lines c.self.invariant.few

pub returns-in_default-clause-work : goal.returns-in_default-clause-work
returns-in_default-clause-work c =
    let e = c.args.exchange in
    let steps = c.in_default.ensures.steps in
    subst (λ (s : Source). HaveSteppedUpTo (ones_of_exchange s.lines e) (twos_of_exchange s.lines e) c.args.work.now c.exchange-made.new.work) c.self.view_is
    (record { first = steps.ones_most; second = steps.twos_most; first_kept = steps.ones_least; second_kept = steps.twos_least })

pub returns-in_default-clause-looked : goal.returns-in_default-clause-looked
returns-in_default-clause-looked c =
    subst (λ (s : Source). LooksOfExchange s c.args.exchange c.args.work.now c.exchange-made.new.work) c.self.view_is c.exchange-made.ensures.looked

pub invariant_of-self-2 : goal.invariant_of-self-2
invariant_of-self-2 c =
    let lines = c.self.inside.kept.lines.items in
    let e = c.args.exchange in
    let within : IsWithin (length lines) e =
    subst (λ (s : Source). IsWithin (length s.lines) e) (sym c.self.view_is)
    (record { first = omega (arith, c.requires.runs.0); second = omega (arith, c.requires.runs.1); all = c.requires.within }) in
    held c.exchange-made.new.self (exchanged e lines) c.exchange-made.ensures.kept c.in-Ok.ensures.moved.lines (omega (arith, exchanged-long lines e within, c.self.invariant.few))

pub returns-clause-work : goal.returns-clause-work
returns-clause-work c =
    let e = c.args.exchange in
    let steps = c.in-Ok.ensures.steps in
    subst (λ (s : Source). HaveStepped (ones_of_exchange s.lines e) (twos_of_exchange s.lines e) c.args.work.now c.exchange-made.new.work) c.self.view_is
    (record { first = steps.ones; second = steps.twos })

pub returns-clause-looked : goal.returns-clause-looked
returns-clause-looked c =
    subst (λ (s : Source). LooksOfExchange s c.args.exchange c.args.work.now c.exchange-made.new.work) c.self.view_is c.exchange-made.ensures.looked
