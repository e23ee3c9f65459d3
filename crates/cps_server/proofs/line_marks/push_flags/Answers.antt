use Rattle.std.proofs.Common.{length, ap, sym, ◌∙◌, arith}
use Rattle.cps_state.specs.Flags.{has_flag}
use Rattle.cps_server.proofs.FlagLemmas.{true-false}
use Rattle.cps_server.proofs.LineLemmas.{ShowsFlags-none, ShowsFlags-some, card-within, length-outcomes}
use Rattle.cps_server.proofs.line_marks.push_flags.Goals as goal

pub overflow_add-number : goal.overflow_add-number
overflow_add-number c = let within = card-within c.args.document.now c.args.number c.requires in omega (arith, within.1)

pub overflow_add-number-2 : goal.overflow_add-number-2
overflow_add-number-2 c = let within = card-within c.args.document.now c.args.number c.requires in omega (arith, within.1)

pub unreachable-requires-in_default-outcome : goal.unreachable-requires-in_default-outcome
unreachable-requires-in_default-outcome c =
    let source = c.session-session.result.now.lines in
    let long = length-outcomes source in
    let same = ap length c.session-session.ensures in
    true-false (sym (c.in_default-outcome.ensures.there.1 (omega arith, omega (arith, long, same, c.requires))))

pub returns-then-not-has_flag : goal.returns-then-not-has_flag
returns-then-not-has_flag c =
    ShowsFlags-none c.args.document.now c.args.number c.session-session.result.now.lines c.in-Some.card.now c.in-Some-outcome.outcome.now c.args.marks.now.items
    c.session-session.ensures c.in-Some.ensures.line c.in-Some-outcome.ensures.outcome
    (ap has_flag (sym c.flags.ensures) ∙ sym c.has_flag.ensures ∙ c.if-not-has_flag.true)

pub returns : goal.returns
returns c =
    ShowsFlags-some c.args.document.now c.args.number c.session-session.result.now.lines c.in-Some.card.now c.traces-traces.result.now c.index-traces-number.result _
    c.in_ok-told.told.items c.deref.result.now c.args.marks.now.items c.push_causes.new.marks.items
    c.session-session.ensures c.requires c.in-Some.ensures.line c.traces-traces.ensures c.index-traces-number.is c.finals.ensures c.in_ok-told.ensures
    c.deref.ensures.value c.in_ok-push_causes.ensures
