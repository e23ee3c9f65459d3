use Rattle.std.proofs.Common.{arith, ◌≡◌, ◌+◌, ◌-◌, ◌++◌, length, sym, ap, ◌∙◌}
use Rattle.std.specs.Prelude.{slice_get}
use Rattle.std.proofs.lemmas.List.{append-nil}
use Rattle.std.proofs.lemmas.Result.{on_ok_weaker}
use Rattle.cps_edit.specs.Assembly.{outcomes_of}
use Rattle.cps_server.proofs.RowLemmas.{length-outcomes, shown-past, shown-pushed, true-false}
use Rattle.cps_server.proofs.rows.push_shown.Goals as goal

pub returns-in_default : goal.returns-in_default
returns-in_default c =
    let old = c.args.text.now.items in
    let same = ap length c.session-session.ensures in
    let none = shown-past c.args.document.now c.args.line
    (λ within. true-false (sym (c.in_default.ensures.there.1 (omega arith, omega (arith, within, same))))) in
    sym (append-nil old) ∙ ap (λ rows. old ++ rows) (sym none)

pub returns-in_default-outcome : goal.returns-in_default-outcome
returns-in_default-outcome c =
    let old = c.args.text.now.items in
    let same = ap length c.session-session.ensures in
    let long = length-outcomes c.session-session.result.now.lines in
    let none = shown-past c.args.document.now c.args.line
    (λ within. true-false (sym (c.in_default-outcome.ensures.there.1 (omega arith, omega (arith, within, same, long))))) in
    sym (append-nil old) ∙ ap (λ rows. old ++ rows) (sym none)

pub returns : goal.returns
returns c =
    let line = c.args.line in
    let back : line + 1 - 1 ≡ line = omega arith in
    let line_is = sym (λ i. slice_get (c.session-session.ensures i) (back i)) ∙ c.in-Some.ensures.line in
    let outcome_is = sym (λ i. slice_get (outcomes_of (c.session-session.ensures i)) (back i)) ∙ c.in-Some-outcome.ensures.outcome in
    on_ok_weaker c.push_first_rows.result
    (shown-pushed c.args.document.now line c.in-Some.card.now c.bytes.result.now c.in-Some-outcome.outcome.now c.rows.result.now c.args.text.now.items
    c.push_first_rows.new.text.items c.bytes.ensures.value c.rows.ensures line_is outcome_is) c.push_first_rows.ensures
