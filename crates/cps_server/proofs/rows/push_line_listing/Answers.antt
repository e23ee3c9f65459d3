use Rattle.std.proofs.Common.{arith, ◌++◌, ◌-◌, length, sym, ap, ◌∙◌}
use Rattle.std.specs.Prelude.{slice_get}
use Rattle.std.proofs.lemmas.List.{append-nil}
use Rattle.std.proofs.lemmas.Result.{on_ok_weaker}
use Rattle.cps_edit.specs.Assembly.{outcomes_of}
use Rattle.cps_server.proofs.RowLemmas.{length-outcomes, listing-past, listing-pushed, true-false}
use Rattle.cps_server.proofs.rows.push_line_listing.Goals as goal

pub returns-in_default : goal.returns-in_default
returns-in_default c =
    let old = c.args.text.now.items in
    let same = ap length c.session-session.ensures in
    let none = listing-past c.args.document.now (c.args.number - 1)
    (λ within. true-false (sym (c.in_default.ensures.there.1 (c.requires, omega (arith, within, same, c.requires))))) in
    sym (append-nil old) ∙ ap (λ rows. old ++ rows) (sym none)

pub returns-in_default-outcome : goal.returns-in_default-outcome
returns-in_default-outcome c =
    let old = c.args.text.now.items in
    let same = ap length c.session-session.ensures in
    let long = length-outcomes c.session-session.result.now.lines in
    let none = listing-past c.args.document.now (c.args.number - 1)
    (λ within. true-false (sym (c.in_default-outcome.ensures.there.1 (c.requires, omega (arith, within, same, long, c.requires))))) in
    sym (append-nil old) ∙ ap (λ rows. old ++ rows) (sym none)

pub returns : goal.returns
returns c =
    let number = c.args.number in
    let line_is = sym (λ i. slice_get (c.session-session.ensures i) (number - 1)) ∙ c.in-Some.ensures.line in
    let outcome_is = sym (λ i. slice_get (outcomes_of (c.session-session.ensures i)) (number - 1)) ∙ c.in-Some-outcome.ensures.outcome in
    on_ok_weaker c.push_rows.result
    (listing-pushed c.args.document.now number c.in-Some.line.now c.bytes.result.now c.in-Some-outcome.outcome.now c.rows.result.now c.args.text.now.items
    c.push_rows.new.text.items c.requires c.bytes.ensures.value c.rows.ensures line_is outcome_is) c.push_rows.ensures
