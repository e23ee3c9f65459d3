use Rattle.std.proofs.Common.{◌-◌, length, arith, sym, ap, ◌∙◌}
use Rattle.std.specs.Prelude.{option_map, slice_get}
use Rattle.cps_edit.specs.Assembly.{outcomes_of}
use Rattle.cps_server.proofs.QueryFloatLemmas.{true-false}
use Rattle.cps_server.proofs.HintLemmas.{beside-is, if-ok-as, none-beside}
use Rattle.cps_server.proofs.hints.text_beside.Goals as goal

pub returns-in-Some : goal.returns-in-Some
returns-in-Some c =
    let there = sym (λ i. slice_get (outcomes_of (c.session.ensures i)) (c.args.number - 1)) ∙ c.in-Some.ensures.outcome in
    if-ok-as c.hint_of.result
    (λ text. beside-is c.args.document.now (c.args.number - 1) c.rows.result.now c.in-Some.outcome.now (option_map (λ t. t.items) text) there c.rows.ensures) c.hint_of.ensures

pub returns-in-None : goal.returns-in-None
returns-in-None c =
    let same = ap (λ lines. length (outcomes_of lines)) c.session.ensures in
    sym (none-beside c.args.document.now (c.args.number - 1) (λ within. true-false (sym (c.in-None.ensures.there.1 (c.requires, omega (arith, within, same, c.requires))))))
