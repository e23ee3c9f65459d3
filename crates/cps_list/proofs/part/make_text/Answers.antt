use Rattle.std.proofs.Common.{sym, ap, ◌∙◌}
use Rattle.cps_list.specs.Code.Making.{shown, shows_symbols}
use Rattle.cps_list.specs.Symbols.{mentions_from}
use Rattle.cps_list.specs.Texts.{text_of}
use Rattle.cps_list.proofs.part.make_text.Goals as goal

pub returns : goal.returns
returns g c =
    let source = g.V.View.assembly c.args.view.now in
    let part = c.in_ok-printout.ensures.part in
    let mentions = c.in_ok-mentions.ensures ∙ ap (λ p. shown (shows_symbols p) (mentions_from 1 source.outcomes)) (sym part) in
    let made = c.in_ok-text.ensures.text source.lines source.outcomes c.in_ok-printout.ensures.printout mentions in
    made.0
    ∙ (λ i. text_of (part i) (record { lines = source.lines; outcomes = source.outcomes; finals = c.finals.ensures i; is_open = c.open_at_end.ensures i }))
