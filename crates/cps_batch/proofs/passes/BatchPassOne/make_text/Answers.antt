use Rattle.std.proofs.Common.{◌≡◌, sym, ap, ◌∙◌, rules}
use Rattle.cps_final.specs.contracts.finals.FinalsGathered.TheImpl.{gathered-value}
use Rattle.cps_final.specs.Finals.{is_open_at_end}
use Rattle.cps_list.specs.Flagged.{flagged_with}
use Rattle.cps_list.specs.Code.Making.{shown, shows_symbols}
use Rattle.cps_list.specs.Symbols.{mentions_from}
use Rattle.cps_list.specs.Texts.{text_of}
use Rattle.cps_edit.specs.Assembly.{outcomes_under, traces_of}
use Rattle.cps_batch.proofs.passes.BatchPassOne.make_text.Goals as goal

pub returns : goal.returns
returns c =
    let lines = c.args.lines.now in
    let so = c.requires.passed in
    let gathered = gathered-value.it c.show.new.self.gather in
    let outcomes = outcomes_under gathered (traces_of lines) in
    let part = c.in_ok-printout.ensures.part in
    let finals = ap gathered-value.it c.in_ok-printout.ensures.gather ∙ so.gathered in
    let is_open = c.is_open_at_end.ensures ∙ ap is_open_at_end finals in
    let noted : c.replace-mentions.result.items ≡ c.args.self.now.mentions.items = search rules in
    let mentions = noted ∙ so.mentions gathered ∙ ap (λ p. shown (shows_symbols p) (mentions_from 1 outcomes)) (sym part) in
    let made = c.in_ok-text.ensures.text lines outcomes c.in_ok-printout.ensures.printout mentions in (
      made.0
          ∙ (λ i. text_of (part i) (record { lines = lines; outcomes = outcomes_under (finals i) (traces_of lines); finals = finals i; is_open = is_open i })),
      made.1 ∙ (λ i. flagged_with (is_open i) (outcomes_under (finals i) (traces_of lines))),
    )
