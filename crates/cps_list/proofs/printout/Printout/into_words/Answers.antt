use Rattle.std.proofs.Common.{◌+◌, ap, sym, subst, ◌∙◌}
use Rattle.cps_code.specs.Image.{ArePacked}
use Rattle.cps_list.specs.Binary.{pieces_in}
use Rattle.cps_list.specs.Flagged.{count_if}
use Rattle.cps_list.specs.Code.Making.{Printout, IsPrintoutOf, shown, shows_binary}
use Rattle.cps_list.proofs.printout.Printout.into_words.Goals as goal

pub returns-clause-words : goal.returns-clause-words
returns-clause-words c = λ lines outcomes so.
    let old = c.self.inside in
    let so-now = subst (IsPrintoutOf lines outcomes) (sym c.self.view_is) so in
    let is_shown = ap shows_binary (ap (λ (s : Printout). s.part) c.self.view_is) ∙ c.requires.shown in
    let packed = subst (λ b. ArePacked (shown b (pieces_in outcomes)) old.words) is_shown so-now.words in (
      c.in_ok-put_pool.ensures (pieces_in outcomes) packed,
      c.with_end.ensures ∙ ap (λ n. n + count_if c.args.is_open) so-now.flagged,
    )
