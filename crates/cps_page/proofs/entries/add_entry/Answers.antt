use Rattle.std.proofs.Common.{sym, ◌∙◌}
use Rattle.cps_page.proofs.EntryLemmas.{entry-skipped, and-both}
use Rattle.cps_page.proofs.entries.add_entry.Goals as goal

pub returns-then-is_first : goal.returns-then-is_first
returns-then-is_first c = λ front are.
    let both = and-both _ _ (sym c.is_first.ensures ∙ c.if-is_first.true) in
    c.in_ok-add_first.ensures front c.args.last are both.1 both.0

pub returns : goal.returns
returns c = λ front are. entry-skipped front c.args.last c.args.entries.now.items c.args.mention.now are (sym c.is_first.ensures ∙ c.if-is_first.false)
