use Rattle.cps_page.proofs.words.add_word.Goals as goal

pub returns-then-is_past : goal.returns-then-is_past
returns-then-is_past c = c.in_ok-push_word.ensures c.args.last c.requires (c.is_past.ensures c.if-is_past.true)
