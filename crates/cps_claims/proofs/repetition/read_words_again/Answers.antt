use Rattle.cps_claims.proofs.repetition.read_words_again.Goals as goal

pub returns-then-not-comes_out_even-clause-within : goal.returns-then-not-comes_out_even-clause-within
returns-then-not-comes_out_even-clause-within c = c.unread_at.ensures.within c.args.layout.form c.args.digits.now.items

pub returns-then-not-fits-clause-within : goal.returns-then-not-fits-clause-within
returns-then-not-fits-clause-within c = c.unread_at-then-not-fits.ensures.within c.args.layout.form c.args.digits.now.items
