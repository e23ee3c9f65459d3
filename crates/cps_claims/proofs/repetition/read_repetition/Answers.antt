use Rattle.cps_claims.proofs.repetition.read_repetition.Goals as goal

pub returns-in_default-clause-within : goal.returns-in_default-clause-within
returns-in_default-clause-within c = c.unread_at.ensures.within c.args.layout.form c.args.digits.now.items

pub returns-in_default-place-clause-within : goal.returns-in_default-place-clause-within
returns-in_default-place-clause-within c = c.unread_at-in_default-place.ensures.within c.args.layout.form c.args.digits.now.items
