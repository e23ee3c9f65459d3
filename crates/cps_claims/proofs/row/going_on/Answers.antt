use Rattle.cps_claims.proofs.row.going_on.Goals as goal

pub returns-in_default-clause-within : goal.returns-in_default-clause-within
returns-in_default-clause-within c = c.unread_at.ensures.within c.args.layout.form c.args.digits.now

pub returns-else-fits-clause-within : goal.returns-else-fits-clause-within
returns-else-fits-clause-within c = c.unread_at-else-fits.ensures.within c.args.layout.form c.args.digits.now
