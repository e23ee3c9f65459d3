use Rattle.cps_claims.proofs.row.claimed.Goals as goal

pub returns-in-None-clause-within : goal.returns-in-None-clause-within
returns-in-None-clause-within c = c.unread_at.ensures.within c.args.layout.form c.args.digits.now
