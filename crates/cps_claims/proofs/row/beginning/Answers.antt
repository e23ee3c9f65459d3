use Rattle.cps_claims.proofs.row.beginning.Goals as goal

pub returns-then-digits-size-clause-within : goal.returns-then-digits-size-clause-within
returns-then-digits-size-clause-within c = c.unread_at.ensures.within c.args.layout.form c.args.digits.now
