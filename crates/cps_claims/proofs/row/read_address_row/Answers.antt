use Rattle.cps_claims.proofs.row.read_address_row.Goals as goal

pub returns-in-Some-clause-within : goal.returns-in-Some-clause-within
returns-in-Some-clause-within c = c.unread_at.ensures.within c.args.layout.form c.read_digits.new.digits.items
