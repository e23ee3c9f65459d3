use Rattle.cps_expr.proofs.TermsReading.{IsSignAt, left-first}
use Rattle.cps_expr.proofs.signs.first_term.Goals as goal

pub returns-clause-terms : goal.returns-clause-terms
returns-clause-terms c = λ radix is_minus.
    let e = c.sign_at.ensures in
    let at : IsSignAt c.args.text.now c.sign_at.result = record { within = e.within; before = e.before; found = e.found } in
    rw c.split_at.ensures.front
    (left-first radix is_minus (λ rest. rest.now) c.sign_at.result c.args.text.now c.behind_sign.result at (rw c.split_at.ensures.back at c.behind_sign.ensures))
