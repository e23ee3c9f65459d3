use Rattle.cps_claims.specs.Listed.{codes_from}
use Rattle.cps_claims.specs.Code.Found.{row_with}
use Rattle.cps_claims.proofs.ListedLemmas.{read-more}
use Rattle.cps_claims.proofs.own_reading.OwnReading.add.Goals as goal

pub returns-clause-row : goal.returns-clause-row
returns-clause-row c = λ before number was.
    read-more before (row_with c.args.digits.now c.args.row) c.args.number c.args.self.now _ number was
    (c.in_ok-add.ensures.kinds c.args.digits.now) (c.in_ok-add_code.ensures (codes_from 1 before) was.words)
