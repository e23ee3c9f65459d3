use Rattle.std.proofs.Common.{arith, subst, sym}
use Rattle.std.specs.Fmt.{decimal}
use Rattle.cps_drift.specs.Code.Rows.{IsPlain}
use Rattle.cps_drift.proofs.PlainLemmas.{plain-append, decimal-plain}
use Rattle.cps_drift.proofs.row_text.push_number.Goals as goal

pub returns : goal.returns
returns c =
    let digits = decimal c.args.number in
    λ plain. subst IsPlain (sym c.in_ok-push_decimal.ensures) (plain-append c.args.row.now.items digits plain (decimal-plain c.args.number (omega (arith, c.ranges.number))))
