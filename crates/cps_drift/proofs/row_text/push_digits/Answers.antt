use Rattle.std.proofs.Common.{subst, sym}
use Rattle.cps_text.specs.Octal.{octal}
use Rattle.cps_drift.specs.Code.Rows.{IsPlain}
use Rattle.cps_drift.proofs.PlainLemmas.{plain-append, octal-plain}
use Rattle.cps_drift.proofs.row_text.push_digits.Goals as goal

pub returns : goal.returns
returns c =
    let digits = octal c.args.digits c.args.number in
    λ plain. subst IsPlain (sym c.in_ok-push_octal.ensures.ok) (plain-append c.args.row.now.items digits plain (octal-plain c.args.digits c.args.number))
