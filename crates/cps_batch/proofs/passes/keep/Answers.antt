use Rattle.std.proofs.Common.{subst}
use Rattle.cps_batch.specs.Code.Passes.{IsAnyKept}
use Rattle.cps_batch.proofs.passes.keep.Goals as goal

pub returns-in_ok-end_line-in-Some : goal.returns-in_ok-end_line-in-Some
returns-in_ok-end_line-in-Some c = λ statements so.
    c.in_ok-end_line-in-Some.ensures statements (subst (λ kept. IsAnyKept kept c.args.scratch.now.before statements) c.in-Some.is so)
