use Rattle.std.proofs.Common.{subst}
use Rattle.cps_input.specs.Code.Input.{IsIntake}
use Rattle.cps_input.proofs.InputLemmas.{kept-few, refused-few, wrong-kept}
use Rattle.cps_input.proofs.intake.Intake.keep_line.Goals as goal

pub keep-requires : goal.keep-requires
keep-requires c = kept-few c.in-Kept.lines c.requires.0 (subst (λ i. IsIntake i c.requires.0) c.in-Kept.is c.requires.1)

pub returns-in-Kept : goal.returns-in-Kept
returns-in-Kept c = λ lines line is shown. c.keep.ensures lines line (subst (λ i. IsIntake i lines) c.in-Kept.is is) shown

pub count_on-requires : goal.count_on-requires
count_on-requires c = refused-few c.in-Refused.count c.requires.0 (subst (λ i. IsIntake i c.requires.0) c.in-Refused.is c.requires.1)

pub returns-in-Refused : goal.returns-in-Refused
returns-in-Refused c = λ lines line is shown. c.count_on.ensures lines line (subst (λ i. IsIntake i lines) c.in-Refused.is is) shown

pub returns-in-Faulty : goal.returns-in-Faulty
returns-in-Faulty c = λ lines line is _shown. wrong-kept _ _ lines line c.in-Faulty.is is
