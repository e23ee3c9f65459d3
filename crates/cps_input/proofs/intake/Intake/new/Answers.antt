use Rattle.std.proofs.Common.{rules}
use Rattle.cps_input.proofs.InputLemmas.{source-none}
use Rattle.cps_input.proofs.intake.Intake.new.Goals as goal

pub returns : goal.returns
returns c = (search rules, source-none)
