use Rattle.std.proofs.Common.{refl}
use Rattle.std.specs.Prelude.{Ok, Err}
use Rattle.cps_tool.proofs.disassembling.run_set_up.Goals as goal

pub returns-in-Ok-clause-calls : goal.returns-in-Ok-clause-calls
returns-in-Ok-clause-calls g c = (Ok tt, refl, c.in-Ok.ensures.run)

pub returns-in-Err-clause-calls : goal.returns-in-Err-clause-calls
returns-in-Err-clause-calls g c = (Err c.in-Err.fault, c.complain_of.ensures, c.in-Err.ensures.run)
