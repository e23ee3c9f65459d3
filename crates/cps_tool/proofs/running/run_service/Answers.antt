use Rattle.std.specs.Prelude.{Ok, Err}
use Rattle.cps_tool.proofs.running.run_service.Goals as goal

pub returns-in-Ok-clause-calls : goal.returns-in-Ok-clause-calls
returns-in-Ok-clause-calls g c = (Ok c.in-Ok.was_shut_down, c.status_of_end.ensures, c.in-Ok.ensures)

pub returns-in-Err-clause-calls : goal.returns-in-Err-clause-calls
returns-in-Err-clause-calls g c = (Err c.in-Err.fault, c.complain_of.ensures, c.in-Err.ensures)
