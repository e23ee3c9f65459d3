use Rattle.std.specs.Prelude.{Ok, Err}
use Rattle.cps_tool.proofs.running.run_batch.Goals as goal

pub returns-in-Ok-clause-calls : goal.returns-in-Ok-clause-calls
returns-in-Ok-clause-calls g c = (Ok c.in-Ok.count, c.status_of_count.ensures, c.in-Ok.ensures.run)

pub returns-in-Err-clause-calls : goal.returns-in-Err-clause-calls
returns-in-Err-clause-calls g c = (Err c.in-Err.fault, c.complain_of_batch.ensures, c.in-Err.ensures.run)
