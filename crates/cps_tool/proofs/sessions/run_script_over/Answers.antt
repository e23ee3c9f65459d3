use Rattle.std.specs.Prelude.{Ok}
use Rattle.cps_tool.proofs.sessions.run_script_over.Goals as goal

pub returns-in-Ok-clause-runs : goal.returns-in-Ok-clause-runs
returns-in-Ok-clause-runs g c = (Ok c.in-Ok.count, c.run_script-ran.new.session.lines, c.status_of_count.ensures, c.in-Ok.ensures.run)
