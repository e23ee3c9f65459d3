use Rattle.std.proofs.Common.{arith}
use Rattle.std.proofs.lemmas.Grind.{common_steps}
use Rattle.cps_drift.proofs.drift_report.push_row.Goals as goal
use Rattle.cps_drift.proofs.PlainLemmas.{text-row}

pub returns : goal.returns
returns c = text-row c.args.text.now.items c.push.new.self.items c.args.row.now c.requires.text c.requires.plain (grind (arith, common_steps))
