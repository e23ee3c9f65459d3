use Rattle.cps_final.proofs.KeptLemmas.{changed-set}
use Rattle.cps_final.proofs.changes.Changes.set.Goals as goal

pub returns-in-Ok-clause-ok : goal.returns-in-Ok-clause-ok
returns-in-Ok-clause-ok c = changed-set _ _ c.args.key c.args.answer c.in-Ok.ensures.updates.0
