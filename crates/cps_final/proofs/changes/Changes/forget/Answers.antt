use Rattle.cps_final.proofs.KeptLemmas.{changed-forgotten}
use Rattle.cps_final.proofs.changes.Changes.forget.Goals as goal

pub returns : goal.returns
returns c = changed-forgotten _ _ c.args.key.now c.swap_remove.ensures.updates.0
