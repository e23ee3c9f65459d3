use Rattle.cps_mention.proofs.CallLineLemmas.{text-put_in}
use Rattle.cps_mention.proofs.what_is_put_is_inserted.Goals as goal

pub returns : goal.returns
returns c = text-put_in
