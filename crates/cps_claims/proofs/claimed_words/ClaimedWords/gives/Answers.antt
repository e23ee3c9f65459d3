use Rattle.cps_claims.proofs.SlotLemmas.{word-given}
use Rattle.cps_claims.proofs.claimed_words.ClaimedWords.gives.Goals as goal

pub returns : goal.returns
returns c = λ claims holds. word-given c.args.self.now claims holds c.args.address c.kept.result c.is_given.result c.kept.ensures c.is_given.ensures
