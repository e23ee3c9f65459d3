use Rattle.cps_claims.proofs.ShownLemmas.{shows}
use Rattle.cps_claims.proofs.claimed_words.ClaimedWords.word.Goals as goal

pub returns-clause-shows : goal.returns-clause-shows
returns-clause-shows c = λ claims holds. shows c.args.self.now claims holds c.args.address c.kept.result c.kept.ensures
