use Rattle.cps_words.specs.Same.{replaces}
use Rattle.cps_words.proofs.NameLemmas.{met-later}
use Rattle.cps_words.proofs.names.+find_replacing.Goals as goal

pub returns-in-len1-up-clause-meets : goal.returns-in-len1-up-clause-meets
returns-in-len1-up-clause-meets g t c =
    met-later (replaces (g.T.Targets.same c.args.targets.now)) c.args.name.now c.args.names.now c.find_replacing.result c.find_replacing.ensures.meets
