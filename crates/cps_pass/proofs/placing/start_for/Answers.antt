use Rattle.cps_pass.proofs.SiteLemmas.{starts}
use Rattle.cps_pass.proofs.placing.start_for.Goals as goal

pub returns-clause-starts : goal.returns-clause-starts
returns-clause-starts c = starts c.args.site c.begin.result.start c.requires.site c.begin.ensures.not_before c.begin.ensures.word
