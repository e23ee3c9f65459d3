use Rattle.cps_pass.proofs.SiteLemmas.{starts}
use Rattle.cps_pass.proofs.placing.word_start.Goals as goal

pub returns-clause-starts : goal.returns-clause-starts
returns-clause-starts c = starts c.args.site c.leave_word.result.start c.requires c.leave_word.ensures.not_before c.leave_word.ensures.word
