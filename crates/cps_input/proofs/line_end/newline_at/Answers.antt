use Rattle.cps_input.proofs.NewlineLemmas.{first-place, first-within}
use Rattle.cps_input.proofs.line_end.newline_at.Goals as goal

pub returns-clause-place : goal.returns-clause-place
returns-clause-place c = first-place c.args.text.now c.memchr.result c.memchr.ensures

pub returns-clause-within : goal.returns-clause-within
returns-clause-within c = first-within c.args.text.now c.memchr.result c.memchr.ensures
