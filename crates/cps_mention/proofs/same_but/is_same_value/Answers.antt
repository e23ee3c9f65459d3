use Rattle.std.proofs.Common.{sym, ◌∙◌}
use Rattle.cps_mention.proofs.SameButLemmas.{value-is}
use Rattle.cps_mention.proofs.same_but.is_same_value.Goals as goal

pub returns : goal.returns
returns c = λ same. value-is c.args.was c.args.is (sym c.eq.ensures ∙ same)
