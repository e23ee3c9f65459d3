use Rattle.std.proofs.Common.{sym, ◌∙◌}
use Rattle.cps_mention.proofs.SameButLemmas.{digits-is}
use Rattle.cps_mention.proofs.same_but.are_same_digits.Goals as goal

pub returns : goal.returns
returns c = λ same. digits-is c.args.was c.args.is (sym c.eq.ensures ∙ same)
