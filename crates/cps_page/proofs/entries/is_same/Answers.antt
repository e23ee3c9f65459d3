use Rattle.std.proofs.Common.{sym, ◌∙◌}
use Rattle.cps_list.proofs.OrderLemmas.{same-is}
use Rattle.cps_page.proofs.entries.is_same.Goals as goal

pub returns : goal.returns
returns c = λ is. same-is c.args.one c.args.other (sym c.eq.ensures ∙ is)
