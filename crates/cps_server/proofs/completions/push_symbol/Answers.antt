use Rattle.std.proofs.Common.{◌∙◌}
use Rattle.cps_server.proofs.OfferLemmas.{same_offer}
use Rattle.cps_server.proofs.completions.push_symbol.Goals as goal

pub returns : goal.returns
returns c = same_offer c.args.range.now c.args.told.now.items _ c.text.ensures (c.deref.ensures.value ∙ c.in_ok-value.ensures) c.in_ok-push_constant.ensures
