use Rattle.cps_text.specs.Text.{is_filled}
use Rattle.cps_text.proofs.PlaceLemmas.{position_or_len-none}
use Rattle.cps_text.proofs.places.first_filled.Goals as goal

pub returns-in-None-clause-place : goal.returns-in-None-clause-place
returns-in-None-clause-place c = position_or_len-none is_filled c.args.text.now c.in-None.ensures.place
