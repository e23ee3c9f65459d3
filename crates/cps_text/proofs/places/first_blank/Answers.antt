use Rattle.cps_text.specs.Text.{is_blank}
use Rattle.cps_text.proofs.PlaceLemmas.{position_or_len-none}
use Rattle.cps_text.proofs.places.first_blank.Goals as goal

pub returns-in-None-clause-place : goal.returns-in-None-clause-place
returns-in-None-clause-place c = position_or_len-none is_blank c.args.text.now c.in-None.ensures.place
