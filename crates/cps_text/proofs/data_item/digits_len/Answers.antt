use Rattle.cps_text.specs.ItemInFront.{is_no_digit}
use Rattle.cps_text.proofs.PlaceLemmas.{position_or_len-none}
use Rattle.cps_text.proofs.data_item.digits_len.Goals as goal

pub returns-in-None-clause-place : goal.returns-in-None-clause-place
returns-in-None-clause-place c = position_or_len-none is_no_digit c.args.text.now c.in-None.ensures.place
