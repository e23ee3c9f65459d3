use Rattle.cps_text.specs.Parts.{ends_part}
use Rattle.cps_text.proofs.PlaceLemmas.{position_or_len-none}
use Rattle.cps_text.proofs.operand.first_end.Goals as goal

pub returns-in-None-clause-place : goal.returns-in-None-clause-place
returns-in-None-clause-place c = position_or_len-none ends_part c.args.text.now c.in-None.ensures.place
