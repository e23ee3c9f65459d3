use Rattle.std.proofs.Common.{not}
use Rattle.cps_text.specs.Insertion.{is_of_run}
use Rattle.cps_text.proofs.PlaceLemmas.{position_or_len-none}
use Rattle.cps_text.proofs.run.run_end.Goals as goal

pub returns-in-None-clause-place : goal.returns-in-None-clause-place
returns-in-None-clause-place c = position_or_len-none (λ character. not (is_of_run character)) c.args.text.now c.in-None.ensures.place
