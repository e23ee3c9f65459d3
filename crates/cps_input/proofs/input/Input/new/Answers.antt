use Rattle.cps_input.proofs.InputLemmas.{come-none}
use Rattle.cps_input.proofs.input.Input.new.Goals as goal

pub returns : goal.returns
returns c = come-none _ c.new.ensures c.new-2.ensures
