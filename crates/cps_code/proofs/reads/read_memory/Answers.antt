use Rattle.cps_code.proofs.ReadLemmas.{first_fits}
use Rattle.cps_code.proofs.reads.read_memory.Goals as goal

pub returns-clause-fits : goal.returns-clause-fits
returns-clause-fits c = first_fits c.read_operand.result c.read_last.result c.paired.result c.paired.ensures c.read_operand.ensures.fits
