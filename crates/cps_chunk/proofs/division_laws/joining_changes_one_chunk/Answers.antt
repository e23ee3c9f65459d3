use Rattle.cps_chunk.proofs.DivisionLemmas.{joined-stay, joined-again}
use Rattle.cps_chunk.proofs.division_laws.joining_changes_one_chunk.Goals as goal

pub returns : goal.returns
returns c = λ n next lengths. (joined-stay n next lengths, joined-again n next lengths)
