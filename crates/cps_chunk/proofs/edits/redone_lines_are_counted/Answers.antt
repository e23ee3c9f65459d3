use Rattle.cps_chunk.proofs.EditCounts.{twos-counted}
use Rattle.cps_chunk.proofs.edits.redone_lines_are_counted.Goals as goal

pub returns : goal.returns
returns c = twos-counted
