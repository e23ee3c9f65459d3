use Rattle.cps_chunk.proofs.EditCounts.{ones-counted}
use Rattle.cps_chunk.proofs.edits.disturbed_lines_are_counted.Goals as goal

pub returns : goal.returns
returns c = ones-counted
