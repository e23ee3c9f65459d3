use Rattle.cps_chunk.proofs.EditCounts.{places-are-the-source}
use Rattle.cps_chunk.proofs.edits.counted_lines_are_the_source.Goals as goal

pub returns : goal.returns
returns c = places-are-the-source
