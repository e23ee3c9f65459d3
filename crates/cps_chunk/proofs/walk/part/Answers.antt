use Rattle.cps_chunk.proofs.WalkLemmas.{stretch-part}
use Rattle.cps_chunk.proofs.walk.part.Goals as goal

pub returns : goal.returns
returns c = stretch-part c.args.from c.args.to c.requires.ordered c.args.traces.now
