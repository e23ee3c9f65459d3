use Rattle.std.proofs.Common.{drop}
use Rattle.cps_chunk.specs.Sparse.{renewed}
use Rattle.cps_chunk.specs.Code.Storing.{StoresSome}
use Rattle.cps_chunk.proofs.storing.store_renewed.Given as goal

abbrev pub invariant-loop-new : goal.invariant-loop-new
invariant-loop-new l = StoresSome l.initial.storage l.storage l.from l.olds (renewed l.from l.news l.olds) l.done (drop l.new-index l.news)
