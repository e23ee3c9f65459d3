use Rattle.std.proofs.Common.{take, flat_map}
use Rattle.cps_final.specs.contracts.finals.FinalsGathered.TheImpl.{gathered-value}
use Rattle.cps_list.specs.Code.Making.{Adds}
use Rattle.cps_list.specs.Binary.{literal_piece}
use Rattle.cps_list.proofs.binary.put_pool.Given as goal

abbrev pub invariant-loop-word : goal.invariant-loop-word
invariant-loop-word l = Adds (flat_map (literal_piece (gathered-value.it l.finals)) (take l.word-index (gathered-value.it l.finals).pool)) l.fn.words l.words
