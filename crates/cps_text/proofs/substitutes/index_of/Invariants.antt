use Rattle.std.proofs.Common.{take}
use Rattle.cps_text.specs.Code.Substitutes.{substitutes_value, Indexes}
use Rattle.cps_text.proofs.substitutes.index_of.Given as goal

abbrev pub invariant-loop-pair : goal.invariant-loop-pair
invariant-loop-pair l = Indexes (substitutes_value (take l.pair-index l.pairs)) l.index
