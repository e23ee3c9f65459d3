use Rattle.std.proofs.Common.{◌≡◌, drop}
use Rattle.cps_final.specs.Known.{values_in}
use Rattle.cps_final.specs.Resolving.{resolved}
use Rattle.cps_final.proofs.symbols.symbol_value.Given as goal

abbrev pub invariant-loop-set : goal.invariant-loop-set
invariant-loop-set l = values_in (resolved l.finals) (drop l.set-index l.held) l.name ≡ values_in (resolved l.finals) l.held l.name
