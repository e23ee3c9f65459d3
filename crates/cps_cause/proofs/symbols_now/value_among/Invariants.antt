use Rattle.std.proofs.Common.{◌≡◌, drop}
use Rattle.cps_cause.specs.Code.SymbolsNow.{value_among}
use Rattle.cps_cause.proofs.symbols_now.value_among.Given as goal

abbrev pub invariant-loop-symbol : goal.invariant-loop-symbol
invariant-loop-symbol l = value_among (drop l.symbol-index l.symbols) l.name ≡ value_among l.symbols l.name
