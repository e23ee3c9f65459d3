use Rattle.std.proofs.Common.{take}
use Rattle.std.specs.Prelude.{flat_map}
use Rattle.cps_server.specs.Completions.{with_digits}
use Rattle.cps_server.specs.Code.Telling.{AddsOffers, sorted_offers, texts}
use Rattle.cps_server.proofs.completions.push_registers.Given as goal

abbrev pub invariant-loop-letter : goal.invariant-loop-letter
invariant-loop-letter l = AddsOffers l.range (sorted_offers l.sort (flat_map with_digits (texts (take l.letter-index l.letters)))) l.fn.told.items l.told.items
