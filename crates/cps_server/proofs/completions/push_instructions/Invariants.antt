use Rattle.std.proofs.Common.{take}
use Rattle.std.specs.Prelude.{flat_map}
use Rattle.cps_server.specs.Completions.{spelled}
use Rattle.cps_server.specs.Code.Telling.{AddsOffers, sorted_offers, texts}
use Rattle.cps_server.proofs.completions.push_instructions.Given as goal

abbrev pub invariant-loop-name : goal.invariant-loop-name
invariant-loop-name l = AddsOffers l.range (sorted_offers l.sort (flat_map spelled (texts (take l.name-index l.names)))) l.fn.told.items l.told.items
