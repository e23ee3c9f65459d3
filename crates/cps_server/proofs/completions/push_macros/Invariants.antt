use Rattle.std.proofs.Common.{take}
use Rattle.cps_server.specs.Completions.{macro_offers}
use Rattle.cps_server.specs.Code.Telling.{AddsOffers}
use Rattle.cps_server.proofs.completions.push_macros.Given as goal

abbrev pub invariant-loop-name : goal.invariant-loop-name
invariant-loop-name l = AddsOffers l.range (macro_offers (take l.name-index l.names)) l.fn.told.items l.told.items
