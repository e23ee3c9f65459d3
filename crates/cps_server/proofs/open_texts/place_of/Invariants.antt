use Rattle.std.proofs.Common.{◌≡◌, drop, map}
use Rattle.cps_server.specs.Code.Opened.{value_of}
use Rattle.cps_server.specs.ServerState.{open_under}
use Rattle.cps_server.proofs.open_texts.place_of.Given as goal

-- none of the texts so far stands under the URI
abbrev pub invariant-loop-at : goal.invariant-loop-at
invariant-loop-at l = open_under l.uri (map value_of (drop l.at l.list)) ≡ open_under l.uri (map value_of l.list)
