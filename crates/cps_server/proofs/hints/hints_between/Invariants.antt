use Rattle.std.proofs.Common.{◌≡◌, ◌-◌, ◌++◌, map}
use Rattle.std.specs.Prelude.{flat_map}
use Rattle.std.specs.List.{range_with_len}
use Rattle.serde_json.specs.View.{view}
use Rattle.cps_server.specs.Results.{hint_at}
use Rattle.cps_server.proofs.hints.hints_between.Given as goal

-- those of the lines that are left stand behind those that are there
abbrev pub invariant-loop-number : goal.invariant-loop-number
invariant-loop-number l =
    map view l.told.items ++ flat_map (hint_at l.deck.encoding l.deck.document.now) (range_with_len l.number (l.end - l.number))
    ≡ flat_map (hint_at l.deck.encoding l.deck.document.now) (range_with_len l.first (l.end - l.first))
