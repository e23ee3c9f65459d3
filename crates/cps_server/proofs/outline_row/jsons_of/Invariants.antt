use Rattle.std.proofs.Common.{◌≡◌, ◌++◌, length, map}
use Rattle.std.specs.Vec.Iter.{into_iter_items, into_iter_len}
use Rattle.serde_json.specs.View.{view}
use Rattle.cps_server.specs.Code.Outlining.{row_json}
use Rattle.cps_server.proofs.outline_row.jsons_of.Given as goal

abbrev pub invariant-loop-row : goal.invariant-loop-row
invariant-loop-row l =
    (l.yielded ++ into_iter_items l.row-iterator ≡ into_iter_items l.initial.row-iterator) × (map view l.jsons.items ≡ map row_json l.yielded)
    × (into_iter_len l.row-iterator ≡ length (into_iter_items l.row-iterator))
