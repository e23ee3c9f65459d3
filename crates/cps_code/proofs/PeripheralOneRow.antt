-- Each operation stands in one row, by a comparison of all pairs of the table.
use Rattle.std.proofs.Common.{◌≡◌, ◌≢◌, Bool, true, refl}
use Rattle.std.proofs.lemmas.Bool.Decides.{not_from_Decides}
use Rattle.std.proofs.lemmas.Slice.Eq.{bytes_eq-Decides}
use Rattle.std.specs.Prelude.{bytes_eq}
use Rattle.cps_code.proofs.PairLemmas.{no_clash, pairs_apart}
use Rattle.cps_code.specs.PeripheralOneRow.{OneRowEach}
use Rattle.cps_code.specs.PeripheralTable.{Row, pp_table}

abbrev same_operation : Row → Row → Bool
same_operation row other = bytes_eq row.operation other.operation

none_same : no_clash same_operation pp_table ≡ true
unfolding pp_table
none_same = refl

pub one_row_each : OneRowEach
one_row_each =
    pairs_apart same_operation (λ row other. row.operation ≢ other.operation)
    (λ row other. not_from_Decides (same_operation row other) (bytes_eq-Decides row.operation other.operation))
    pp_table none_same
