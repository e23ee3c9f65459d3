use Rattle.std.proofs.Common.{◌≡◌, ℕ, suc, List, [], ◌∷◌, length, refl, ap}
use Rattle.cps_claims.specs.declared.layout.OctalLayout.{OctalLayout}
use Rattle.cps_claims.specs.declared.stand.RowStand.{RowStand}
use Rattle.cps_claims.specs.Columns.{columns_read}
use Rattle.cps_claims.specs.Parts.{parts_of}
use Rattle.cps_claims.specs.Rows.{at_first, row_among, first_address, digits_behind, rows_from}
use Rattle.cps_claims.proofs.each_row_is_one.Goals as goal

as-long : (layout : OctalLayout) (stand : RowStand) (digits : List ℕ) (rows : List (List ℕ)) → length (rows_from layout stand digits rows) ≡ length rows
as-long layout stand digits [] = refl
as-long layout stand digits (row ∷ rows) =
    let got = row_among layout stand digits (parts_of (columns_read layout.columns row)) (first_address layout rows) in
    ap suc (as-long layout got.1 (digits_behind digits got.0) rows)

pub returns : goal.returns
returns c = λ layout rows. as-long layout at_first [] rows
