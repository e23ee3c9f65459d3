use Rattle.std.proofs.Common.{◌≡◌, ◌+◌, Bool, cond, List, [], ◌∷◌, length, refl, arith}
use Rattle.std.specs.List.{count_by}
use Rattle.std.proofs.lemmas.List.Sums.{sum_by-cons}
use Rattle.cps_claims.specs.Rows.{Row, read, blank, other, unread}
use Rattle.cps_claims.specs.Reading.{is_read, is_blank_row, is_other, is_unread}
use Rattle.cps_claims.proofs.each_row_is_counted.Goals as goal

more : (test : Row → Bool) (row : Row) (rows : List Row) → count_by test (row ∷ rows) ≡ cond (test row) 1 0 + count_by test rows
more test row rows = sum_by-cons (λ x. cond (test x) 1 0) row rows

step : (row : Row) (rows : List Row) → cond (is_read row) 1 0 + cond (is_blank_row row) 1 0 + cond (is_other row) 1 0 + cond (is_unread row) 1 0 ≡ 1
    → count_by is_read rows + count_by is_blank_row rows + count_by is_other rows + count_by is_unread rows ≡ length rows
    → count_by is_read (row ∷ rows) + count_by is_blank_row (row ∷ rows) + count_by is_other (row ∷ rows) + count_by is_unread (row ∷ rows) ≡ length (row ∷ rows)
step row rows one all =
    let a = more is_read row rows in
    let b = more is_blank_row row rows in
    let c = more is_other row rows in
    let d = more is_unread row rows in
    omega (arith, a, b, c, d, one, all)

counted : (rows : List Row) → count_by is_read rows + count_by is_blank_row rows + count_by is_other rows + count_by is_unread rows ≡ length rows
counted [] = refl
counted (read claim ∷ rows) = step (read claim) rows refl (counted rows)
counted (blank ∷ rows) = step blank rows refl (counted rows)
counted (other ∷ rows) = step other rows refl (counted rows)
counted (unread reason ∷ rows) = step (unread reason) rows refl (counted rows)

pub returns : goal.returns
returns c = counted
