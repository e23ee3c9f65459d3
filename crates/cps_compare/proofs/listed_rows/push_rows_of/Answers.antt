use Rattle.std.proofs.Common.{◌≡◌, ◌++◌, OnOk, ap, subst}
use Rattle.cps_compare.specs.Told.{rows_text}
use Rattle.cps_compare.proofs.listed_rows.push_rows_of.Goals as goal

pub returns : goal.returns
returns c =
    subst (λ rows. OnOk c.push_row_numbers.result (c.push_row_numbers.new.text.items ≡ c.args.text.now.items ++ rows_text rows))
    (λ i. record { first = c.by_at-first.ensures i; last = c.by_at-last.ensures i; again = 0 })
    (c.push_row_numbers.ensures 0)
