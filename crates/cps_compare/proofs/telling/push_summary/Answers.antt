use Rattle.std.proofs.Common.{ℕ, ◌++◌, length, ap, ◌∙◌, codes}
use Rattle.std.specs.Prelude.{slice_get}
use Rattle.std.specs.List.{count_by}
use Rattle.cps_claims.specs.Reading.{is_other, unread_from, first_other_from}
use Rattle.cps_compare.specs.Runs.{addresses}
use Rattle.cps_compare.specs.Summary.{one_if, compared_row, tally_row, unread_row, other_row, differing_row, count_differing}
use Rattle.cps_compare.proofs.TextLemmas.{eight-pieces}
use Rattle.cps_compare.proofs.telling.push_summary.Goals as goal

pub returns : goal.returns
returns c = λ found reading tallies.
    let low = c.args.span.low in
    let high = c.args.span.high in
    let among = addresses low high in
    let rows = unread_from 1 found.rows in
    let absent : ℕ → ℕ = λ address. one_if (found.is_absent address) in
    let in_part : ℕ → ℕ = λ address. one_if (found.is_in_part address) in
    eight-pieces c.args.text.now.items (compared_row found among)
    (tally_row (codes "unknown: ") (codes " digits") found.unknown among)
    (tally_row (codes "twice: ") (codes " digits with two values") found.denied among)
    (tally_row (codes "not given: ") (codes " words of the deck") absent among)
    (tally_row (codes "in part: ") (codes " words") in_part among)
    (unread_row (length rows) (slice_get rows 0))
    (other_row (count_by is_other found.rows) (first_other_from 1 found.rows))
    (differing_row (count_differing found low high) (count_by found.is_compared among) low high)
    _ _ _ _ _ _ _ _
    (c.in_ok-push_compared.ensures found among tallies reading.count_read)
    (c.in_ok-push_tally.ensures found.unknown among tallies.unknown)
    (c.in_ok-push_tally-2.ensures found.denied among tallies.denied)
    (c.in_ok-push_tally-3.ensures absent among tallies.absent)
    (c.in_ok-push_tally-4.ensures in_part among tallies.in_part)
    (c.in_ok-push_unread.ensures
    ∙ (λ i. c.push_tally-4.new.text.items ++ unread_row ((c.unread_count.ensures ∙ ap length reading.unread_rows) i) ((c.first_unread.ensures ∙ ap (λ l. slice_get l 0) reading.unread_rows) i)))
    (c.in_ok-push_other.ensures ∙ (λ i. c.push_unread.new.text.items ++ other_row (reading.count_other i) (reading.first_other i)))
    (c.in_ok-push_differing.ensures ∙ (λ i. c.push_other.new.text.items ++ differing_row (tallies.differing.count i) (tallies.compared.count i) low high))
