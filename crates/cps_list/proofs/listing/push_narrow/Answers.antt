use Rattle.std.proofs.Common.{rules, ◌≡◌, ◌+◌, ◌++◌, ap, ◌∙◌, append_assoc, length, take}
use Rattle.std.proofs.Math.Seq.{take-append-add}
use Rattle.cps_list.specs.Columns.{at_left, laid_out}
use Rattle.cps_list.specs.Code.Front.{front_columns}
use Rattle.cps_list.specs.Listing.{text_shown, trimmed}
use Rattle.cps_list.proofs.FrontLemmas.{front-first, front-later, front-taken, trimmed-left}
use Rattle.cps_list.proofs.listing.push_narrow.Goals as goal

pub returns-then-row : goal.returns-then-row
returns-then-row c =
    let has = c.in_ok-push_front.ensures in
    let number = c.args.number in
    let row = c.args.row.now in
    let text = c.args.text.now.items in
    let begun = laid_out (front_columns number row) in
    let columns = c.later_columns.result in
    let few = c.later_columns.ensures.columns c.if-row.true number in
    let at : c.len-before.result ≡ length text = search rules in
    let cut : take (length text + columns) (text ++ has.front) ≡ text ++ at_left columns begun =
    take-append-add text has.front columns ∙ ap (λ t. text ++ t) (ap (take columns) has.is.filled ∙ front-taken begun columns 44 few c.later_columns.ensures.within) in
    record {
      row = at_left columns begun;
      whole = c.truncate.ensures.items ∙ (λ i. take (at i + columns) (has.whole i)) ∙ cut;
      same = trimmed-left columns begun ∙ ap (λ l. trimmed (laid_out l)) (front-later number c.args.line.now row c.requires c.if-row.true);
    }

pub returns : goal.returns
returns c =
    let has = c.in_ok-push_front.ensures in
    let row = c.args.row.now in
    let text = c.args.text.now.items in
    let shown = text_shown row.depth c.args.line.now row.text in
    let first = front-first c.args.number c.args.line.now row c.requires c.if-row.false in
    let whole : c.extend_from_slice.new.self.items ≡ text ++ (has.front ++ shown) =
    c.in_ok-extend_from_slice.ensures.items ∙ (λ i. has.whole i ++ c.text_shown.ensures i) ∙ append_assoc text has.front shown in
    record { row = has.front ++ shown; whole = whole; same = ap trimmed (ap (λ t. t ++ shown) has.is.filled ∙ first) }
