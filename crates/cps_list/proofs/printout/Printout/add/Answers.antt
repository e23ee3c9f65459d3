use Rattle.std.proofs.Common.{List, ◌+◌, ◌++◌, ap, sym, ◌∙◌, subst}
use Rattle.std.specs.Prelude.{map}
use Rattle.cps_code.specs.Image.{Piece, piece_of}
use Rattle.cps_state.specs.Flags.{has_flag}
use Rattle.cps_list.specs.Flagged.{flag_row, count_if}
use Rattle.cps_list.specs.ListingText.{line_rows}
use Rattle.cps_list.specs.Code.Making.{Adds, IsPrintoutOf, shown}
use Rattle.cps_list.proofs.PrintoutLemmas.{line-more}
use Rattle.cps_list.proofs.printout.Printout.add.Goals as goal

pub returns-clause-printout : goal.returns-clause-printout
returns-clause-printout c = λ lines outcomes outcome so at are_rows are_pieces.
    let old = c.self.inside in
    let rows = c.args.rows.now in
    let pieces : List Piece = map piece_of c.args.pieces.now in
    line-more _ c.add_listing.new.listing.items c.add_flags.new.text.items c.add_words.new.words _ c.args.number lines outcomes c.args.line.now outcome rows pieces
    (subst (IsPrintoutOf lines outcomes) (sym c.self.view_is) so) at are_rows are_pieces
    (c.in_ok-add_listing.ensures ∙ ap (λ is_shown. old.listing.items ++ shown is_shown (line_rows c.args.number c.args.line.now rows)) c.shows_listing.ensures)
    (subst (λ is_shown. Adds (shown is_shown pieces) old.words c.add_words.new.words) c.shows_binary.ensures c.in_ok-add_words.ensures)
    (c.in_ok-add_flags.ensures ∙ (λ i. old.flags.items ++ shown (c.shows_flags.ensures i) (flag_row c.args.number (c.flags_in-flags.ensures i))))
    (ap (λ n. old.flagged + n) (c.count_of.ensures.count ∙ ap (λ flags. count_if (has_flag flags)) c.flags_in-flags.ensures))
