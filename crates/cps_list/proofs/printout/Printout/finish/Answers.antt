use Rattle.std.proofs.Common.{◌≡◌, ◌+◌, ◌++◌, List, ap, sym, subst, ◌∙◌}
use Rattle.cps_code.specs.Image.{Piece, ArePacked}
use Rattle.cps_state.specs.Machines.{limit}
use Rattle.cps_final.specs.Finals.{machine_of}
use Rattle.cps_final.specs.contracts.finals.FinalsGathered.TheImpl.{gathered-value}
use Rattle.cps_list.specs.Assembly.{Assembly}
use Rattle.cps_list.specs.Binary.{first_row, rows_below, pool_pieces}
use Rattle.cps_list.specs.Flagged.{count_if, end_row, count_row}
use Rattle.cps_list.specs.ListingText.{open_row}
use Rattle.cps_list.specs.Code.Making.{Printout, IsPrintoutOf, shown, shows_binary, shows_symbols}
use Rattle.cps_list.specs.Symbols.{mentions_from, symbol_rows}
use Rattle.cps_list.specs.Texts.{text_of}
use Rattle.cps_list.proofs.PrintoutLemmas.{text-whole}
use Rattle.cps_list.proofs.printout.Printout.finish.Goals as goal

pub returns-clause-text : goal.returns-clause-text
returns-clause-text c = λ lines outcomes so are_mentions.
    let old = c.self.inside in
    let finals = gathered-value.it c.args.finals.now in
    let is_open = c.args.is_open in
    let a : Assembly = record { lines = lines; outcomes = outcomes; finals = finals; is_open = is_open } in
    let mentions = c.args.mentions.items in
    let so-now = subst (IsPrintoutOf lines outcomes) (sym c.self.view_is) so in
    let named = are_mentions ∙ ap (λ (s : Printout). shown (shows_symbols s.part) (mentions_from 1 outcomes)) (sym c.self.view_is) in
    let count = c.with_end-count.ensures ∙ ap (λ n. n + count_if is_open) so-now.flagged in
    let one = c.in_ok-end_listing.ensures ∙ ap (λ is_shown. old.listing.items ++ shown is_shown (open_row is_open)) c.shows_listing.ensures in
    let two : (pieces : List Piece) → ArePacked pieces old.words → c.show_words.new.text.items
    ≡ c.end_listing.new.text.items ++ shown (shows_binary old.part) (first_row finals.program ++ rows_below (limit (machine_of finals)) (machine_of finals) (pieces ++ pool_pieces finals)) =
    λ pieces packed.
    c.in_ok-show_words.ensures pieces packed
    ∙ ap (λ is_shown. c.end_listing.new.text.items ++ shown is_shown (first_row finals.program ++ rows_below (limit (machine_of finals)) (machine_of finals) (pieces ++ pool_pieces finals))) c.shows_binary.ensures in
    let three = c.in_ok-show_symbols.ensures ∙ ap (λ is_shown. c.show_words.new.text.items ++ shown is_shown (symbol_rows finals mentions)) c.shows_symbols.ensures in
    let four = c.in_ok-show_flags.ensures
    ∙ (λ i. c.show_symbols.new.text.items ++ shown (c.shows_flags.ensures i) (c.deref.ensures.value i ++ end_row is_open ++ count_row c.with_end-count.result)) in (
      text-whole a _ mentions c.with_end-count.result c.end_listing.new.text.items c.show_words.new.text.items c.show_symbols.new.text.items c.show_flags.new.text.items
          so-now named count one two three four ∙ ap (λ (s : Printout). text_of s.part a) c.self.view_is,
      count,
    )
