use Rattle.std.proofs.Common.{ℕ, List, refl, ap, ◌∙◌}
use Rattle.std.proofs.lemmas.Result.{on_ok_weaker}
use Rattle.cps_server.specs.Code.Writing.{columns_stretch, note_text}
use Rattle.cps_server.proofs.WritingLemmas.{note-added}
use Rattle.cps_server.proofs.told_notes.push_told_note.Goals as goal

pub returns : goal.returns
returns c =
    let at = c.args.told.line in
    let columns = c.args.told.note.columns in
    let shows = c.of-stretch.ensures ∙ ap (λ (line : List ℕ). columns_stretch c.args.deck.encoding line at columns.first columns.last) c.line_of-line.ensures in
    on_ok_weaker c.push_note.result
    (λ added. note-added c.args.deck at columns.first columns.last c.of-form.result.is_unread c.of-form.result c.of-stretch.result c.text_of.result.now
    (note_text c.of-form.result c.of-stretch.result c.text_of.result.now) c.args.list.now.items c.push_note.new.text.items c.requires c.of-form.ensures shows refl added)
    c.push_note.ensures
