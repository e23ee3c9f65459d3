use Rattle.std.proofs.Common.{inr, [], ◌∷◌, ◌++◌}
use Rattle.std.proofs.lemmas.List.Elements.{All-push}
use Rattle.cps_server.specs.Diagnostics.{TellsBeside}
use Rattle.cps_server.specs.Code.Writing.{listener_of}
use Rattle.cps_server.proofs.WritingLemmas.{idle-behind, none-beside}
use Rattle.cps_server.proofs.told_notes.push_told.Goals as goal

pub loop-note-init : goal.loop-note-init
loop-note-init c = none-beside (listener_of c.args.deck) c.args.deck.document.now c.args.later c.args.list.now.items

pub loop-note-preserved : goal.loop-note-preserved
loop-note-preserved c =
    let told = c.loop-note.invariant.0 in
    let json = c.in_ok-push_told_note.ensures.0 in (
      told ++ json ∷ [],
      All-push (TellsBeside (listener_of c.args.deck) c.args.deck.document.now) told json c.loop-note.invariant.1 (inr c.in_ok-push_told_note.ensures.1),
      λ rest. idle-behind c.loop-note.later json told rest c.args.later c.args.list.now.items c.loop-note.list.items c.push_comma.new.text.items
          c.push_told_note.new.list.items c.in_ok-push_comma.ensures c.in_ok-push_told_note.ensures.2 (c.loop-note.invariant.2 (json ∷ rest)),
    )
