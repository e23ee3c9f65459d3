use Rattle.std.proofs.Common.{List, map, subst}
use Rattle.std.proofs.lemmas.List.{take_all}
use Rattle.cps_check.specs.declared.notes.Note.{Note}
use Rattle.cps_check.specs.Code.Adding.{Adds}
use Rattle.cps_check.specs.Reports.{note_report}
use Rattle.cps_check.proofs.TextLemmas.{Adds-next, Adds-none}
use Rattle.cps_check.proofs.told_line.ToldLine.push_notes.Goals as goal

pub loop-note-init : goal.loop-note-init
loop-note-init c = Adds-none c.args.self.now.name.now c.args.text.now.items

pub loop-note-preserved : goal.loop-note-preserved
loop-note-preserved c =
    Adds-next c.args.self.now.name.now (note_report c.args.self.now.number c.args.self.now.line.now) c.args.notes.now c.loop-note.note-index _
    c.args.text.now.items c.loop-note.text.items c.push_note.new.text.items c.loop-note-test.true c.loop-note.invariant c.in_ok-push_note.ensures

pub returns : goal.returns
returns c =
    let report = note_report c.args.self.now.number c.args.self.now.line.now in
    subst (λ (ds : List Note). Adds c.args.self.now.name.now (map report ds) c.args.text.now.items c.loop-note.text.items)
    (take_all c.loop-note.note-index c.args.notes.now c.loop-note-test.false) c.loop-note.invariant
