use Rattle.std.proofs.Common.{map, take}
use Rattle.cps_check.specs.Code.Adding.{Adds}
use Rattle.cps_check.specs.Reports.{note_report}
use Rattle.cps_check.proofs.told_line.ToldLine.push_notes.Given as goal

abbrev pub invariant-loop-note : goal.invariant-loop-note
invariant-loop-note l =
    Adds l.self.name.now (map (note_report l.self.number l.self.line.now) (take l.note-index l.notes)) l.fn.text.items l.text.items
