use Rattle.cps_server.specs.Code.Outlining.{AddsSections}
use Rattle.cps_server.proofs.outline_tree.tell_sections.Given as goal

abbrev pub invariant-loop-at : goal.invariant-loop-at
invariant-loop-at l = AddsSections l.initial.rows.items l.rows.items l.told.items
