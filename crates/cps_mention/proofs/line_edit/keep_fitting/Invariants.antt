use Rattle.cps_mention.proofs.LineEditLemmas.{AreBehind}
use Rattle.cps_mention.proofs.line_edit.keep_fitting.Given as goal

abbrev pub invariant-loop-edit : goal.invariant-loop-edit
invariant-loop-edit g l = AreBehind (g.V.View.assembly l.view).lines l.below l.edits.items
