use Rattle.std.proofs.Common.{◌≡◌, take}
use Rattle.cps_final.specs.Rows.{with_contents}
use Rattle.cps_final.specs.Resolving.{view_of}
use Rattle.cps_final.proofs.rows.flags_with_contents.Given as goal

abbrev pub invariant-loop-content : goal.invariant-loop-content
invariant-loop-content l = l.flags ≡ with_contents (view_of l.statement).known (view_of l.statement).here l.item.made.flags (take l.content-index l.item.made.contents)
