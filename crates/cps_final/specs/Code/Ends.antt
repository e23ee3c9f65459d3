-- For the code, not part of what a reader believes: the final values before an edit and after it.
use Rattle.cps_final.specs.Outcome.{Resolved}
use Rattle.cps_final.specs.Resolving.{resolved}
use Rattle.cps_final.specs.Code.FormerFinals.{values_before}
use Rattle.cps_final.specs.declared.ends.Ends.{Ends}

abbrev pub was_of : Ends → Resolved
was_of ends = values_before (record { finals = ends.finals; patch = ends.patch })

abbrev pub now_of : Ends → Resolved
now_of ends = resolved ends.finals.now
