use Rattle.std.proofs.Common.{List, ◌++◌, drop, map}
use Rattle.std.specs.List.{AllZip}
use Rattle.serde_json.specs.Data.{Data}
use Rattle.serde_json.specs.View.{view}
use Rattle.cps_server.specs.Openers.{TellsPartner}
use Rattle.cps_server.proofs.openers.tell_partners.Given as goal

-- whatever tells the lines that are left, tells all of them behind what is told so far
abbrev pub invariant-loop-line : goal.invariant-loop-line
invariant-loop-line l =
    (rest : List Data) → AllZip TellsPartner (drop l.line-index l.lines) rest
    → AllZip TellsPartner l.lines (map view l.told.items ++ rest)
