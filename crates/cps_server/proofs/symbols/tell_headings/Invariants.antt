use Rattle.std.proofs.Common.{List, ◌++◌, drop, map}
use Rattle.std.specs.List.{AllZip}
use Rattle.serde_json.specs.Data.{Data}
use Rattle.serde_json.specs.View.{view}
use Rattle.cps_server.specs.Outline.{TellsHeading}
use Rattle.cps_server.proofs.symbols.tell_headings.Given as goal

-- whatever tells the headings that are left, tells all of them behind what is told so far
abbrev pub invariant-loop-heading : goal.invariant-loop-heading
invariant-loop-heading l =
    (rest : List Data) → AllZip TellsHeading (drop l.heading-index l.headings) rest → AllZip TellsHeading l.headings (map view l.told.items ++ rest)
