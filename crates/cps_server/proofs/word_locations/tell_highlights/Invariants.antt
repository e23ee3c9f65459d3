use Rattle.std.proofs.Common.{List, ◌++◌, drop, map}
use Rattle.std.specs.List.{AllZip}
use Rattle.serde_json.specs.Data.{Data}
use Rattle.serde_json.specs.View.{view}
use Rattle.cps_server.specs.Results.{TellsHighlight}
use Rattle.cps_server.proofs.word_locations.tell_highlights.Given as goal

-- whatever tells the mentions that are left, tells all of them behind what is told so far
abbrev pub invariant-loop-mention : goal.invariant-loop-mention
invariant-loop-mention l =
    (rest : List Data) → AllZip TellsHighlight (drop l.mention-index l.mentions) rest
    → AllZip TellsHighlight l.mentions (map view l.told.items ++ rest)
