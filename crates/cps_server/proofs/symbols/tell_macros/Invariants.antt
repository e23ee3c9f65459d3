use Rattle.std.proofs.Common.{List, ◌++◌, drop}
use Rattle.std.specs.List.{AllZip}
use Rattle.cps_server.specs.declared.outline_row.OutlineRow.{OutlineRow}
use Rattle.cps_server.specs.Outline.{TellsMacro}
use Rattle.cps_server.specs.Code.Outlining.{TellsPlaced}
use Rattle.cps_server.proofs.symbols.tell_macros.Given as goal

-- whatever tells the macros that are left, tells all of them behind what is told so far
abbrev pub invariant-loop-name : goal.invariant-loop-name
invariant-loop-name l =
    (rest : List OutlineRow) → AllZip (TellsPlaced TellsMacro) (drop l.name-index l.names) rest → AllZip (TellsPlaced TellsMacro) l.names (l.told.items ++ rest)
