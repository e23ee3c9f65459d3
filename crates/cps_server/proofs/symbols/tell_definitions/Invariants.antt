use Rattle.std.proofs.Common.{List, ◌++◌, drop}
use Rattle.std.specs.List.{AllZip}
use Rattle.cps_edit.specs.Assembly.{assembly_of}
use Rattle.cps_server.specs.declared.outline_row.OutlineRow.{OutlineRow}
use Rattle.cps_server.specs.Document.{source_of_text}
use Rattle.cps_server.specs.Outline.{TellsSymbol}
use Rattle.cps_server.specs.Code.Outlining.{TellsPlaced}
use Rattle.cps_server.proofs.symbols.tell_definitions.Given as goal

-- whatever tells the definitions that are left, tells all of them behind what is told so far
abbrev pub invariant-loop-definition : goal.invariant-loop-definition
invariant-loop-definition l =
    (rest : List OutlineRow)
    → AllZip (TellsPlaced (TellsSymbol (assembly_of (source_of_text l.deck.document.now)).finals)) (drop l.definition-index l.definitions) rest
    → AllZip (TellsPlaced (TellsSymbol (assembly_of (source_of_text l.deck.document.now)).finals)) l.definitions (l.told.items ++ rest)
