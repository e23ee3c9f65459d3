use Rattle.std.proofs.Common.{◌≡◌, take}
use Rattle.std.specs.Prelude.{map}
use Rattle.cps_check.specs.Names.{row_character}
use Rattle.cps_check.proofs.names.row_name.Given as goal

abbrev pub invariant-loop-character : goal.invariant-loop-character
invariant-loop-character l = l.shown.items ≡ map row_character (take l.character-index l.name)
