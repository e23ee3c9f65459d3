use Rattle.std.proofs.Common.{◌≡◌, take}
use Rattle.std.specs.Prelude.{map}
use Rattle.cps_check.specs.Codes.{field_character}
use Rattle.cps_check.proofs.fitting.with_fields.Given as goal

abbrev pub invariant-loop-character : goal.invariant-loop-character
invariant-loop-character l = l.text.items ≡ map (field_character l.letters l.given) (take l.character-index l.shown)
