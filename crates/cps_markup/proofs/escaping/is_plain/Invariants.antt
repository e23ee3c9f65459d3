use Rattle.std.proofs.Common.{◌≡◌, take}
use Rattle.cps_markup.specs.Markup.{escaped}
use Rattle.cps_markup.proofs.escaping.is_plain.Given as goal

abbrev pub invariant-loop-character : goal.invariant-loop-character
invariant-loop-character l = escaped (take l.character-index l.text) ≡ take l.character-index l.text
