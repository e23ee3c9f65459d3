use Rattle.std.proofs.Common.{◌≡◌, ◌++◌, take}
use Rattle.cps_markup.specs.Markup.{escaped}
use Rattle.cps_markup.proofs.escaping.push_characters.Given as goal

abbrev pub invariant-loop-character : goal.invariant-loop-character
invariant-loop-character l = l.page.items ≡ l.fn.page.items ++ escaped (take l.character-index l.text)
