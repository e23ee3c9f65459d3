use Rattle.std.proofs.Common.{refl}
use Rattle.cps_text.specs.Display.{display_characters}
use Rattle.cps_text.proofs.character.display_characters.Goals as goal

pub returns-clause-characters : goal.returns-clause-characters
unfolding display_characters
returns-clause-characters c = refl
