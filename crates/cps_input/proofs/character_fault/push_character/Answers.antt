use Rattle.std.proofs.Common.{◌++◌, ap, ◌∙◌}
use Rattle.cps_input.specs.Words.{is_none}
use Rattle.cps_input.proofs.WordLemmas.{other-words}
use Rattle.cps_input.proofs.character_fault.push_character.Goals as goal

pub returns : goal.returns
returns c =
    c.in_ok-push_text.ensures
    ∙ ap (λ front. front ++ is_none) c.in_ok-push_character_text.ensures
    ∙ other-words c.args.text.now.items c.args.character c.if-character-eq9.false c.if-character-eq13.false
