use Rattle.std.proofs.Common.{◌++◌, ap, ◌∙◌}
use Rattle.std.specs.Prelude.{codes}
use Rattle.cps_input.specs.Words.{is_none}
use Rattle.cps_input.proofs.WordLemmas.{stray-words}
use Rattle.cps_input.proofs.character_fault.push_stray.Goals as goal

pub returns : goal.returns
returns c =
    c.in_ok-push_text.ensures
    ∙ ap (λ front. front ++ (is_none ++ codes ", and no UTF-8")) c.in_ok-push_byte.ensures
    ∙ stray-words c.args.text.now.items c.args.byte
