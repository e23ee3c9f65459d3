use Rattle.std.proofs.Common.{◌++◌, ap, ◌∙◌, append_assoc, length}
use Rattle.std.specs.Prelude.{codes, decimal}
use Rattle.cps_input.specs.Words.{unit_of}
use Rattle.cps_input.proofs.character_fault.push_excess.Goals as goal

pub returns : goal.returns
returns c =
    let text = c.args.text.now.items in
    let line = c.args.line.now in
    let count = codes "the line has " ++ decimal (length line) in
    c.in_ok-push_text.ensures
    ∙ ap (λ front. front ++ codes ", and 90 are the most") (c.in_ok-push_number.ensures ∙ ap (λ unit. text ++ (count ++ unit)) c.unit_of.ensures)
    ∙ append_assoc text (count ++ unit_of line) (codes ", and 90 are the most")
