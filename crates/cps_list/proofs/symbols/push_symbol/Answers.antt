use Rattle.std.proofs.Common.{◌++◌, codes, ap, ◌∙◌, append_assoc}
use Rattle.cps_text.specs.Name.{name_text}
use Rattle.cps_list.specs.Columns.{at_left}
use Rattle.cps_list.specs.Code.Front.{with_text}
use Rattle.cps_list.specs.Symbols.{value_text, lines_text}
use Rattle.cps_list.proofs.symbols.push_symbol.Goals as goal

pub returns : goal.returns
returns c =
    let text = c.args.text.now.items in
    let lines = lines_text c.args.mentions.now in
    let row = at_left 30 (with_text (name_text c.args.name) 10 (value_text c.symbol_value.result)) in
    let front = c.in_ok-push_front.ensures in
    c.in_ok-push.ensures.items
    ∙ ap (λ t. t ++ codes "\n") (c.in_ok-push_lines.ensures ∙ ap (λ t. t ++ lines) front ∙ append_assoc text row lines)
    ∙ append_assoc text (row ++ lines) (codes "\n")
    ∙ ap (λ value. text ++ (at_left 30 (with_text (name_text c.args.name) 10 (value_text value)) ++ lines ++ codes "\n")) c.symbol_value.ensures
