use Rattle.std.proofs.Common.{rules, ◌≡◌, [], ◌++◌, ap, ◌∙◌}
use Rattle.cps_edit.specs.Assembly.{assembly_of}
use Rattle.cps_server.specs.Symbols.{mentioned_row}
use Rattle.cps_server.proofs.rows.symbol_row.Goals as goal

pub returns : goal.returns
returns c =
    let name = c.args.name in
    let empty : c.new-row.result.items ≡ [] = search rules in
    let finals = c.finals.ensures ∙ ap (λ lines. (assembly_of lines).finals) c.session.ensures in
    let mentions = c.deref.ensures.value ∙ c.in_ok-mentions.ensures in
    c.in_ok-push_mentioned.ensures ∙ (λ i. empty i ++ mentioned_row (finals i) name (mentions i))
