use Rattle.std.proofs.Common.{rules, ◌≡◌, [], ◌++◌, ap, ◌∙◌}
use Rattle.cps_final.specs.contracts.finals.FinalsGathered.TheImpl.{gathered-value}
use Rattle.cps_edit.specs.Assembly.{assembly_of}
use Rattle.cps_server.specs.Document.{source_of_text}
use Rattle.cps_list.specs.Symbols as texts
use Rattle.cps_server.proofs.HintLemmas.{valued}
use Rattle.cps_server.proofs.symbols.value_text.Goals as goal

pub returns : goal.returns
returns c =
    let empty : c.new-text.result.items ≡ [] = search rules in
    c.in_ok-push_value.ensures ∙ ap (λ t. t ++ texts.value_text c.symbol_value.result) empty
    ∙ ap texts.value_text (valued c.symbol_value.result (gathered-value.it c.finals.result.now) (assembly_of (source_of_text c.args.document.now)).finals c.args.name c.symbol_value.ensures
    (c.finals.ensures ∙ ap (λ lines. (assembly_of lines).finals) c.session.ensures))
