use Rattle.std.proofs.Common.{◌≡◌, ◌-◌, ◌∙◌}
use Rattle.serde_json.specs.View.{view}
use Rattle.cps_text.specs.Name.{name_text}
use Rattle.cps_list.specs.Symbols.{value_of, value_text}
use Rattle.cps_server.specs.declared.outline_row.OutlineRow.{OutlineRow}
use Rattle.cps_server.specs.Results.{finals_in}
use Rattle.cps_server.proofs.OutlineLemmas.{outlined-as, row-placed}
use Rattle.cps_server.proofs.symbols.tell_symbol.Goals as goal

pub returns : goal.returns
returns c =
    let row : OutlineRow = record { line = c.saturating_sub-line.result; json = c.in_ok-json.json } in
    let mention = c.args.definition.now in
    let detail : c.deref.result.now ≡ value_text (value_of (finals_in c.args.deck.document.now) mention.name) = c.deref.ensures.value ∙ c.in_ok-value.ensures in
    let name : c.text.result.now ≡ name_text mention.name = c.text.ensures in
    let line : c.saturating_sub-line.result ≡ mention.line - 1 = c.saturating_sub-line.ensures in (
      outlined-as 14 c.deref.result.now _ c.text.result.now _ c.saturating_sub-line.result _ (view c.in_ok-json.json) detail name line c.in_ok-json.ensures,
      row-placed 14 c.deref.result.now c.text.result.now row c.in_ok-json.ensures,
    )
