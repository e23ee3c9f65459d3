use Rattle.std.proofs.Common.{List, map, ap, subst, sym, ◌∙◌}
use Rattle.std.proofs.lemmas.List.{map-append}
use Rattle.std.proofs.lemmas.List.Elements.{All-append}
use Rattle.std.specs.Prelude.{All}
use Rattle.std.specs.List.{AllZip}
use Rattle.cps_server.specs.declared.outline_row.OutlineRow.{OutlineRow}
use Rattle.cps_server.specs.Outline.{TellsMacro, TellsSymbol}
use Rattle.cps_server.specs.Results.{finals_in}
use Rattle.cps_server.specs.Code.Outlining.{IsPlaced, TellsPlaced, row_json}
use Rattle.cps_server.proofs.OutlineLemmas.{zip-told}
use Rattle.cps_server.proofs.symbols.named_rows.Goals as goal

pub returns-clause-named : goal.returns-clause-named
returns-clause-named c =
    let symbols = c.in_ok-rows.rows.items in
    let macros = c.in_ok-macros.macros.items in
    let Tells = TellsSymbol (finals_in c.args.deck.document.now) in
    record {
      symbols = map row_json symbols;
      each_symbol = (zip-told Tells _ symbols (subst (λ all. AllZip (TellsPlaced Tells) all symbols) (c.deref.ensures.value ∙ c.in_ok-definitions.ensures) c.in_ok-rows.ensures)).0;
      macros = map row_json macros;
      each_macro = (zip-told TellsMacro _ macros (subst (λ all. AllZip (TellsPlaced TellsMacro) all macros) (c.as_slice.ensures.keys ∙ c.in_ok-names.ensures) c.in_ok-macros.ensures)).0;
      are = ap (λ (rows : List OutlineRow). map row_json rows) c.in_ok-append.ensures.items ∙ map-append row_json symbols macros;
    }

pub returns-clause-placed : goal.returns-clause-placed
returns-clause-placed c =
    let symbols = c.in_ok-rows.rows.items in
    let macros = c.in_ok-macros.macros.items in
    subst (λ (rows : List OutlineRow). All IsPlaced rows) (sym c.in_ok-append.ensures.items)
    (All-append IsPlaced symbols macros (zip-told (TellsSymbol (finals_in c.args.deck.document.now)) _ symbols c.in_ok-rows.ensures).1 (zip-told TellsMacro _ macros c.in_ok-macros.ensures).1)
