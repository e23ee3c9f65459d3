use Rattle.std.proofs.Common.{rules, ◌≡◌, map}
use Rattle.serde_json.specs.Data.{array}
use Rattle.serde_json.specs.View.{items_of, view}
use Rattle.cps_server.specs.Code.Outlining.{row_json}
use Rattle.cps_server.proofs.symbols.tell_symbols.Goals as goal

pub returns : goal.returns
returns c =
    let told : view c.from.result ≡ array (items_of (map view c.in_ok-told.told.items)) = search rules in
    record {
      rows = map row_json c.in_ok-rows.rows.items;
      named = c.in_ok-rows.ensures.named;
      told = map view c.in_ok-told.told.items;
      laid_out = c.in_ok-told.ensures;
      is = told;
    }
