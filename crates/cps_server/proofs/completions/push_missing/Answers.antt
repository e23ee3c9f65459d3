use Rattle.std.proofs.Common.{subst, ◌∙◌}
use Rattle.std.specs.Prelude.{OnOk}
use Rattle.cps_server.specs.Completions.{symbol_offers}
use Rattle.cps_server.specs.Code.Telling.{AddsOffers}
use Rattle.cps_server.proofs.completions.push_missing.Goals as goal

pub returns : goal.returns
returns c =
    subst
    (λ names. OnOk c.push_symbols.result (AddsOffers c.args.range.now (symbol_offers c.args.document.now names) c.args.told.now.items c.push_symbols.new.told.items))
    (c.as_slice.ensures.keys ∙ c.in_ok-names.ensures) c.push_symbols.ensures
