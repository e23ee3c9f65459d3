use Rattle.std.proofs.Common.{subst, ◌∙◌}
use Rattle.std.proofs.lemmas.Result.{on_ok_weaker}
use Rattle.cps_server.specs.Completions.{defined_in, register_offers, symbol_offers}
use Rattle.cps_server.specs.Code.Telling.{AddsOffers}
use Rattle.cps_server.proofs.CompletionLemmas.{adds-both}
use Rattle.cps_server.proofs.completions.push_operands.Goals as goal

pub returns : goal.returns
returns c =
    let range = c.args.range.now in
    let text = c.args.document.now in
    let old = c.args.told.now.items in
    let middle = c.push_symbols.new.told.items in
    let symbols = subst (λ names. AddsOffers range (symbol_offers text names) old middle) (c.as_slice.ensures.keys ∙ c.in_ok-names.ensures) c.in_ok-push_symbols.ensures in
    on_ok_weaker c.push_registers.result (adds-both range (symbol_offers text (defined_in text)) (register_offers c.args.machine) old middle _ symbols) c.push_registers.ensures
