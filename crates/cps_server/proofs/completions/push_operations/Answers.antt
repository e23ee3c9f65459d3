use Rattle.std.proofs.Common.{◌++◌, subst, ◌∙◌}
use Rattle.std.proofs.lemmas.Result.{on_ok_weaker}
use Rattle.cps_server.specs.Completions.{instruction_offers, macro_offers, macros_in, statement_offers}
use Rattle.cps_server.specs.Code.Telling.{AddsOffers}
use Rattle.cps_server.proofs.CompletionLemmas.{adds-both}
use Rattle.cps_server.proofs.completions.push_operations.Goals as goal

pub returns : goal.returns
returns c =
    let range = c.args.range.now in
    let old = c.args.told.now.items in
    let first = c.push_macros.new.told.items in
    let second = c.push_statements.new.told.items in
    let macros = macro_offers (macros_in c.args.document.now) in
    let named = subst (λ names. AddsOffers range (macro_offers names) old first) (c.as_slice.ensures.keys ∙ c.in_ok-macros.ensures) c.in_ok-push_macros.ensures in
    on_ok_weaker c.push_instructions.result
    (adds-both range (macros ++ statement_offers) (instruction_offers c.args.machine) old second _
    (adds-both range macros statement_offers old first second named c.in_ok-push_statements.ensures)) c.push_instructions.ensures
