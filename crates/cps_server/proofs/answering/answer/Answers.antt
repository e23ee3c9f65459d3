use Rattle.std.specs.Prelude.{option_map}
use Rattle.serde_json.specs.View.{view}
use Rattle.cps_server.specs.declared.query.Query.TheVariants as queries
use Rattle.cps_server.proofs.QueryFloatLemmas.{tells-no-float}
use Rattle.cps_server.proofs.HintLemmas.{if-ok-as}
use Rattle.cps_server.proofs.answering.answer.Goals as goal

pub returns-in-Hover-clause-floats : goal.returns-in-Hover-clause-floats
returns-in-Hover-clause-floats c =
    if-ok-as c.answer_hover.result
    (λ told. tells-no-float queries.Hover (view c.args.params.now) c.args.deck.encoding c.args.deck.client c.args.deck.uri.now c.args.deck.document.now (option_map view told)) c.answer_hover.ensures

pub returns-in-Definition-clause-floats : goal.returns-in-Definition-clause-floats
returns-in-Definition-clause-floats c =
    if-ok-as c.answer_definition.result
    (λ told. tells-no-float queries.Definition (view c.args.params.now) c.args.deck.encoding c.args.deck.client c.args.deck.uri.now c.args.deck.document.now (option_map view told)) c.answer_definition.ensures

pub returns-in-References-clause-floats : goal.returns-in-References-clause-floats
returns-in-References-clause-floats c =
    if-ok-as c.answer_references.result
    (λ told. tells-no-float queries.References (view c.args.params.now) c.args.deck.encoding c.args.deck.client c.args.deck.uri.now c.args.deck.document.now (option_map view told)) c.answer_references.ensures

pub returns-in-Highlights-clause-floats : goal.returns-in-Highlights-clause-floats
returns-in-Highlights-clause-floats c =
    if-ok-as c.answer_highlights.result
    (λ told. tells-no-float queries.Highlights (view c.args.params.now) c.args.deck.encoding c.args.deck.client c.args.deck.uri.now c.args.deck.document.now (option_map view told)) c.answer_highlights.ensures

pub returns-in-Symbols-clause-floats : goal.returns-in-Symbols-clause-floats
returns-in-Symbols-clause-floats c =
    if-ok-as c.answer_symbols.result
    (λ told. tells-no-float queries.Symbols (view c.args.params.now) c.args.deck.encoding c.args.deck.client c.args.deck.uri.now c.args.deck.document.now (option_map view told)) c.answer_symbols.ensures

pub returns-in-Hints-clause-floats : goal.returns-in-Hints-clause-floats
returns-in-Hints-clause-floats c =
    if-ok-as c.answer_hints.result
    (λ told. tells-no-float queries.Hints (view c.args.params.now) c.args.deck.encoding c.args.deck.client c.args.deck.uri.now c.args.deck.document.now (option_map view told)) c.answer_hints.ensures

pub returns-in-Completions-clause-floats : goal.returns-in-Completions-clause-floats
returns-in-Completions-clause-floats c =
    if-ok-as c.answer_completions.result
    (λ told. tells-no-float queries.Completions (view c.args.params.now) c.args.deck.encoding c.args.deck.client c.args.deck.uri.now c.args.deck.document.now (option_map view told)) c.answer_completions.ensures

pub returns-in-Listing-clause-floats : goal.returns-in-Listing-clause-floats
returns-in-Listing-clause-floats c =
    if-ok-as c.answer_listing.result
    (λ told. tells-no-float queries.Listing (view c.args.params.now) c.args.deck.encoding c.args.deck.client c.args.deck.uri.now c.args.deck.document.now (option_map view told)) c.answer_listing.ensures

pub returns-in-FoldingRanges-clause-floats : goal.returns-in-FoldingRanges-clause-floats
returns-in-FoldingRanges-clause-floats c =
    if-ok-as c.answer_foldings.result
    (λ told. tells-no-float queries.FoldingRanges (view c.args.params.now) c.args.deck.encoding c.args.deck.client c.args.deck.uri.now c.args.deck.document.now (option_map view told)) c.answer_foldings.ensures

pub returns-in-Signatures-clause-floats : goal.returns-in-Signatures-clause-floats
returns-in-Signatures-clause-floats c =
    if-ok-as c.answer_signatures.result
    (λ told. tells-no-float queries.Signatures (view c.args.params.now) c.args.deck.encoding c.args.deck.client c.args.deck.uri.now c.args.deck.document.now (option_map view told)) c.answer_signatures.ensures

pub returns-in-Actions-clause-floats : goal.returns-in-Actions-clause-floats
returns-in-Actions-clause-floats c =
    if-ok-as c.answer_actions.result
    (λ told. tells-no-float queries.Actions (view c.args.params.now) c.args.deck.encoding c.args.deck.client c.args.deck.uri.now c.args.deck.document.now (option_map view told)) c.answer_actions.ensures

pub returns-in-Tokens-clause-floats : goal.returns-in-Tokens-clause-floats
returns-in-Tokens-clause-floats c =
    if-ok-as c.answer_tokens.result
    (λ told. tells-no-float queries.Tokens (view c.args.params.now) c.args.deck.encoding c.args.deck.client c.args.deck.uri.now c.args.deck.document.now (option_map view told)) c.answer_tokens.ensures

pub returns-in-RangeTokens-clause-floats : goal.returns-in-RangeTokens-clause-floats
returns-in-RangeTokens-clause-floats c =
    if-ok-as c.answer_range_tokens.result
    (λ told. tells-no-float queries.RangeTokens (view c.args.params.now) c.args.deck.encoding c.args.deck.client c.args.deck.uri.now c.args.deck.document.now (option_map view told)) c.answer_range_tokens.ensures

pub returns-in-Formats-clause-floats : goal.returns-in-Formats-clause-floats
returns-in-Formats-clause-floats c =
    if-ok-as c.answer_formats.result
    (λ told. tells-no-float queries.Formats (view c.args.params.now) c.args.deck.encoding c.args.deck.client c.args.deck.uri.now c.args.deck.document.now (option_map view told)) c.answer_formats.ensures

pub returns-in-RangeFormats-clause-floats : goal.returns-in-RangeFormats-clause-floats
returns-in-RangeFormats-clause-floats c =
    if-ok-as c.answer_range_formats.result
    (λ told. tells-no-float queries.RangeFormats (view c.args.params.now) c.args.deck.encoding c.args.deck.client c.args.deck.uri.now c.args.deck.document.now (option_map view told)) c.answer_range_formats.ensures
