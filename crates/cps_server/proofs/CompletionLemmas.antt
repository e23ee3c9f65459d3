-- Words that are offered, one after another.
use Rattle.std.proofs.Common.{◌≡◌, ◌+◌, sym, ap, ◌∙◌, List, [], ◌∷◌, ◌++◌, map, append_assoc}
use Rattle.std.proofs.lemmas.List.{map-append}
use Rattle.serde_json.specs.View.{view}
use Rattle.serde_json.specs.declared.value.Value.{Value}
use Rattle.cps_text.specs.declared.name.Name.{Name}
use Rattle.indexmap.specs.IndexSet.{insert_all}
use Rattle.cps_expr.specs.Value.{same_name}
use Rattle.cps_final.specs.Distinct.{distinct}
use Rattle.cps_final.proofs.BlockLemmas.{same_name-laws}
use Rattle.cps_final.proofs.GatherLemmas.{distinct-append}
use Rattle.cps_server.specs.Completions.{Offer, completion}
use Rattle.cps_server.specs.Code.Telling.{AddsOffers, InsertsNames}

pub adds-one : (range json : Value) (offer : Offer) (old new : List Value) → new ≡ old ++ json ∷ [] → view json ≡ completion (view range) offer → AddsOffers range (offer ∷ []) old new
adds-one range json offer old new added is =
    ap (map view) added ∙ map-append view old (json ∷ []) ∙ ap (λ d. map view old ++ d ∷ []) is

pub adds-both : (range : Value) (offers more : List Offer) (old middle new : List Value) → AddsOffers range offers old middle → AddsOffers range more middle new
    → AddsOffers range (offers ++ more) old new
adds-both range offers more old middle new first second =
    second ∙ ap (λ ds. ds ++ map (completion (view range)) more) first
    ∙ append_assoc (map view old) (map (completion (view range)) offers) (map (completion (view range)) more)
    ∙ ap (λ ds. map view old ++ ds) (sym (map-append (completion (view range)) offers more))

-- names, inserted one after another into none
pub inserted : (none found names : List Name) → none ≡ [] → InsertsNames names none found → found ≡ distinct same_name names
inserted none found names is_none inserts =
    inserts ∙ ap (λ (l : List Name). insert_all same_name l names) is_none ∙ sym (distinct-append same_name same_name-laws [] names)
