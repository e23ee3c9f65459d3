-- Offers of symbols.
use Rattle.std.proofs.Common.{◌≡◌, ℕ, List, [], ◌∷◌, subst}
use Rattle.serde_json.specs.declared.value.Value.{Value}
use Rattle.cps_server.specs.Code.Telling.{AddsOffers}
use Rattle.cps_server.specs.Completions.{valued_offer}

-- the same symbol, with the same value
pub same_offer : (range : Value) (old new : List Value) {name name' value value' : List ℕ} → name ≡ name' → value ≡ value'
    → AddsOffers range (valued_offer name value ∷ []) old new → AddsOffers range (valued_offer name' value' ∷ []) old new
same_offer range old new names values added =
    subst (λ offer. AddsOffers range (offer ∷ []) old new) (λ i. valued_offer (names i) (values i)) added
