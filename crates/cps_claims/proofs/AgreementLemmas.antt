-- Claims that agree.
use Rattle.std.proofs.Common.{◌≡◌, ℕ, ◌<◌, ◌&&◌, eqb, Bool, true, false, not, List, length, slice_index_or, refl, sym, ap, ◌∙◌, eq-eqb, true≢false}
use Rattle.std.proofs.lemmas.List.Folds.{list_any_at}
use Rattle.cps_claims.specs.Claims.{Claimed, Words, known, agrees, differs}

-- a claim that doesn't agree makes the word at its address differ
pub agrees-here : (words : Words) (claims : List Claimed) (d : Claimed) (k : ℕ) → k < length (known claims) → (b : Bool)
    → agrees words (slice_index_or (known claims) k d) ≡ b → differs words claims (slice_index_or (known claims) k d).address ≡ false → b ≡ true
agrees-here words claims d k below true is none = refl
agrees-here words claims d k below false is none =
    let claim = slice_index_or (known claims) k d in
    let here = eq-eqb claim.address claim.address refl in
    absurd (true≢false (sym (list_any_at (λ (other : Claimed). eqb other.address claim.address && not (agrees words other)) (known claims) k d below
    (ap (λ b. b && not (agrees words claim)) here ∙ ap (λ b. not b) is)) ∙ none))
