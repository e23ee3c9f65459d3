-- The words that are wanted, as they are kept.
use Rattle.std.proofs.Common.{◌≡◌, ℕ, false, inl, inr, sym, ap, ◌∙◌, List, []}
use Rattle.std.specs.Prelude.{map}
use Rattle.std.proofs.lemmas.Bool.{cases_lt}
use Rattle.cps_claims.specs.Claims.{Claimed}
use Rattle.cps_disassembly.specs.declared.selection.Selection.{Selection}
use Rattle.cps_disassembly.specs.declared.wanted.Wanted.{Wanted}
use Rattle.cps_disassembly.specs.Makes.{is_wanted}
use Rattle.cps_disassembly.specs.Code.Kept.{IsWanted, address_in}
use Rattle.cps_disassembly.proofs.CertificateLemmas.{none-below, not-wanted}

-- where no word is kept none is wanted
pub none-wanted : (selection : Selection) (given : List Claimed) (wanted : Wanted) → IsWanted selection given wanted → wanted.words.items ≡ []
    → (address : ℕ) → is_wanted selection given address ≡ false
none-wanted selection given wanted kept none address =
    elim (cases_lt address 262144) [
      | inl within ↦ none-below (is_wanted selection given) 262144 address within (sym kept.words ∙ ap (map address_in) none)
      | inr past ↦ not-wanted selection wanted.claims given kept.claims address past
    ]
