-- Texts behind commas.
use Rattle.std.proofs.Common.{◌≡◌, ℕ, List, [], ◌∷◌, drop, refl}
use Rattle.std.specs.Prelude.{flat_map}
use Rattle.cps_text.specs.Parts.{with_commas}
use Rattle.cps_check.specs.Code.Kept.{after_comma}

pub without_first_comma : (parts : List (List ℕ)) → drop 1 (flat_map after_comma parts) ≡ with_commas parts
without_first_comma [] = refl
without_first_comma (part ∷ parts) = refl
