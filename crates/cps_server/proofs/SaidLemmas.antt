-- What is added to what is said.
use Rattle.std.proofs.Common.{◌≡◌, sym, ap, ◌∙◌, ℕ, List, [], ◌∷◌, ◌++◌}
use Rattle.std.proofs.lemmas.List.{append-nil}
use Rattle.serde_json.specs.Data.{Data}
use Rattle.cps_server.specs.Frames.{frame_of_json}
use Rattle.cps_server.specs.Code.Said.{Adds}

-- one value
pub adds-one : (says : List Data → Type 0) (json : Data) (old new : List ℕ) → says (json ∷ []) → new ≡ old ++ frame_of_json json → Adds says old new
adds-one says json old new right added =
    record { said = json ∷ []; right = right; added = added ∙ ap (λ text. old ++ text) (sym (append-nil (frame_of_json json))) }

-- what says one thing, says another that follows of it
pub adds-as : (one other : List Data → Type 0) (old new : List ℕ) → ((said : List Data) → one said → other said) → Adds one old new → Adds other old new
adds-as one other old new follows adds = record { said = adds.said; right = follows adds.said adds.right; added = adds.added }
