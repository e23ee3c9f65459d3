-- The statements of an expansion that show a code at an address. Our own.
use Rattle.std.specs.Prelude.{ℕ, zero, suc, Bool, false, ◌==◌, ◌&&◌, nat_lt, List, [], ◌∷◌, ◌++◌, length, slice_get, is_some, if◌then◌else◌}
use Rattle.std.specs.Option.{option_map_or}
use Rattle.cps_final.specs.declared.row.Row.{Row}
use Rattle.cps_final.specs.Outcome.{Outcome}

abbrev pub shows_code_at : ℕ → Row → Bool
shows_code_at address row = is_some row.code && option_map_or (λ at. at == address) row.location false

-- the text of a row's statement; that of the source line itself has none
abbrev pub text_with : List ℕ → Row → List ℕ
text_with before row = if row.is_later then before else row.text

-- the texts of the rows that show a code at an address, behind a row of a statement with this text
abbrev pub texts_from : ℕ → List ℕ → List Row → List (List ℕ)
texts_from address before [] = []
texts_from address before (row ∷ rows) =
    let text = text_with before row in
    (if shows_code_at address row && nat_lt 0 (length text) then text ∷ [] else []) ++ texts_from address text rows

-- of a line, whose number counts from 1
abbrev pub statements_of : List Outcome → ℕ → ℕ → List (List ℕ)
statements_of outcomes zero address = []
statements_of outcomes (suc before) address =
    option_map_or (λ outcome. texts_from address [] outcome.rows) (slice_get outcomes before) []
