-- For the reading of names, not part of what a reader believes: what names begin with.
use Rattle.std.specs.Prelude.{ℕ, Bool, false, ◌||◌, List, [], ◌∷◌, codes}
use Rattle.cps_text.specs.Symbol.{begins_symbol}
use Rattle.cps_text.specs.Text.{among, capital}

-- whether a text begins as a symbol does, or a generated name
abbrev pub begins_name : List ℕ → Bool
begins_name [] = false
begins_name (character ∷ text) = begins_symbol (capital character) || among (codes "~") (capital character)
