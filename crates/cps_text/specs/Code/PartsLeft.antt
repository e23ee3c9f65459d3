-- For the loops over parts, not part of what a reader believes: the parts that are left to come.
use Rattle.std.specs.Prelude.{ℕ, List, [], Option}
use Rattle.std.specs.Borrow.{Bor}
use Rattle.std.specs.Option.{option_map_or}
use Rattle.cps_text.specs.Parts.{parts_from}

-- none where no text is left
abbrev pub parts_left : (List ℕ → ℕ) → Option (Bor (List ℕ)) → List (List ℕ)
parts_left len left = option_map_or (λ rest. parts_from len rest.now) left []
