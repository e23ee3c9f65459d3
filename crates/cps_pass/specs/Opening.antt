-- The statements that a statement opens. From the manual's sections on DUP, on macro calls and on LOCAL.
use Rattle.std.specs.Prelude.{ℕ, List, []}
use Rattle.cps_text.specs.Insertion.{Pairs}

pub data Opening : Type 0 where
  -- lines as they stand
  plain : List (List ℕ) → Opening
  -- the body of a call whose macro has LOCAL lines: the parameters with their arguments, those lines, and the lines behind them
  naming : Pairs → List (List ℕ) → List (List ℕ) → Opening

abbrev pub none_opened : Opening
none_opened = plain []
