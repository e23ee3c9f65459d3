-- A source that is assembled, as its texts show it. Our own.
use Rattle.std.specs.Prelude.{ℕ, Bool, List}
use Rattle.cps_final.specs.Finals.{Finals}
use Rattle.cps_final.specs.Outcome.{Outcome}

-- its lines, what pass two makes of each, what stands after the last, and whether a range is open there
pub record Assembly : Type 0 where
  pub lines : List (List ℕ)
  pub outcomes : List Outcome
  pub finals : Finals
  pub is_open : Bool
