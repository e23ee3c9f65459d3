-- How many steps and comparisons a call counts. Our own.
use Rattle.std.specs.Prelude.{◌≡◌, ◌≤◌, ℕ, Result, OnOk}
use Rattle.cps_state.specs.Work.{Counts, counted_on}

-- at most so many more, and the count is no less than it was
pub record ComparesUpTo (old new : Counts) (looks : ℕ) : Type 0 where
  pub least : old.looked ≤ new.looked
  pub most : new.looked ≤ counted_on old.looked looks

-- So many steps in each pass where the call ends well; where it doesn't, at most these, and no count is less than it was.
pub record Steps {T E : Type 0} (result : Result T E) (old new : Counts) (first second : ℕ) : Type 0 where
  pub ones : OnOk result (new.ones ≡ counted_on old.ones first)
  pub twos : OnOk result (new.twos ≡ counted_on old.twos second)
  pub ones_least : old.ones ≤ new.ones
  pub twos_least : old.twos ≤ new.twos
  pub ones_most : new.ones ≤ counted_on old.ones first
  pub twos_most : new.twos ≤ counted_on old.twos second
