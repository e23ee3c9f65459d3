-- The steps that were made. Our own.
use Rattle.std.specs.Prelude.{ℕ, ◌+◌, ◌-◌, ◌^◌, min, max}
use Rattle.cps_state.specs.declared.work.Tally.{Tally}
use Rattle.cps_state.specs.declared.work.Tally.TheVariants.{Ones, Twos, Looked}

-- steps of pass one, steps of pass two, and comparisons of what was kept
pub record Counts : Type 0 where
  pub ones : ℕ
  pub twos : ℕ
  pub looked : ℕ

abbrev pub no_work : Counts
no_work = record { ones = 0; twos = 0; looked = 0 }

-- so many more, up to the greatest number of 64 bits
abbrev pub counted_on : ℕ → ℕ → ℕ
counted_on count by = max count (min (count + by) (2 ^ 64 - 1))

-- one more of a kind
abbrev pub raised : Tally → Counts → Counts
raised Ones counts = record counts { ones = counted_on counts.ones 1 }
raised Twos counts = record counts { twos = counted_on counts.twos 1 }
raised Looked counts = record counts { looked = counted_on counts.looked 1 }
