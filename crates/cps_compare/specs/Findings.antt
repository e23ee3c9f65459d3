-- What is found where an octal text stands beside a source, address by address; whichever way the two are read. Our own.
use Rattle.std.specs.Prelude.{ℕ, Bool, List}
use Rattle.cps_claims.specs.Rows.{Row}

pub record Findings : Type 0 where
  -- what each row of the text is
  pub rows : List Row
  -- how many digits the text has that can be read; that can't be; and that it has twice, with two values
  pub known : ℕ → ℕ
  pub unknown : ℕ → ℕ
  pub denied : ℕ → ℕ
  -- whether the text has a digit that can be read; whether the source alone has something; whether the text has a part of it
  pub is_given : ℕ → Bool
  pub is_absent : ℕ → Bool
  pub is_in_part : ℕ → Bool
  -- whether the two are compared, whether they differ, and the rows that tell how
  pub is_compared : ℕ → Bool
  pub differs : ℕ → Bool
  pub told : ℕ → List ℕ
