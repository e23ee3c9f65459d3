-- Least numbers.
use Rattle.std.specs.Prelude.{ℕ, zero, suc, ◌+◌, ◌≤◌, Bool, if◌then◌else◌}

-- the least number with a property
pub record IsLeast (P : ℕ → Type 0) (n : ℕ) : Type 0 where
  pub holds : P n
  pub least : (m : ℕ) → P m → n ≤ m

-- the first of `count` numbers, from `from` on, that passes a test; the one after them where none does
unfoldable pub first_from : (ℕ → Bool) → ℕ → ℕ → ℕ
first_from passes from zero = from
first_from passes from (suc count) = if passes from then from else first_from passes (from + 1) count
