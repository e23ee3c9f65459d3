-- What is left of a count.
use Rattle.std.proofs.Common.{◌≡◌, ℕ, ◌+◌, ◌≤◌, arith}
use Rattle.cps_state.specs.Work.{counted_on}

pub counted-left : (w v e by left all : ℕ) → v ≡ counted_on w by → all ≡ by + left → counted_on w all ≡ e → counted_on v left ≡ e
counted-left w v e by left all p q r = omega arith

pub counted-before : (w v e by left all : ℕ) → v ≤ counted_on w by → all ≡ by + left → counted_on w all ≡ e → v ≤ e
counted-before w v e by left all p q r = omega arith
