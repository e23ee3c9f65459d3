-- Numbers that octal digits spell.
use Rattle.std.proofs.Common.{ℕ, ◌-◌, ◌^◌, ◌≤◌, arith}
use Rattle.std.proofs.Math.Nat.{pow-le-pow_right}

pub octal-few : (i : ℕ) → i ≤ 6 → 8 ^ i ≤ 262144
octal-few i few = pow-le-pow_right {n = 8} (omega arith) {i = i} {j = 6} few
