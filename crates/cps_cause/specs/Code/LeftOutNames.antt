-- the table of operations that are left out, as the code keeps it
use Rattle.std.specs.Prelude.{ℕ, List, map}
use Rattle.std.specs.Borrow.{Bor}
use Rattle.cps_cause.specs.declared.left_out.LeftOut.{LeftOut}

abbrev pub names : List (Bor (List ℕ) × LeftOut) → List (List ℕ)
names operations = map (λ entry. entry.0.now) operations
