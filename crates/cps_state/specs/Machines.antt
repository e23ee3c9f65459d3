-- The words of the two machines. From the machines' reference manuals: a central processor's word has 60 bits, a peripheral one's has 12.
-- A place is told by the bits before it. Each word of either machine counts as 60 of them: in a peripheral processor's the first 12 are used.
use Rattle.std.specs.Prelude.{ℕ, ◌+◌, ◌*◌, ◌/◌, ◌%◌}
use Rattle.cps_expr.specs.declared.machine.Machine.{Machine}
use Rattle.cps_expr.specs.declared.machine.Machine.TheVariants.{Cp, Pp}
use Rattle.cps_expr.specs.Item.{bits_of}

-- how many words a machine has
abbrev pub limit : Machine → ℕ
limit Cp = 131072
limit Pp = 4096

-- the place after so many bits
abbrev pub behind : Machine → ℕ → ℕ → ℕ
behind Cp at width = at + width
behind Pp at width = 60 * (at / 60 + (at % 60 + width) / bits_of Pp) + (at % 60 + width) % bits_of Pp
