-- For the code that asks what lines leave, not part of what a reader believes: a test that literals alone don't pass.
use Rattle.std.specs.Prelude.{Bool, true, false}
use Rattle.cps_final.specs.Finals.{Named, literal}

abbrev pub is_no_literal : Named → Bool
is_no_literal (literal word) = false
is_no_literal _ = true
