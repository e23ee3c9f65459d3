-- For the code, not part of what a reader believes: causes as they are told, one after another.
use Rattle.std.specs.Prelude.{ℕ, List}
use Rattle.cps_state.specs.declared.flags.Flags.{Flags}
use Rattle.cps_cause.specs.declared.diagnostic.Diagnostic.{Diagnostic}

-- the flags of a line, how many columns it has, and what is told of it
pub record Telling : Type 0 where
  pub wanted : Flags
  pub length : ℕ
  pub told : List Diagnostic
