-- For the code of placing statements, not part of what a reader believes: what is known of where a statement stands and starts.
use Rattle.std.specs.Prelude.{◌≡◌, ℕ, ◌*◌, ◌%◌, ◌<◌, ◌≤◌}
use Rattle.cps_expr.specs.declared.machine.Machine.TheVariants.{Pp}
use Rattle.cps_expr.specs.Item.{bits_of}
use Rattle.cps_code.specs.Place.{position}
use Rattle.cps_state.specs.Machines.{limit}
use Rattle.cps_pass.specs.declared.placing.Site.{Site}

-- its place is within the machine's words, and of a peripheral processor at a word's beginning
pub record IsSite (site : Site) : Type 0 where
  pub low : site.place.word ≤ 131072
  pub within : position site.place ≤ 60 * limit site.machine
  pub at_word : site.machine ≡ Pp → site.place.used ≡ 0

-- a statement starts at a bit of the machine's words
pub record Starts (site : Site) (start : ℕ) : Type 0 where
  pub in_word : start % 60 < bits_of site.machine
  pub within : start ≤ 60 * limit site.machine
