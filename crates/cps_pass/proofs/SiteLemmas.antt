-- Where statements start.
use Rattle.std.proofs.Common.{◌≡◌, ℕ, ◌*◌, ◌%◌, ◌<◌, ◌≤◌, refl, arith}
use Rattle.cps_expr.specs.declared.machine.Machine.{Machine}
use Rattle.cps_expr.specs.declared.machine.Machine.TheVariants.{Cp, Pp}
use Rattle.cps_expr.specs.Item.{bits_of}
use Rattle.cps_code.specs.declared.place.Place.{Place}
use Rattle.cps_code.specs.Place.{position}
use Rattle.cps_state.specs.Machines.{limit}
use Rattle.cps_pass.specs.declared.placing.Site.{Site}
use Rattle.cps_pass.specs.Code.Sites.{IsSite, Starts}

-- no statement starts past the beginning of the next word
BeforeNext : Place → ℕ → Type 0
BeforeNext place start = (word : ℕ) → position place ≤ 60 * word → start ≤ 60 * word

starts-in-word : (machine : Machine) (place : Place) (start : ℕ) → (machine ≡ Pp → place.used ≡ 0) → position place ≤ start → BeforeNext place start
    → start % 60 < bits_of machine
unfolding BeforeNext
starts-in-word Cp place start at_word after before = omega (arith)
starts-in-word Pp place start at_word after before =
    let none = at_word refl in
    let at = before place.word (omega (arith, none)) in
    omega (arith, none, after, at)

pub starts : (site : Site) (start : ℕ) → IsSite site → position site.place ≤ start → ((word : ℕ) → position site.place ≤ 60 * word → start ≤ 60 * word) → Starts site start
unfolding BeforeNext
starts site start is after before =
    record { in_word = starts-in-word site.machine site.place start is.at_word after before; within = before (limit site.machine) is.within }
