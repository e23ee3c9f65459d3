-- Contents one after another, and where each of them begins. Our own.
use Rattle.std.specs.Prelude.{ℕ, List, [], ◌∷◌}
use Rattle.cps_expr.specs.declared.machine.Machine.{Machine}
use Rattle.cps_state.specs.declared.made.Content.{Content}
use Rattle.cps_state.specs.Machines.{behind}
use Rattle.cps_state.specs.Made.{width_of}

-- contents one after another from a place on, each with the place where it begins: the bits before it in its block
abbrev pub with_places : Machine → ℕ → List Content → List (ℕ × Content)
with_places machine at [] = []
with_places machine at (content ∷ contents) = (at, content) ∷ with_places machine (behind machine at (width_of content)) contents
