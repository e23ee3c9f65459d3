-- For the code that keeps a state, not part of what a reader believes: what always stands is kept apart from the rest.
use Rattle.std.specs.Prelude.{Bool, true, false, None, Some}
use Rattle.cps_state.specs.declared.key.Key.{Key}
use Rattle.cps_state.specs.declared.key.Key.TheVariants as key
use Rattle.cps_state.specs.declared.key.Answer.{Answer}
use Rattle.cps_state.specs.Keys.{State}

-- what doesn't always stand
abbrev pub is_other : Key → Bool
is_other key.Control = false
is_other (key.Counter None) = false
is_other key.Uses = false
is_other key.Blocks = false
is_other key.Ifs = false
is_other key.Locals = false
is_other other = true

-- a state with this control, this place of the nominal block, these blocks that were left, this count of named blocks, these
-- open ranges, this count of generated names, and these other answers
abbrev pub answers_in : Answer → Answer → Answer → Answer → Answer → Answer → State → State
answers_in control nominal uses blocks ranges locals others key.Control = Some control
answers_in control nominal uses blocks ranges locals others (key.Counter None) = Some nominal
answers_in control nominal uses blocks ranges locals others key.Uses = Some uses
answers_in control nominal uses blocks ranges locals others key.Blocks = Some blocks
answers_in control nominal uses blocks ranges locals others key.Ifs = Some ranges
answers_in control nominal uses blocks ranges locals others key.Locals = Some locals
answers_in control nominal uses blocks ranges locals others other = others other
