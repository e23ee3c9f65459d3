-- Two-pass assembly of a source. Pass one is a fold over its lines: the state before each line, and what the line asks, puts and
-- makes there. Pass two gives the rows and the bits of each line, where everything that can be named has the value that it has after the last line.
-- From the manual's section on the two passes.
use Rattle.std.specs.Prelude.{ℕ, Bool, List, map}
use Rattle.cps_state.specs.Course.{Trace}
use Rattle.cps_final.specs.Finals.{Finals, finals_of, final_value, is_open_at_end}
use Rattle.cps_final.specs.Outcome.{Outcome, outcome_of}
use Rattle.cps_list.specs.Assembly.{Assembly}
pub use Rattle.cps_edit.specs.Passes.{after, state_after, traces_from, traces_of}

-- ---- pass one

-- whether the source ends while a range is open, or lines are skipped or kept
abbrev pub ends_open : List (List ℕ) → Bool
ends_open lines = is_open_at_end (finals_of (traces_of lines))

-- ---- pass two

-- what lines make that did this in pass one, with these final values
abbrev pub outcomes_under : Finals → List Trace → List Outcome
outcomes_under finals traces = map (outcome_of (final_value finals)) traces

-- what each line of a source makes
abbrev pub outcomes_of : List (List ℕ) → List Outcome
outcomes_of lines = outcomes_under (finals_of (traces_of lines)) (traces_of lines)

-- a source that is assembled
abbrev pub assembly_of : List (List ℕ) → Assembly
assembly_of lines = record {
  lines = lines;
  outcomes = outcomes_of lines;
  finals = finals_of (traces_of lines);
  is_open = ends_open lines;
}
