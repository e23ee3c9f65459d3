-- Where a statement stands. A source line goes by the state: what is done with the lines to come, the ranges that are open, and the lines that are kept
-- stand at keys. An expansion has these three of its own, and they end with it. From the manual's descriptions of IF, DUP and macros; that an expansion
-- begins with no open range is our profile's.
use Rattle.std.specs.Prelude.{ℕ, zero, suc, ◌+◌, take, List, [], ◌∷◌, ◌++◌}
use Rattle.cps_state.specs.declared.key.Key.TheVariants as key
use Rattle.cps_state.specs.declared.key.Answer.TheVariants as answer
use Rattle.cps_state.specs.declared.key.Control.{Control}
use Rattle.cps_state.specs.declared.key.Mode.{Mode}
use Rattle.cps_state.specs.declared.key.Mode.TheVariants.{Normal}
use Rattle.cps_state.specs.declared.key.OpenRange.{OpenRange}
use Rattle.cps_state.specs.Course.{Part, ◌before◌, asking, putting}
use Rattle.cps_state.specs.Keys.{ranges_of, text_of}
use Rattle.cps_state.specs.declared.flags.Flags.{Flags}
use Rattle.cps_pass.specs.Making.{flagged}
use Rattle.cps_pass.specs.Opening.{Opening, none_opened}
use Rattle.cps_pass.specs.declared.scope.Scope.{Scope}
use Rattle.cps_pass.specs.declared.scope.Scope.TheVariants.{Source, Expansion}

-- what is done with a statement: for a source line what the state says
abbrev pub mode_in : Mode → Scope → Mode
mode_in mode Source = mode
mode_in mode (Expansion own) = own.mode

-- a statement that makes nothing but flags
abbrev pub flagging : Flags → Scope → (Scope → Part) → Part
flagging flags scope next = flagged flags before next scope

-- what is done with the lines to come
abbrev pub going_by : Control → Scope → Mode → (Scope → Part) → Part
going_by control Source mode next = putting key.Control (answer.Control control mode) before next Source
going_by control (Expansion own) mode next = next (Expansion (record own { mode = mode }))

-- ---- the ranges that are open, the newest first

abbrev pub asking_ranges : Scope → (List OpenRange → Part) → Part
asking_ranges Source next = asking key.Ifs (λ a. next (ranges_of a))
asking_ranges (Expansion own) next = next own.ranges

abbrev pub putting_ranges : Scope → List OpenRange → (Scope → Part) → Part
putting_ranges Source ranges next = putting key.Ifs (answer.Ifs ranges) before next Source
putting_ranges (Expansion own) ranges next = next (Expansion (record own { ranges = ranges }))

-- ---- the lines that are kept

-- a line is kept after so many others
abbrev pub keeping : Scope → ℕ → List ℕ → (Scope → Part) → Part
keeping Source count text next = putting (key.Kept count) (answer.Text text) before next Source
keeping (Expansion own) count text next = next (Expansion (record own { kept = take count own.kept ++ text ∷ [] }))

-- so many lines from the first one on
abbrev pub asking_lines : ℕ → ℕ → (List (List ℕ) → Part) → Part
asking_lines first zero next = next []
asking_lines first (suc count) next = asking (key.Kept first) (λ a. asking_lines (first + 1) count (λ lines. next (text_of a ∷ lines)))

-- so many lines that were kept; the lines to come are assembled
abbrev pub taking_body : Control → Scope → ℕ → (List (List ℕ) → Scope → Part) → Part
taking_body control Source count next = asking_lines 0 count (λ lines. going_by control Source Normal (next lines))
taking_body control (Expansion own) count next = next (take count own.kept) (Expansion (record own { mode = Normal; kept = [] }))

-- ---- statements that a line opens

-- what comes after a statement: where it stands by then, and the statements that it opens
abbrev pub Behind : Type 0
Behind = Scope → Opening → Part

abbrev pub opens_nothing : Behind → Scope → Part
opens_nothing behind later = behind later none_opened
