-- For the code, not part of what a reader believes: the names of a macro by an index, and what wrote what stands for one of them.
use Rattle.std.specs.Prelude.{◌≡◌, ℕ, ◌+◌, ◌≤◌, List, [], ◌∷◌, ◌++◌, length, map, replicate, slice_get, Option, None, Some, option_and_then, unwrap_or, if◌then◌else◌}
use Rattle.std.specs.BTreeMap.{BTreeMap, get}
use Rattle.std.specs.Borrow.{Bor}
use Rattle.std.specs.List.{position_from}
use Rattle.cps_text.specs.declared.name.Name.{Name}
use Rattle.cps_list.specs.Symbols.{name_order}
use Rattle.cps_text.specs.Insertion.{is_of_run}
use Rattle.cps_text.specs.Line.{longest_line}
use Rattle.cps_text.specs.Name.{is_one, name_of}
use Rattle.cps_text.specs.Runs.{runs}
use Rattle.cps_mention.specs.declared.macro_names.MacroName.{MacroName}
use Rattle.cps_mention.specs.declared.placed_text.PlacedText.{PlacedText}
use Rattle.cps_mention.specs.declared.stretch.Stretch.{Stretch}
use Rattle.cps_mention.specs.CallLines.{columns, generated_len, origins_of, without_marks, written_on}

-- the place of the first that is written so
abbrev pub place_in : List MacroName → Name → Option ℕ
place_in names name = position_from (λ n. is_one n.name name) 0 names

-- an index has the places of all names
abbrev pub Indexes : List MacroName → BTreeMap Name ℕ → Type 0
Indexes names index = (name : Name) → get name_order index name ≡ place_in names name

-- with a name more, behind so many others
abbrev pub IndexesNext : ℕ → MacroName → BTreeMap Name ℕ → BTreeMap Name ℕ → Type 0
IndexesNext before name old new = (names : List MacroName) → Indexes names old → length names ≡ before → Indexes (names ++ name ∷ []) new

abbrev pub lists_of : List (Bor (List Stretch)) → List (List Stretch)
lists_of arguments = map (λ argument. argument.now) arguments

-- what wrote the text of a name in the place of columns
abbrev pub origins_for : List (List Stretch) → Stretch → ℕ → Option MacroName → List Stretch
origins_for arguments run at None = []
origins_for arguments run at (Some name) = if name.is_local then replicate generated_len run else unwrap_or (slice_get arguments at) []

-- what wrote a run that stays, behind so many columns
abbrev pub kept_origins : ℕ → ℕ → List ℕ → List Stretch
kept_origins line before run = origins_of (without_marks (written_on line before run))

-- that in a call
abbrev pub origins_at : List MacroName → List (List Stretch) → ℕ → ℕ → List ℕ → Option ℕ → List Stretch
origins_at names arguments line before run None = kept_origins line before run
origins_at names arguments line before run (Some at) = origins_for arguments (columns line before (length run)) at (slice_get names at)

abbrev pub run_origins : List MacroName → List (List Stretch) → ℕ → ℕ → List ℕ → List Stretch
run_origins names arguments line before run = origins_at names arguments line before run (option_and_then (place_in names) (name_of run))

-- that of all runs from there on
abbrev pub origins_from : List MacroName → List (List Stretch) → ℕ → ℕ → List (List ℕ) → List Stretch
origins_from names arguments line before [] = []
origins_from names arguments line before (run ∷ later) =
    run_origins names arguments line before run ++ origins_from names arguments line (before + length run) later

abbrev pub body_origins : List MacroName → List (List Stretch) → ℕ → List ℕ → List Stretch
body_origins names arguments line body = origins_from names arguments line 0 (runs is_of_run body)

-- ---- a run with its place

abbrev pub IsPlaced : PlacedText → Type 0
IsPlaced run = run.before + length run.text.now ≤ longest_line

abbrev pub placed_origins : List MacroName → List (List Stretch) → ℕ → PlacedText → List Stretch
placed_origins names arguments line run = run_origins names arguments line run.before run.text.now
