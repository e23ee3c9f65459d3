-- Where a source writes names. Our own.
use Rattle.std.specs.Prelude.{ℕ, ◌≡◌, ◌≤◌, ◌<◌, ◌+◌, ◌-◌, List, [], Some, All, length, take, drop, slice_get, unwrap_or}
use Rattle.std.specs.List.{flat_map}
use Rattle.cps_text.specs.declared.name.Name.{Name}
use Rattle.cps_text.specs.Name.{name_of}
use Rattle.cps_mention.specs.declared.meaning.Meaning.{Meaning}
use Rattle.cps_mention.specs.declared.meaning.Meaning.TheVariants.{Symbol, Macro, Block, Program, Parameter, Local}
use Rattle.cps_mention.specs.declared.mention.Mention.{Mention}
use Rattle.cps_mention.specs.declared.stretch.Stretch.{Stretch}

-- the line of a number
abbrev pub line_of : List (List ℕ) → ℕ → List ℕ
line_of lines number = unwrap_or (slice_get lines (number - 1)) []

-- columns that a source has: one at least, in one of its lines
pub record IsStretch (source : List (List ℕ)) (stretch : Stretch) : Type 0 where
  pub one : 1 ≤ stretch.line
  pub line : stretch.line ≤ length source
  pub first : 1 ≤ stretch.first
  pub some : stretch.first < stretch.end
  pub within : stretch.end ≤ length (line_of source stretch.line) + 1

-- all of these are
abbrev pub AreIn : List (List ℕ) → List Stretch → Type 0
AreIn source stretches = All (IsStretch source) stretches

-- what stands in columns
abbrev pub text_in : List (List ℕ) → Stretch → List ℕ
text_in source stretch = take (stretch.end - stretch.first) (drop (stretch.first - 1) (line_of source stretch.line))

-- the name that is meant
abbrev pub name_in : Meaning → Name
name_in (Symbol name) = name
name_in (Macro name) = name
name_in (Block name) = name
name_in (Program name) = name
name_in (Parameter line name) = name
name_in (Local line name) = name

-- what stands in the columns, one stretch after another, writes the name
abbrev pub IsWritten : List (List ℕ) → List Stretch → Name → Type 0
IsWritten source stretches name = name_of (flat_map (text_in source) stretches) ≡ Some name

-- a mention stands where it is told
pub record Stands (source : List (List ℕ)) (mention : Mention) : Type 0 where
  pub columns : AreIn source mention.written.items
  pub name : IsWritten source mention.written.items (name_in mention.meaning)
