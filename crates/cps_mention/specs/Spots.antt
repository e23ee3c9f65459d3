-- Where a name stands that means one thing: the mention at a caret, and the spots of a meaning. Our own.
use Rattle.std.specs.Prelude.{ℕ, Bool, true, false, ◌&&◌, nat_eq, nat_le, nat_lt, List, [], ◌∷◌, All, Contains, map, filter, find, Option, if◌then◌else◌}
use Rattle.std.specs.List.{flat_map, list_any}
use Rattle.std.specs.Option.{option_or}
use Rattle.cps_expr.specs.Value.{same_name}
use Rattle.cps_mention.specs.declared.caret.Caret.{Caret}
use Rattle.cps_mention.specs.declared.meaning.Meaning.{Meaning}
use Rattle.cps_mention.specs.declared.meaning.Meaning.TheVariants.{Symbol, Macro, Block, Program, Parameter, Local}
use Rattle.cps_mention.specs.declared.mention.Mention.{Mention}
use Rattle.cps_mention.specs.declared.role.Role.{Role}
use Rattle.cps_mention.specs.declared.role.Role.TheVariants.{Defines, Reads, Calls, Uses, Clashes}
use Rattle.cps_mention.specs.declared.spot.Spot.{Spot}
use Rattle.cps_mention.specs.declared.spot.SpotKind.{SpotKind}
use Rattle.cps_mention.specs.declared.spot.SpotKind.TheVariants.{Defined, Used, Idle}
use Rattle.cps_mention.specs.declared.stretch.Stretch.{Stretch}
use Rattle.cps_mention.specs.Mentions.{name_in}

-- ---- the mention at a caret

-- a caret stands in front of a column of a stretch
abbrev pub is_around : Caret → Stretch → Bool
is_around caret stretch = nat_eq stretch.line caret.line && (nat_le stretch.first caret.column && nat_lt caret.column stretch.end)

-- or right behind its last
abbrev pub is_behind : Caret → Stretch → Bool
is_behind caret stretch = nat_eq stretch.line caret.line && nat_eq stretch.end caret.column

abbrev pub is_at : Bool → Caret → Stretch → Bool
is_at behind caret stretch = if behind then is_behind caret stretch else is_around caret stretch

-- the first mention with such a stretch
abbrev pub first_at : Bool → Caret → List Mention → Option Mention
first_at behind caret mentions = find (λ mention. list_any (is_at behind caret) mention.written.items) mentions

-- the place behind a name belongs to it, unless another begins there
abbrev pub mention_at : Caret → List Mention → Option Mention
mention_at caret mentions = option_or (first_at false caret mentions) (first_at true caret mentions)

-- its stretch there
abbrev pub stretch_at : Caret → List Stretch → Option Stretch
stretch_at caret stretches = option_or (find (is_at false caret) stretches) (find (is_at true caret) stretches)

-- ---- the spots of a meaning

-- each kind of meanings has a number, and those of one macro's names the line of its MACRO
abbrev pub meaning_kind : Meaning → ℕ
meaning_kind (Symbol name) = 0
meaning_kind (Macro name) = 1
meaning_kind (Block name) = 2
meaning_kind (Program name) = 3
meaning_kind (Parameter line name) = 4
meaning_kind (Local line name) = 5

abbrev pub macro_line : Meaning → ℕ
macro_line (Symbol name) = 0
macro_line (Macro name) = 0
macro_line (Block name) = 0
macro_line (Program name) = 0
macro_line (Parameter line name) = line
macro_line (Local line name) = line

abbrev pub same_meaning : Meaning → Meaning → Bool
same_meaning a b = nat_eq (meaning_kind a) (meaning_kind b) && (nat_eq (macro_line a) (macro_line b) && same_name (name_in a) (name_in b))

-- what a line does with a name in its columns
abbrev pub done_kind : Role → SpotKind
done_kind Defines = Defined
done_kind Reads = Used
done_kind Calls = Used
done_kind Uses = Used
done_kind Clashes = Used

abbrev pub spot_kind : Mention → SpotKind
spot_kind mention = if mention.is_done then done_kind mention.role else Idle

abbrev pub spots_as : SpotKind → List Stretch → List Spot
spots_as kind stretches = map (λ stretch. record { stretch = stretch; kind = kind }) stretches

-- the spots of a mention, if it is one of this meaning
abbrev pub spots_meant : Meaning → Mention → List Spot
spots_meant meaning mention = if same_meaning meaning mention.meaning then spots_as (spot_kind mention) mention.written.items else []

abbrev pub spots_said : Meaning → List Mention → List Spot
spots_said meaning mentions = flat_map (spots_meant meaning) mentions

-- spots are some of those that are said, with each stretch
pub record AreSpots (said spots : List Spot) : Type 0 where
  pub sound : All (Contains said) spots
  pub all : All (λ spot. Contains (map (λ (kept : Spot). kept.stretch) spots) spot.stretch) said

-- ---- definitions

abbrev pub same_stretch : Stretch → Stretch → Bool
same_stretch a b = nat_eq a.line b.line && (nat_eq a.first b.first && nat_eq a.end b.end)

abbrev pub is_definition : SpotKind → Bool
is_definition Defined = true
is_definition Used = false
is_definition Idle = false

abbrev pub definitions : List Spot → List Spot
definitions spots = filter (λ spot. is_definition spot.kind) spots

-- those whose values counted; all, where it isn't known which did
abbrev pub some_or_all : List Spot → List Spot → List Spot
some_or_all [] spots = spots
some_or_all (spot ∷ more) spots = spot ∷ more

abbrev pub known : List Stretch → List Spot → List Spot
known from spots = filter (λ spot. list_any (same_stretch spot.stretch) from) spots

abbrev pub counted : List Stretch → List Spot → List Spot
counted from spots = some_or_all (known from spots) spots
