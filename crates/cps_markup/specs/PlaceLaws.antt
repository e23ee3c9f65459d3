-- Identifiers of two places differ. Our own.
use Rattle.std.specs.Prelude.{◌≡◌, ◌<◌, ◌^◌, Some, ⊤}
use Rattle.cps_text.specs.Name.{name_of, name_text}
use Rattle.cps_markup.specs.declared.place.Place.{Place}
use Rattle.cps_markup.specs.declared.place.Place.TheVariants.{Line, Symbol, Word, Block, Section}
use Rattle.cps_markup.specs.Places.{place_text}

-- a place whose identifier tells it: the name of a symbol or of a block is one that its characters write
abbrev pub IsWritten : Place → Type 0
IsWritten (Line number) = number < 2 ^ 32
IsWritten (Symbol name) = name_of (name_text name) ≡ Some name
IsWritten (Word digits) = digits < 2 ^ 32
IsWritten (Block name) = name_of (name_text name) ≡ Some name
IsWritten (Section section) = ⊤

-- two places that have one identifier are one
abbrev pub IdentifiersDiffer : Type 0
IdentifiersDiffer = (a b : Place) → IsWritten a → IsWritten b → place_text a ≡ place_text b → a ≡ b
