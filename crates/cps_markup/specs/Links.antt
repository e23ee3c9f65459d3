-- What a link of a page may lead to. Our own.
use Rattle.std.specs.Prelude.{◌≡◌, ℕ, ◌≤◌, Bool, ◌==◌, ◌&&◌, List, Some, IsTrue, ⊤}
use Rattle.std.specs.List.{list_any}
use Rattle.cps_text.specs.declared.name.Name.{Name}
use Rattle.cps_text.specs.Name.{name_of}
use Rattle.cps_expr.specs.Value.{same_name}
use Rattle.cps_markup.specs.declared.place.Place.{Place}
use Rattle.cps_markup.specs.declared.place.Place.TheVariants.{Line, Symbol, Word, Block, Section}
use Rattle.cps_markup.specs.declared.targets.Entry.{Entry}
use Rattle.cps_markup.specs.declared.targets.Targets.{Targets}
use Rattle.cps_markup.specs.declared.targets.WordEntry.{WordEntry}
use Rattle.cps_markup.specs.Markup.{Link}

-- the row of a symbol
abbrev pub is_of : Name → Entry → Bool
is_of name entry = same_name name entry.name

-- the row of a symbol that a line defines
abbrev pub is_defined : Name → ℕ → Entry → Bool
is_defined name number entry = same_name name entry.name && entry.line == number

-- the row of a word
abbrev pub is_at : ℕ → WordEntry → Bool
is_at digits word = digits == word.digits

-- there is such a line, such a symbol, such a word, such a block
abbrev pub HasPlace : Targets → Place → Type 0
HasPlace targets (Line number) = (1 ≤ number) × (number ≤ targets.count)
HasPlace targets (Symbol name) = IsTrue (list_any (is_of name) targets.entries.items)
HasPlace targets (Word digits) = IsTrue (list_any (is_at digits) targets.words.items)
HasPlace targets (Block name) = IsTrue (list_any (same_name name) targets.blocks.items)
HasPlace targets (Section section) = ⊤

-- a symbol leads to no line but the one that defines it
abbrev pub IsHome : Targets → List ℕ → ℕ → Type 0
IsHome targets words number = (name : Name) → name_of words ≡ Some name → IsTrue (list_any (is_defined name number) targets.entries.items)

pub record Leads (targets : Targets) (link : Link) : Type 0 where
  pub there : HasPlace targets link.place
  pub home : (number : ℕ) → link.place ≡ Line number → IsHome targets link.words number
