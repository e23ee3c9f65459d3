-- For the code of macros, not part of what a reader believes: what stands for the names of a body in a call, and an index of it.
use Rattle.std.specs.Prelude.{◌≡◌, ℕ, List, map, option_map}
use Rattle.std.specs.BTreeMap.{BTreeMap, get}
use Rattle.cps_text.specs.declared.name.Name.{Name}
use Rattle.cps_text.specs.declared.name_number.NameNumber.{NameNumber}
use Rattle.cps_text.specs.declared.substitutes.Substitute.{Substitute}
use Rattle.cps_text.specs.declared.substitutes.Substitute.TheVariants.{Argument, Generated}
use Rattle.cps_text.specs.Code.NameNumbers.{number_of, number_order, HasEightBytes}
use Rattle.cps_text.specs.Insertion.{Pairs, text_of}
use Rattle.cps_text.specs.Name.{name_text}

-- the text that stands for a name
abbrev pub substitute_value : Substitute → List ℕ
substitute_value (Argument text) = text.now
substitute_value (Generated name) = name_text name

abbrev pub substitutes_value : List (Name × Substitute) → Pairs
substitutes_value pairs = map (λ pair. (pair.0, substitute_value pair.1)) pairs

-- an index has at the numbers of all names what stands for them
abbrev pub Indexes : Pairs → BTreeMap NameNumber Substitute → Type 0
Indexes pairs index = (name : Name) → HasEightBytes name → option_map substitute_value (get number_order index (number_of name)) ≡ text_of pairs name
