-- What holds of each row that is read.
use Rattle.std.specs.Prelude.{ℕ, ◌^◌, ◌<◌, IsTrue, List, length, All}
use Rattle.std.specs.List.{list_all}
use Rattle.cps_text.specs.Display.{has_display}
use Rattle.cps_expr.specs.declared.machine.Machine.{Machine}
use Rattle.cps_expr.specs.declared.pseudo.DisText.{DisText}
use Rattle.cps_expr.specs.declared.pseudo.DisText.TheVariants.{Counted, Delimited}
use Rattle.cps_expr.specs.declared.pseudo.Pseudo.{Pseudo}
use Rattle.cps_expr.specs.declared.pseudo.Pseudo.TheVariants as row
use Rattle.cps_expr.specs.Item.{bits_of}

-- the characters of DIS
abbrev pub characters_in : DisText → List ℕ
characters_in (Counted count text) = text
characters_in (Delimited text) = text

-- CON, DATA and VFD have one element or more; the words of DATA fit the machine's; the characters of DIS have display codes
abbrev pub IsBounded : Machine → Pseudo → Type 0
IsBounded machine (row.Con values) = 0 < length values
IsBounded machine (row.Data words) = (0 < length words) × All (λ word. word < 2 ^ bits_of machine) words
IsBounded machine (row.Vfd fields) = 0 < length fields
IsBounded machine (row.Dis characters) = IsTrue (list_all has_display (characters_in characters))
IsBounded machine _ = Unit {0}
