-- The places of a page, and the names of its styles. Our own.
use Rattle.std.specs.Prelude.{ℕ, Bool, false, ◌==◌, List, ◌++◌, decimal, codes}
use Rattle.cps_text.specs.Name.{name_text}
use Rattle.cps_expr.specs.Value.{same_name}
use Rattle.cps_markup.specs.declared.place.Place.{Place}
use Rattle.cps_markup.specs.declared.place.Place.TheVariants.{Line, Symbol, Word, Block, Section}
use Rattle.cps_markup.specs.declared.place.PageSection.{PageSection}
use Rattle.cps_markup.specs.declared.place.PageSection.TheVariants as page
use Rattle.cps_markup.specs.declared.style.Style.{Style}
use Rattle.cps_markup.specs.declared.style.Style.TheVariants as style

abbrev pub section_name : PageSection → List ℕ
section_name page.Memory = codes "memory"
section_name page.Listing = codes "listing"
section_name page.Words = codes "words"
section_name page.Symbols = codes "symbols"
section_name page.Flags = codes "flags"
section_name page.Instructions = codes "instructions"

-- a line's number, a symbol's name, a word's address behind a letter, a block's name behind a letter and a sign, a small word
abbrev pub place_text : Place → List ℕ
place_text (Line number) = decimal number
place_text (Symbol name) = name_text name
place_text (Word digits) = codes "w" ++ decimal digits
place_text (Block name) = codes "b-" ++ name_text name
place_text (Section section) = section_name section

abbrev pub section_number : PageSection → ℕ
section_number page.Listing = 0
section_number page.Words = 1
section_number page.Symbols = 2
section_number page.Flags = 3
section_number page.Memory = 4
section_number page.Instructions = 5

abbrev pub same_place : Place → Place → Bool
same_place (Line a) (Line b) = a == b
same_place (Line a) (Symbol b) = false
same_place (Line a) (Word b) = false
same_place (Line a) (Block b) = false
same_place (Line a) (Section b) = false
same_place (Symbol a) (Line b) = false
same_place (Symbol a) (Symbol b) = same_name a b
same_place (Symbol a) (Word b) = false
same_place (Symbol a) (Block b) = false
same_place (Symbol a) (Section b) = false
same_place (Word a) (Line b) = false
same_place (Word a) (Symbol b) = false
same_place (Word a) (Word b) = a == b
same_place (Word a) (Block b) = false
same_place (Word a) (Section b) = false
same_place (Block a) (Line b) = false
same_place (Block a) (Symbol b) = false
same_place (Block a) (Word b) = false
same_place (Block a) (Block b) = same_name a b
same_place (Block a) (Section b) = false
same_place (Section a) (Line b) = false
same_place (Section a) (Symbol b) = false
same_place (Section a) (Word b) = false
same_place (Section a) (Block b) = false
same_place (Section a) (Section b) = section_number a == section_number b

abbrev pub style_name : Style → List ℕ
style_name style.Flag = codes "f"
style_name style.Flagged = codes "bad"
style_name style.FieldI = codes "i"
style_name style.FieldJ = codes "j"
style_name style.FieldK = codes "k"
style_name style.Constant = codes "K"
style_name style.Grey = codes "z"
style_name style.Comment = codes "x"
style_name style.Cause = codes "c"
style_name style.Table = codes "t"
style_name style.Block = codes "b"
style_name style.Meant = codes "u"
style_name style.Operand = codes "o"
style_name style.Run = codes "run"
style_name style.PeripheralRun = codes "run pp"
