-- What is told of an instruction of a peripheral processor: its row of the table. The layout is our own.
use Rattle.std.specs.Prelude.{ℕ, List, [], ◌++◌, codes, Option, None, Some}
use Rattle.cps_text.specs.Octal.{octal}
use Rattle.cps_code.specs.declared.layout.Layout.{Layout}
use Rattle.cps_code.specs.declared.layout.Layout.TheVariants.{Unread, Target, Short, Constant, Memory}
use Rattle.cps_code.specs.PeripheralTable.{Row, named, pp_table}
use Rattle.cps_check.specs.Front.{front, at_left}
use Rattle.cps_check.specs.Names.{row_name}
use Rattle.cps_check.specs.Sentences.{Sentences, words_among}

abbrev pub operands_text : Layout → List ℕ
operands_text Unread = codes "not read"
operands_text Target = codes "a target"
operands_text Short = codes "d"
operands_text Constant = codes "c"
operands_text Memory = codes "m or m,d"

-- what stands in the code behind the operation
abbrev pub letters_of : Layout → List ℕ
letters_of Unread = codes "00"
letters_of Target = codes "dd"
letters_of Short = codes "dd"
letters_of Constant = codes "cc cccc"
letters_of Memory = codes "dd mmmm"

abbrev pub bits_of : Layout → ℕ
bits_of Unread = 12
bits_of Target = 12
bits_of Short = 12
bits_of Constant = 24
bits_of Memory = 24

-- a form; what stands in its code behind the operation has at least so many columns
abbrev pub form_text : ℕ → List ℕ → Layout → ℕ → List ℕ
form_text width name layout number =
    front name (operands_text layout) (bits_of layout) ++ octal 2 number ++ at_left width (letters_of layout)

abbrev pub row_text : Sentences → List ℕ → Layout → ℕ → List ℕ
row_text sentences name layout number = form_text 10 name layout number ++ words_among sentences name ++ codes "\n"

abbrev pub peripheral_head : List ℕ
peripheral_head =
    codes "An instruction of a peripheral processor: d, m, c and a target are expressions,\n"
    ++ codes "m and c may be literals.\n"

abbrev pub named_text : Sentences → List ℕ → Option Row → List ℕ
named_text sentences name None = []
named_text sentences name (Some row) = peripheral_head ++ row_text sentences (row_name name) row.layout row.number

abbrev pub peripheral_text : Sentences → List ℕ → List ℕ
peripheral_text sentences name = named_text sentences name (named pp_table name)
