-- What is told of an octal code: each form of the tables that has it, with its fields. The layout is our own.
use Prim.Native.Char.{code}
use Rattle.std.specs.Prelude.{ℕ, ◌/◌, Bool, ◌==◌, ◌&&◌, ◌||◌, List, [], ◌∷◌, ◌++◌, map, flat_map, take, drop, length, bytes_eq, codes, Option, None, Some, if◌then◌else◌}
use Rattle.std.specs.List.{list_all}
use Rattle.cps_text.specs.Octal.{octal}
use Rattle.cps_text.specs.Text.{among, is_digit}
use Rattle.cps_code.specs.Rows.{Named}
use Rattle.cps_code.specs.Table.{cp_operations, instruction_named}
use Rattle.cps_code.specs.declared.layout.Layout.{Layout}
use Rattle.cps_code.specs.declared.layout.Layout.TheVariants.{Unread, Target, Short, Constant, Memory}
use Rattle.cps_code.specs.PeripheralTable.{Row, named, pp_table}
use Rattle.cps_check.specs.Central.{Parts, parts_of, code_character, code_text as letters_text, forcing_text}
use Rattle.cps_check.specs.Front.{front}
use Rattle.cps_check.specs.Names.{row_name}
use Rattle.cps_check.specs.Peripheral as peripheral

-- a code is written in octal: with 5 or 10 digits one of the central processor, with 4 or 8 one of a peripheral processor
abbrev pub is_central_code : List ℕ → Bool
is_central_code word = list_all (is_digit 8) word && (length word == 5 || length word == 10)

abbrev pub is_peripheral_code : List ℕ → Bool
is_peripheral_code word = list_all (is_digit 8) word && (length word == 4 || length word == 8)

abbrev pub is_code : List ℕ → Bool
is_code word = is_central_code word || is_peripheral_code word

-- rows, or words where there is none
abbrev pub or_words : List ℕ → List ℕ → List ℕ
or_words words [] = words
or_words words (byte ∷ rows) = byte ∷ rows

-- ---- the central processor

abbrev pub digit_0 : ℕ → ℕ
digit_0 letter = if letter == code "i" then code "0" else letter

-- the digit of a code where a form first has this letter, 0 where it has none
abbrev pub digit_at : List ℕ → List ℕ → ℕ → ℕ
digit_at [] given letter = code "0"
digit_at (l ∷ letters) [] letter = code "0"
digit_at (l ∷ letters) (digit ∷ given) letter = if l == letter then digit else digit_at letters given letter

-- what a character of a form stands for in a code: i, j and k for their digits, any other for itself
abbrev pub field_character : List ℕ → List ℕ → ℕ → ℕ
field_character letters given letter = if among (codes "ijk") letter then digit_at letters given letter else letter

abbrev pub coded_character : ℕ → List ℕ → List ℕ → ℕ → ℕ
coded_character f letters given letter = field_character letters given (code_character f letter)

-- the code of a form, with the fields of a given code
abbrev pub code_with_fields : ℕ → List ℕ → List ℕ → List ℕ
code_with_fields f letters given = map (coded_character f letters given) letters ++ drop (length letters) given

-- a form has a code that is as long as its own, and the same with the fields of that code
abbrev pub has_code : ℕ → Parts → List ℕ → Bool
has_code f parts given = length given == parts.bits / 3 && bytes_eq (code_with_fields f parts.code.digits given) given

abbrev pub value_text : Option ℕ → List ℕ → List ℕ
value_text None value = []
value_text (Some letter) value = codes ", " ++ letter ∷ codes "=" ++ value

abbrev pub with_fields : Parts → List ℕ → List ℕ → List ℕ
with_fields parts given text = map (field_character parts.code.digits given) text

-- the row of a form with the fields of a code
abbrev pub fitting_row : List ℕ → ℕ → List ℕ → Parts → List ℕ
fitting_row name f given parts =
    front (with_fields parts given name) (with_fields parts given parts.operands) parts.bits
    ++ letters_text f parts ++ value_text parts.code.hole (drop (length parts.code.digits) given)
    ++ forcing_text parts.forces ++ codes "\n"

abbrev pub fitting_text : List ℕ → ℕ → List ℕ → Parts → List ℕ
fitting_text name f given parts = if has_code f parts given then fitting_row name f given parts else []

abbrev pub fitting_rows : List ℕ → List ℕ → Option Named → List ℕ
fitting_rows given name None = []
fitting_rows given name (Some o) = flat_map (fitting_text (row_name name) o.digits.f given) (map parts_of o.forms)

abbrev pub fitting_named : List ℕ → List ℕ → List ℕ
fitting_named given name = fitting_rows given name (instruction_named name)

-- the operations of the table, with 0 for the digit of a register
unfoldable pub central_names : List (List ℕ)
central_names = map (λ o. map digit_0 o.name) cp_operations

abbrev pub central_code_text : List ℕ → List ℕ
central_code_text given =
    or_words (codes "No instruction of the central processor has this code.\n") (flat_map (fitting_named given) central_names)

-- ---- a peripheral processor

-- the letters of its fields behind the operation
abbrev pub fields_of : Layout → List ℕ
fields_of Unread = []
fields_of Target = codes "d"
fields_of Short = codes "d"
fields_of Constant = codes "c"
fields_of Memory = codes "dm"

-- the code of an operation, with the fields of a given code; 0 stands behind one that has no field
abbrev pub digits_behind : List ℕ → List ℕ → List ℕ
digits_behind [] given = codes "00"
digits_behind (field ∷ fields) given = drop 2 given

abbrev pub has_peripheral_code : Layout → ℕ → List ℕ → Bool
has_peripheral_code layout number given =
    length given == peripheral.bits_of layout / 3 && bytes_eq (octal 2 number ++ digits_behind (fields_of layout) given) given

abbrev pub fields_text : List ℕ → List ℕ → List ℕ
fields_text [] digits = []
fields_text (field ∷ []) digits = codes ", " ++ field ∷ codes "=" ++ digits
fields_text (field ∷ other ∷ fields) digits =
    codes ", " ++ field ∷ codes "=" ++ take 2 digits ++ codes ", " ++ other ∷ codes "=" ++ drop 2 digits

abbrev pub fitting_peripheral_row : List ℕ → List ℕ → Layout → ℕ → List ℕ
fitting_peripheral_row given name layout number =
    peripheral.form_text 0 name layout number ++ fields_text (fields_of layout) (drop 2 given) ++ codes "\n"

abbrev pub fitting_peripheral_text : List ℕ → List ℕ → Layout → ℕ → List ℕ
fitting_peripheral_text given name layout number =
    if has_peripheral_code layout number given then fitting_peripheral_row given name layout number else []

abbrev pub fitting_peripheral_rows : List ℕ → List ℕ → Option Row → List ℕ
fitting_peripheral_rows given name None = []
fitting_peripheral_rows given name (Some row) = fitting_peripheral_text given (row_name name) row.layout row.number

abbrev pub fitting_peripheral : List ℕ → List ℕ → List ℕ
fitting_peripheral given name = fitting_peripheral_rows given name (named pp_table name)

unfoldable pub peripheral_names : List (List ℕ)
peripheral_names = map (λ row. row.operation) pp_table

abbrev pub peripheral_code_text : List ℕ → List ℕ
peripheral_code_text given =
    or_words (codes "No instruction of a peripheral processor has this code.\n") (flat_map (fitting_peripheral given) peripheral_names)

-- ---- a code

abbrev pub code_text : List ℕ → List ℕ
code_text given = if is_central_code given then central_code_text given else peripheral_code_text given
