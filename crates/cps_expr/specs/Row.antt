-- What the operands of each operation of the statement table say. From the manual's sections on the pseudo instructions;
-- that a parameter has no `=` and that characters have a display code is our profile's.
use Rattle.std.specs.Prelude.{ℕ, zero, suc, ◌+◌, length, Bool, true, false, ◌==◌, ◌&&◌, not, nat_lt, count_by, List, [], ◌∷◌, codes, bytes_eq, Option, None, Some, option_map, option_and_then, take, drop, if◌then◌else◌}
use Rattle.std.specs.List.{list_all, list_any, position}
use Rattle.cps_text.specs.declared.name.Name.{Name}
use Rattle.cps_text.specs.Display.{has_display}
use Rattle.cps_text.specs.Name.{name_of}
use Rattle.cps_text.specs.Text.{among, capital, is_blank}
use Rattle.cps_expr.specs.declared.machine.Machine.{Machine}
use Rattle.cps_expr.specs.declared.operation.Relation.{Relation}
use Rattle.cps_expr.specs.declared.radix.Radix.{Radix}
use Rattle.cps_expr.specs.declared.radix.Radix.TheVariants.{Octal, Decimal}
use Rattle.cps_expr.specs.declared.pseudo.Block.{Block}
use Rattle.cps_expr.specs.declared.pseudo.Block.TheVariants.{Nominal, Previous, Named}
use Rattle.cps_expr.specs.declared.pseudo.DisText.{DisText}
use Rattle.cps_expr.specs.declared.pseudo.DisText.TheVariants.{Counted, Delimited}
use Rattle.cps_expr.specs.declared.pseudo.ValueTest.{ValueTest}
use Rattle.cps_expr.specs.declared.pseudo.Field.{Field}
use Rattle.cps_expr.specs.declared.pseudo.Repetition.{Repetition}
use Rattle.cps_expr.specs.declared.pseudo.SymbolTest.{SymbolTest}
use Rattle.cps_expr.specs.Expression.{expression_of}
use Rattle.cps_expr.specs.Item.{item_of}
use Rattle.cps_expr.specs.OperandList.{paired, at_most_one, all_some}
use Rattle.cps_expr.specs.Same.{is_same}

-- ---- BASE: O or D is the first character

abbrev pub radix_of : List ℕ → Option Radix
radix_of [] = None
radix_of (letter ∷ text) = if among (codes "O") (capital letter) then Some Octal else (if among (codes "D") (capital letter) then Some Decimal else None)

-- ---- USE: nothing or 0, `*`, or a symbol

abbrev pub block_named : List ℕ → Option Block
block_named text =
    if bytes_eq text (codes "0") then Some Nominal
    else (if bytes_eq text (codes "*") then Some Previous
    else option_map Named (name_of text))

abbrev pub block_of : List (List ℕ) → Option Block
block_of [] = Some Nominal
block_of (text ∷ []) = block_named text
block_of (text ∷ second ∷ texts) = None

-- ---- VFD: a width and a value, parted at the first `/`

abbrev pub is_slash : ℕ → Bool
is_slash = among (codes "/")

abbrev pub field_parted_at : Radix → List ℕ → Option ℕ → Option Field
field_parted_at radix text None = None
field_parted_at radix text (Some at) =
    option_map (λ parts. record { width = parts.0; value = parts.1 })
    (paired (expression_of radix (take at text)) (expression_of radix (drop (at + 1) text)))

unfoldable pub field_of : Radix → List ℕ → Option Field
field_of radix text = field_parted_at radix text (position is_slash text)

-- ---- IFEQ and the like: two expressions, and perhaps the number of lines

unfoldable pub comparison_of : Radix → Relation → List (List ℕ) → Option ValueTest
comparison_of radix relation [] = None
comparison_of radix relation (left ∷ []) = None
comparison_of radix relation (left ∷ right ∷ more) =
    option_map (λ parts. record { relation = relation; left = parts.0.0; right = parts.0.1; lines = parts.1 })
    (paired (paired (expression_of radix left) (expression_of radix right)) (at_most_one (expression_of radix) more))

-- ---- IF: DEF or -DEF, a symbol, and perhaps the number of lines

abbrev pub is_defined_of : List ℕ → Option Bool
is_defined_of text =
    if is_same text (codes "DEF") then Some true
    else (if is_same text (codes "-DEF") then Some false else None)

unfoldable pub symbol_test_of : Radix → List (List ℕ) → Option SymbolTest
symbol_test_of radix [] = None
symbol_test_of radix (test ∷ []) = None
symbol_test_of radix (test ∷ symbol ∷ more) =
    option_map (λ parts. record { is_defined = parts.0.0; symbol = parts.0.1; lines = parts.1 })
    (paired (paired (is_defined_of test) (name_of symbol)) (at_most_one (expression_of radix) more))

-- ---- DUP: how often, and perhaps the number of lines

unfoldable pub repetition_of : Radix → List (List ℕ) → Option Repetition
repetition_of radix [] = None
repetition_of radix (count ∷ more) =
    option_map (λ parts. record { count = parts.0; lines = parts.1 })
    (paired (expression_of radix count) (at_most_one (expression_of radix) more))

-- ---- MACRO: parameters without `=`, no two the same

abbrev pub is_equal_sign : ℕ → Bool
is_equal_sign = among (codes "=")

abbrev pub parameter_of : List ℕ → Option Name
parameter_of text = if list_any is_equal_sign text then None else name_of text

abbrev pub stands_twice : List (List ℕ) → List ℕ → Bool
stands_twice texts text = nat_lt 1 (count_by (is_same text) texts)

unfoldable pub parameters_of : List (List ℕ) → Option (List Name)
parameters_of texts = if list_any (stands_twice texts) texts then None else all_some parameter_of texts

-- ---- LOCAL: one local name or more, written as parameters are

unfoldable pub locals_of : List (List ℕ) → Option (List Name)
locals_of [] = None
locals_of (text ∷ texts) = parameters_of (text ∷ texts)

-- ---- DIS: a number of words, a comma and all characters behind it; or a comma and characters between two delimiters, the same in capitals

abbrev pub is_comma : ℕ → Bool
is_comma = among (codes ",")

-- characters that all have a display code
abbrev pub displayed : List ℕ → Option (List ℕ)
displayed text = if list_all has_display text then Some text else None

abbrev pub counted_at : Radix → List ℕ → Option ℕ → Option DisText
counted_at radix text None = None
counted_at radix text (Some at) =
    option_map (λ parts. Counted parts.0 parts.1) (paired (expression_of radix (take at text)) (displayed (drop (at + 1) text)))

abbrev pub counted_of : Radix → List ℕ → Option DisText
counted_of radix text = counted_at radix text (position is_comma text)

-- what may stand before and behind the characters: anything with a display code but a blank
abbrev pub may_enclose : ℕ → Bool
may_enclose character = has_display character && not (is_blank character)

abbrev pub closes : ℕ → ℕ → Bool
closes delimiter character = capital character == capital delimiter

abbrev pub delimited_at : List ℕ → Option ℕ → Option DisText
delimited_at text None = None
delimited_at text (Some at) = option_map Delimited (displayed (take at text))

abbrev pub delimited_of : List ℕ → Option DisText
delimited_of [] = None
delimited_of (delimiter ∷ text) = if may_enclose delimiter then delimited_at text (position (closes delimiter) text) else None

unfoldable pub dis_text_of : Radix → List ℕ → Option DisText
dis_text_of radix [] = None
dis_text_of radix (character ∷ text) = if is_comma character then delimited_of text else counted_of radix (character ∷ text)

-- ---- DATA: one or more items, a comma between two, a blank or nothing behind the last

-- the words behind an item, where `read` says those of a text
abbrev pub words_behind : (List ℕ → Option (List ℕ)) → List ℕ → Option (List ℕ)
words_behind read [] = Some []
words_behind read (character ∷ text) = if is_comma character then read text else (if is_blank character then Some [] else None)

-- the words of a text of at most so many items
unfoldable pub words_up_to : Radix → Machine → ℕ → List ℕ → Option (List ℕ)
words_up_to radix machine zero text = None
words_up_to radix machine (suc more) text =
    option_and_then (λ item. option_map (λ words. item.0 ∷ words) (words_behind (words_up_to radix machine more) (drop item.1 text)))
    (item_of radix machine text)

-- each item has a character
abbrev pub words_of : Radix → Machine → List ℕ → Option (List ℕ)
words_of radix machine tail = words_up_to radix machine (length tail) tail
