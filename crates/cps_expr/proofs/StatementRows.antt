-- The statement table, computed on small examples.
use Rattle.std.specs.Prelude.{◌≡◌, ℕ, true, false, List, [], ◌∷◌, codes, None, Some, option_map, refl}
use Rattle.cps_text.specs.declared.name.Name.{Name}
use Rattle.cps_text.specs.Display.{display_characters}
use Rattle.cps_text.specs.ItemInFront.{item_in_front}
use Rattle.cps_text.specs.Parts.{parts_from, parts_up_to}
use Rattle.cps_text.specs.Symbol.{padded}
use Rattle.cps_expr.specs.declared.machine.Machine.TheVariants.{Cp, Pp}
use Rattle.cps_expr.specs.declared.operation.Operation.TheVariants.{Compare, Equate}
use Rattle.cps_expr.specs.declared.operation.Relation.TheVariants.{Greater, GreaterOrEqual}
use Rattle.cps_expr.specs.declared.radix.Radix.TheVariants.{Octal, Decimal}
use Rattle.cps_expr.specs.declared.pseudo.Block.TheVariants.{Nominal, Previous}
use Rattle.cps_expr.specs.declared.pseudo.DisText.TheVariants.{Counted, Delimited}
use Rattle.cps_expr.specs.declared.pseudo.Pseudo.TheVariants as row
use Rattle.cps_expr.specs.declared.term.Element.{Element}
use Rattle.cps_expr.specs.declared.term.Element.TheVariants.{Number, Symbol, Counter}
use Rattle.cps_expr.specs.Expression.{Expression, expression_of}
use Rattle.cps_expr.specs.Operation.{operations, operation_named}
use Rattle.cps_expr.specs.Row.{is_defined_of, field_of, comparison_of, symbol_test_of, repetition_of, parameters_of, dis_text_of, words_up_to}
use Rattle.cps_expr.specs.Statement.{row_of, now_names, later_names, now_has_counter, later_has_counter}

lower_case : operation_named (codes "ifge") ≡ Some (Compare GreaterOrEqual)
unfolding operations
lower_case = refl

equal_sign : operation_named (codes "=") ≡ Some Equate
unfolding operations
equal_sign = refl

longer_name : operation_named (codes "SETS") ≡ None
unfolding operations
longer_name = refl

instruction : operation_named (codes "SA1") ≡ None
unfolding operations
instruction = refl

program_name : row_of (codes "IDENT") (codes "PROG,X1") Cp Octal ≡ Some (row.Ident (record { bytes = padded (codes "PROG") }))
unfolding operations parts_from parts_up_to
program_name = refl

no_program_name : row_of (codes "IDENT") (codes " PROG") Cp Octal ≡ None
unfolding operations
no_program_name = refl

radix : row_of (codes "base") (codes "dec") Cp Octal ≡ Some (row.Base Decimal)
unfolding operations parts_from parts_up_to
radix = refl

nominal_block : row_of (codes "USE") (codes "0") Cp Octal ≡ Some (row.Use Nominal)
unfolding operations parts_from parts_up_to
nominal_block = refl

no_block : row_of (codes "USE") [] Cp Octal ≡ Some (row.Use Nominal)
unfolding operations
no_block = refl

block_before : row_of (codes "USE") (codes "*  BACK") Cp Octal ≡ Some (row.Use Previous)
unfolding operations parts_from parts_up_to
block_before = refl

two_blocks : row_of (codes "USE") (codes "W,V") Cp Octal ≡ None
unfolding operations parts_from parts_up_to
two_blocks = refl

two_zeros : row_of (codes "USE") (codes "00") Cp Octal ≡ None
unfolding operations parts_from parts_up_to
two_zeros = refl

register : row_of (codes "USE") (codes "X1") Cp Octal ≡ None
unfolding operations parts_from parts_up_to
register = refl

unread : row_of (codes "END") (codes "X1,") Cp Octal ≡ Some row.End
unfolding operations
unread = refl

undefined : is_defined_of (codes "-def") ≡ Some false
undefined = refl

no_parameter : parameters_of [] ≡ Some []
unfolding parameters_of
no_parameter = refl

parameters : parameters_of (codes "a" ∷ codes "B.1" ∷ []) ≡ Some (record { bytes = padded (codes "A") } ∷ record { bytes = padded (codes "B.1") } ∷ [])
unfolding parameters_of
parameters = refl

same_parameter : parameters_of (codes "A" ∷ codes "B" ∷ codes "a" ∷ []) ≡ None
unfolding parameters_of
same_parameter = refl

parameter_with_sign : parameters_of (codes "A=" ∷ []) ≡ None
unfolding parameters_of
parameter_with_sign = refl

delimited : dis_text_of Octal (codes ",/A, B/ C") ≡ Some (Delimited (codes "A, B"))
unfolding dis_text_of display_characters
delimited = refl

delimited_in_letters : dis_text_of Octal (codes ",dtextD") ≡ Some (Delimited (codes "text"))
unfolding dis_text_of display_characters
delimited_in_letters = refl

empty_text : dis_text_of Octal (codes ",//") ≡ Some (Delimited [])
unfolding dis_text_of display_characters
empty_text = refl

unclosed : dis_text_of Octal (codes ",/AB") ≡ None
unfolding dis_text_of display_characters
unclosed = refl

blank_delimiter : dis_text_of Octal (codes ", A ") ≡ None
unfolding dis_text_of display_characters
blank_delimiter = refl

-- ---- rows with expressions

abbrev term_of_element : Element → Expression
term_of_element element = record { is_minus = false; first = element; factors = [] } ∷ []

abbrev name : List ℕ → Name
name text = record { bytes = padded text }

abbrev number : ℕ → Expression
number n = term_of_element (Number n)

abbrev symbol : List ℕ → Expression
symbol text = term_of_element (Symbol (name text))

equate : row_of (codes "EQU") (codes "12B") Cp Decimal ≡ Some (row.Equate (number 10))
unfolding operations parts_from parts_up_to expression_of
equate = refl

constants : row_of (codes "CON") (codes "1,A") Cp Octal ≡ Some (row.Con (number 1 ∷ symbol (codes "A") ∷ []))
unfolding operations parts_from parts_up_to expression_of
constants = refl

no_constant : row_of (codes "CON") [] Cp Octal ≡ None
unfolding operations
no_constant = refl

fields : row_of (codes "VFD") (codes "12/A,48/*") Cp Decimal ≡ Some (row.Vfd (record { width = number 12; value = symbol (codes "A") } ∷ record { width = number 48; value = term_of_element Counter } ∷ []))
unfolding operations parts_from parts_up_to expression_of field_of
fields = refl

words : row_of (codes "DATA") (codes "2LAB,5 X") Cp Octal ≡ Some (row.Data (0o01020000000000000000 ∷ 5 ∷ []))
unfolding operations words_up_to display_characters item_in_front
words = refl

short_words : row_of (codes "DATA") (codes "1,-1") Pp Octal ≡ Some (row.Data (1 ∷ 0o7776 ∷ []))
unfolding operations words_up_to display_characters item_in_front
short_words = refl

symbol_test : row_of (codes "IF") (codes "DEF,A,3") Cp Octal ≡ Some (row.If (record { is_defined = true; symbol = name (codes "A"); lines = Some (number 3) }))
unfolding operations parts_from parts_up_to expression_of symbol_test_of
symbol_test = refl

comparison : row_of (codes "IFGT") (codes "A,1") Cp Octal ≡ Some (row.Compare (record { relation = Greater; left = symbol (codes "A"); right = number 1; lines = None }))
unfolding operations parts_from parts_up_to expression_of comparison_of
comparison = refl

repetition : row_of (codes "DUP") (codes "3,2") Cp Octal ≡ Some (row.Dup (record { count = number 3; lines = Some (number 2) }))
unfolding operations parts_from parts_up_to expression_of repetition_of
repetition = refl

counted_text : row_of (codes "DIS") (codes "2,AB, C") Cp Octal ≡ Some (row.Dis (Counted (number 2) (codes "AB, C")))
unfolding operations expression_of dis_text_of display_characters
counted_text = refl

-- ---- names, and whether `*` stands in a row

width_name : option_map now_names (row_of (codes "VFD") (codes "A/B") Cp Octal) ≡ Some (name (codes "A") ∷ [])
unfolding operations parts_from parts_up_to expression_of field_of
width_name = refl

value_name : option_map later_names (row_of (codes "VFD") (codes "A/B") Cp Octal) ≡ Some (name (codes "B") ∷ [])
unfolding operations parts_from parts_up_to expression_of field_of
value_name = refl

tested_name : option_map now_names (row_of (codes "IF") (codes "DEF,A,B") Cp Octal) ≡ Some (name (codes "A") ∷ name (codes "B") ∷ [])
unfolding operations parts_from parts_up_to expression_of symbol_test_of
tested_name = refl

constant_names : option_map later_names (row_of (codes "CON") (codes "A,B+A") Cp Octal) ≡ Some (name (codes "A") ∷ name (codes "B") ∷ name (codes "A") ∷ [])
unfolding operations parts_from parts_up_to expression_of
constant_names = refl

counter_now : option_map now_has_counter (row_of (codes "ORG") (codes "*+1") Cp Octal) ≡ Some true
unfolding operations parts_from parts_up_to expression_of
counter_now = refl

no_counter_now : option_map now_has_counter (row_of (codes "VFD") (codes "12/*") Cp Octal) ≡ Some false
unfolding operations parts_from parts_up_to expression_of field_of
no_counter_now = refl

counter_later : option_map later_has_counter (row_of (codes "VFD") (codes "12/*") Cp Octal) ≡ Some true
unfolding operations parts_from parts_up_to expression_of field_of
counter_later = refl
