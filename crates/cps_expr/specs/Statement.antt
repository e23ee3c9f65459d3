-- The statement table: what the operands of each operation give. From the manual's chapter on pseudo instructions;
-- that the operands of ABS, PERIPH, ELSE, ENDIF, ENDD, ENDM, END and of the listing operations aren't read is our profile's.
use Rattle.std.specs.Prelude.{ℕ, Bool, List, [], ◌∷◌, ◌++◌, map, Option, Some, option_map, option_and_then, option_to_list}
use Rattle.std.specs.List.{flat_map, list_any}
use Rattle.cps_text.specs.declared.name.Name.{Name}
use Rattle.cps_text.specs.Name.{name_of}
use Rattle.cps_text.specs.Operands.{operands_of}
use Rattle.cps_expr.specs.declared.machine.Machine.{Machine}
use Rattle.cps_expr.specs.declared.operation.Operation.{Operation}
use Rattle.cps_expr.specs.declared.operation.Operation.TheVariants.{Ident, Abs, Periph, Base, Equate, Set, Org, Use, Bss, Bssz, Con, Data, Vfd, Dis, Compare, If, Else, Endif, Dup, Endd, Macro, Local, Endm, End, Listing}
use Rattle.cps_expr.specs.declared.radix.Radix.{Radix}
use Rattle.cps_expr.specs.declared.pseudo.DisText.{DisText}
use Rattle.cps_expr.specs.declared.pseudo.DisText.TheVariants.{Counted, Delimited}
use Rattle.cps_expr.specs.declared.pseudo.Pseudo.{Pseudo}
use Rattle.cps_expr.specs.declared.pseudo.Pseudo.TheVariants as row
use Rattle.cps_expr.specs.Expression.{Expression, expression_of, has_counter, names_of}
use Rattle.cps_expr.specs.Operation.{operation_named}
use Rattle.cps_expr.specs.OperandList.{first_one, only_one, one_or_more}
use Rattle.cps_expr.specs.Row.{radix_of, block_of, field_of, comparison_of, symbol_test_of, repetition_of, parameters_of, locals_of, dis_text_of, words_of}

-- ---- the table

abbrev pub only_expression : Radix → List ℕ → Option Expression
only_expression radix tail = only_one (expression_of radix) (operands_of tail)

-- the row of an operation's operands, None where they don't fit
abbrev pub row_with : Operation → List ℕ → Machine → Radix → Option Pseudo
row_with Ident tail machine radix = option_map row.Ident (first_one name_of (operands_of tail))
row_with Abs tail machine radix = Some row.Abs
row_with Periph tail machine radix = Some row.Periph
row_with Base tail machine radix = option_map row.Base (first_one radix_of (operands_of tail))
row_with Equate tail machine radix = option_map row.Equate (only_expression radix tail)
row_with Set tail machine radix = option_map row.Set (only_expression radix tail)
row_with Org tail machine radix = option_map row.Org (only_expression radix tail)
row_with Use tail machine radix = option_map row.Use (block_of (operands_of tail))
row_with Bss tail machine radix = option_map row.Bss (only_expression radix tail)
row_with Bssz tail machine radix = option_map row.Bssz (only_expression radix tail)
row_with Con tail machine radix = option_map row.Con (one_or_more (expression_of radix) (operands_of tail))
row_with Data tail machine radix = option_map row.Data (words_of radix machine tail)
row_with Vfd tail machine radix = option_map row.Vfd (one_or_more (field_of radix) (operands_of tail))
row_with Dis tail machine radix = option_map row.Dis (dis_text_of radix tail)
row_with (Compare relation) tail machine radix = option_map row.Compare (comparison_of radix relation (operands_of tail))
row_with If tail machine radix = option_map row.If (symbol_test_of radix (operands_of tail))
row_with Else tail machine radix = Some row.Else
row_with Endif tail machine radix = Some row.Endif
row_with Dup tail machine radix = option_map row.Dup (repetition_of radix (operands_of tail))
row_with Endd tail machine radix = Some row.Endd
row_with Macro tail machine radix = option_map row.Macro (parameters_of (operands_of tail))
row_with Local tail machine radix = option_map row.Local (locals_of (operands_of tail))
row_with Endm tail machine radix = Some row.Endm
row_with End tail machine radix = Some row.End
row_with Listing tail machine radix = Some row.Listing

-- the row of a statement
abbrev pub row_of : List ℕ → List ℕ → Machine → Radix → Option Pseudo
row_of operation tail machine radix = option_and_then (λ named. row_with named tail machine radix) (operation_named operation)

-- ---- the expressions of a row, its names, and whether `*` stands in it

-- the number of words of DIS
abbrev pub count_in : DisText → List Expression
count_in (Counted count text) = count ∷ []
count_in (Delimited text) = []

-- the expressions that are valued in the first pass
abbrev pub now_expressions : Pseudo → List Expression
now_expressions (row.Equate value) = value ∷ []
now_expressions (row.Set value) = value ∷ []
now_expressions (row.Org address) = address ∷ []
now_expressions (row.Bss words) = words ∷ []
now_expressions (row.Bssz words) = words ∷ []
now_expressions (row.Vfd fields) = map (λ field. field.width) fields
now_expressions (row.Dis characters) = count_in characters
now_expressions (row.Compare test) = test.left ∷ test.right ∷ option_to_list test.lines
now_expressions (row.If test) = option_to_list test.lines
now_expressions (row.Dup repetition) = repetition.count ∷ option_to_list repetition.lines
now_expressions _ = []

-- those that are valued in the second pass
abbrev pub later_expressions : Pseudo → List Expression
later_expressions (row.Con values) = values
later_expressions (row.Vfd fields) = map (λ field. field.value) fields
later_expressions _ = []

-- the symbol of an IF, which is asked in the first pass
abbrev pub tested_names : Pseudo → List Name
tested_names (row.If test) = test.symbol ∷ []
tested_names _ = []

-- the names that are read in the first pass, and those that are read in the second
abbrev pub now_names : Pseudo → List Name
now_names r = tested_names r ++ flat_map names_of (now_expressions r)

abbrev pub later_names : Pseudo → List Name
later_names r = flat_map names_of (later_expressions r)

-- whether `*` stands in an expression of the pass
abbrev pub now_has_counter : Pseudo → Bool
now_has_counter r = list_any has_counter (now_expressions r)

abbrev pub later_has_counter : Pseudo → Bool
later_has_counter r = list_any has_counter (later_expressions r)
