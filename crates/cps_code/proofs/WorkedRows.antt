-- The table and the rules for values, computed on worked examples.
use Rattle.std.specs.Prelude.{◌≡◌, ℕ, Bool, true, false, List, [], ◌∷◌, map, codes, ℤ, pos, Option, None, Some, option_map, refl}
use Rattle.std.specs.List.{flat_map}
use Rattle.std.specs.Option.{option_map_or}
use Rattle.cps_text.specs.Display.{display_characters}
use Rattle.cps_text.specs.ItemInFront.{item_in_front}
use Rattle.cps_text.specs.Parts.{parts_from, parts_up_to}
use Rattle.cps_code.specs.declared.filled.Filled.{Filled}
use Rattle.cps_expr.specs.declared.radix.Radix.TheVariants.{Decimal}
use Rattle.cps_expr.specs.Expression.{expression_of}
use Rattle.cps_expr.specs.Value.{value_in, plain}
use Rattle.cps_code.specs.declared.hole.Operand.{Operand}
use Rattle.cps_code.specs.declared.hole.Operand.TheVariants as operand
use Rattle.cps_code.specs.Form.{filled}
use Rattle.cps_code.specs.Operand.{operand_literals}
use Rattle.cps_code.specs.Table.{cp_operations}
use Rattle.cps_code.specs.RowForms.{form_of}

-- the number of an expression where no name is defined and `*` is 3; that of a literal as if its address were 0
abbrev number : Operand → ℤ
number (operand.Expression terms) = option_map_or (λ value. value.offset) (value_in (λ name. None) (plain (pos 3)) terms) (pos 0)
number (operand.Literal word) = pos 0

-- the same of a statement with a literal whose address is 0, and the words of its literals
abbrev code_and_literals : List ℕ → List ℕ → Option (Filled × List ℕ)
code_and_literals name tail = option_map (λ form. (filled form (map (λ hole. number hole.operand) form.holes), flat_map (λ hole. operand_literals hole.operand) form.holes)) (form_of name tail Decimal)

abbrev named : ℕ → ℕ → Option (Filled × List ℕ)
named digits word = Some (record { digits = digits; is_truncated = false; is_out_of_range = false }, word ∷ [])

abbrev out_of_range : ℕ → Option Filled
out_of_range digits = Some (record { digits = digits; is_truncated = false; is_out_of_range = true })

-- the code of a statement with the values of its expressions
abbrev code : List ℕ → List ℕ → Option Filled
code name tail = option_map (λ form. filled form (map (λ hole. number hole.operand) form.holes)) (form_of name tail Decimal)

abbrev is : ℕ → Bool → Option Filled
is digits truncated = Some (record { digits = digits; is_truncated = truncated; is_out_of_range = false })

sum_with_register : code (codes "SA1") (codes "B1+3") ≡ is 0o5111000003 false
unfolding parts_from parts_up_to expression_of cp_operations
sum_with_register = refl

turned_round : code (codes "SA1") (codes "3+B1") ≡ is 0o5111000003 false
unfolding parts_from parts_up_to expression_of cp_operations
turned_round = refl

register_alone : code (codes "SX6") (codes "X1") ≡ is 0o73610 false
unfolding parts_from parts_up_to expression_of cp_operations
register_alone = refl

address_register : code (codes "SA6") (codes "A1   STORE") ≡ is 0o54610 false
unfolding parts_from parts_up_to expression_of cp_operations
address_register = refl

less_register : code (codes "SX6") (codes "-B1") ≡ is 0o77601 false
unfolding parts_from parts_up_to expression_of cp_operations
less_register = refl

two_registers : code (codes "SX2") (codes "-B3+A1") ≡ is 0o75213 false
unfolding parts_from parts_up_to expression_of cp_operations
two_registers = refl

jump : code (codes "EQ") (codes "100B") ≡ is 0o0400000100 false
unfolding parts_from parts_up_to expression_of cp_operations
jump = refl

jump_to_sum : code (codes "EQ") (codes "START+1") ≡ is 0o0400000001 false
unfolding parts_from parts_up_to expression_of cp_operations
jump_to_sum = refl

negative : code (codes "SX1") (codes "-377777B") ≡ is 0o7110400000 false
unfolding parts_from parts_up_to expression_of cp_operations
negative = refl

cut_negative : code (codes "SX1") (codes "-400000B") ≡ is 0o7110377777 true
unfolding parts_from parts_up_to expression_of cp_operations
cut_negative = refl

cut : code (codes "SA1") (codes "1000000B") ≡ is 0o5110000000 true
unfolding parts_from parts_up_to expression_of cp_operations
cut = refl

subtracted : code (codes "SA1") (codes "A1-1") ≡ is 0o5011777776 false
unfolding parts_from parts_up_to expression_of cp_operations
subtracted = refl

no_such_row : code (codes "SA1") (codes "-X1") ≡ None
unfolding parts_from parts_up_to expression_of cp_operations
no_such_row = refl

jump_to_register : code (codes "EQ") (codes "X1") ≡ None
unfolding parts_from parts_up_to expression_of cp_operations
jump_to_register = refl

products_and_counter : code (codes "SB2") (codes "2**-B1+X1") ≡ None
unfolding parts_from parts_up_to expression_of cp_operations
products_and_counter = refl

product_with_register : code (codes "SB2") (codes "2**+X1") ≡ is 0o6221000006 false
unfolding parts_from parts_up_to expression_of cp_operations
product_with_register = refl

register_in_product : code (codes "SB2") (codes "2*X1") ≡ None
unfolding parts_from parts_up_to expression_of cp_operations
register_in_product = refl

lower_case : code (codes "sa1") (codes "b1+3") ≡ is 0o5111000003 false
unfolding parts_from parts_up_to expression_of cp_operations
lower_case = refl

two_operands : code (codes "SA1") (codes "1,2") ≡ None
unfolding parts_from parts_up_to expression_of cp_operations
two_operands = refl

no_operand : code (codes "SA1") (codes " B1") ≡ None
unfolding parts_from parts_up_to expression_of cp_operations
no_operand = refl

literal : code_and_literals (codes "SA1") (codes "=3HA B") ≡ named 0o5110000000 0o01550255555555555555
unfolding parts_from parts_up_to expression_of cp_operations display_characters item_in_front
literal = refl

literal_behind_register : code_and_literals (codes "ZR") (codes "X3,=5") ≡ named 0o0303000000 5
unfolding parts_from parts_up_to expression_of cp_operations display_characters item_in_front
literal_behind_register = refl

literal_alone_jump : code_and_literals (codes "JP") (codes "=-0") ≡ named 0o0200000000 0o77777777777777777777
unfolding parts_from parts_up_to expression_of cp_operations display_characters item_in_front
literal_alone_jump = refl

literal_with_register : code (codes "SA1") (codes "B1+=5") ≡ None
unfolding parts_from parts_up_to expression_of cp_operations display_characters item_in_front
literal_with_register = refl

two_items : code (codes "SA1") (codes "=5/2") ≡ None
unfolding parts_from parts_up_to expression_of cp_operations display_characters item_in_front
two_items = refl

literal_count : code (codes "LX3") (codes "=6") ≡ None
unfolding parts_from parts_up_to expression_of cp_operations display_characters item_in_front
literal_count = refl

zero_branch : code (codes "ZR") (codes "X3,5") ≡ is 0o0303000005 false
unfolding parts_from parts_up_to expression_of cp_operations
zero_branch = refl

register_jump : code (codes "JP") (codes "B2+7") ≡ is 0o0220000007 false
unfolding parts_from parts_up_to expression_of cp_operations
register_jump = refl

register_jump_alone : code (codes "JP") (codes "B2") ≡ is 0o0220000000 false
unfolding parts_from parts_up_to expression_of cp_operations
register_jump_alone = refl

jump_behind : code (codes "JP") (codes "7-1") ≡ is 0o0200000006 false
unfolding parts_from parts_up_to expression_of cp_operations
jump_behind = refl

return_jump : code (codes "RJ") (codes "5") ≡ is 0o0100000005 false
unfolding parts_from parts_up_to expression_of cp_operations
return_jump = refl

greater : code (codes "GT") (codes "B1,B2,5") ≡ is 0o0721000005 false
unfolding parts_from parts_up_to expression_of cp_operations
greater = refl

less_or_equal : code (codes "LE") (codes "B1,B2,5") ≡ is 0o0621000005 false
unfolding parts_from parts_up_to expression_of cp_operations
less_or_equal = refl

greater_than_zero : code (codes "GT") (codes "B3,5") ≡ is 0o0703000005 false
unfolding parts_from parts_up_to expression_of cp_operations
greater_than_zero = refl

less_or_equal_zero : code (codes "LE") (codes "B3,5") ≡ is 0o0603000005 false
unfolding parts_from parts_up_to expression_of cp_operations
less_or_equal_zero = refl

equal : code (codes "EQ") (codes "B1,B2,5") ≡ is 0o0412000005 false
unfolding parts_from parts_up_to expression_of cp_operations
equal = refl

minus_branch : code (codes "MI") (codes "X1,5") ≡ is 0o0331000005 false
unfolding parts_from parts_up_to expression_of cp_operations
minus_branch = refl

minus_branch_on_b : code (codes "MI") (codes "B1,5") ≡ is 0o0710000005 false
unfolding parts_from parts_up_to expression_of cp_operations
minus_branch_on_b = refl

mask_too_wide : code (codes "MX0") (codes "64") ≡ is 0o43000 true
unfolding parts_from parts_up_to expression_of cp_operations
mask_too_wide = refl

negative_mask : code (codes "MX0") (codes "-1") ≡ out_of_range 0o43000
unfolding parts_from parts_up_to expression_of cp_operations
negative_mask = refl

mask : code (codes "MX0") (codes "60") ≡ is 0o43074 false
unfolding parts_from parts_up_to expression_of cp_operations
mask = refl

shift : code (codes "LX3") (codes "6") ≡ is 0o20306 false
unfolding parts_from parts_up_to expression_of cp_operations
shift = refl

complement_product : code (codes "BX6") (codes "-X2*X1") ≡ is 0o15612 false
unfolding parts_from parts_up_to expression_of cp_operations
complement_product = refl

complement : code (codes "BX5") (codes "-X2") ≡ is 0o14522 false
unfolding parts_from parts_up_to expression_of cp_operations
complement = refl

copied : code (codes "BX6") (codes "X1") ≡ is 0o10611 false
unfolding parts_from parts_up_to expression_of cp_operations
copied = refl

shift_by_register : code (codes "LX3") (codes "B1,X2") ≡ is 0o22312 false
unfolding parts_from parts_up_to expression_of cp_operations
shift_by_register = refl

shift_by_register_turned : code (codes "LX3") (codes "X2,B1") ≡ is 0o22312 false
unfolding parts_from parts_up_to expression_of cp_operations
shift_by_register_turned = refl

normalized : code (codes "NX1") (codes "X2") ≡ is 0o24102 false
unfolding parts_from parts_up_to expression_of cp_operations
normalized = refl

normalized_with : code (codes "NX1") (codes "B3,X2") ≡ is 0o24132 false
unfolding parts_from parts_up_to expression_of cp_operations
normalized_with = refl

quotient : code (codes "FX1") (codes "X2/X3") ≡ is 0o44123 false
unfolding parts_from parts_up_to expression_of cp_operations
quotient = refl

population : code (codes "CX1") (codes "X2") ≡ is 0o47122 false
unfolding parts_from parts_up_to expression_of cp_operations
population = refl

stop : code (codes "PS") (codes "") ≡ is 0 false
unfolding parts_from parts_up_to expression_of cp_operations
stop = refl

lower_case_fields : code (codes "lx3") (codes "b1,x2") ≡ is 0o22312 false
unfolding parts_from parts_up_to expression_of cp_operations
lower_case_fields = refl

exact_register : code (codes "ZR") (codes "+X3,5") ≡ None
unfolding parts_from parts_up_to expression_of cp_operations
exact_register = refl

empty_operand : code (codes "LE") (codes "B1,B2,") ≡ None
unfolding parts_from parts_up_to expression_of cp_operations
empty_operand = refl

too_many_operands : code (codes "ZR") (codes "X3,5,6") ≡ None
unfolding parts_from parts_up_to expression_of cp_operations
too_many_operands = refl

no_register_eight : code (codes "CX1") (codes "X8") ≡ None
unfolding parts_from parts_up_to expression_of cp_operations
no_register_eight = refl
