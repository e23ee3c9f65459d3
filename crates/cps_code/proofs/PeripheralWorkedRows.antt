-- The table and the rules for values, computed on worked examples.
use Rattle.std.specs.Prelude.{◌≡◌, ℕ, Bool, false, true, List, [], ◌∷◌, map, codes, ℤ, pos, Option, None, Some, option_map, refl}
use Rattle.std.specs.List.{flat_map}
use Rattle.std.specs.Option.{option_map_or}
use Rattle.cps_text.specs.Display.{display_characters}
use Rattle.cps_text.specs.ItemInFront.{item_in_front}
use Rattle.cps_text.specs.Parts.{parts_from, parts_up_to}
use Rattle.cps_expr.specs.declared.radix.Radix.TheVariants.{Decimal}
use Rattle.cps_expr.specs.Expression.{expression_of}
use Rattle.cps_expr.specs.Value.{value_in, plain}
use Rattle.cps_code.specs.declared.filled.Filled.{Filled}
use Rattle.cps_code.specs.declared.hole.Operand.{Operand}
use Rattle.cps_code.specs.declared.hole.Operand.TheVariants as operand
use Rattle.cps_code.specs.Form.{filled}
use Rattle.cps_code.specs.Operand.{operand_literals}
use Rattle.cps_code.specs.PeripheralTable.{pp_table, form_of}

-- the number of an expression where no name is defined and `*` is 0: that of a target is the distance to it; that of a literal as if its address were 0
abbrev number : Operand → ℤ
number (operand.Expression terms) = option_map_or (λ value. value.offset) (value_in (λ name. None) (plain (pos 0)) terms) (pos 0)
number (operand.Literal word) = pos 0

-- the same of a statement with a literal whose address is 0, and the words of its literals
abbrev code_and_literals : List ℕ → List ℕ → Option (Filled × List ℕ)
code_and_literals name tail = option_map (λ form. (filled form (map (λ hole. number hole.operand) form.holes), flat_map (λ hole. operand_literals hole.operand) form.holes)) (form_of name tail Decimal)

abbrev named : ℕ → ℕ → Option (Filled × List ℕ)
named digits word = Some (record { digits = digits; is_truncated = false; is_out_of_range = false }, word ∷ [])

abbrev code : List ℕ → List ℕ → Option Filled
code name tail = option_map (λ form. filled form (map (λ hole. number hole.operand) form.holes)) (form_of name tail Decimal)

abbrev is : ℕ → Bool → Option Filled
is digits truncated = Some (record { digits = digits; is_truncated = truncated; is_out_of_range = false })

abbrev out_of_range : ℕ → Option Filled
out_of_range digits = Some (record { digits = digits; is_truncated = false; is_out_of_range = true })

short_cut : code (codes "LDN") (codes "100B") ≡ is 0o1400 true
unfolding parts_from parts_up_to expression_of pp_table
short_cut = refl

short : code (codes "LDN") (codes "77B") ≡ is 0o1477 false
unfolding parts_from parts_up_to expression_of pp_table
short = refl

negative : code (codes "SHN") (codes "-3") ≡ is 0o1074 false
unfolding parts_from parts_up_to expression_of pp_table
negative = refl

constant : code (codes "LDC") (codes "123456B") ≡ is 0o20123456 false
unfolding parts_from parts_up_to expression_of pp_table
constant = refl

indexed : code (codes "LJM") (codes "1234B,5") ≡ is 0o01051234 false
unfolding parts_from parts_up_to expression_of pp_table
indexed = refl

not_indexed : code (codes "LJM") (codes "1234B") ≡ is 0o01001234 false
unfolding parts_from parts_up_to expression_of pp_table
not_indexed = refl

load : code (codes "LDM") (codes "1000B,5") ≡ is 0o50051000 false
unfolding parts_from parts_up_to expression_of pp_table
load = refl

last : code (codes "FNC") (codes "1,2") ≡ is 0o77020001 false
unfolding parts_from parts_up_to expression_of pp_table
last = refl

pass : code (codes "PSN") (codes "X") ≡ is 0 false
unfolding parts_from parts_up_to expression_of pp_table
pass = refl

forward : code (codes "UJN") (codes "31") ≡ is 0o0337 false
unfolding parts_from parts_up_to expression_of pp_table
forward = refl

backward : code (codes "UJN") (codes "-31") ≡ is 0o0340 false
unfolding parts_from parts_up_to expression_of pp_table
backward = refl

too_far : code (codes "UJN") (codes "32") ≡ out_of_range 0o0300
unfolding parts_from parts_up_to expression_of pp_table
too_far = refl

too_far_back : code (codes "UJN") (codes "-32") ≡ out_of_range 0o0300
unfolding parts_from parts_up_to expression_of pp_table
too_far_back = refl

lower_case : code (codes "ldn") (codes "1") ≡ is 0o1401 false
unfolding parts_from parts_up_to expression_of pp_table
lower_case = refl

register : code (codes "LDN") (codes "X1") ≡ None
unfolding parts_from parts_up_to expression_of pp_table
register = refl

empty_d : code (codes "LJM") (codes "5,") ≡ None
unfolding parts_from parts_up_to expression_of pp_table
empty_d = refl

three : code (codes "LJM") (codes "5,6,7") ≡ None
unfolding parts_from parts_up_to expression_of pp_table
three = refl

two : code (codes "LDN") (codes "5,6") ≡ None
unfolding parts_from parts_up_to expression_of pp_table
two = refl

no_such : code (codes "LDX") (codes "5") ≡ None
unfolding parts_from parts_up_to expression_of pp_table
no_such = refl

another_machine : code (codes "NO") (codes "") ≡ None
unfolding parts_from parts_up_to expression_of pp_table
another_machine = refl

literal_constant : code_and_literals (codes "LDC") (codes "=-1") ≡ named 0o20000000 0o7776
unfolding parts_from parts_up_to expression_of pp_table display_characters item_in_front
literal_constant = refl

literal_address : code_and_literals (codes "LDM") (codes "=2LAB,1") ≡ named 0o50010000 0o0102
unfolding parts_from parts_up_to expression_of pp_table display_characters item_in_front
literal_address = refl

literal_too_great : code (codes "LDM") (codes "=4096") ≡ None
unfolding parts_from parts_up_to expression_of pp_table display_characters item_in_front
literal_too_great = refl

literal_d : code (codes "LDN") (codes "=5") ≡ None
unfolding parts_from parts_up_to expression_of pp_table display_characters item_in_front
literal_d = refl

literal_index : code (codes "LDM") (codes "5,=1") ≡ None
unfolding parts_from parts_up_to expression_of pp_table display_characters item_in_front
literal_index = refl

literal_target : code (codes "UJN") (codes "=5") ≡ None
unfolding parts_from parts_up_to expression_of pp_table display_characters item_in_front
literal_target = refl
