-- The rules for expressions, computed on worked examples.
use Rattle.std.specs.Prelude.{◌≡◌, ℕ, List, [], codes, ℤ, pos, negsuc, Option, None, Some, option_and_then, refl}
use Rattle.cps_text.specs.declared.name.Name.{Name}
use Rattle.cps_text.specs.Name.{name_of}
use Rattle.cps_expr.specs.declared.radix.Radix.{Radix}
use Rattle.cps_expr.specs.declared.radix.Radix.TheVariants.{Octal, Decimal}
use Rattle.cps_expr.specs.declared.value.Value.{Value}
use Rattle.cps_expr.specs.Expression.{expression_of}
use Rattle.cps_expr.specs.Value.{value_in, plain}

abbrev block : Option Name
block = name_of (codes "BLK")

-- the value of a text where `*` is plain 3 and each symbol 7 in a block
abbrev gives : Radix → List ℕ → Option Value
gives radix text = option_and_then (value_in (λ name. Some (record { block = block; offset = pos 7 })) (plain (pos 3))) (expression_of radix text)

abbrev decimal : List ℕ → Option Value
decimal = gives Decimal

abbrev is : ℤ → Option Value
is offset = Some (plain offset)

products_first : decimal (codes "2+3*4") ≡ is (pos 14)
unfolding expression_of
products_first = refl

left_to_right : decimal (codes "7/2*2") ≡ is (pos 6)
unfolding expression_of
left_to_right = refl

toward_zero : decimal (codes "-7/2") ≡ is (negsuc 2)
unfolding expression_of
toward_zero = refl

by_zero : decimal (codes "1/0") ≡ is (pos 0)
unfolding expression_of
by_zero = refl

twice_counter : decimal (codes "2**") ≡ is (pos 6)
unfolding expression_of
twice_counter = refl

counter_squared : decimal (codes "***") ≡ is (pos 9)
unfolding expression_of
counter_squared = refl

counter : decimal (codes "*") ≡ is (pos 3)
unfolding expression_of
counter = refl

counter_less_one : decimal (codes "*-1") ≡ is (pos 2)
unfolding expression_of
counter_less_one = refl

octal_by_b : decimal (codes "17B") ≡ is (pos 15)
unfolding expression_of
octal_by_b = refl

octal_by_small_o : decimal (codes "17o") ≡ is (pos 15)
unfolding expression_of
octal_by_small_o = refl

decimal_by_d : decimal (codes "18D") ≡ is (pos 18)
unfolding expression_of
decimal_by_d = refl

octal_by_radix : gives Octal (codes "17") ≡ is (pos 15)
unfolding expression_of
octal_by_radix = refl

no_octal : gives Octal (codes "18") ≡ None
unfolding expression_of
no_octal = refl

no_octal_by_b : expression_of Decimal (codes "18B") ≡ None
unfolding expression_of
no_octal_by_b = refl

no_parentheses : expression_of Decimal (codes "(1)") ≡ None
unfolding expression_of
no_parentheses = refl

no_factor : expression_of Decimal (codes "2*") ≡ None
unfolding expression_of
no_factor = refl

no_operator : expression_of Decimal (codes "*A") ≡ None
unfolding expression_of
no_operator = refl

no_text : expression_of Decimal [] ≡ None
unfolding expression_of
no_text = refl

two_signs : expression_of Decimal (codes "--1") ≡ None
unfolding expression_of
two_signs = refl

sign_last : expression_of Decimal (codes "1+") ≡ None
unfolding expression_of
sign_last = refl

too_large : expression_of Decimal (codes "576460752303423488") ≡ None
unfolding expression_of
too_large = refl

beyond_greatest : decimal (codes "576460752303423487+1") ≡ None
unfolding expression_of
beyond_greatest = refl

difference_in_block : decimal (codes "A-B") ≡ is (pos 0)
unfolding expression_of
difference_in_block = refl

block_plus_plain : decimal (codes "A+1") ≡ Some (record { block = block; offset = pos 8 })
unfolding expression_of
block_plus_plain = refl

plain_plus_block : decimal (codes "1+A") ≡ Some (record { block = block; offset = pos 8 })
unfolding expression_of
plain_plus_block = refl

plus_block : decimal (codes "+A-1") ≡ Some (record { block = block; offset = pos 6 })
unfolding expression_of
plus_block = refl

minus_block : decimal (codes "-A+B") ≡ None
unfolding expression_of
minus_block = refl

product_of_block : decimal (codes "A*1") ≡ None
unfolding expression_of
product_of_block = refl

beyond_block : decimal (codes "A+288230376151711738") ≡ None
unfolding expression_of
beyond_block = refl

within_block : decimal (codes "A+288230376151711737") ≡ Some (record { block = block; offset = pos 288230376151711744 })
unfolding expression_of
within_block = refl

product_beyond : decimal (codes "576460752303423487*2-576460752303423487") ≡ None
unfolding expression_of
product_beyond = refl

-- the value of a text where each symbol is a plain number
abbrev with_symbol : ℤ → List ℕ → Option Value
with_symbol number text = option_and_then (value_in (λ name. Some (plain number)) (plain (pos 3))) (expression_of Decimal text)

negative_dividend : with_symbol (negsuc 6) (codes "A/2") ≡ is (negsuc 2)
unfolding expression_of
negative_dividend = refl

negative_divisor : with_symbol (negsuc 1) (codes "7/A") ≡ is (negsuc 2)
unfolding expression_of
negative_divisor = refl

zero_times_negative : with_symbol (negsuc 0) (codes "0*A") ≡ is (pos 0)
unfolding expression_of
zero_times_negative = refl
