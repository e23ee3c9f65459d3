-- Data items, computed.
use Rattle.std.specs.Prelude.{◌≡◌, codes, None, Some, refl}
use Rattle.cps_text.specs.Display.{display_characters}
use Rattle.cps_text.specs.ItemInFront.{item_in_front}
use Rattle.cps_expr.specs.Item.{item_of}
use Rattle.cps_expr.specs.declared.machine.Machine.TheVariants.{Cp, Pp}
use Rattle.cps_expr.specs.declared.radix.Radix.TheVariants.{Octal, Decimal}

counted_left : item_of Decimal Cp (codes "3LABC,") ≡ Some (0o01020300000000000000, 5)
unfolding display_characters item_in_front
counted_left = refl

delimited_left : item_of Decimal Cp (codes "L*AB*") ≡ Some (0o01020000000000000000, 5)
unfolding display_characters item_in_front
delimited_left = refl

minus_one : item_of Decimal Pp (codes "-1,") ≡ Some (0o7776, 2)
unfolding display_characters item_in_front
minus_one = refl

comma_first : item_of Decimal Cp (codes ",1") ≡ None
unfolding display_characters item_in_front
comma_first = refl

no_octal_digit : item_of Decimal Cp (codes "18B") ≡ None
unfolding display_characters item_in_front
no_octal_digit = refl

counted_right : item_of Decimal Cp (codes "3RABC") ≡ Some (0o00000000000000010203, 5)
unfolding display_characters item_in_front
counted_right = refl

counted_blanks : item_of Decimal Cp (codes "3HABC") ≡ Some (0o01020355555555555555, 5)
unfolding display_characters item_in_front
counted_blanks = refl

minus_one_long : item_of Decimal Cp (codes "-1") ≡ Some (0o77777777777777777776, 2)
unfolding display_characters item_in_front
minus_one_long = refl

blank_inside : item_of Decimal Cp (codes "3HA B") ≡ Some (0o01550255555555555555, 5)
unfolding display_characters item_in_front
blank_inside = refl

nothing_between : item_of Decimal Cp (codes "L**") ≡ None
unfolding display_characters item_in_front
nothing_between = refl

eleven : item_of Decimal Cp (codes "11LABCDEFGHIJK") ≡ None
unfolding display_characters item_in_front
eleven = refl

three_in_two : item_of Decimal Pp (codes "3LAB") ≡ None
unfolding display_characters item_in_front
three_in_two = refl

two_in_two : item_of Decimal Pp (codes "2LAB") ≡ Some (0o0102, 4)
unfolding display_characters item_in_front
two_in_two = refl

greatest_short : item_of Decimal Pp (codes "4095") ≡ Some (0o7777, 4)
unfolding display_characters item_in_front
greatest_short = refl

too_great : item_of Decimal Pp (codes "4096") ≡ None
unfolding display_characters item_in_front
too_great = refl

plus_five : item_of Decimal Cp (codes "+5") ≡ Some (5, 2)
unfolding display_characters item_in_front
plus_five = refl

sign_before_text : item_of Decimal Cp (codes "-3LABC") ≡ None
unfolding display_characters item_in_front
sign_before_text = refl

plain_zero : item_of Decimal Cp (codes "0") ≡ Some (0, 1)
unfolding display_characters item_in_front
plain_zero = refl

minus_zero : item_of Decimal Cp (codes "-0") ≡ Some (0o77777777777777777777, 2)
unfolding display_characters item_in_front
minus_zero = refl

octal_radix : item_of Octal Cp (codes "17") ≡ Some (15, 2)
unfolding display_characters item_in_front
octal_radix = refl

text_ends : item_of Decimal Cp (codes "5LAB") ≡ Some (0o01025555550000000000, 4)
unfolding display_characters item_in_front
text_ends = refl

small_letters : item_of Decimal Cp (codes "2rab*") ≡ Some (0o0102, 4)
unfolding display_characters item_in_front
small_letters = refl

leading_zero : item_of Decimal Pp (codes "02LAB") ≡ Some (0o0102, 5)
unfolding display_characters item_in_front
leading_zero = refl

decimal_suffix : item_of Octal Pp (codes "-10d") ≡ Some (0o7765, 4)
unfolding display_characters item_in_front
decimal_suffix = refl
