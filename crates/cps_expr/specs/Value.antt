-- What expressions give where names have values. From the manual's sections on expressions and on blocks;
-- the ranges, and what has no value, are our profile's.
use Rattle.std.specs.Prelude.{◌≡◌, ℕ, Bool, ◌==◌, nat_le, IsTrue, List, All, fold, ℤ, pos, nat_abs, ◌+ℤ◌, ◌-ℤ◌, ◌*ℤ◌, int_div, Option, None, Some, unwrap_or, option_and_then, is_none, if◌then◌else◌}
use Rattle.std.specs.List.{list_any}
use Rattle.std.specs.Cmp.Lexicographic.{pointwise}
use Rattle.cps_text.specs.declared.name.Name.{Name}
use Rattle.cps_expr.specs.declared.value.Value.{Value}
use Rattle.cps_expr.specs.declared.term.Element.{Element}
use Rattle.cps_expr.specs.declared.term.Element.TheVariants.{Number, Symbol, Counter}
use Rattle.cps_expr.specs.declared.term.Operator.{Operator}
use Rattle.cps_expr.specs.declared.term.Operator.TheVariants.{Times, Over}
use Rattle.cps_expr.specs.Limits.{greatest_plain, greatest_offset}
use Rattle.cps_expr.specs.Term.{Term}
use Rattle.cps_expr.specs.Expression.{Expression, names_of}

-- what names stand for
abbrev pub Values : Type 0
Values = Name → Option Value

-- ---- ranges

-- the greatest magnitude in a block, and in none
abbrev pub greatest : Option Name → ℕ
greatest None = greatest_plain
greatest (Some block) = greatest_offset

abbrev pub is_in_range : Value → Bool
is_in_range value = nat_le (nat_abs value.offset) (greatest value.block)

abbrev pub IsInRange : Value → Type 0
IsInRange value = IsTrue (is_in_range value)

-- each element and each result on the way is in range, or there is no value
abbrev pub limited : Value → Option Value
limited value = if is_in_range value then Some value else None

abbrev pub plain : ℤ → Value
plain offset = record { block = None; offset = offset }

-- ---- blocks

abbrev pub same_name : Name → Name → Bool
same_name a b = pointwise ◌==◌ a.bytes b.bytes

-- a block plus or minus plain stays in the block, and so does plain plus a block
abbrev pub block_of_sum : Option Name → Option Name → Option (Option Name)
block_of_sum block None = Some block
block_of_sum None (Some b) = Some (Some b)
block_of_sum (Some a) (Some b) = None

-- a difference within one block is plain
abbrev pub block_of_difference : Option Name → Option Name → Option (Option Name)
block_of_difference block None = Some block
block_of_difference None (Some b) = None
block_of_difference (Some a) (Some b) = if same_name a b then Some None else None

-- plain values alone are multiplied and divided
abbrev pub block_of_product : Option Name → Option Name → Option (Option Name)
block_of_product None None = Some None
block_of_product None (Some b) = None
block_of_product (Some a) b = None

abbrev pub in_block : Option (Option Name) → ℤ → Option Value
in_block None offset = None
in_block (Some block) offset = limited (record { block = block; offset = offset })

-- ---- operations

-- a quotient is truncated toward zero, and 0 where the divisor is
abbrev pub quotient : ℤ → ℤ → ℤ
quotient dividend divisor = if nat_abs divisor == 0 then pos 0 else int_div dividend divisor

abbrev pub multiplied : Operator → Value → Value → Option Value
multiplied Times a b = in_block (block_of_product a.block b.block) (a.offset *ℤ b.offset)
multiplied Over a b = in_block (block_of_product a.block b.block) (quotient a.offset b.offset)

abbrev pub sum_of : Value → Value → Option Value
sum_of a b = in_block (block_of_sum a.block b.block) (a.offset +ℤ b.offset)

abbrev pub difference_of : Value → Value → Option Value
difference_of a b = in_block (block_of_difference a.block b.block) (a.offset -ℤ b.offset)

abbrev pub added : Bool → Value → Value → Option Value
added is_minus a b = if is_minus then difference_of a b else sum_of a b

-- what two values give, if there are both
abbrev pub both : (Value → Value → Option Value) → Option Value → Option Value → Option Value
both operation a b = option_and_then (λ left. option_and_then (λ right. operation left right) b) a

-- ---- values

-- an undefined name counts as plain 0
abbrev pub element_value : Values → Value → Element → Option Value
element_value values here (Number n) = limited (plain (pos n))
element_value values here (Symbol name) = limited (unwrap_or (values name) (plain (pos 0)))
element_value values here Counter = limited here

-- the value of a term without its sign: its elements multiplied and divided from left to right
abbrev pub term_value : Values → Value → Term → Option Value
term_value values here term =
    fold (λ so_far factor. both (multiplied factor.operator) so_far (element_value values here factor.element)) (element_value values here term.first) term.factors

-- the value of an expression: its terms added and subtracted from left to right, from plain 0 on
abbrev pub value_in : Values → Value → Expression → Option Value
value_in values here terms = fold (λ so_far term. both (added term.is_minus) so_far (term_value values here term)) (Some (plain (pos 0))) terms

abbrev pub has_undefined : Values → Expression → Bool
has_undefined values terms = list_any (λ name. is_none (values name)) (names_of terms)

abbrev pub AgreeOn : Values → Values → List Name → Type 0
AgreeOn others values names = All (λ name. others name ≡ values name) names
