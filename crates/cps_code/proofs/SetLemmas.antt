-- The registers that are kept of a sum, and operands that no row takes.
use Rattle.std.proofs.Common.{◌≡◌, ℕ, ◌<◌, Bool, true, false, cond, leb, List, [], ◌∷◌, length, Option, None, Some, refl, sym, ap, subst, ◌∙◌, arith}
use Rattle.std.proofs.lemmas.List.{length-reverse}
use Rattle.std.proofs.lemmas.Bool.Decides.{nat_tests}
use Rattle.std.specs.Option.{option_or}
use Rattle.std.specs.Prelude.{All, option_map, is_some}
use Rattle.std.specs.List.{list_all}
use Rattle.cps_code.specs.declared.sum.Registers.{Registers}
use Rattle.cps_code.specs.declared.sum.Registers.TheVariants.{Absent, One, Two}
use Rattle.cps_code.specs.declared.register.RegisterTerm.{RegisterTerm}
use Rattle.cps_code.specs.declared.forms.SumForms.{SumForms}
use Rattle.cps_code.specs.declared.forms.SumForms.TheVariants.{Set, Jump}
use Rattle.cps_code.specs.Code.FoundForms.{sum_rows, sum_form}
use Rattle.cps_code.specs.Sum.{Summed}
use Rattle.cps_code.specs.Code.Terms.{IsRegister, AreRegisters, register_list}
use Rattle.cps_expr.specs.declared.radix.Radix.{Radix}
use Rattle.cps_code.specs.declared.digits.Digits.{Digits}
use Rattle.cps_code.specs.Digits.{with_digit}
use Rattle.cps_code.proofs.BothTrue.{left_true, right_true}
use Rattle.cps_code.specs.Rows.{Shape, unread, fields, summed, RowForm, RowTerm}
use Rattle.cps_code.specs.RowForms.{Operands, turned_sum, is_of, same_bool, digits_of_terms, form_found, found_in, form_in, form_of_rows}

pub registers_kept : (registers : Registers) (list : List RegisterTerm) → register_list registers ≡ list → All IsRegister list → AreRegisters registers
registers_kept Absent list is all = tt
registers_kept (One first) list is all =
    let P : List RegisterTerm → Type 0 = λ l. All IsRegister l in
    let each = subst P (sym is) all in
    each 0 first (omega arith)
registers_kept (Two first second) list is all =
    let P : List RegisterTerm → Type 0 = λ l. All IsRegister l in
    let each = subst P (sym is) all in
    (each 0 first (omega arith), each 1 second (omega arith))

-- ---- operands that are no sum, or one of many registers

-- a row asks for a sum, of two registers at most
abbrev is_short_shape : Shape → Bool
is_short_shape unread = false
is_short_shape (fields pattern) = false
is_short_shape (summed terms has_constant) = leb (length terms) 2

abbrev is_short : RowForm → Bool
is_short row = is_short_shape row.shape

no_choice : {X : Type 0} (b : Bool) → cond {A = Option X} b None None ≡ None
no_choice true = refl
no_choice false = refl

digits-many : (terms : List RowTerm) (registers : List RegisterTerm) (digits : Digits) → length terms < length registers → digits_of_terms terms registers digits ≡ None
digits-many [] [] digits many = absurd (omega arith)
digits-many [] (r ∷ registers) digits many = refl
digits-many (t ∷ terms) [] digits many = absurd (omega arith)
digits-many (t ∷ terms) (r ∷ registers) digits many =
    ap (λ found. cond (is_of t r) found None) (digits-many terms registers (with_digit t.digit r.digit digits) (omega arith)) ∙ no_choice (is_of t r)

found-none : (radix : Radix) (digits : Digits) (texts : List (List ℕ)) (shape : Shape) → is_short_shape shape ≡ true
    → found_in radix shape (record { texts = texts; sum = None }) digits ≡ None
found-none radix digits texts unread short = cc
found-none radix digits texts (fields pattern) short = cc
found-none radix digits texts (summed terms has_constant) short = refl

found-many : (radix : Radix) (digits : Digits) (texts : List (List ℕ)) (sum : Summed) (shape : Shape) → 2 < length sum.registers → is_short_shape shape ≡ true
    → found_in radix shape (record { texts = texts; sum = Some sum }) digits ≡ None
found-many radix digits texts sum unread many short = cc
found-many radix digits texts sum (fields pattern) many short = cc
found-many radix digits texts sum (summed terms has_constant) many short =
    let fewer : length terms < length sum.registers = grind (arith, nat_tests) in
    ap (λ found. cond (same_bool (is_some sum.constant) has_constant) (option_map (λ ds. record { digits = ds; operand = sum.constant }) found) None) (digits-many terms sum.registers digits fewer)
    ∙ no_choice (same_bool (is_some sum.constant) has_constant)

form-none : (radix : Radix) (digits : Digits) (rows : List RowForm) (operands : Operands) → list_all is_short rows ≡ true
    → ((shape : Shape) → is_short_shape shape ≡ true → found_in radix shape operands digits ≡ None) → form_in radix digits rows operands ≡ None
form-none radix digits [] operands short none = refl
form-none radix digits (row ∷ rows) operands short none =
    ap (λ found. option_or (option_map (form_found row) found) (form_in radix digits rows operands)) (none row.shape (left_true (is_short row) (list_all is_short rows) short))
    ∙ form-none radix digits rows operands (right_true (is_short row) (list_all is_short rows) short) none

pub no_form : (radix : Radix) (digits : Digits) (rows : List RowForm) (texts : List (List ℕ)) (operand : Option Summed) → list_all is_short rows ≡ true
    → ((sum : Summed) → operand ≡ Some sum → 2 < length sum.registers) → form_of_rows radix digits rows (record { texts = texts; sum = operand }) ≡ None
no_form radix digits rows texts None short many =
    let none = form-none radix digits rows (record { texts = texts; sum = None }) short (found-none radix digits texts) in
    ap (λ o. option_or o (form_in radix digits rows (record { texts = texts; sum = None }))) none ∙ none
no_form radix digits rows texts (Some sum) short many =
    let more = many sum refl in
    let round = turned_sum sum in
    let more' : 2 < length round.registers = omega (arith, length-reverse sum.registers) in
    let none = form-none radix digits rows (record { texts = texts; sum = Some sum }) short (λ shape. found-many radix digits texts sum shape more) in
    let none' = form-none radix digits rows (record { texts = texts; sum = Some round }) short (λ shape. found-many radix digits texts round shape more') in
    ap (λ o. option_or o (form_in radix digits rows (record { texts = texts; sum = Some round }))) none ∙ none'

pub sum_rows_short : (forms : SumForms) → list_all is_short (sum_rows forms) ≡ true
sum_rows_short Set = refl
sum_rows_short Jump = refl

-- of operands that are a sum the form is that of the sum
pub form_of_summed : (forms : SumForms) (radix : Radix) (digits : Digits) (texts : List (List ℕ)) (sum : Summed)
    → form_of_rows radix digits (sum_rows forms) (record { texts = texts; sum = Some sum }) ≡ sum_form forms digits sum.registers sum.constant
form_of_summed Set radix digits texts sum = refl
form_of_summed Jump radix digits texts sum = refl
