-- The forms of a peripheral processor's instructions: words of 12 bits, of which the first six are the operation's.
-- From the machine's reference manual; that a target's distance fits six bits or is out of range is our profile's.
use Rattle.std.specs.Prelude.{◌≡◌, ◌⊎◌, ℕ, ◌+◌, ◌*◌, ◌^◌, ◌<◌, ◌≤◌, false, List, [], ◌∷◌, length, All, Option, None, Some, option_map}
use Rattle.cps_expr.specs.declared.radix.Radix.{Radix}
use Rattle.cps_expr.specs.declared.machine.Machine.TheVariants.{Pp}
use Rattle.cps_expr.specs.Expression.{Expression, expression_of}
use Rattle.cps_expr.specs.OperandList.{paired, only_one, at_most_one}
use Rattle.cps_code.specs.declared.hole.Hole.{Hole}
use Rattle.cps_code.specs.declared.hole.HoleKind.{HoleKind}
use Rattle.cps_code.specs.declared.hole.HoleKind.TheVariants.{Value, Target}
use Rattle.cps_code.specs.declared.hole.Operand.{Operand}
use Rattle.cps_code.specs.declared.hole.Operand.TheVariants as operand
use Rattle.cps_code.specs.Operand.{IsOperand, operand_of}
use Rattle.cps_code.specs.Form.{Form, IsHole, room_of}
use Rattle.cps_code.specs.declared.layout.Layout.{Layout}
use Rattle.cps_code.specs.declared.layout.Layout.TheVariants as layout

-- the bits of a word, and of the operation and of d in it
abbrev pub word_bits : ℕ
word_bits = 12

abbrev pub half_bits : ℕ
half_bits = 6

-- ---- codes

abbrev pub one_word : ℕ → List Hole → Form
one_word number holes = record { bits = word_bits; code = number * 2 ^ half_bits; holes = holes; forces_after = false }

abbrev pub two_words : ℕ → List Hole → Form
two_words number holes = record { bits = 2 * word_bits; code = number * 2 ^ (half_bits + word_bits); holes = holes; forces_after = false }

-- d, the last six bits of the first word
abbrev pub hole_of_d : HoleKind → Expression → Hole
hole_of_d kind expression = record { first = half_bits; width = half_bits; kind = kind; operand = operand.Expression expression }

-- the eighteen bits behind the operation
abbrev pub hole_of_constant : Operand → Hole
hole_of_constant operand = record { first = half_bits; width = half_bits + word_bits; kind = Value; operand = operand }

-- m, the second word
abbrev pub hole_of_m : Operand → Hole
hole_of_m operand = record { first = word_bits; width = word_bits; kind = Value; operand = operand }

abbrev pub holes_of_d : Option Expression → List Hole
holes_of_d None = []
holes_of_d (Some expression) = hole_of_d Value expression ∷ []

-- ---- operands: m and a constant are expressions or literals, d is an expression

-- m, and a d behind it or none
abbrev pub memory_of : Radix → List (List ℕ) → Option (Operand × Option Expression)
memory_of radix [] = None
memory_of radix (text ∷ texts) = paired (operand_of Pp radix text) (at_most_one (expression_of radix) texts)

-- the form of an operation with these operands, by its layout and its number
abbrev pub form_with : Radix → Layout → ℕ → List (List ℕ) → Option Form
form_with radix layout.Unread number texts = Some (one_word number [])
form_with radix layout.Target number texts = option_map (λ e. one_word number (hole_of_d Target e ∷ [])) (only_one (expression_of radix) texts)
form_with radix layout.Short number texts = option_map (λ e. one_word number (hole_of_d Value e ∷ [])) (only_one (expression_of radix) texts)
form_with radix layout.Constant number texts = option_map (λ o. two_words number (hole_of_constant o ∷ [])) (only_one (operand_of Pp radix) texts)
form_with radix layout.Memory number texts = option_map (λ p. two_words number (hole_of_m p.0 ∷ holes_of_d p.1)) (memory_of radix texts)

-- ---- what each form keeps

pub record IsPpForm (form : Form) : Type 0 where
  pub kind : (form.bits ≡ word_bits) ⊎ (form.bits ≡ 2 * word_bits)
  pub short : form.bits ≤ 2 * word_bits
  pub few : length form.holes ≤ 2
  pub holes : All (IsHole form.bits) form.holes
  pub operands : All (λ hole. IsOperand Pp hole.operand) form.holes
  pub room : form.code + room_of form.bits form.holes < 2 ^ form.bits
