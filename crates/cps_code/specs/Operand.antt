-- Operands of instructions: expressions, and literals, which stand for the addresses of words in the literal pool.
-- From the manual's sections on expressions and literals; that a literal is an operand by itself is our profile's.
use Rattle.std.specs.Prelude.{ℕ, ◌^◌, ◌<◌, ◌==◌, List, [], ◌∷◌, length, codes, Option, None, Some, option_map, option_and_then, if◌then◌else◌}
use Rattle.std.specs.Option.{option_or}
use Rattle.cps_text.specs.declared.name.Name.{Name}
use Rattle.cps_text.specs.Text.{among}
use Rattle.cps_expr.specs.declared.machine.Machine.{Machine}
use Rattle.cps_expr.specs.declared.radix.Radix.{Radix}
use Rattle.cps_expr.specs.Expression.{expression_of, names_of}
use Rattle.cps_expr.specs.Item.{bits_of, item_of}
use Rattle.cps_code.specs.declared.hole.Operand.{Operand}
use Rattle.cps_code.specs.declared.hole.Operand.TheVariants.{Expression, Literal}

-- ---- texts

-- the word of a data item that is the whole text
abbrev pub whole_item : Machine → Radix → List ℕ → Option ℕ
whole_item machine radix text = option_and_then (λ item. if item.1 == length text then Some item.0 else None) (item_of radix machine text)

-- the word of a literal, `=` and a data item
abbrev pub literal_of : Machine → Radix → List ℕ → Option ℕ
literal_of machine radix [] = None
literal_of machine radix (character ∷ text) = if among (codes "=") character then whole_item machine radix text else None

-- a literal, or an expression
abbrev pub operand_of : Machine → Radix → List ℕ → Option Operand
operand_of machine radix text = option_or (option_map Literal (literal_of machine radix text)) (option_map Expression (expression_of radix text))

-- ---- what stands in an operand

-- the names of the symbols that it reads
abbrev pub operand_names : Operand → List Name
operand_names (Expression terms) = names_of terms
operand_names (Literal word) = []

-- the words of the literals that it names
abbrev pub operand_literals : Operand → List ℕ
operand_literals (Expression terms) = []
operand_literals (Literal word) = word ∷ []

-- ---- what each operand keeps: a literal's word fits the machine's

abbrev pub IsOperand : Machine → Operand → Type 0
IsOperand machine (Expression terms) = Unit {0}
IsOperand machine (Literal word) = word < 2 ^ bits_of machine
