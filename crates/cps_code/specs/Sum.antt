-- An operand of registers and K: a sum of signed terms, registers and terms of an expression in any order, or a literal alone.
-- From the manual's section on the set instructions; that all terms may stand in any order, and that a literal stands alone, is our profile's.
use Rattle.std.specs.Prelude.{ℕ, Bool, List, [], ◌∷◌, Option, None, Some, option_map, option_and_then}
use Rattle.std.specs.Option.{option_or}
use Rattle.cps_expr.specs.declared.radix.Radix.{Radix}
use Rattle.cps_code.specs.declared.register.RegisterTerm.{RegisterTerm}
use Rattle.cps_expr.specs.Expression.{is_minus, signed_texts}
use Rattle.cps_expr.specs.Term.{Term, term_of}
use Rattle.cps_expr.specs.declared.machine.Machine.TheVariants.{Cp}
use Rattle.cps_code.specs.declared.hole.Operand.{Operand}
use Rattle.cps_code.specs.declared.hole.Operand.TheVariants.{Expression, Literal}
use Rattle.cps_code.specs.Operand.{literal_of}
use Rattle.cps_code.specs.Register.{register_of}

-- ---- terms

pub data SumTerm : Type 0 where
  register : RegisterTerm → SumTerm
  other : Term → SumTerm

abbrev pub register_or_other : Option RegisterTerm → Option Term → Option SumTerm
register_or_other (Some r) term = Some (register r)
register_or_other None term = option_map other term

-- a register, or a term of an expression
abbrev pub term_with : Radix → Bool → List ℕ → Option SumTerm
term_with radix minus text = register_or_other (register_of minus text) (term_of radix minus text)

-- a term: a sign, and after it a register or a term of an expression
abbrev pub signed_term : Radix → List ℕ → Option SumTerm
signed_term radix [] = None
signed_term radix (sign ∷ text) = term_with radix (is_minus sign) text

-- ---- the sum

-- the register terms in their order, and the expression of the other terms in theirs
pub record Sum : Type 0 where
  pub registers : List RegisterTerm
  pub constant : List Term

abbrev pub no_terms : Sum
no_terms = record { registers = []; constant = [] }

abbrev pub with_term : SumTerm → Sum → Sum
with_term (register r) sum = record { registers = r ∷ sum.registers; constant = sum.constant }
with_term (other t) sum = record { registers = sum.registers; constant = t ∷ sum.constant }

abbrev pub sum_of_texts : Radix → List (List ℕ) → Option Sum
sum_of_texts radix [] = Some no_terms
sum_of_texts radix (text ∷ texts) = option_and_then (λ term. option_map (with_term term) (sum_of_texts radix texts)) (signed_term radix text)

-- the sum that a text writes
abbrev pub sum_of : Radix → List ℕ → Option Sum
sum_of radix text = sum_of_texts radix (signed_texts text)

-- ---- registers and K

-- the register terms in their order, and K, if there is one
pub record Summed : Type 0 where
  pub registers : List RegisterTerm
  pub constant : Option Operand

abbrev pub constant_of : List Term → Option Operand
constant_of [] = None
constant_of (term ∷ terms) = Some (Expression (term ∷ terms))

abbrev pub of_terms : Sum → Summed
of_terms sum = record { registers = sum.registers; constant = constant_of sum.constant }

abbrev pub of_literal : ℕ → Summed
of_literal word = record { registers = []; constant = Some (Literal word) }

-- what a text writes: a literal, which is K, or a sum whose other terms are K
abbrev pub summed_of : Radix → List ℕ → Option Summed
summed_of radix text = option_or (option_map of_literal (literal_of Cp radix text)) (option_map of_terms (sum_of radix text))
