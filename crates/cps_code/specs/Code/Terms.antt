-- For the loop over the terms of a sum, not part of what a reader believes: sums of the code, as sums.
use Rattle.std.specs.Prelude.{◌≡◌, ◌<◌, Bool, true, false, List, [], ◌∷◌, ◌++◌, All, Some, is_some, IfSome}
use Rattle.cps_code.specs.declared.register.RegisterTerm.{RegisterTerm}
use Rattle.cps_code.specs.declared.sum.Registers.{Registers}
use Rattle.cps_code.specs.declared.sum.Registers.TheVariants.{Absent, One, Two}
use Rattle.cps_code.specs.declared.sum.KeptSum.{KeptSum}
use Rattle.cps_code.specs.declared.summed.KeptSummed.{KeptSummed}
use Rattle.cps_expr.specs.Term.{Term}
use Rattle.cps_code.specs.Sum.{SumTerm, register, other, Sum, Summed}

-- a term at the end
abbrev pub pushed : Sum → SumTerm → Sum
pushed sum (register r) = record { registers = sum.registers ++ r ∷ []; constant = sum.constant }
pushed sum (other t) = record { registers = sum.registers; constant = sum.constant ++ t ∷ [] }

abbrev pub IsRegister : RegisterTerm → Type 0
IsRegister r = r.digit < 8

abbrev pub register_list : Registers → List RegisterTerm
register_list Absent = []
register_list (One first) = first ∷ []
register_list (Two first second) = first ∷ second ∷ []

abbrev pub is_empty : Registers → Bool
is_empty Absent = true
is_empty (One first) = false
is_empty (Two first second) = false

abbrev pub AreRegisters : Registers → Type 0
AreRegisters Absent = Unit {0}
AreRegisters (One first) = IsRegister first
AreRegisters (Two first second) = IsRegister first × IsRegister second

abbrev pub is_some_list : List Term → Bool
is_some_list [] = false
is_some_list (term ∷ terms) = true

-- what the code keeps of a sum: its registers, of which there are two at most, and its constant unless memory was refused
pub record IsKept (kept : KeptSum) (sum : Sum) : Type 0 where
  pub registers : register_list kept.registers ≡ sum.registers
  pub has_constant : kept.has_constant ≡ is_some_list sum.constant
  pub constant : IfSome kept.constant (λ constant. constant ≡ sum.constant)
  pub digits : All IsRegister sum.registers

-- the same of registers and K
pub record IsKeptSummed (kept : KeptSummed) (summed : Summed) : Type 0 where
  pub registers : register_list kept.registers ≡ summed.registers
  pub has_constant : kept.has_constant ≡ is_some summed.constant
  pub constant : IfSome kept.constant (λ operand. summed.constant ≡ Some operand)
