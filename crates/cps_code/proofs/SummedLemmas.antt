-- Operands of registers and K, as the code keeps them.
use Rattle.std.proofs.Common.{◌≡◌, ℕ, ◌<◌, List, [], ◌∷◌, length, Option, None, Some, Result, refl, sym, ap, ◌∙◌, arith}
use Rattle.std.specs.Prelude.{option_map, is_some, true, IfSome}
use Rattle.cps_expr.specs.declared.radix.Radix.{Radix}
use Rattle.cps_expr.specs.Term.{Term}
use Rattle.cps_code.specs.declared.forms.FormFault.{FormFault}
use Rattle.cps_code.specs.declared.hole.Operand.{Operand}
use Rattle.cps_code.specs.declared.hole.Operand.TheVariants.{Literal}
use Rattle.cps_code.specs.declared.register.RegisterTerm.{RegisterTerm}
use Rattle.cps_code.specs.declared.sum.KeptSum.{KeptSum}
use Rattle.cps_code.specs.declared.sum.Registers.TheVariants.{Absent}
use Rattle.cps_code.specs.declared.summed.KeptSummed.{KeptSummed}
use Rattle.cps_code.specs.Form.{Form}
use Rattle.cps_code.specs.Code.Outcome.{Answers}
use Rattle.cps_code.specs.Sum.{Sum, Summed, constant_of, of_terms, of_literal, sum_of}
use Rattle.cps_code.specs.Code.Terms.{IsKept, IsKeptSummed, is_some_list, register_list}

abbrev registers_of : Option Summed → List RegisterTerm
registers_of None = []
registers_of (Some summed) = summed.registers

pub no_terms : (sum : Option Sum) → ((s : Sum) → sum ≡ Some s → 2 < length s.registers) → (summed : Summed) → option_map of_terms sum ≡ Some summed → 2 < length summed.registers
no_terms None many summed is = cc
no_terms (Some s) many summed is =
    let same : length s.registers ≡ length summed.registers = ap (λ o. length (registers_of o)) is in
    omega (arith, many s refl)

some-terms : (terms : List Term) → is_some_list terms ≡ is_some (constant_of terms)
some-terms [] = refl
some-terms (term ∷ terms) = refl

pub kept_terms : (radix : Radix) (text : List ℕ) (kept : KeptSum) (constant : Option Operand) → ((sum : Sum) × (sum_of radix text ≡ Some sum) × IsKept kept sum)
    → ((terms : List Term) → kept.has_constant ≡ is_some_list terms → IfSome kept.constant (λ written. written ≡ terms) → IfSome constant (λ operand. constant_of terms ≡ Some operand))
    → (summed : Summed) × (option_map of_terms (sum_of radix text) ≡ Some summed) × IsKeptSummed (record { registers = kept.registers; has_constant = kept.has_constant; constant = constant }) summed
kept_terms radix text kept constant sum gives =
    let are = sum.2 in (
      of_terms sum.0,
      ap (option_map of_terms) sum.1,
      record {
        registers = are.registers;
        has_constant = are.has_constant ∙ some-terms sum.0.constant;
        constant = gives sum.0.constant are.has_constant are.constant;
      },
    )

pub kept_literal : (written : Option Summed) (word : ℕ) → written ≡ Some (of_literal word)
    → (summed : Summed) × (written ≡ Some summed) × IsKeptSummed (record { registers = Absent; has_constant = true; constant = Some (Literal word) }) summed
kept_literal written word is = (of_literal word, is, record { registers = refl; has_constant = refl; constant = refl })

constant-kept : (constant written : Option Operand) → true ≡ is_some written → IfSome constant (λ operand. written ≡ Some operand)
    → (operand : Operand) × (written ≡ Some operand) × IfSome constant (λ kept. kept ≡ operand)
constant-kept constant None has is = cc
constant-kept None (Some operand) has is = (operand, refl, tt)
constant-kept (Some kept) (Some operand) has is = (operand, refl, cc)

-- the form of what is kept of a sum that has a constant
pub form_with_constant : (form : List RegisterTerm → Option Operand → Option Form) (coded : Operand → Option Form) (kept : KeptSummed) (answer : Result Form FormFault)
    → kept.has_constant ≡ true → ((operand : Operand) → form (register_list kept.registers) (Some operand) ≡ coded operand)
    → ((operand : Operand) → IfSome kept.constant (λ k. k ≡ operand) → Answers (coded operand) answer)
    → (summed : Summed) → IsKeptSummed kept summed → Answers (form summed.registers summed.constant) answer
form_with_constant form coded kept answer has is answers summed are =
    let found = constant-kept kept.constant summed.constant (sym has ∙ are.has_constant) are.constant in
    rw (← are.registers, found.1, is found.0) (answers found.0 found.2)
