-- The instructions of a peripheral processor, as the machine's reference manual lists them: operation, operands, the operation's six bits.
-- Unread: the variable field isn't read, and the other six bits are 0. Target: one operand, whose distance from the instruction is d.
-- Short: one operand d. Constant: one operand of 18 bits, the last 12 of them in a second word. Memory: `m` or `m,d`, with m as a second word.
-- A constant and m may be literals.
use Rattle.std.specs.Prelude.{ℕ, Bool, List, [], ◌∷◌, bytes_eq, codes, Option, None, Some, is_some, option_and_then, if◌then◌else◌}
use Rattle.cps_expr.specs.declared.radix.Radix.{Radix}
use Rattle.cps_text.specs.Operands.{operands_of}
use Rattle.cps_text.specs.Text.{capitals}
use Rattle.cps_code.specs.Form.{Form}
use Rattle.cps_code.specs.declared.layout.Layout.{Layout}
use Rattle.cps_code.specs.declared.layout.Layout.TheVariants.{Unread, Target, Short, Constant, Memory}
use Rattle.cps_code.specs.PeripheralForms.{form_with}

pub record Row : Type 0 where
  pub operation : List ℕ
  pub layout : Layout
  pub number : ℕ

abbrev pub row : List ℕ → Layout → ℕ → Row
row operation layout number = record { operation = operation; layout = layout; number = number }

unfoldable pub pp_table : List Row
pp_table =
    row (codes "PSN") Unread 0o00
    ∷ row (codes "UJN") Target 0o03
    ∷ row (codes "ZJN") Target 0o04
    ∷ row (codes "NJN") Target 0o05
    ∷ row (codes "PJN") Target 0o06
    ∷ row (codes "MJN") Target 0o07
    ∷ row (codes "SHN") Short 0o10
    ∷ row (codes "LMN") Short 0o11
    ∷ row (codes "LPN") Short 0o12
    ∷ row (codes "SCN") Short 0o13
    ∷ row (codes "LDN") Short 0o14
    ∷ row (codes "LCN") Short 0o15
    ∷ row (codes "ADN") Short 0o16
    ∷ row (codes "SBN") Short 0o17
    ∷ row (codes "EXN") Short 0o26
    ∷ row (codes "RPN") Short 0o27
    ∷ row (codes "LDD") Short 0o30
    ∷ row (codes "ADD") Short 0o31
    ∷ row (codes "SBD") Short 0o32
    ∷ row (codes "LMD") Short 0o33
    ∷ row (codes "STD") Short 0o34
    ∷ row (codes "RAD") Short 0o35
    ∷ row (codes "AOD") Short 0o36
    ∷ row (codes "SOD") Short 0o37
    ∷ row (codes "LDI") Short 0o40
    ∷ row (codes "ADI") Short 0o41
    ∷ row (codes "SBI") Short 0o42
    ∷ row (codes "LMI") Short 0o43
    ∷ row (codes "STI") Short 0o44
    ∷ row (codes "RAI") Short 0o45
    ∷ row (codes "AOI") Short 0o46
    ∷ row (codes "SOI") Short 0o47
    ∷ row (codes "CRD") Short 0o60
    ∷ row (codes "CWD") Short 0o62
    ∷ row (codes "IAN") Short 0o70
    ∷ row (codes "OAN") Short 0o72
    ∷ row (codes "ACN") Short 0o74
    ∷ row (codes "DCN") Short 0o75
    ∷ row (codes "FAN") Short 0o76
    ∷ row (codes "LDC") Constant 0o20
    ∷ row (codes "ADC") Constant 0o21
    ∷ row (codes "LPC") Constant 0o22
    ∷ row (codes "LMC") Constant 0o23
    ∷ row (codes "LJM") Memory 0o01
    ∷ row (codes "RJM") Memory 0o02
    ∷ row (codes "LDM") Memory 0o50
    ∷ row (codes "ADM") Memory 0o51
    ∷ row (codes "SBM") Memory 0o52
    ∷ row (codes "LMM") Memory 0o53
    ∷ row (codes "STM") Memory 0o54
    ∷ row (codes "RAM") Memory 0o55
    ∷ row (codes "AOM") Memory 0o56
    ∷ row (codes "SOM") Memory 0o57
    ∷ row (codes "CRM") Memory 0o61
    ∷ row (codes "CWM") Memory 0o63
    ∷ row (codes "AJM") Memory 0o64
    ∷ row (codes "IJM") Memory 0o65
    ∷ row (codes "FJM") Memory 0o66
    ∷ row (codes "EJM") Memory 0o67
    ∷ row (codes "IAM") Memory 0o71
    ∷ row (codes "OAM") Memory 0o73
    ∷ row (codes "FNC") Memory 0o77
    ∷ []

-- the row of a name; lower-case letters stand for capitals
abbrev pub named : List Row → List ℕ → Option Row
named [] name = None
named (row ∷ rows) name = if bytes_eq row.operation (capitals name) then Some row else named rows name

abbrev pub is_operation : List ℕ → Bool
is_operation name = is_some (named pp_table name)

-- the form of a statement
abbrev pub form_of : List ℕ → List ℕ → Radix → Option Form
form_of name tail radix = option_and_then (λ row. form_with radix row.layout row.number (operands_of tail)) (named pp_table name)
