-- For the loops over operands, not part of what a reader believes: the operands that are left to come.
use Rattle.std.specs.Prelude.{ℕ, List}
use Rattle.cps_text.specs.declared.operand_list.Operands.{Operands}
use Rattle.cps_text.specs.Operands.{operand_len}
use Rattle.cps_text.specs.Code.PartsLeft.{parts_left}

abbrev pub operands_left : Operands → List (List ℕ)
operands_left operands = parts_left operand_len operands.rest
