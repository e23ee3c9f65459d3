-- The instructions of the central processor, as the machine's reference manual lists them: operation, operands, code.
-- In them i, j and k stand for the digits of registers, K for an expression or a literal in 18 bits and n for the expression of a count; f is the first
-- digit of a set instruction's code. `unread` reads no operand; `written` reads operands that look like these; `sum` reads one
-- operand, a sum of these registers and, where K stands, of a K beside them. Behind a `forcing_row` a forcing is pending.
-- That the terms of a sum may stand in any order is our profile's.
use Rattle.std.specs.Prelude.{ℕ, Bool, List, [], ◌∷◌, ◌++◌, map, codes, Option, is_some}
use Rattle.cps_code.specs.Rows.{RowForm, Row, Operation, Named, unread, written, sum, form, row, forcing_row, operations_in, named}

-- ---- set instructions

abbrev pub set_forms : List RowForm
set_forms =
    form (sum (codes "K")) (codes "f1i0K")
    ∷ form (sum (codes "Aj+K")) (codes "f0ijK")
    ∷ form (sum (codes "Bj+K")) (codes "f1ijK")
    ∷ form (sum (codes "Xj+K")) (codes "f2ijK")
    ∷ form (sum (codes "Xj")) (codes "f3ij0")
    ∷ form (sum (codes "Aj")) (codes "f4ij0")
    ∷ form (sum (codes "Bj")) (codes "f6ij0")
    ∷ form (sum (codes "-Bk")) (codes "f7i0k")
    ∷ form (sum (codes "Xj+Bk")) (codes "f3ijk")
    ∷ form (sum (codes "Aj+Bk")) (codes "f4ijk")
    ∷ form (sum (codes "Aj-Bk")) (codes "f5ijk")
    ∷ form (sum (codes "Bj+Bk")) (codes "f6ijk")
    ∷ form (sum (codes "Bj-Bk")) (codes "f7ijk")
    ∷ []

-- the same for each set operation, with its f
abbrev pub set_rows : List ℕ → ℕ → List Row
set_rows name f = map (λ form. record { operation = name; f = f; form = form }) set_forms

-- ---- the jump to a register

abbrev pub jump_rows : List Row
jump_rows =
    forcing_row (codes "JP") (sum (codes "Bi+K")) (codes "02i0K")
    ∷ forcing_row (codes "JP") (sum (codes "K")) (codes "0200K")
    ∷ forcing_row (codes "JP") (sum (codes "Bi")) (codes "02i0000000")
    ∷ []

-- ---- all others

abbrev pub other_rows : List Row
other_rows =
    forcing_row (codes "PS") unread (codes "0000000000")
    ∷ row (codes "NO") unread (codes "46000")
    ∷ forcing_row (codes "RJ") (written (codes "K")) (codes "0100K")
    ∷ row (codes "ZR") (written (codes "Xj,K")) (codes "030jK")
    ∷ row (codes "ZR") (written (codes "Bi,K")) (codes "04i0K")
    ∷ row (codes "NZ") (written (codes "Xj,K")) (codes "031jK")
    ∷ row (codes "NZ") (written (codes "Bi,K")) (codes "05i0K")
    ∷ row (codes "PL") (written (codes "Xj,K")) (codes "032jK")
    ∷ row (codes "PL") (written (codes "Bi,K")) (codes "06i0K")
    ∷ row (codes "NG") (written (codes "Xj,K")) (codes "033jK")
    ∷ row (codes "NG") (written (codes "Bi,K")) (codes "07i0K")
    ∷ row (codes "MI") (written (codes "Xj,K")) (codes "033jK")
    ∷ row (codes "MI") (written (codes "Bi,K")) (codes "07i0K")
    ∷ row (codes "IR") (written (codes "Xj,K")) (codes "034jK")
    ∷ row (codes "OR") (written (codes "Xj,K")) (codes "035jK")
    ∷ row (codes "DF") (written (codes "Xj,K")) (codes "036jK")
    ∷ row (codes "ID") (written (codes "Xj,K")) (codes "037jK")
    ∷ row (codes "EQ") (written (codes "Bi,Bj,K")) (codes "04ijK")
    ∷ row (codes "EQ") (written (codes "Bi,K")) (codes "04i0K")
    ∷ forcing_row (codes "EQ") (written (codes "K")) (codes "0400K")
    ∷ row (codes "NE") (written (codes "Bi,Bj,K")) (codes "05ijK")
    ∷ row (codes "NE") (written (codes "Bi,K")) (codes "05i0K")
    ∷ row (codes "GE") (written (codes "Bi,Bj,K")) (codes "06ijK")
    ∷ row (codes "GE") (written (codes "Bi,K")) (codes "06i0K")
    ∷ row (codes "LT") (written (codes "Bi,Bj,K")) (codes "07ijK")
    ∷ row (codes "LT") (written (codes "Bi,K")) (codes "07i0K")
    ∷ row (codes "LE") (written (codes "Bi,Bj,K")) (codes "06jiK")
    ∷ row (codes "LE") (written (codes "Bi,K")) (codes "060iK")
    ∷ row (codes "GT") (written (codes "Bi,Bj,K")) (codes "07jiK")
    ∷ row (codes "GT") (written (codes "Bi,K")) (codes "070iK")
    ∷ row (codes "BXi") (written (codes "Xj")) (codes "10ijj")
    ∷ row (codes "BXi") (written (codes "Xj*Xk")) (codes "11ijk")
    ∷ row (codes "BXi") (written (codes "Xj+Xk")) (codes "12ijk")
    ∷ row (codes "BXi") (written (codes "Xj-Xk")) (codes "13ijk")
    ∷ row (codes "BXi") (written (codes "-Xk")) (codes "14ikk")
    ∷ row (codes "BXi") (written (codes "-Xk*Xj")) (codes "15ijk")
    ∷ row (codes "BXi") (written (codes "-Xk+Xj")) (codes "16ijk")
    ∷ row (codes "BXi") (written (codes "-Xk-Xj")) (codes "17ijk")
    ∷ row (codes "LXi") (written (codes "n")) (codes "20in")
    ∷ row (codes "LXi") (written (codes "Bj,Xk")) (codes "22ijk")
    ∷ row (codes "LXi") (written (codes "Xk,Bj")) (codes "22ijk")
    ∷ row (codes "AXi") (written (codes "n")) (codes "21in")
    ∷ row (codes "AXi") (written (codes "Bj,Xk")) (codes "23ijk")
    ∷ row (codes "AXi") (written (codes "Xk,Bj")) (codes "23ijk")
    ∷ row (codes "MXi") (written (codes "n")) (codes "43in")
    ∷ row (codes "NXi") (written (codes "Bj,Xk")) (codes "24ijk")
    ∷ row (codes "NXi") (written (codes "Xk,Bj")) (codes "24ijk")
    ∷ row (codes "NXi") (written (codes "Xk")) (codes "24i0k")
    ∷ row (codes "ZXi") (written (codes "Bj,Xk")) (codes "25ijk")
    ∷ row (codes "ZXi") (written (codes "Xk,Bj")) (codes "25ijk")
    ∷ row (codes "ZXi") (written (codes "Xk")) (codes "25i0k")
    ∷ row (codes "UXi") (written (codes "Bj,Xk")) (codes "26ijk")
    ∷ row (codes "UXi") (written (codes "Xk,Bj")) (codes "26ijk")
    ∷ row (codes "UXi") (written (codes "Xk")) (codes "26i0k")
    ∷ row (codes "PXi") (written (codes "Bj,Xk")) (codes "27ijk")
    ∷ row (codes "PXi") (written (codes "Xk,Bj")) (codes "27ijk")
    ∷ row (codes "PXi") (written (codes "Xk")) (codes "27i0k")
    ∷ row (codes "FXi") (written (codes "Xj+Xk")) (codes "30ijk")
    ∷ row (codes "FXi") (written (codes "Xj-Xk")) (codes "31ijk")
    ∷ row (codes "FXi") (written (codes "Xj*Xk")) (codes "40ijk")
    ∷ row (codes "FXi") (written (codes "Xj/Xk")) (codes "44ijk")
    ∷ row (codes "DXi") (written (codes "Xj+Xk")) (codes "32ijk")
    ∷ row (codes "DXi") (written (codes "Xj-Xk")) (codes "33ijk")
    ∷ row (codes "DXi") (written (codes "Xj*Xk")) (codes "42ijk")
    ∷ row (codes "RXi") (written (codes "Xj+Xk")) (codes "34ijk")
    ∷ row (codes "RXi") (written (codes "Xj-Xk")) (codes "35ijk")
    ∷ row (codes "RXi") (written (codes "Xj*Xk")) (codes "41ijk")
    ∷ row (codes "RXi") (written (codes "Xj/Xk")) (codes "45ijk")
    ∷ row (codes "IXi") (written (codes "Xj+Xk")) (codes "36ijk")
    ∷ row (codes "IXi") (written (codes "Xj-Xk")) (codes "37ijk")
    ∷ row (codes "CXi") (written (codes "Xk")) (codes "47ikk")
    ∷ []

-- ---- the table

abbrev pub cp_table : List Row
cp_table = set_rows (codes "SAi") 5 ++ set_rows (codes "SBi") 6 ++ set_rows (codes "SXi") 7 ++ jump_rows ++ other_rows

-- its operations, with their rows
unfoldable pub cp_operations : List Operation
cp_operations = operations_in cp_table

-- the operation that a name stands for; lower-case letters stand for capitals
abbrev pub instruction_named : List ℕ → Option Named
instruction_named name = named cp_operations name

abbrev pub is_operation : List ℕ → Bool
is_operation name = is_some (instruction_named name)
