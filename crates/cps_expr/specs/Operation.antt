-- The operations of the language's statements. From the manual's chapter on pseudo instructions.
use Rattle.std.specs.Prelude.{ℕ, ◌==◌, List, [], ◌∷◌, map, filter, slice_index, codes, Option, option_map}
use Rattle.std.specs.Borrow.{Bor}
use Rattle.std.specs.List.{find}
use Rattle.cps_expr.specs.declared.operation.Operation.{Operation}
use Rattle.cps_expr.specs.declared.operation.Operation.TheVariants.{Ident, Abs, Periph, Base, Equate, Set, Org, Use, Bss, Bssz, Con, Data, Vfd, Dis, Compare, If, Else, Endif, Dup, Endd, Macro, Local, Endm, End, Listing}
use Rattle.cps_expr.specs.declared.operation.Relation.TheVariants.{Equal, NotEqual, Greater, GreaterOrEqual, Less, LessOrEqual}
use Rattle.cps_expr.specs.Same.{is_same}

-- names with their operations
abbrev pub Table : Type 0
Table = List (List ℕ × Operation)

-- an operation of a table; lower-case letters stand for capitals
abbrev pub named_in : Table → List ℕ → Option Operation
named_in table text = option_map (λ entry. entry.1) (find (λ entry. is_same text entry.0) table)

unfoldable pub operations : Table
operations =
    (codes "IDENT", Ident)
    ∷ (codes "ABS", Abs)
    ∷ (codes "PERIPH", Periph)
    ∷ (codes "BASE", Base)
    ∷ (codes "EQU", Equate)
    ∷ (codes "=", Equate)
    ∷ (codes "SET", Set)
    ∷ (codes "ORG", Org)
    ∷ (codes "USE", Use)
    ∷ (codes "BSS", Bss)
    ∷ (codes "BSSZ", Bssz)
    ∷ (codes "CON", Con)
    ∷ (codes "DATA", Data)
    ∷ (codes "VFD", Vfd)
    ∷ (codes "DIS", Dis)
    ∷ (codes "IFEQ", Compare Equal)
    ∷ (codes "IFNE", Compare NotEqual)
    ∷ (codes "IFGT", Compare Greater)
    ∷ (codes "IFGE", Compare GreaterOrEqual)
    ∷ (codes "IFLT", Compare Less)
    ∷ (codes "IFLE", Compare LessOrEqual)
    ∷ (codes "IF", If)
    ∷ (codes "ELSE", Else)
    ∷ (codes "ENDIF", Endif)
    ∷ (codes "DUP", Dup)
    ∷ (codes "ENDD", Endd)
    ∷ (codes "MACRO", Macro)
    ∷ (codes "LOCAL", Local)
    ∷ (codes "ENDM", Endm)
    ∷ (codes "END", End)
    ∷ (codes "TITLE", Listing)
    ∷ (codes "SPACE", Listing)
    ∷ (codes "EJECT", Listing)
    ∷ (codes "LIST", Listing)
    ∷ []

-- the operation of a name
abbrev pub operation_named : List ℕ → Option Operation
operation_named text = named_in operations text

abbrev pub table_value : List (Bor (List ℕ) × Operation) → Table
table_value table = map (λ entry. (entry.0.now, entry.1)) table

-- for the look-up alone: the operations whose names begin with a letter
abbrev pub beginning_with : ℕ → Table → Table
beginning_with letter table = filter (λ entry. slice_index entry.0 0 == letter) table
