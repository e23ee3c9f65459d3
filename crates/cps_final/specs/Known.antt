-- What is known in a statement, where everything that can be named has its final value. From the manual's sections on the two passes, on SET and on
-- literals.
use Rattle.std.specs.Prelude.{ℕ, List, [], ◌∷◌, if◌then◌else◌}
use Rattle.cps_expr.specs.declared.machine.Machine.{Machine}
use Rattle.cps_expr.specs.Value.{Values, same_name}
use Rattle.cps_state.specs.declared.item.Item.{Item}
use Rattle.cps_state.specs.declared.made.SetValue.{SetValue}
use Rattle.cps_state.specs.Made.{Made}
use Rattle.cps_final.specs.Finals.{label, literal, address_of}
use Rattle.cps_final.specs.Addresses.{Resolved, final_of, address_in, first_address}

-- what a symbol stands for: the value that SET had given it there, else the final value of its label
abbrev pub values_in : Resolved → List SetValue → Values
values_in finals [] name = finals (label name)
values_in finals (held ∷ others) name = if same_name held.name name then final_of finals held.value else values_in finals others name

-- the address of a literal; a word that isn't in the pool counts as at 0
abbrev pub literal_in : Resolved → ℕ → ℕ
literal_in finals word = address_of (finals (literal word))

-- what symbols stand for, and the addresses of literals
pub record Known : Type 0 where
  pub symbols : Values
  pub literals : ℕ → ℕ

abbrev pub known_in : Resolved → Made → Known
known_in finals made = record { symbols = values_in finals made.held; literals = literal_in finals }

-- a statement at its final address: what is known in it, whose words its bits are, the address of its block, and that of the word in which it starts
pub record PlacedStatement : Type 0 where
  pub known : Known
  pub machine : Machine
  pub base : ℕ
  pub here : ℕ

abbrev pub placed_statement : Resolved → Item → PlacedStatement
placed_statement finals item = record {
  known = known_in finals item.made;
  machine = item.made.machine;
  base = address_in finals item.stand;
  here = first_address finals item;
}
