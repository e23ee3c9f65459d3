-- Final addresses, from the final values of what can be named: of blocks, and of statements. From the manual's section on blocks; that a block that
-- stands nowhere counts as at 0 is our profile's.
use Rattle.std.specs.Prelude.{ℕ, ◌+◌, ◌/◌, Option}
use Rattle.cps_text.specs.declared.name.Name.{Name}
use Rattle.cps_expr.specs.declared.value.Value.{Value}
use Rattle.cps_code.specs.Bits.{word_bits}
use Rattle.cps_state.specs.declared.item.Item.{Item}
use Rattle.cps_state.specs.declared.item.Stand.{Stand}
use Rattle.cps_state.specs.declared.item.Stand.TheVariants.{Nowhere, In}
use Rattle.cps_final.specs.Finals.{Named, block, address_of, at_base}

-- final values, by what is named
abbrev pub Resolved : Type 0
Resolved = Named → Option Value

-- ---- addresses

-- the final address of a block; one that stands nowhere counts as at 0
abbrev pub base_in : Resolved → Option Name → ℕ
base_in finals name = address_of (finals (block name))

-- a value with its block at its final address
abbrev pub final_of : Resolved → Value → Option Value
final_of finals value = at_base (λ name. finals (block name)) value

-- the final address of the block in which a statement stands; without a place it is 0
abbrev pub address_in : Resolved → Stand → ℕ
address_in finals Nowhere = 0
address_in finals (In name) = base_in finals name

-- the final address of the word in which a statement starts: what `*` stands for in it
abbrev pub first_address : Resolved → Item → ℕ
first_address finals item = address_in finals item.stand + item.made.start / word_bits
