-- Final values: what stands after the last line of a source, with blocks at their final addresses. From the manual's sections on the two
-- passes, on blocks, on SET and on literals; a final value beyond the range of expressions is none, as everywhere.
use Rattle.std.specs.Prelude.{◌≡◌, ℕ, ◌+◌, nat_eq, Bool, List, [], ◌∷◌, ◌++◌, length, take, position, pos, ◌+ℤ◌, nat_abs, Option, None, Some, option_map, option_and_then}
use Rattle.std.specs.List.{sum_by}
use Rattle.std.specs.Option.{option_or}
use Rattle.cps_text.specs.declared.name.Name.{Name}
use Rattle.cps_expr.specs.declared.machine.Machine.{Machine}
use Rattle.cps_expr.specs.declared.value.Value.{Value}
use Rattle.cps_expr.specs.Value.{same_name, plain, limited}
use Rattle.cps_state.specs.declared.item.Item.{Item}
use Rattle.cps_state.specs.Course.{Trace}
use Rattle.cps_state.specs.declared.key.Key.TheVariants as key
use Rattle.cps_state.specs.Keys.{State, first_state, overwritten, labels_of, settings_of, control_of, is_open}
use Rattle.cps_final.specs.Layout.{Layout, layout_of, puts_of}
use Rattle.cps_final.specs.Pool.{pool_of}

-- ---- what is gathered of the lines of a source

-- the program's name is the first that a statement gives
abbrev pub first_program : List Item → Option Name
first_program [] = None
first_program (item ∷ items) = option_or item.made.program (first_program items)

abbrev pub program_of : List Trace → Option Name
program_of [] = None
program_of (trace ∷ traces) = option_or (first_program trace.items) (program_of traces)

-- what stands after the last line, the blocks, the pool of literals, and the program's name
pub record Finals : Type 0 where
  pub state : State
  pub layout : Layout
  pub pool : List ℕ
  pub program : Option Name

abbrev pub finals_of : List Trace → Finals
finals_of traces = record {
  state = overwritten first_state (puts_of traces);
  layout = layout_of (puts_of traces);
  pool = pool_of traces;
  program = program_of traces;
}

-- these were gathered of these lines
abbrev pub Gathers : Finals → List Trace → Type 0
Gathers finals traces = finals ≡ finals_of traces

-- what was gathered of any lines, and of one line more
abbrev pub GathersAlso : Finals → Finals → Trace → Type 0
GathersAlso old new trace = (traces : List Trace) → Gathers old traces → Gathers new (traces ++ trace ∷ [])

-- the machine of the program
abbrev pub machine_of : Finals → Machine
machine_of finals = (control_of (finals.state key.Control)).machine

-- whether a range is open after the last line, or lines are skipped or kept
abbrev pub is_open_at_end : Finals → Bool
is_open_at_end finals = is_open finals.state

-- ---- where blocks and literals stand

-- the words before the pool's end
abbrev pub words_to_named : Finals → ℕ
words_to_named finals = finals.layout.size None + length finals.pool

-- the words of the first so many named blocks
abbrev pub words_of_first : ℕ → Layout → ℕ
words_of_first count layout = sum_by (λ block. layout.size (Some block)) (take count layout.named)

-- the nominal block stands at 0, then come the pool and the named blocks; a block without a put stands nowhere
abbrev pub base_of : Finals → Option Name → Option ℕ
base_of finals None = Some 0
base_of finals (Some block) = option_map (λ index. words_to_named finals + words_of_first index finals.layout) (position (same_name block) finals.layout.named)

-- ---- final values

-- what can be named
pub data Named : Type 0 where
  label : Name → Named
  setting : Name → Named
  block : Option Name → Named
  literal : ℕ → Named

-- an address that is absent counts as 0
abbrev pub address_of : Option Value → ℕ
address_of None = 0
address_of (Some value) = nat_abs value.offset

-- a value with its block at the address that blocks have
abbrev pub at_base : (Option Name → Option Value) → Value → Option Value
at_base blocks value = limited (plain (value.offset +ℤ pos (address_of (blocks value.block))))

-- the address of the first word of a block
abbrev pub first_word : Finals → Option Name → Option Value
first_word finals name = option_and_then (λ base. limited (plain (pos base))) (base_of finals name)

-- the final value of what is named: of a label its value, of a symbol that SET gives values the last of them
abbrev pub final_value : Finals → Named → Option Value
final_value finals (label name) = option_and_then (at_base (first_word finals)) (labels_of finals.state name)
final_value finals (setting name) = option_and_then (at_base (first_word finals)) (settings_of finals.state name)
final_value finals (block name) = first_word finals name
final_value finals (literal word) = option_and_then (λ index. limited (plain (pos (finals.layout.size None + index)))) (position (nat_eq word) finals.pool)
