-- The state of an assembly: what each key answers. The counters and the symbols are the manual's; the keys are our own.
use Rattle.std.specs.Prelude.{ℕ, ◌*◌, Bool, true, false, not, ◌||◌, min, nat_lt, nat_eq, List, [], ◌∷◌, Option, None, Some, if◌then◌else◌}
use Rattle.cps_text.specs.declared.limits.TheConstants.{MOST_LEFT_BLOCKS, MOST_RANGES}
use Rattle.cps_text.specs.declared.name.Name.{Name}
use Rattle.cps_expr.specs.declared.machine.Machine.{Machine}
use Rattle.cps_expr.specs.declared.machine.Machine.TheVariants.{Cp, Pp}
use Rattle.cps_expr.specs.declared.radix.Radix.TheVariants.{Decimal}
use Rattle.cps_expr.specs.declared.value.Value.{Value}
use Rattle.cps_expr.specs.Value.{limited, same_name, Values}
use Rattle.cps_code.specs.declared.place.Place.{Place}
use Rattle.cps_code.specs.Place.{position, place_at}
use Rattle.cps_state.specs.declared.key.Key.{Key}
use Rattle.cps_state.specs.declared.key.Key.TheVariants as key
use Rattle.cps_state.specs.declared.key.Phase.TheVariants as phase
use Rattle.cps_state.specs.declared.key.Control.{Control}
use Rattle.cps_state.specs.declared.key.Mode.{Mode}
use Rattle.cps_state.specs.declared.key.Mode.TheVariants.{Normal, SkipLines, SkipRange, KeepMacro, KeepDup}
use Rattle.cps_state.specs.declared.key.Macro.{Macro}
use Rattle.cps_state.specs.declared.key.OpenRange.{OpenRange}
use Rattle.cps_state.specs.declared.key.Answer.{Answer}
use Rattle.cps_state.specs.declared.key.Answer.TheVariants as answer
use Rattle.cps_state.specs.declared.key.Put.{Put}
use Rattle.cps_state.specs.Machines.{limit}

-- a state answers each key, or has no answer there
abbrev pub State : Type 0
State = Key → Option Answer

abbrev pub same_block : Option Name → Option Name → Bool
same_block None None = true
same_block None (Some b) = false
same_block (Some a) None = false
same_block (Some a) (Some b) = same_name a b

abbrev pub same_key : Key → Key → Bool
same_key key.Control key.Control = true
same_key (key.Counter a) (key.Counter b) = same_block a b
same_key (key.Label a) (key.Label b) = same_name a b
same_key (key.Setting a) (key.Setting b) = same_name a b
same_key (key.Macro a) (key.Macro b) = same_name a b
same_key (key.Kept a) (key.Kept b) = nat_eq a b
same_key key.Uses key.Uses = true
same_key key.Ifs key.Ifs = true
same_key key.Blocks key.Blocks = true
same_key key.Locals key.Locals = true
same_key _ _ = false

-- how many of the blocks that USE left are kept
abbrev pub most_uses : ℕ
most_uses = MOST_LEFT_BLOCKS

-- how many ranges may be open
abbrev pub most_ranges : ℕ
most_ranges = MOST_RANGES

-- ---- before the first line

-- the program is in its head and for the central processor, numbers are decimal, and the nominal block is in use
abbrev pub first_control : Control
first_control = record { phase = phase.Head (record { is_named = false; is_declared = false }); machine = Cp; radix = Decimal; block = None }

-- a block begins at word 0
abbrev pub first_place : Place
first_place = place_at 0 false

abbrev pub first_state : State
first_state key.Control = Some (answer.Control first_control Normal)
first_state (key.Counter None) = Some (answer.Counter first_place)
first_state key.Uses = Some (answer.Uses [])
first_state key.Blocks = Some (answer.Count 0)
first_state key.Ifs = Some (answer.Ifs [])
first_state key.Locals = Some (answer.Count 0)
first_state other = None

-- ---- puts

abbrev pub with_put : State → Put → State
with_put state p k = if same_key p.key k then Some p.answer else state k

-- a state with the puts of a line, in their order
abbrev pub overwritten : State → List Put → State
overwritten state [] = state
overwritten state (p ∷ puts) = overwritten (with_put state p) puts

-- ---- what an answer says; one of another kind, or none, says what stands before the first line

abbrev pub control_of : Option Answer → Control
control_of (Some (answer.Control c mode)) = c
control_of _ = first_control

-- lines are assembled
abbrev pub mode_of : Option Answer → Mode
mode_of (Some (answer.Control c mode)) = mode
mode_of _ = Normal

-- a place past the machine's words counts as the first bit after them; a peripheral processor's has no bit used and nothing pending
abbrev pub within_limit : Machine → Place → Place
within_limit Cp place = if nat_lt (60 * limit Cp) (position place) then place_at (60 * limit Cp) place.is_pending else place
within_limit Pp place = place_at (60 * min place.word (limit Pp)) false

abbrev pub place_of : Machine → Option Answer → Place
place_of machine (Some (answer.Counter place)) = within_limit machine place
place_of machine _ = first_place

-- a block's counter stands where a place does
abbrev pub is_place : Option Answer → Bool
is_place (Some (answer.Counter place)) = true
is_place _ = false

-- a value beyond the range of expressions is none
abbrev pub value_of : Option Answer → Option Value
value_of (Some (answer.Value v)) = limited v
value_of _ = None

-- no block was left
abbrev pub uses_of : Option Answer → List (Option Name)
uses_of (Some (answer.Uses blocks)) = blocks
uses_of _ = []

-- no range is open
abbrev pub ranges_of : Option Answer → List OpenRange
ranges_of (Some (answer.Ifs ranges)) = ranges
ranges_of _ = []

-- there is no macro
abbrev pub macro_of : Option Answer → Option Macro
macro_of (Some (answer.Macro named)) = Some named
macro_of _ = None

-- an empty line
abbrev pub text_of : Option Answer → List ℕ
text_of (Some (answer.Text text)) = text
text_of _ = []

-- none was begun, or generated
abbrev pub count_of : Option Answer → ℕ
count_of (Some (answer.Count count)) = count
count_of _ = 0

-- what the labels of a state stand for
abbrev pub labels_of : State → Values
labels_of state name = value_of (state (key.Label name))

-- the values that SET gave to symbols of a state
abbrev pub settings_of : State → Values
settings_of state name = value_of (state (key.Setting name))

-- ---- the end of a source

-- lines are assembled
abbrev pub is_normal : Mode → Bool
is_normal Normal = true
is_normal (SkipLines count) = false
is_normal (SkipRange skip) = false
is_normal (KeepMacro body) = false
is_normal (KeepDup body) = false

abbrev pub is_no_range : List OpenRange → Bool
is_no_range [] = true
is_no_range (range ∷ ranges) = false

-- a range is open, or lines are skipped or kept: a source that ends here is open
abbrev pub is_open : State → Bool
is_open state = not (is_normal (mode_of (state key.Control))) || not (is_no_range (ranges_of (state key.Ifs)))
