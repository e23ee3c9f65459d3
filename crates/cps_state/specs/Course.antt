-- The course of a line in pass one (our own): it asks keys of the state, puts answers there, says where its statement stands and what that makes, begins
-- the statements that it stands for, and tells the symbols that it reads. The next key follows from the answers so far. What the line itself put or asked before is not asked again.
use Rattle.std.specs.Prelude.{◌≡◌, ℕ, Bool, true, false, not, ◌||◌, nat_lt, List, [], ◌∷◌, ◌++◌, length, take, filter, Option, None, Some, option_map, is_some, unwrap_or, if◌then◌else◌}
use Rattle.std.specs.Option.{option_or}
use Rattle.cps_text.specs.declared.limits.TheConstants.{DEEPEST, MOST_STATEMENTS}
use Rattle.cps_text.specs.declared.name.Name.{Name}
use Rattle.cps_state.specs.declared.flags.Flags.{Flags}
use Rattle.cps_state.specs.declared.key.Key.{Key}
use Rattle.cps_state.specs.declared.key.Key.TheVariants as key
use Rattle.cps_state.specs.declared.key.Answer.{Answer}
use Rattle.cps_state.specs.declared.key.Asked.{Asked}
use Rattle.cps_state.specs.declared.key.Put.{Put}
use Rattle.cps_state.specs.declared.item.Item.{Item}
use Rattle.cps_state.specs.Keys.{State, same_key}
use Rattle.cps_state.specs.Item.{blank_item, standing_in, with_made, with_flags}
use Rattle.cps_state.specs.Made.{Made, nothing_made, no_flags}

pub data Course : Type 0 where
  stop : Course
  ask : Key → (Option Answer → Course) → Course
  put : Put → Course → Course
  -- the statement that began last has its place in a block
  stand : Option Name → Course → Course
  -- what it made
  fill : Made → Course → Course
  -- more flags of it
  mark : Flags → Course → Course
  tell : Name → Course → Course
  -- the line's own statement has put all that it puts
  settle : Course → Course
  -- a statement of an expansion begins, at a depth, with a text
  begin : ℕ → List ℕ → Course → Course

-- ---- parts: what a line does before what comes after it

abbrev pub Part : Type 0
Part = Course → Course

abbrev pub nothing : Part
nothing rest = rest

infixr 5 ◌before◌
abbrev pub ◌before◌ : Part → Part → Part
◌before◌ first second rest = first (second rest)

-- asking a key, and then what hangs on its answer
abbrev pub asking : Key → (Option Answer → Part) → Part
asking key next rest = ask key (λ answer. next answer rest)

abbrev pub putting : Key → Answer → Part
putting key answer = put (record { key = key; answer = answer })

-- telling a symbol where something holds
abbrev pub telling_if : Bool → Name → Part
telling_if holds name = if holds then tell name else nothing

-- ---- what a line has done so far: what it asked and put, and how many of the puts are its own statement's; the statements that are finished and the one that
-- began last, at first the line's own; and the symbols that it read

pub record Running : Type 0 where
  pub asks : List Asked
  pub puts : List Put
  pub settled : ℕ
  pub finished : List Item
  pub present : Item
  pub reads : List Name

-- a source line stands at depth 0
abbrev pub started : Running
started = record { asks = []; puts = []; settled = 0; finished = []; present = blank_item 0 []; reads = [] }

-- the newest put at a key
abbrev pub last_put : List Put → Key → Option Answer
last_put [] k = None
last_put (p ∷ puts) k = option_or (last_put puts k) (if same_key p.key k then Some p.answer else None)

-- the newest ask at a key
abbrev pub last_ask : List Asked → Key → Option (Option Answer)
last_ask [] k = None
last_ask (a ∷ asks) k = option_or (last_ask asks k) (if same_key a.key k then Some a.answer else None)

-- what is known of a key: what was put there, else what was asked there
abbrev pub known_in : List Asked → List Put → Key → Option (Option Answer)
known_in asks puts k = option_or (option_map Some (last_put puts k)) (last_ask asks k)

abbrev pub known_at : Running → Key → Option (Option Answer)
known_at running k = known_in running.asks running.puts k

abbrev pub answer_at : State → Running → Key → Option Answer
answer_at state running k = unwrap_or (known_at running k) (state k)

abbrev pub with_ask : State → Running → Key → Running
with_ask state running k =
    if is_some (known_at running k) then running
    else record running { asks = running.asks ++ record { key = k; answer = state k } ∷ [] }

abbrev pub with_put_made : Running → Put → Running
with_put_made running p = record running { puts = running.puts ++ p ∷ [] }

abbrev pub stood : Running → Option Name → Running
stood running block = record running { present = standing_in block running.present }

abbrev pub filled : Running → Made → Running
filled running made = record running { present = with_made made running.present }

abbrev pub marked : Running → Flags → Running
marked running flags = record running { present = with_flags flags running.present }

abbrev pub with_read : Running → Name → Running
with_read running name = record running { reads = running.reads ++ name ∷ [] }

abbrev pub settled_by : Running → Running
settled_by running = record running { settled = length running.puts }

-- the statements that have begun
abbrev pub items_of : Running → List Item
items_of running = running.finished ++ running.present ∷ []

abbrev pub begun : Running → ℕ → List ℕ → Running
begun running depth text = record running { finished = items_of running; present = blank_item depth text }

-- no statement stands deeper
abbrev pub deepest : ℕ
deepest = DEEPEST

-- an expansion has no more statements
abbrev pub most_statements : ℕ
most_statements = MOST_STATEMENTS

-- a statement is too much at such a depth, or after so many of its line's expansion
abbrev pub too_much : ℕ → ℕ → Bool
too_much count depth = nat_lt deepest depth || not (nat_lt count most_statements)

-- what a course leaves after what came before, and whether all of it was done: it ends before the first statement that is too much
abbrev pub run : Course → State → Running → Running × Bool
run stop state running = (running, true)
run (ask k next) state running = run (next (answer_at state running k)) state (with_ask state running k)
run (put p rest) state running = run rest state (with_put_made running p)
run (stand block rest) state running = run rest state (stood running block)
run (fill made rest) state running = run rest state (filled running made)
run (mark flags rest) state running = run rest state (marked running flags)
run (tell name rest) state running = run rest state (with_read running name)
run (settle rest) state running = run rest state (settled_by running)
run (begin depth text rest) state running = if too_much (length running.finished) depth then (running, false) else run rest state (begun running depth text)

-- ---- what a line did

-- what was asked, put and made, and the symbols that were read, in their order
pub record Trace : Type 0 where
  pub asks : List Asked
  pub puts : List Put
  pub items : List Item
  pub reads : List Name

-- the first of the statements
abbrev pub first_item : List Item → Item → Item
first_item [] present = present
first_item (item ∷ items) present = item

-- a line that is dropped has E alone, and its own statement's place; of its puts only its own statement's at the control stand, and it reads nothing
abbrev pub dropped_item : Item → Item
dropped_item own = record { depth = 0; text = []; stand = own.stand; made = nothing_made (record no_flags { structure = true }) }

abbrev pub control_puts : List Put → List Put
control_puts puts = filter (λ p. same_key p.key key.Control) puts

abbrev pub traced : Running × Bool → Trace
traced (running, true) = record { asks = running.asks; puts = running.puts; items = items_of running; reads = running.reads }
traced (running, false) = record {
  asks = running.asks;
  puts = control_puts (take running.settled running.puts);
  items = dropped_item (first_item running.finished running.present) ∷ [];
  reads = [];
}

-- the same without what was asked
abbrev pub unasked : Trace → Trace
unasked trace = record trace { asks = [] }

-- each key that was asked has the same answer in another state
abbrev pub Holds : List Asked → State → Type 0
Holds [] state = Unit {0}
Holds (asked ∷ asks) state = (state asked.key ≡ asked.answer) × Holds asks state
