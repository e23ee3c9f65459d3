-- The list of the statements that a line stands for, taken without any limit, and what the limits leave of it. How deep expansions may stand, and how many
-- statements a line may stand for, are our profile's.
use Rattle.std.specs.Prelude.{ℕ, zero, suc, ◌+◌, Bool, not, ◌||◌, min, nat_lt, List, [], ◌∷◌, length, if◌then◌else◌}
use Rattle.std.specs.List.{list_any}
use Rattle.cps_state.specs.Course.{Course, stop, ask, put, stand, fill, mark, tell, settle, begin, Running, run, started, answer_at, with_ask, with_put_made, stood, filled, marked, with_read, settled_by, begun, deepest, most_statements, Trace, traced}
use Rattle.cps_state.specs.Keys.{State}

-- a statement: how deep it stands, and its text
pub record Entry : Type 0 where
  pub depth : ℕ
  pub text : List ℕ

-- ---- the list

-- the statements that a course begins after what was done before, in order, as if none were too much
abbrev pub listed : Course → State → Running → List Entry
listed stop state running = []
listed (ask k next) state running = listed (next (answer_at state running k)) state (with_ask state running k)
listed (put p rest) state running = listed rest state (with_put_made running p)
listed (stand block rest) state running = listed rest state (stood running block)
listed (fill made rest) state running = listed rest state (filled running made)
listed (mark flags rest) state running = listed rest state (marked running flags)
listed (tell name rest) state running = listed rest state (with_read running name)
listed (settle rest) state running = listed rest state (settled_by running)
listed (begin depth text rest) state running = record { depth = depth; text = text } ∷ listed rest state (begun running depth text)

-- what a course has done where so many statements have begun and the next would, or at its end
abbrev pub reached : ℕ → Course → State → Running → Running
reached count stop state running = running
reached count (ask k next) state running = reached count (next (answer_at state running k)) state (with_ask state running k)
reached count (put p rest) state running = reached count rest state (with_put_made running p)
reached count (stand block rest) state running = reached count rest state (stood running block)
reached count (fill made rest) state running = reached count rest state (filled running made)
reached count (mark flags rest) state running = reached count rest state (marked running flags)
reached count (tell name rest) state running = reached count rest state (with_read running name)
reached count (settle rest) state running = reached count rest state (settled_by running)
reached zero (begin depth text rest) state running = running
reached (suc count) (begin depth text rest) state running = reached count rest state (begun running depth text)

-- the statements that a line with such a course stands for
abbrev pub expansion : Course → State → List Entry
expansion course state = listed course state started

-- ---- the limits

abbrev pub is_deep : Entry → Bool
is_deep entry = nat_lt deepest entry.depth

-- a statement stands too deep, or there is one too many
abbrev pub is_dropped : List Entry → Bool
is_dropped entries = list_any is_deep entries || nat_lt most_statements (length entries)

-- how many stand before the first one that is too deep
abbrev pub before_deep : List Entry → ℕ
before_deep [] = 0
before_deep (entry ∷ entries) = if is_deep entry then 0 else before_deep entries + 1

-- how many stand before the first one that is too deep or one too many
abbrev pub allowed : List Entry → ℕ
allowed entries = min most_statements (before_deep entries)

-- ---- traces

abbrev pub trace_in : Course → State → Trace
trace_in course state = traced (run course state started)

-- a line is dropped if its list is; then what it asked is what the statements before the first one that is too much asked
abbrev pub trace_by_list : Course → State → Trace
trace_by_list course state = traced (reached (allowed (expansion course state)) course state started, not (is_dropped (expansion course state)))
