-- Which statements have a place, by what they ask. Our own.
use Rattle.std.specs.Prelude.{◌≡◌, ℕ, zero, false, List, [], ◌∷◌, Option, if◌then◌else◌}
use Rattle.std.specs.List.{list_any}
use Rattle.cps_text.specs.declared.name.Name.{Name}
use Rattle.cps_text.specs.Card.{LineFields}
use Rattle.cps_text.specs.Insertion.{Pairs}
use Rattle.cps_pass.specs.Locals.{local_in}
use Rattle.cps_state.specs.declared.item.Stand.{Stand}
use Rattle.cps_state.specs.declared.item.Stand.TheVariants.{Nowhere, In}
use Rattle.cps_state.specs.declared.key.Key.{Key}
use Rattle.cps_state.specs.declared.key.Key.TheVariants as key
use Rattle.cps_state.specs.Course.{Course, stop, ask, put, stand, fill, mark, tell, settle, begin, nothing, Running, answer_at, with_ask, with_put_made, stood, filled, marked, with_read, settled_by}
use Rattle.cps_state.specs.Keys.{State, same_key, control_of}
use Rattle.cps_pass.specs.declared.scope.Scope.{Scope}
use Rattle.cps_pass.specs.Meaning.{statement}
use Rattle.cps_chunk.specs.Listed.{reached}

-- a statement, and nothing after it
abbrev pub alone : Scope → List ℕ → Course
alone scope text = statement scope text (λ later opened. nothing) stop

-- the keys that a course asks before the next statement begins, those among them whose answers are known already
abbrev pub asked_by : Course → State → Running → List Key
asked_by stop state running = []
asked_by (ask k next) state running = k ∷ asked_by (next (answer_at state running k)) state (with_ask state running k)
asked_by (put p rest) state running = asked_by rest state (with_put_made running p)
asked_by (stand block rest) state running = asked_by rest state (stood running block)
asked_by (fill made rest) state running = asked_by rest state (filled running made)
asked_by (mark flags rest) state running = asked_by rest state (marked running flags)
asked_by (tell name rest) state running = asked_by rest state (with_read running name)
asked_by (settle rest) state running = asked_by rest state (settled_by running)
asked_by (begin depth text rest) state running = []

-- the block in use where a statement begins
abbrev pub block_in : State → Running → Option Name
block_in state running = (control_of (answer_at state running key.Control)).block

-- a place in a block where its counter is among the keys that were asked, and else none
abbrev pub stand_by : Option Name → List Key → Stand
stand_by block keys = if list_any (same_key (key.Counter block)) keys then In block else Nowhere

-- an item names a block by its place exactly if its own statement asks the counter of the block in use, and then that block
abbrev pub StandsWhereItAsks : Type 0
StandsWhereItAsks = (scope : Scope) (text : List ℕ) (state : State) (running : Running) → running.present.stand ≡ Nowhere
    → (reached zero (alone scope text) state running).present.stand ≡ stand_by (block_in state running) (asked_by (alone scope text) state running)

-- ---- the LOCAL lines of a call

-- one of them, and nothing after it
abbrev pub local_alone : Pairs → LineFields → Course
local_alone pairs fields = local_in pairs fields (λ named. nothing) stop

-- an item of one names no block by its place, and it asks no counter
abbrev pub LocalLinesStandNowhere : Type 0
LocalLinesStandNowhere = (pairs : Pairs) (fields : LineFields) (block : Option Name) (state : State) (running : Running) → running.present.stand ≡ Nowhere
    → ((reached zero (local_alone pairs fields) state running).present.stand ≡ Nowhere)
    × (list_any (same_key (key.Counter block)) (asked_by (local_alone pairs fields) state running) ≡ false)
