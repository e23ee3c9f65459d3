-- For the code of pass one, not part of what a reader believes: a line together with what answers its keys, so that one value is what its parts change.
use Rattle.std.specs.Prelude.{◌≡◌, ℕ, Bool, true, false, List, Option, None, unwrap_or, length, if◌then◌else◌}
use Rattle.cps_text.specs.declared.name.Name.{Name}
use Rattle.cps_state.specs.declared.flags.Flags.{Flags}
use Rattle.cps_state.specs.declared.key.Key.{Key}
use Rattle.cps_state.specs.declared.key.Answer.{Answer}
use Rattle.cps_state.specs.declared.key.Put.{Put}
use Rattle.cps_state.specs.declared.item.Item.{Item}
use Rattle.cps_state.specs.declared.log.LogPlace.{LogPlace}
use Rattle.cps_state.specs.Course.{Course, stop, ask, put, stand, fill, mark, tell, settle, begin, Part, Running, started, answer_at, with_ask, with_put_made, stood, filled, marked, with_read, settled_by, begun, too_much}
use Rattle.cps_state.specs.Keys.{State}
use Rattle.cps_state.specs.Code.Log.{found_in}
use Rattle.cps_state.specs.Made.{Made}

-- what answers the keys of a line, the statements of the lines before it, and what the line has done
pub record Line (S : Type 0) : Type 0 where
  pub state : S
  pub before : List Item
  pub done : Running

-- a line that has done nothing
abbrev pub line_started : {S : Type 0} → List Item → S → Line S
line_started before state = record { state = state; before = before; done = started }

abbrev pub line_answer : {S : Type 0} → (S → State) → Line S → Key → Option Answer
line_answer answer line k = answer_at (answer line.state) line.done k

abbrev pub line_asked : {S : Type 0} → (S → State) → Line S → Key → Line S
line_asked answer line k = record { state = line.state; before = line.before; done = with_ask (answer line.state) line.done k }

abbrev pub line_put : {S : Type 0} → Line S → Put → Line S
line_put line p = record { state = line.state; before = line.before; done = with_put_made line.done p }

abbrev pub line_stood : {S : Type 0} → Line S → Option Name → Line S
line_stood line block = record { state = line.state; before = line.before; done = stood line.done block }

abbrev pub line_filled : {S : Type 0} → Line S → Made → Line S
line_filled line made = record { state = line.state; before = line.before; done = filled line.done made }

abbrev pub line_marked : {S : Type 0} → Line S → Flags → Line S
line_marked line flags = record { state = line.state; before = line.before; done = marked line.done flags }

abbrev pub line_told : {S : Type 0} → Line S → Name → Line S
line_told line name = record { state = line.state; before = line.before; done = with_read line.done name }

abbrev pub line_settled : {S : Type 0} → Line S → Line S
line_settled line = record { state = line.state; before = line.before; done = settled_by line.done }

abbrev pub line_begun : {S : Type 0} → Line S → ℕ → List ℕ → Line S
line_begun line depth text = record { state = line.state; before = line.before; done = begun line.done depth text }

-- the answer at a place of the log
abbrev pub known_answer : {S : Type 0} → Line S → LogPlace → Option Answer
known_answer line known = unwrap_or (found_in line.done.asks line.done.puts known) None

-- what a course makes of a line, and whether all of it was done
abbrev pub runs : {S : Type 0} → Course → (S → State) → Line S → Line S × Bool
runs stop answer line = (line, true)
runs (ask k next) answer line = runs (next (line_answer answer line k)) answer (line_asked answer line k)
runs (put p rest) answer line = runs rest answer (line_put line p)
runs (stand block rest) answer line = runs rest answer (line_stood line block)
runs (fill made rest) answer line = runs rest answer (line_filled line made)
runs (mark flags rest) answer line = runs rest answer (line_marked line flags)
runs (tell name rest) answer line = runs rest answer (line_told line name)
runs (settle rest) answer line = runs rest answer (line_settled line)
runs (begin depth text rest) answer line = if too_much (length line.done.finished) depth then (line, false) else runs rest answer (line_begun line depth text)

-- a part was done: the line that was became the line that is
abbrev pub Does : {S : Type 0} → Part → (S → State) → Line S → Line S → Type 0
Does part answer old new = (rest : Course) → runs (part rest) answer old ≡ runs rest answer new

-- the same of a part that hands a value on
abbrev pub Hands : {S T : Type 0} → ((T → Part) → Part) → T → (S → State) → Line S → Line S → Type 0
Hands {S} {T} part value answer old new = (next : T → Part) (rest : Course) → runs (part next rest) answer old ≡ runs (next value rest) answer new

-- the same of a part that was completed, or that came to a statement that is too much
abbrev pub goes_on : {S : Type 0} → Bool → Course → (S → State) → Line S → Line S × Bool
goes_on true rest answer line = runs rest answer line
goes_on false rest answer line = (line, false)

abbrev pub Goes : {S : Type 0} → Part → Bool → (S → State) → Line S → Line S → Type 0
Goes part complete answer old new = (rest : Course) → runs (part rest) answer old ≡ goes_on complete rest answer new
