-- Changed keys, as lines are gone through that were there before. Our own.
use Rattle.std.specs.Prelude.{◌≡◌, Bool, true, ◌&&◌, ◌||◌, List, [], ◌∷◌, Option, None, Some, is_some, unwrap_or, option_map, if◌then◌else◌}
use Rattle.std.specs.Option.{option_eq}
use Rattle.cps_state.specs.declared.key.Answer.{Answer}
use Rattle.cps_state.specs.declared.key.Asked.{Asked}
use Rattle.cps_state.specs.declared.key.Put.{Put}
use Rattle.cps_state.specs.Course.{Trace, Holds, last_put, last_ask}
use Rattle.cps_state.specs.Keys.{State, overwritten}
use Rattle.cps_final.specs.Changes.{Changed, changed}
use Rattle.cps_final.specs.Holds.{same_answer}

-- ---- whether a line does the same

-- an answer that was had before is the one that stands now
abbrev pub stands_at : Option (Option Answer) → Option Answer → Bool
stands_at None before = true
stands_at (Some now) before = option_eq same_answer now before

-- so are all answers that were had to these asks
abbrev pub stands : Changed → List Asked → Bool
stands now [] = true
stands now (asked ∷ asks) = stands_at (now asked.key) asked.answer && stands now asks

-- ---- what is changed behind lines

-- what lines put last at each key
abbrev pub last_puts : List Put → Changed
last_puts puts k = option_map Some (last_put puts k)

-- where an answer and another are the same, nothing is changed
abbrev pub difference : Option Answer → Option Answer → Option (Option Answer)
difference now was = if option_eq same_answer now was then None else Some now

-- the changes behind lines that put some before, in front of which that stood, and that put others now
abbrev pub noted : Changed → State → List Put → List Put → Changed
noted now before olds news k =
    if is_some (last_put olds k) || is_some (last_put news k)
    then difference (overwritten (changed now before) news k) (overwritten before olds k)
    else now k

abbrev pub NotedLaw : Type 0
NotedLaw = (now : Changed) (before : State) (olds news : List Put)
    → changed (noted now before olds news) (overwritten before olds) ≡ overwritten (changed now before) news

-- ---- what stands in front of a line

-- what a line asked is known without a look; all else is looked up
abbrev pub asked_or : List Asked → State → State
asked_or asks state k = unwrap_or (last_ask asks k) (state k)

-- each of these lines had the answers that stood in front of it, where that stood in front of the first
abbrev pub AreHeld : State → List Trace → Type 0
AreHeld before [] = Unit {0}
AreHeld before (trace ∷ traces) = Holds trace.asks before × AreHeld (overwritten before trace.puts) traces
