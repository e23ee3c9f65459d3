-- The LOCAL lines of a call stand nowhere.
use Rattle.std.proofs.Common.{◌≡◌, refl, ap, ◌∙◌, ℕ, ◌+◌, Bool, true, false, List, Option, Some, None, length}
use Rattle.std.specs.Prelude.{if◌then◌else◌, nat_lt}
use Rattle.std.specs.List.{list_any}
use Rattle.cps_text.specs.declared.limits.TheConstants.{MOST_GENERATED}
use Rattle.cps_text.specs.declared.name.Name.{Name}
use Rattle.cps_text.specs.Card.{LineFields, CommentLine, ContinuedLine, StatementLine}
use Rattle.cps_text.specs.Insertion.{Pairs}
use Rattle.cps_text.specs.Operands.{operands_of}
use Rattle.cps_expr.specs.Row.{locals_of}
use Rattle.cps_state.specs.declared.key.Answer.TheVariants as answer
use Rattle.cps_state.specs.declared.key.Key.TheVariants as key
use Rattle.cps_state.specs.declared.item.Stand.TheVariants.{Nowhere, In}
use Rattle.cps_state.specs.Course.{stop, Part, ◌before◌, nothing, putting, Running, answer_at, with_ask}
use Rattle.cps_state.specs.Keys.{State, same_key, count_of}
use Rattle.cps_pass.specs.declared.reading.Location.{Location}
use Rattle.cps_pass.specs.Reading.{location_in}
use Rattle.cps_pass.specs.Located.{present_flags}
use Rattle.cps_pass.specs.Making.{flagged}
use Rattle.cps_pass.specs.Locals.{giving_up, naming_by, names_new}
use Rattle.cps_chunk.proofs.StandLemmas.{Fits, ask-fits, fresh, if-fits, stands, stop-fits}
use Rattle.cps_chunk.specs.Standing.{asked_by, local_alone, LocalLinesStandNowhere}

-- names that are put, and nothing after them
abbrev putting_names : Location → ℕ → Part
putting_names location count = putting key.Locals (answer.Count count) before flagged (present_flags location) before nothing

-- ---- the place

naming-fits : (b : Option Name) (pairs : Pairs) (location : Location) (names : Option (List Name)) (count : ℕ) → Fits b (naming_by pairs location names count (λ named. nothing) stop) fresh
naming-fits b pairs location None count = stop-fits b false
naming-fits b pairs location (Some names) count =
    if-fits b fresh (nat_lt MOST_GENERATED (count + length names)) giving_up (putting_names location (count + length names)) stop tt (stop-fits b false)

local-fits : (b : Option Name) (pairs : Pairs) (fields : LineFields) → Fits b (local_alone pairs fields) fresh
local-fits b pairs CommentLine = stop-fits b false
local-fits b pairs ContinuedLine = stop-fits b false
local-fits b pairs (StatementLine statement) =
    let names = names_new pairs (locals_of (operands_of statement.tail)) in
    ask-fits b false key.Locals (λ a. naming_by pairs (location_in statement.location) names (count_of a) (λ named. nothing) stop) refl
    (λ a. naming-fits b pairs (location_in statement.location) names (count_of a))

-- ---- the keys

if-asks : (b : Option Name) (c : Bool) (location : Location) (count : ℕ) (state : State) (running : Running)
    → list_any (same_key (key.Counter b)) (asked_by ((if c then giving_up else putting_names location count) stop) state running) ≡ false
if-asks b true location count state running = refl
if-asks b false location count state running = refl

naming-asks : (b : Option Name) (pairs : Pairs) (location : Location) (names : Option (List Name)) (count : ℕ) (state : State) (running : Running)
    → list_any (same_key (key.Counter b)) (asked_by (naming_by pairs location names count (λ named. nothing) stop) state running) ≡ false
naming-asks b pairs location None count state running = refl
naming-asks b pairs location (Some names) count state running = if-asks b (nat_lt MOST_GENERATED (count + length names)) location (count + length names) state running

local-asks : (b : Option Name) (pairs : Pairs) (fields : LineFields) (state : State) (running : Running) → list_any (same_key (key.Counter b)) (asked_by (local_alone pairs fields) state running) ≡ false
local-asks b pairs CommentLine state running = refl
local-asks b pairs ContinuedLine state running = refl
local-asks b pairs (StatementLine statement) state running =
    naming-asks b pairs (location_in statement.location) (names_new pairs (locals_of (operands_of statement.tail))) (count_of (answer_at state running key.Locals)) state (with_ask state running key.Locals)

pub local-lines-stand-nowhere : LocalLinesStandNowhere
local-lines-stand-nowhere pairs fields block state running nowhere =
    let asks = local-asks block pairs fields state running in (
      stands (local_alone pairs fields) block state running fresh (local-fits block pairs fields) nowhere ∙ ap (λ c. if c then In block else Nowhere) asks,
      asks,
    )
