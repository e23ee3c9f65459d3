-- For the code that keeps a state, not part of what a reader believes: what stands at the keys at which nothing may stand too.
use Rattle.std.specs.Prelude.{◌≡◌, ℕ, min, Bool, true, false, Option, Some, if◌then◌else◌}
use Rattle.std.specs.HashMap.{get, spare}
use Rattle.cps_text.specs.declared.name.Name.{Name}
use Rattle.cps_expr.specs.Value.{same_name}
use Rattle.cps_state.specs.contracts.key.KeyPartialEq.TheImpl.{eq-value}
use Rattle.cps_state.specs.declared.key.Key.{Key}
use Rattle.cps_state.specs.declared.key.Key.TheVariants as key
use Rattle.cps_state.specs.declared.key.Answer.{Answer}
use Rattle.cps_state.specs.declared.other_answers.OtherAnswers.{OtherAnswers}
use Rattle.cps_state.specs.Keys.{State}

-- with these counters of named blocks, these labels, and this at all other keys
abbrev pub others_in : (Name → Option Answer) → (Name → Option Answer) → State → State
others_in counters labels rest (key.Counter (Some block)) = counters block
others_in counters labels rest (key.Label name) = labels name
others_in counters labels rest other = rest other

-- what stands at each key
abbrev pub answer_of : OtherAnswers → State
answer_of others = others_in (get same_name others.counters.places) (get same_name others.labels) (get (eq-value.it) others.rest)

-- how many keys more there is room for
abbrev pub spare_of : OtherAnswers → ℕ
spare_of others = min (spare others.counters.places) (min (spare others.labels) (spare others.rest))

-- neither the counter of a named block nor a label
abbrev pub is_rest : Key → Bool
is_rest (key.Counter (Some block)) = false
is_rest (key.Label name) = false
is_rest other = true

-- this stands at one key now, and at all others what stood there
abbrev pub IsPutAt : {K : Type 0} → (K → K → Bool) → K → Answer → (K → Option Answer) → (K → Option Answer) → Type 0
IsPutAt {K} same key answer old new = (other : K) → new other ≡ (if same key other then Some answer else old other)
