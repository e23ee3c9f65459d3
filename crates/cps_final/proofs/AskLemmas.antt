-- What a line asks after others, and what their run asks of the state in front of it.
use Rattle.std.proofs.Common.{◌≡◌, refl, sym, ap, ◌∙◌, Bool, true, false, List, [], ◌∷◌, ◌++◌, Option, None, Some}
use Rattle.std.specs.Prelude.{is_some, option_map, unwrap_or, if◌then◌else◌}
use Rattle.std.specs.Option.{option_or}
use Rattle.cps_state.specs.declared.key.Key.{Key}
use Rattle.cps_state.specs.declared.key.Answer.{Answer}
use Rattle.cps_state.specs.declared.key.Asked.{Asked}
use Rattle.cps_state.specs.declared.key.Put.{Put}
use Rattle.cps_state.specs.Course.{last_put, last_ask, known_in, Holds}
use Rattle.cps_state.specs.Keys.{State, same_key, overwritten}
use Rattle.cps_final.specs.Run.{with_ask, with_asks}
use Rattle.cps_state.proofs.KnownLemmas.{same_key-true}
use Rattle.cps_final.proofs.PutLemmas.{overwritten-last}

-- ---- lists of asks

holds-front : (asks : List Asked) (a : Asked) (s : State) → Holds (asks ++ a ∷ []) s → Holds asks s
holds-front [] a s held = tt
holds-front (b ∷ asks) a s held = (held.0, holds-front asks a s held.1)

holds-last : (asks : List Asked) (a : Asked) (s : State) → Holds (asks ++ a ∷ []) s → s a.key ≡ a.answer
holds-last [] a s held = held.0
holds-last (b ∷ asks) a s held = holds-last asks a s held.1

holds-push : (asks : List Asked) (a : Asked) (s : State) → Holds asks s → s a.key ≡ a.answer → Holds (asks ++ a ∷ []) s
holds-push [] a s held is = (is, tt)
holds-push (b ∷ asks) a s held is = (held.0, holds-push asks a s held.1 is)

-- ---- what is known of a key

asked-there : (s : State) (asks : List Asked) (k : Key) → Holds asks s → s k ≡ unwrap_or (last_ask asks k) (s k)
asked-there s [] k held = refl
asked-there s (a ∷ asks) k held = at (last_ask asks k) (asked-there s asks k held.1) (same_key a.key k) refl
  where
    at : (last : Option (Option Answer)) → s k ≡ unwrap_or last (s k) → (here : Bool) → same_key a.key k ≡ here
        → s k ≡ unwrap_or (option_or last (if here then Some a.answer else None)) (s k)
    at (Some x) rest here same = rest
    at None rest true same = ap s (sym (same_key-true a.key k same)) ∙ held.0
    at None rest false same = refl

-- where the asks hold, the answer behind the puts is the one that is known
known-there : (s : State) (asks : List Asked) (puts : List Put) (k : Key) → Holds asks s → overwritten s puts k ≡ unwrap_or (known_in asks puts k) (s k)
known-there s asks puts k held = overwritten-last s puts k ∙ at (last_put puts k)
  where
    at : (last : Option Answer) → option_or last (s k) ≡ unwrap_or (option_or (option_map Some last) (last_ask asks k)) (s k)
    at (Some a) = refl
    at None = asked-there s asks k held

-- ---- one ask more

one-before : (puts : List Put) (asks : List Asked) (a : Asked) (s : State) → Holds (with_ask puts asks a) s → Holds asks s
one-before puts asks a s = at (is_some (known_in asks puts a.key))
  where
    at : (known : Bool) → Holds (if known then asks else asks ++ a ∷ []) s → Holds asks s
    at true held = held
    at false held = holds-front asks a s held

one-holds : (puts : List Put) (asks : List Asked) (a : Asked) (s : State) → Holds asks s → overwritten s puts a.key ≡ a.answer → Holds (with_ask puts asks a) s
one-holds puts asks a s held is = at (known_in asks puts a.key) (known-there s asks puts a.key held)
  where
    at : (known : Option (Option Answer)) → overwritten s puts a.key ≡ unwrap_or known (s a.key) → Holds (if is_some known then asks else asks ++ a ∷ []) s
    at (Some x) there = held
    at None there = holds-push asks a s held (sym there ∙ is)

one-there : (puts : List Put) (asks : List Asked) (a : Asked) (f g : State) → Holds asks f → overwritten f puts a.key ≡ a.answer → Holds (with_ask puts asks a) g
    → overwritten g puts a.key ≡ a.answer
one-there puts asks a f g held is there =
    at (known_in asks puts a.key) (known-there f asks puts a.key held) (known-there g asks puts a.key (one-before puts asks a g there)) there
  where
    at : (known : Option (Option Answer)) → overwritten f puts a.key ≡ unwrap_or known (f a.key) → overwritten g puts a.key ≡ unwrap_or known (g a.key)
        → Holds (if is_some known then asks else asks ++ a ∷ []) g → overwritten g puts a.key ≡ a.answer
    at (Some x) in_f in_g more = in_g ∙ sym in_f ∙ is
    at None in_f in_g more = in_g ∙ holds-last asks a g more

-- ---- all the asks of a line

-- what was asked before is asked still
pub asks-before : (puts : List Put) (asks more : List Asked) (s : State) → Holds (with_asks puts asks more) s → Holds asks s
asks-before puts asks [] s held = held
asks-before puts asks (a ∷ more) s held = one-before puts asks a s (asks-before puts (with_ask puts asks a) more s held)

-- what the run asks holds where it was
pub asks-hold : (puts : List Put) (asks more : List Asked) (s : State) → Holds asks s → Holds more (overwritten s puts) → Holds (with_asks puts asks more) s
asks-hold puts asks [] s held here = held
asks-hold puts asks (a ∷ more) s held here = asks-hold puts (with_ask puts asks a) more s (one-holds puts asks a s held here.0) here.1

-- where that holds, what the line asks holds behind the puts before it
pub asks-there : (puts : List Put) (asks more : List Asked) (f g : State) → Holds asks f → Holds more (overwritten f puts) → Holds (with_asks puts asks more) g
    → Holds more (overwritten g puts)
asks-there puts asks [] f g held here there = tt
asks-there puts asks (a ∷ more) f g held here there = (
  one-there puts asks a f g held here.0 (asks-before puts (with_ask puts asks a) more g there),
  asks-there puts (with_ask puts asks a) more f g (one-holds puts asks a f held here.0) here.1 there,
)
