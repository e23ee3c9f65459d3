-- The state behind puts, by the last put at each key.
use Rattle.std.proofs.Common.{◌≡◌, refl, ◌∙◌, Bool, true, false, List, [], ◌∷◌, Option, None, Some}
use Rattle.std.specs.Prelude.{if◌then◌else◌}
use Rattle.std.specs.Option.{option_or}
use Rattle.cps_state.specs.declared.key.Key.{Key}
use Rattle.cps_state.specs.declared.key.Answer.{Answer}
use Rattle.cps_state.specs.declared.key.Put.{Put}
use Rattle.cps_state.specs.Course.{last_put}
use Rattle.cps_state.specs.Keys.{State, same_key, with_put, overwritten}

-- the answer behind puts is that of the last put, or the one before them
pub overwritten-last : (s : State) (puts : List Put) (k : Key) → overwritten s puts k ≡ option_or (last_put puts k) (s k)
overwritten-last s [] k = refl
overwritten-last s (p ∷ puts) k = overwritten-last (with_put s p) puts k ∙ at (last_put puts k) (same_key p.key k)
  where
    at : (last : Option Answer) (here : Bool) → option_or last (if here then Some p.answer else s k) ≡ option_or (option_or last (if here then Some p.answer else None)) (s k)
    at (Some a) here = refl
    at None true = refl
    at None false = refl
