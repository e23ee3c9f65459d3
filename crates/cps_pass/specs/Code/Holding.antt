-- For the code of pass one, not part of what a reader believes: the values that SET gave to symbols, after those that are held already.
use Rattle.std.specs.Prelude.{List, ◌++◌, None, All, IfSome}
use Rattle.cps_text.specs.declared.name.Name.{Name}
use Rattle.cps_state.specs.declared.made.SetValue.{SetValue}
use Rattle.cps_state.specs.Course.{Part}
use Rattle.cps_state.specs.Keys.{State}
use Rattle.cps_state.specs.Code.Line.{Line, Hands}
use Rattle.cps_state.specs.Made.{IsHeld}
use Rattle.cps_pass.specs.declared.holding.Holding.{Holding}
use Rattle.cps_pass.specs.Placing.{setting_now, settings_now}

abbrev pub holding_after : List SetValue → List Name → (List SetValue → Part) → Part
holding_after held names next = settings_now names (λ later. next (held ++ later))

-- the values of more symbols are held
abbrev pub HoldsMore : {S : Type 0} → List Name → Holding → Holding → (S → State) → Line S → Line S → Type 0
HoldsMore names old new answer before after = Hands (holding_after old.held.items names) new.held.items answer before after

-- SET has given a symbol no value by now, and to ask it once more changes nothing
abbrev pub IsUnset : {S : Type 0} → (S → State) → Line S → Name → Type 0
IsUnset answer line name = Hands (setting_now name) None answer line line

-- each value that is held is in the range of expressions, and the symbol that was asked last has no value
pub record IsHolding {S : Type 0} (answer : S → State) (line : Line S) (holding : Holding) : Type 0 where
  pub each : All IsHeld holding.held.items
  pub unset : IfSome holding.unset (IsUnset answer line)
