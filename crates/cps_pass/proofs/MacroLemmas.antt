-- The lines that a call opens.
use Rattle.std.proofs.Common.{◌≡◌, sym, ap, ◌∙◌, Option, None, Some}
use Rattle.std.proofs.lemmas.Option.{none-some}
use Rattle.std.specs.Prelude.{option_map, is_some}
use Rattle.cps_text.specs.Insertion.{Pairs}
use Rattle.cps_state.specs.Course.{Part}
use Rattle.cps_state.specs.Code.Line.{Line, Hands, line_filled, runs}
use Rattle.cps_state.specs.Keys.{State}
use Rattle.cps_state.specs.Made.{Made}
use Rattle.cps_state.specs.declared.key.Macro.{Macro}
use Rattle.cps_pass.specs.declared.opened.Opened.{Opened}
use Rattle.cps_pass.specs.declared.scope.Scope.{Scope}
use Rattle.cps_pass.specs.Macros.{call_made, calling_with, opening_with}
use Rattle.cps_pass.specs.Code.Opened.{opening_of}
use Rattle.cps_pass.specs.Opening.{Opening, none_opened}
use Rattle.cps_pass.specs.Code.Taking.{HandsOn}

same-opening : (one other : Opening) → Some other ≡ Some one → other ≡ one
same-opening one other same = search (same)

pub call-opens : {S : Type 0} (part : (Made → Part) → Part) (made : Made) (opened : Option Opened) (pairs : Option Pairs) (named : Macro) (scope : Scope) (f : S → State) (s t u : Line S)
    → Hands part made f s t
    → option_map (λ (o : Opened). opening_of (Some o)) opened ≡ option_map (λ (ps : Pairs). opening_with ps named) pairs
    → u ≡ line_filled t (call_made made (is_some opened))
    → HandsOn (λ behind. part (λ m. calling_with scope m named pairs behind)) scope (opening_of opened) f s u
call-opens part made None None named scope f s t u hands are fills = λ behind rest.
    hands (λ m. calling_with scope m named None behind) rest ∙ ap (λ r. runs (behind scope none_opened rest) f r) (sym fills)
call-opens part made None (Some pairs) named scope f s t u hands are fills = absurd (none-some (opening_with pairs named) are)
call-opens part made (Some opened) None named scope f s t u hands are fills = absurd (none-some (opening_of (Some opened)) (sym are))
call-opens part made (Some opened) (Some pairs) named scope f s t u hands are fills = λ behind rest.
    hands (λ m. calling_with scope m named (Some pairs) behind) rest
    ∙ ap (λ r. runs (behind scope (opening_with pairs named) rest) f r) (sym fills)
    ∙ ap (λ (o : Opening). runs (behind scope o rest) f u) (sym (same-opening (opening_with pairs named) (opening_of (Some opened)) are))
