-- Lines that were kept are opened.
use Rattle.std.proofs.Common.{◌≡◌, sym, ap, ◌∙◌, List, ℕ}
use Rattle.cps_state.specs.Course.{Part, ◌before◌, fill}
use Rattle.cps_state.specs.Code.Line.{Line, line_filled, runs}
use Rattle.cps_state.specs.Keys.{State}
use Rattle.cps_state.specs.Made.{Made}
use Rattle.cps_pass.specs.declared.scope.Scope.{Scope}
use Rattle.cps_pass.specs.Opening.{Opening}
use Rattle.cps_pass.specs.Code.Taking.{TakesBody, HandsOn}

-- lines that were taken are opened, after what the statement makes
pub taken-filled : {S : Type 0} (part : (List (List ℕ) → Scope → Part) → Part) (lines : List (List ℕ)) (opened : Opening) (opens : List (List ℕ) → Opening) (scope : Scope) (made : Made)
    (f : S → State) (s t u : Line S)
    → TakesBody part lines scope f s t → u ≡ line_filled t made → opened ≡ opens lines
    → HandsOn (λ behind. part (λ taken later. fill made before behind later (opens taken))) scope opened f s u
taken-filled part lines opened opens scope made f s t u takes fills are = λ behind rest.
    takes (λ taken later. fill made before behind later (opens taken)) rest
    ∙ ap (λ r. runs (behind scope (opens lines) rest) f r) (sym fills)
    ∙ ap (λ (o : Opening). runs (behind scope o rest) f u) (sym are)
