-- Both passes over the lines of a source, one line more, and what is looked up.
use Rattle.std.proofs.Common.{◌≡◌, ℕ, ◌+◌, ◌<◌, ◌≤◌, refl, sym, ap, ◌∙◌, List, [], ◌∷◌, ◌++◌, length, get_or, take}
use Rattle.std.specs.Prelude.{Option, Some, None, IfSome, MatchOption, slice_get}
use Rattle.std.proofs.lemmas.List.{length-map, take_more}
use Rattle.std.proofs.lemmas.Option.{slice_get-get_or}
use Rattle.cps_state.specs.Keys.{State, first_state}
use Rattle.cps_state.specs.Course.{Trace}
use Rattle.cps_pass.specs.Expansion.{trace_of}
use Rattle.cps_final.specs.Finals.{Finals, finals_of, Gathers, final_value}
use Rattle.cps_final.specs.Outcome.{outcome_of}
use Rattle.cps_edit.specs.Assembly.{state_after, traces_of, outcomes_of, outcomes_under}
use Rattle.cps_edit.proofs.SpliceLemmas.{traces_from-append, length-traces_from, puts-state}

pub outcomes-more : (finals : Finals) (traces : List Trace) (trace : Trace)
    → outcomes_under finals (traces ++ trace ∷ []) ≡ outcomes_under finals traces ++ outcome_of (final_value finals) trace ∷ []
outcomes-more finals [] trace = refl
outcomes-more finals (t ∷ traces) trace = ap (λ outcomes. outcome_of (final_value finals) t ∷ outcomes) (outcomes-more finals traces trace)

-- each line has an outcome
pub length-outcomes : (lines : List (List ℕ)) → length (outcomes_of lines) ≡ length lines
length-outcomes lines = length-map (traces_of lines) (outcome_of (final_value (finals_of (traces_of lines)))) ∙ length-traces_from first_state lines

-- what a look into a list gives
pub looked_up : {A X : Type 0} (value : A → X) (xs : List X) (i : ℕ) (found : Option A) (P : A → Type 0) → IfSome found (λ a. value a ≡ get_or xs i (value a))
    → MatchOption found (length xs ≤ i) (λ a. (i < length xs) × P a) → IfSome found (λ a. slice_get xs i ≡ Some (value a))
looked_up value xs i None P is there = tt
looked_up value xs i (Some a) P is (within, rest) = slice_get-get_or xs i (value a) within ∙ ap Some (sym is)
