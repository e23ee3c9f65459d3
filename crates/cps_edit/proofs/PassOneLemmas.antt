-- Pass one of lines, one after another.
use Rattle.std.proofs.Common.{◌≡◌, ℕ, ◌+◌, ◌<◌, sym, ap, ◌∙◌, List, [], ◌∷◌, ◌++◌, length, get_or, take, arith}
use Rattle.std.proofs.lemmas.List.{take_more}
use Rattle.cps_state.specs.Keys.{State, first_state}
use Rattle.cps_state.specs.Course.{Trace}
use Rattle.cps_state.specs.Work.{counted_on}
use Rattle.cps_pass.specs.Expansion.{trace_of}
use Rattle.cps_final.specs.Finals.{Finals, Gathers}
use Rattle.cps_edit.specs.Passes.{state_after, traces_of}
use Rattle.cps_edit.proofs.SpliceLemmas.{traces_from-append, puts-state}

-- the trace of the line after those that were gathered
pub step-next : (finals : Finals) (before : List (List ℕ)) (line : List ℕ) (trace : Trace) (state : State) → Gathers finals (traces_of before) → state ≡ finals.state
    → trace ≡ trace_of line state → traces_of (before ++ line ∷ []) ≡ traces_of before ++ trace ∷ []
step-next finals before line trace state gathers same stepped =
    let now : trace ≡ trace_of line (state_after first_state before) =
    stepped ∙ ap (trace_of line) (same ∙ ap (λ (f : Finals). f.state) gathers ∙ puts-state first_state before) in
    traces_from-append first_state before (line ∷ []) ∙ ap (λ (t : Trace). traces_of before ++ t ∷ []) (sym now)

-- the first lines, and the next
pub front-next : (lines : List (List ℕ)) (i : ℕ) (line : List ℕ) → i < length lines → line ≡ get_or lines i line → take i lines ++ line ∷ [] ≡ take (i + 1) lines
front-next lines i line within is = ap (λ l. take i lines ++ l ∷ []) is ∙ sym (take_more lines i line within)

pub one-more : (old now new i : ℕ) → now ≡ counted_on old i → new ≡ counted_on now 1 → new ≡ counted_on old (i + 1)
one-more old now new i before step = omega arith

pub none-more : (old : ℕ) → old ≡ counted_on old 0
none-more old = omega arith
