-- What pass two makes of a part of some lines, and of as many.
use Rattle.std.proofs.Common.{◌≡◌, ℕ, zero, suc, refl, ap, List, [], ◌∷◌, ◌++◌, length, take, drop}
use Rattle.cps_state.specs.Course.{Trace}
use Rattle.cps_final.specs.Outcome.{Resolved, outcome_of}
use Rattle.cps_edit.specs.Passes.{outcomes_by}

pub drop-outcomes : (n : ℕ) (e : Resolved) (ts : List Trace) → drop n (outcomes_by e ts) ≡ outcomes_by e (drop n ts)
drop-outcomes zero e ts = refl
drop-outcomes (suc n) e [] = refl
drop-outcomes (suc n) e (t ∷ ts) = drop-outcomes n e ts

pub take-outcomes : (n : ℕ) (e : Resolved) (ts : List Trace) → take n (outcomes_by e ts) ≡ outcomes_by e (take n ts)
take-outcomes zero e ts = refl
take-outcomes (suc n) e [] = refl
take-outcomes (suc n) e (t ∷ ts) = ap (λ os. outcome_of e t ∷ os) (take-outcomes n e ts)

pub append-outcomes : (e : Resolved) (ts us : List Trace) → outcomes_by e (ts ++ us) ≡ outcomes_by e ts ++ outcomes_by e us
append-outcomes e [] us = refl
append-outcomes e (t ∷ ts) us = ap (λ os. outcome_of e t ∷ os) (append-outcomes e ts us)

pub length-outcomes : (e : Resolved) (ts : List Trace) → length (outcomes_by e ts) ≡ length ts
length-outcomes e [] = refl
length-outcomes e (t ∷ ts) = ap suc (length-outcomes e ts)
