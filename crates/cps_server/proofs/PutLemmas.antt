-- A session whose lines are put, where lines count from 0.
use Rattle.std.proofs.Common.{◌≡◌, ℕ, ◌+◌, ◌-◌, ◌<◌, ◌≤◌, ⊎_elim, List, length, ap, subst, ◌∙◌, arith}
use Rattle.std.specs.List.{splice}
use Rattle.cps_text.specs.declared.limits.TheConstants.{MOST_LINES}
use Rattle.cps_final.specs.Outcome.{Outcome}
use Rattle.cps_edit.specs.Splice.{splice_at}
use Rattle.cps_live.specs.Edits.{AreRedone, Source, IsPut, LacksPlace, MayNotPut, put_of}

-- the lines after it
pub lines-put : (old new : Source) (first end : ℕ) (cards : List (List ℕ)) → IsPut (first + 1) end cards old new → new.lines ≡ splice old.lines first end cards
lines-put old new first end cards put =
    let same : first + 1 - 1 ≡ first = omega arith in
    put.lines ∙ ap (λ n. splice old.lines n end cards) same

-- what is made anew beside them
pub redone-put : (old new : List Outcome) (first end : ℕ) (cards : List (List ℕ)) (places : List ℕ) → AreRedone old (put_of (first + 1) end cards) new places
    → AreRedone old (splice_at first end cards) new places
redone-put old new first end cards places redone =
    let same : first + 1 - 1 ≡ first = omega arith in
    subst (λ n. AreRedone old (splice_at n end cards) new places) same redone

-- none of the lines is missing
pub has-place : (lines : List (List ℕ)) (first end : ℕ) → first ≤ end → end ≤ length lines → LacksPlace lines (first + 1) end → ⊥
has-place lines first end ordered within lacks =
    ⊎_elim (λ (none : first + 1 ≡ 0). absurd (omega arith))
    (λ rest. ⊎_elim (λ (before : end < first + 1 - 1). absurd (omega (arith, before, ordered))) (λ (behind : length lines < end). absurd (omega (arith, behind, within))) rest)
    lacks

-- there are not too many then
pub may-put : (lines : List (List ℕ)) (first end : ℕ) (cards : List (List ℕ)) → length (splice lines first end cards) ≤ MOST_LINES
    → MayNotPut lines (first + 1) end cards → ⊥
may-put lines first end cards few many =
    let same : first + 1 - 1 ≡ first = omega arith in
    let longer = many.1 in
    absurd (omega (arith, few, longer, ap (λ n. length (splice lines n end cards)) same))
