-- What a session keeps of its source, and what an edit makes of it.
use Rattle.std.proofs.Common.{◌≡◌, ℕ, suc, ◌-◌, ◌<◌, ◌≤◌, ◌⊎◌, ⊎_elim, Bool, true, false, refl, sym, ap, subst, ◌∙◌, List, ◌∷◌, ◌++◌, length, get_or, take, drop, arith}
use Rattle.std.proofs.lemmas.Bool.Decides.{nat_tests}
use Rattle.cps_edit.specs.Exchange.{IsWithin, exchange_at, move}
use Rattle.std.specs.Prelude.{nat_lt, if◌then◌else◌, Option, Some, None, IfSome, MatchOption, slice_get, slice_set}
use Rattle.std.proofs.lemmas.List.{length-map, set_split}
use Rattle.std.proofs.lemmas.Option.{slice_get-get_or}
use Rattle.cps_state.specs.Keys.{first_state}
use Rattle.cps_final.specs.Finals.{finals_of, final_value}
use Rattle.cps_final.specs.Outcome.{outcome_of}
use Rattle.cps_chunk.specs.Division.{IsDivision}
use Rattle.cps_chunk.specs.Code.Chunk.{lengths_of}
use Rattle.cps_chunk.proofs.ChunkLemmas.{chunks-long}
use Rattle.cps_edit.specs.Splice.{spliced, replacement}
use Rattle.cps_edit.proofs.SpliceLemmas.{length-traces_from}
use Rattle.cps_live.specs.Code.Editing.{IsKept}
use Rattle.cps_live.specs.declared.kept_source.KeptSource.{KeptSource}
use Rattle.cps_edit.specs.Assembly.{traces_of, outcomes_of}
use Rattle.cps_edit.specs.Limits.{most_lines}
use Rattle.cps_live.specs.Edits.{HasLine}
use Rattle.cps_live.specs.Code.Kept.{IsHeld}

-- ---- what is kept

-- each line has a trace and an outcome
pub length-traces : (lines : List (List ℕ)) → length (traces_of lines) ≡ length lines
length-traces lines = length-traces_from first_state lines

pub length-outcomes : (lines : List (List ℕ)) → length (outcomes_of lines) ≡ length lines
length-outcomes lines = length-map (traces_of lines) (outcome_of (final_value (finals_of (traces_of lines)))) ∙ length-traces lines

-- what is kept of other lines, of which there are few
pub held : (kept : KeptSource) (lines : List (List ℕ)) → IsKept kept → kept.lines.items ≡ lines → length lines ≤ most_lines → IsHeld kept
held kept lines is same few = record { few = subst (λ (ls : List (List ℕ)). length ls ≤ most_lines) (sym same) few; kept = is }

-- the chunks divide the source
pub divided : (kept : KeptSource) → IsHeld kept → IsDivision (length kept.lines.items) (lengths_of kept.chunks.items)
divided kept is =
    let lines = is.kept.lines in
    record {
      chunks = lines.divided;
      total = sym (chunks-long kept.hashing kept.chunks.items kept.traces.items lines.chunks) ∙ ap length lines.did ∙ length-traces kept.lines.items;
    }

-- what a look into a list gives
pub looked_up : {A X : Type 0} (value : A → X) (xs : List X) (i : ℕ) (found : Option A) (P : A → Type 0) → IfSome found (λ a. value a ≡ get_or xs i (value a))
    → MatchOption found (length xs ≤ i) (λ a. (i < length xs) × P a) → IfSome found (λ a. slice_get xs i ≡ Some (value a))
looked_up value xs i None P is there = tt
looked_up value xs i (Some a) P is (within, rest) = slice_get-get_or xs i (value a) within ∙ ap Some (sym is)

-- ---- edits

pub replaced : (lines : List (List ℕ)) (at : ℕ) (line : List ℕ) → HasLine lines at → spliced lines (replacement at line) ≡ slice_set lines (at - 1) line
replaced lines at line (first, last) =
    let next : suc (at - 1) ≡ at = omega (arith, first) in
    let within : at - 1 < length lines = omega (arith, first, last) in
    sym (set_split lines (at - 1) line within ∙ ap (λ n. take (at - 1) lines ++ line ∷ drop n lines) next)

-- ---- moves

-- a move that a source has is within it
pub move-within : (first last after count : ℕ) → 1 ≤ first → first ≤ last → last ≤ count → after ≤ count → ((first ≤ after) × (last ≤ after)) ⊎ (after < first)
    → IsWithin count (move first last after)
move-within first last after count one ordered within to place = at (nat_lt after first) refl
  where
    at : (b : Bool) → nat_lt after first ≡ b → IsWithin count (if b then exchange_at after (first - 1) last else exchange_at (first - 1) last after)
    at true is =
        let lt : after < first = grind (arith, nat_tests) in
        record { first = omega (arith, lt); second = omega (arith, ordered); all = within }
    at false is =
        let le : first ≤ after = grind (arith, nat_tests) in
        let past : last ≤ after = ⊎_elim (λ (behind : (first ≤ after) × (last ≤ after)). behind.1) (λ (lt : after < first). absurd (omega (arith, lt, le))) place in
        record { first = omega (arith, ordered); second = past; all = to }
