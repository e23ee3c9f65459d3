-- What stands behind the last line, with what an edit changes of it.
use Rattle.std.proofs.Common.{◌≡◌, refl, sym, ap, subst, ◌∙◌, ℕ, true, false, List, ◌++◌, take, drop, Option, None, Some}
use Rattle.std.specs.Prelude.{is_some, unwrap_or}
use Rattle.std.specs.Option.{option_or}
use Rattle.cps_state.specs.declared.key.Key.{Key}
use Rattle.cps_state.specs.declared.key.Key.TheVariants as key
use Rattle.cps_state.specs.declared.key.Answer.{Answer}
use Rattle.cps_state.specs.Code.KeptAnswers.{is_other}
use Rattle.cps_state.specs.Course.{Trace, last_put}
use Rattle.cps_state.specs.Keys.{State, first_state}
use Rattle.cps_final.specs.Changes.{Changed, changed}
use Rattle.cps_final.proofs.ChangedLemmas.{overwritten-last}
use Rattle.cps_final.specs.Finals.{Finals, final_value, finals_of}
use Rattle.cps_final.specs.Layout.{puts_of}
use Rattle.cps_final.specs.Code.FinalsPatch.{with_storage}
use Rattle.cps_final.specs.declared.storage.Storage.{Storage}
use Rattle.cps_edit.specs.Passes.{state_after, traces_of}
use Rattle.cps_edit.specs.Splice.{Splice, spliced}
use Rattle.cps_edit.proofs.SpliceLemmas.{puts-state}
use Rattle.cps_chunk.specs.Sparse.{renewed}
use Rattle.cps_chunk.proofs.ReplayedLemmas.{traces-spliced}
use Rattle.cps_chunk.specs.declared.put.ChunkSplice.{ChunkSplice}
use Rattle.cps_live.specs.declared.news.News.{News}
use Rattle.cps_live.specs.Code.Editing.{AreEnds, AreNewTraces, splice_of}
use Rattle.cps_live.specs.Code.Storing.{IsStoredBehind, edited}

-- ---- something always stands where always something stands

first-stands : (k : Key) → is_other k ≡ false → is_some (first_state k) ≡ true
first-stands key.Control e = refl
first-stands (key.Counter None) e = refl
first-stands key.Uses e = refl
first-stands key.Blocks e = refl
first-stands key.Ifs e = refl
first-stands key.Locals e = refl
first-stands other e = cc

or-stands : (a b : Option Answer) → is_some b ≡ true → is_some (option_or a b) ≡ true
or-stands None b is = is
or-stands (Some x) b is = refl

always-stands : (lines : List (List ℕ)) (k : Key) → is_other k ≡ false → is_some (state_after first_state lines k) ≡ true
always-stands lines k is =
    subst (λ (f : State). is_some (f k) ≡ true) (puts-state first_state lines)
    (ap is_some (overwritten-last first_state (puts_of (traces_of lines)) k) ∙ or-stands (last_put (puts_of (traces_of lines)) k) (first_state k) (first-stands k is))

-- so changes that lead there may be taken over
pub may-stand : (now : Changed) (lines news : List (List ℕ)) → changed now (state_after first_state lines) ≡ state_after first_state news
    → (k : Key) → is_other k ≡ false → now k ≡ Some None → ⊥
may-stand now lines news there k is none =
    let nothing : state_after first_state news k ≡ None =
    sym (ap (λ (f : State). f k) there) ∙ ap (λ (o : Option (Option Answer)). unwrap_or o (state_after first_state lines k)) none in
    let something = always-stands news k is in
    let both : is_some {T = Answer} None ≡ true = ap is_some (sym nothing) ∙ something in
    cc

-- ---- final values

module _ (lines : List (List ℕ)) (cut : ChunkSplice) (news : News Trace) (are : AreNewTraces lines (splice_of cut) news) where
  -- what the lines do behind an edit
  pub edited-is : (traces : List Trace) → traces ≡ traces_of lines → edited cut news traces ≡ traces_of (spliced lines (splice_of cut))
  edited-is traces did =
      (λ i. take cut.keep (did i) ++ (are.entered i ++ renewed cut.from (are.renewed i) (drop cut.from (did i)))) ∙ sym (traces-spliced lines (splice_of cut))

pub finals-patched : (olds news : List (List ℕ)) (storage : Option Storage) (now : Changed)
    → IsStoredBehind (traces_of olds) storage (traces_of news) → changed now (state_after first_state olds) ≡ state_after first_state news
    → record (with_storage storage (finals_of (traces_of olds))) { state = changed now (finals_of (traces_of olds)).state } ≡ finals_of (traces_of news)
finals-patched olds news None now stored there =
    λ i. record (stored i) { state = (ap (changed now) (puts-state first_state olds) ∙ there ∙ sym (puts-state first_state news)) i }
finals-patched olds news (Some storage) now stored there =
    λ i. record (stored i) { state = (ap (changed now) (puts-state first_state olds) ∙ there ∙ sym (puts-state first_state news)) i }

-- the final values before and after
pub are-ends : (lines : List (List ℕ)) (splice : Splice) (was now kept : Finals) → was ≡ kept → kept ≡ finals_of (traces_of lines)
    → now ≡ finals_of (traces_of (spliced lines splice)) → AreEnds lines splice (final_value was) (final_value now)
are-ends lines splice was now kept back before after = record { before = ap final_value (back ∙ before); after = ap final_value after }
