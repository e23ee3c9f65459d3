-- Lines that were there before, over a state with changes: whether they do the same, and what is changed behind them.
use Rattle.std.proofs.Common.{◌≡◌, refl, sym, ap, subst, ◌∙◌, ℕ, Bool, true, false, ◌||◌, ◌&&◌, List, [], ◌∷◌, ◌++◌, Option, None, Some}
use Rattle.std.specs.Prelude.{is_some, not, unwrap_or, if◌then◌else◌}
use Rattle.std.specs.Option.{option_eq, option_or}
use Rattle.cps_state.specs.declared.key.Key.{Key}
use Rattle.cps_state.specs.declared.key.Answer.{Answer}
use Rattle.cps_state.specs.declared.key.Asked.{Asked}
use Rattle.cps_state.specs.Course.{Trace, Holds, last_put, last_ask}
use Rattle.cps_state.specs.Keys.{State, same_key, overwritten}
use Rattle.cps_state.proofs.KnownLemmas.{last_ask-push, same_key_is, same_key-true}
use Rattle.cps_final.proofs.KeptLemmas.{eq}
use Rattle.cps_final.specs.Changes.{Changed, changed, agreed}
use Rattle.cps_final.proofs.ChangedLemmas.{overwritten-last, settled-law}
use Rattle.cps_final.specs.Holds.{same_answer, holds}
use Rattle.cps_final.proofs.AnswerLemmas.{answers-decide, asks-decide}
use Rattle.cps_pass.specs.Expansion.{trace_of}
use Rattle.cps_edit.specs.Passes.{after}
use Rattle.cps_edit.specs.Disturbed.{is_disturbed}
use Rattle.cps_edit.proofs.AskedLemmas.{asked-here, meant-here}
use Rattle.cps_chunk.specs.Noted.{stands_at, stands, difference, noted, NotedLaw, asked_or}

-- ---- what is changed behind lines

-- what differs stands over what stood there
over-difference : (now was : Option Answer) → unwrap_or (difference now was) was ≡ now
over-difference now was = at (option_eq same_answer now was) refl
  where
    at : (same : Bool) → option_eq same_answer now was ≡ same → unwrap_or (if same then None else Some now) was ≡ now
    at true is = sym ((answers-decide now was).0 is)
    at false is = refl

-- what the lines put now stands behind what they put before, with what they note
pub noted-law : NotedLaw
noted-law now before olds news = λ i. λ k. at k (last_put olds k) (last_put news k) (overwritten-last before olds k) (overwritten-last (changed now before) news k) i
  where
    at : (k : Key) (old new : Option Answer) → overwritten before olds k ≡ option_or old (before k)
        → overwritten (changed now before) news k ≡ option_or new (unwrap_or (now k) (before k))
        → unwrap_or (if is_some old || is_some new then difference (overwritten (changed now before) news k) (overwritten before olds k) else now k) (overwritten before olds k)
        ≡ overwritten (changed now before) news k
    at k (Some a) new was is = over-difference (overwritten (changed now before) news k) (overwritten before olds k)
    at k None (Some b) was is = over-difference (overwritten (changed now before) news k) (overwritten before olds k)
    at k None None was is = ap (unwrap_or (now k)) was ∙ sym is

-- ---- what a line asked

-- where the asks hold in one state, each of them is known where another has the same there
pub asked_or-at : (asks : List Asked) (f g : State) (k : Key) → Holds asks g → g k ≡ f k → asked_or asks f k ≡ f k
asked_or-at [] f g k held same = refl
asked_or-at (a ∷ asks) f g k held same = at (last_ask asks k) (asked_or-at asks f g k held.1 same) (same_key a.key k) refl
  where
    at : (last : Option (Option Answer)) → unwrap_or last (f k) ≡ f k → (here : Bool) → same_key a.key k ≡ here
        → unwrap_or (option_or last (if here then Some a.answer else None)) (f k) ≡ f k
    at (Some x) rest here is = rest
    at None rest true is = sym held.0 ∙ ap g (same_key-true a.key k is) ∙ same
    at None rest false is = refl

-- the last of some asks is at a key, or it is not
pub asked-last : (rest next asks : List Asked) (a : Asked) (k : Key) (same : Bool) → rest ≡ next ++ a ∷ [] → last_ask rest k ≡ last_ask asks k
    → same ≡ eq a.key k → (if same then Some a.answer else last_ask next k) ≡ last_ask asks k
asked-last rest next asks a k same steps so_far is =
    ap (λ (b : Bool). if b then Some a.answer else last_ask next k) (is ∙ same_key_is a.key k)
    ∙ sym (last_ask-push next a k) ∙ sym (ap (λ (ps : List Asked). last_ask ps k) steps) ∙ so_far

pub asked-found : (rest next asks : List Asked) (a : Asked) (k : Key) (same : Bool) → rest ≡ next ++ a ∷ [] → last_ask rest k ≡ last_ask asks k
    → same ≡ eq a.key k → same ≡ true → Some a.answer ≡ last_ask asks k
asked-found rest next asks a k same steps so_far is found =
    sym (ap (λ (b : Bool). if b then Some a.answer else last_ask next k) found) ∙ asked-last rest next asks a k same steps so_far is

pub asked-other : (rest next asks : List Asked) (a : Asked) (k : Key) (same : Bool) → rest ≡ next ++ a ∷ [] → last_ask rest k ≡ last_ask asks k
    → same ≡ eq a.key k → same ≡ false → last_ask next k ≡ last_ask asks k
asked-other rest next asks a k same steps so_far is other =
    sym (ap (λ (b : Bool). if b then Some a.answer else last_ask next k) other) ∙ asked-last rest next asks a k same steps so_far is

-- what a line asked is what stands where its asks hold
pub asked_or-held : (asks : List Asked) (f : State) → Holds asks f → asked_or asks f ≡ f
asked_or-held asks f held = λ i. λ k. asked_or-at asks f f k held refl i

-- asks that hold in a state stand under changes if they hold in the changed state
pub stands-holds : (now : Changed) (asks : List Asked) (f : State) → Holds asks f → stands now asks ≡ holds asks (changed now f)
stands-holds now [] f held = refl
stands-holds now (a ∷ asks) f held = λ i. at (now a.key) i && stands-holds now asks f held.1 i
  where
    at : (here : Option (Option Answer)) → stands_at here a.answer ≡ option_eq same_answer (unwrap_or here (f a.key)) a.answer
    at None = sym ((answers-decide (f a.key) a.answer).1 held.0)
    at (Some x) = refl

-- ---- a line that was there before

module _ (now : Changed) (f : State) (line : List ℕ) (t : Trace) (did : t ≡ trace_of line f) where
  pub did-hold : Holds t.asks f
  did-hold = subst (λ (s : Trace). Holds s.asks f) (sym did) (asked-here line f)

  -- its asks are those that stand, where nothing is changed
  pub asked_or-did : asked_or t.asks f ≡ f
  asked_or-did = asked_or-held t.asks f did-hold

  -- it is disturbed if its asks don't stand
  pub disturbed-stands : is_disturbed (Some t) (changed now f) ≡ not (stands now t.asks)
  disturbed-stands = ap not (sym (stands-holds now t.asks f did-hold))

  -- where its asks stand, it does the same
  pub same-stands : stands now t.asks ≡ true → trace_of line (changed now f) ≡ t
  same-stands stood = sym (meant-here line t (changed now f) (f, did) ((asks-decide t.asks (changed now f)).0 (sym (stands-holds now t.asks f did-hold) ∙ stood)))

  -- and leaves those changes that it doesn't settle
  pub after-stands : stands now t.asks ≡ true → changed (agreed now t.puts) (after f line) ≡ after (changed now f) line
  after-stands stood =
      ap (λ (s : Trace). changed (agreed now t.puts) (overwritten f s.puts)) (sym did) ∙ sym (settled-law now f t.puts)
      ∙ ap (λ (s : Trace). overwritten (changed now f) s.puts) (sym (same-stands stood))

  -- where they don't, it puts what it puts now
  pub after-redone : changed (noted now f t.puts (trace_of line (changed now f)).puts) (after f line) ≡ after (changed now f) line
  after-redone =
      ap (λ (s : Trace). changed (noted now f t.puts (trace_of line (changed now f)).puts) (overwritten f s.puts)) (sym did)
      ∙ noted-law now f t.puts (trace_of line (changed now f)).puts
