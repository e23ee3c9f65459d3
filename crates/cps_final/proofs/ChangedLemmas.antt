-- A state with changed keys, and lines that put the same as before.
use Rattle.std.proofs.Common.{◌≡◌, refl, sym, ap, ◌∙◌, ℕ, ◌+◌, ◌<◌, ◌≤◌, Bool, true, false, List, [], ◌∷◌, length, get_or, drop, Option, None, Some}
use Rattle.std.specs.Prelude.{is_some, unwrap_or, if◌then◌else◌}
use Rattle.std.specs.Option.{option_or}
use Rattle.std.proofs.lemmas.List.{drop_more, drop_all}
use Rattle.cps_state.specs.declared.key.Key.{Key}
use Rattle.cps_state.specs.declared.key.Answer.{Answer}
use Rattle.cps_state.specs.declared.key.Put.{Put}
use Rattle.cps_state.specs.Course.{last_put}
use Rattle.cps_state.specs.Keys.{State, same_key, with_put, overwritten}
use Rattle.cps_final.specs.Changes.{Changed, changed, with_change, without, agreed, AgreedLaw}

-- what stands behind puts is the last put there, or what stood before them
pub overwritten-last : (state : State) (puts : List Put) (k : Key) → overwritten state puts k ≡ option_or (last_put puts k) (state k)
overwritten-last state [] k = refl
overwritten-last state (p ∷ puts) k = overwritten-last (with_put state p) puts k ∙ at (last_put puts k) (same_key p.key k)
  where
    at : (last : Option Answer) (here : Bool) → option_or last (if here then Some p.answer else state k) ≡ option_or (option_or last (if here then Some p.answer else None)) (state k)
    at (Some a) here = refl
    at None true = refl
    at None false = refl

settled-at : (last : Option Answer) (now : Option (Option Answer)) (before : Option Answer)
    → option_or last (unwrap_or now before) ≡ unwrap_or (if is_some last then None else now) (option_or last before)
settled-at None now before = refl
settled-at (Some a) now before = refl

-- a key that is put stands as it is put
pub changed-put : (now : Changed) (state : State) (p : Put) → changed (with_change now p.key (Some p.answer)) state ≡ with_put (changed now state) p
changed-put now state p = λ i. λ k. at k (same_key p.key k) i
  where
    at : (k : Key) (here : Bool) → unwrap_or (if here then Some (Some p.answer) else now k) (state k) ≡ (if here then Some p.answer else unwrap_or (now k) (state k))
    at k true = refl
    at k false = refl

-- one put of the list is made
pub put-next : (now before : Changed) (state end : State) (puts : List Put) (i : ℕ) (p : Put) → i < length puts → p ≡ get_or puts i p → now ≡ with_change before p.key (Some p.answer)
    → overwritten (changed before state) (drop i puts) ≡ end → overwritten (changed now state) (drop (i + 1) puts) ≡ end
put-next now before state end puts i p lt is made so_far =
    ap (λ (c : Changed). overwritten (changed c state) (drop (i + 1) puts)) made
    ∙ ap (λ (f : State). overwritten f (drop (i + 1) puts)) (changed-put before state p)
    ∙ ap (λ (q : Put). overwritten (changed before state) (q ∷ drop (i + 1) puts)) is ∙ sym (ap (overwritten (changed before state)) (drop_more puts i p lt)) ∙ so_far

-- all of the list is made
pub put-all : (now : Changed) (state end : State) (puts : List Put) (i : ℕ) → length puts ≤ i → overwritten (changed now state) (drop i puts) ≡ end → changed now state ≡ end
put-all now state end puts i all so_far = sym (ap (overwritten (changed now state)) (drop_all i puts all)) ∙ so_far

-- lines that put the same as before leave those changes that they don't put
pub settled-law : AgreedLaw
settled-law now state puts =
    λ i. λ k. (overwritten-last (changed now state) puts k ∙ settled-at (last_put puts k) (now k) (state k)
    ∙ sym (ap (unwrap_or (agreed now puts k)) (overwritten-last state puts k))) i

-- a put settles its own key, and those behind it theirs
pub settled-put : (now : Changed) (p : Put) (puts : List Put) → agreed (without now p.key) puts ≡ agreed now (p ∷ puts)
settled-put now p puts = λ i. λ k. at k (last_put puts k) (same_key p.key k) i
  where
    at : (k : Key) (last : Option Answer) (here : Bool)
        → (if is_some last then None else (if here then None else now k)) ≡ (if is_some (option_or last (if here then Some p.answer else None)) then None else now k)
    at k (Some a) here = refl
    at k None true = refl
    at k None false = refl

-- one put of the list is gone over
pub settled-next : (now before end : Changed) (puts : List Put) (i : ℕ) (p : Put) → i < length puts → p ≡ get_or puts i p → now ≡ without before p.key
    → agreed before (drop i puts) ≡ end → agreed now (drop (i + 1) puts) ≡ end
settled-next now before end puts i p lt is made so_far =
    ap (λ (c : Changed). agreed c (drop (i + 1) puts)) made ∙ settled-put before p (drop (i + 1) puts)
    ∙ ap (λ (q : Put). agreed before (q ∷ drop (i + 1) puts)) is ∙ sym (ap (agreed before) (drop_more puts i p lt)) ∙ so_far

-- all of the list is gone over
pub settled-all : (now end : Changed) (puts : List Put) (i : ℕ) → length puts ≤ i → agreed now (drop i puts) ≡ end → now ≡ end
settled-all now end puts i all so_far = sym (ap (agreed now) (drop_all i puts all)) ∙ so_far
