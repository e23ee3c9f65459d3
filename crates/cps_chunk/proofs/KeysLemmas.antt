-- Changed keys, gone through one by one.
use Rattle.std.proofs.Common.{◌≡◌, refl, sym, ap, ◌∙◌, ℕ, zero, suc, ◌+◌, ◌<◌, ◌≤◌, Bool, true, false, ◌||◌, List, [], ◌∷◌, ◌++◌, length, get_or, take, drop, Option, None, Some, arith}
use Rattle.std.specs.Prelude.{is_some, if◌then◌else◌}
use Rattle.std.specs.List.{list_any, slice_get}
use Rattle.std.specs.Option.{option_or}
use Rattle.std.proofs.lemmas.List.{take_all, drop_all}
use Rattle.std.proofs.lemmas.List.Folds.{list_any_more}
use Rattle.std.proofs.lemmas.Map.Entries.{length-keys_of}
use Rattle.std.proofs.lemmas.Option.{slice_get_within, get_or_from_slice_get}
use Rattle.cps_state.specs.declared.key.Key.{Key}
use Rattle.cps_state.specs.declared.key.Answer.{Answer}
use Rattle.cps_state.specs.declared.key.Put.{Put}
use Rattle.cps_state.specs.Course.{Trace, last_put}
use Rattle.cps_state.proofs.KnownLemmas.{same_key_is, same_key-true}
use Rattle.cps_final.specs.declared.changes.Changes.{Changes as KeptChanges}
use Rattle.cps_final.specs.Changes.{Changed, agreed}
use Rattle.cps_final.specs.Code.Kept.{changes_in, count_of, keys_in}
use Rattle.cps_final.proofs.KeptLemmas.{eq, has-key}
use Rattle.cps_final.specs.Layout.{puts_of}
use Rattle.cps_edit.proofs.TakenLemmas.{drop_at}
use Rattle.cps_chunk.proofs.PastLemmas.{last_put-append}

-- ---- lists

module _ {X : Type 0} (p : X → Bool) where
  any-here : (xs : List X) (i : ℕ) (x : X) → i < length xs → x ≡ get_or xs i x → p x ≡ true → list_any p xs ≡ true
  any-here [] i x lt is passes = absurd (omega (arith, lt))
  any-here (y ∷ xs) zero x lt is passes = ap (λ b. b || list_any p xs) (ap p (sym is) ∙ passes)
  any-here (y ∷ xs) (suc i) x lt is passes = at (p y) (any-here xs i x (omega (arith, lt)) is passes)
    where
      at : (b : Bool) → list_any p xs ≡ true → (b || list_any p xs) ≡ true
      at true rest = refl
      at false rest = rest

  -- one that passes
  pub any-at : (xs : List X) (i : ℕ) (x : X) → slice_get xs i ≡ Some x → p x ≡ true → list_any p xs ≡ true
  any-at xs i x got passes = any-here xs i x (slice_get_within xs i x got) (sym (get_or_from_slice_get xs i x x got)) passes

  -- one more that doesn't
  pub any-next : (xs : List X) (i : ℕ) (x : X) → slice_get xs i ≡ Some x → list_any p (take i xs) ≡ false → p x ≡ false → list_any p (take (i + 1) xs) ≡ false
  any-next xs i x got before fails =
      let here : p (get_or xs i x) ≡ false = ap p (get_or_from_slice_get xs i x x got) ∙ fails in
      list_any_more p xs i x (slice_get_within xs i x got) ∙ (λ j. before j || here j)

  pub any-all : (xs : List X) (i : ℕ) → length xs ≤ i → list_any p (take i xs) ≡ false → list_any p xs ≡ false
  any-all xs i past none = sym (ap (list_any p) (take_all i xs past)) ∙ none

any-other : {X : Type 0} (q p : X → Bool) → ((x : X) → q x ≡ true → p x ≡ true) → (xs : List X) → list_any q xs ≡ true → list_any p xs ≡ true
any-other q p next [] any = any
any-other q p next (x ∷ xs) any = at (q x) refl any (any-other q p next xs)
  where
    or-right : (b : Bool) → list_any p xs ≡ true → (b || list_any p xs) ≡ true
    or-right true rest = refl
    or-right false rest = rest

    at : (b : Bool) → q x ≡ b → (b || list_any q xs) ≡ true → (list_any q xs ≡ true → list_any p xs ≡ true) → (p x || list_any p xs) ≡ true
    at true is some later = ap (λ b. b || list_any p xs) (next x is)
    at false is some later = or-right (p x) (later some)

-- ---- changed keys

-- all of them
pub all-keys : (changes : KeptChanges) (i : ℕ) → count_of changes ≤ i → length (keys_in changes) ≤ i
all-keys changes i past = let len = length-keys_of changes.answers.entries in omega arith

-- what passes at none of the keys passes where nothing is changed alone
pub none-had : (p : Key → Bool) (changes : KeptChanges) → list_any p (keys_in changes) ≡ false → (k : Key) → is_some (changes_in changes k) ≡ true → p k ≡ false
none-had p changes none k there = at (p k) refl
  where
    at : (b : Bool) → p k ≡ b → b ≡ false
    at false is = refl
    at true is =
        let among : list_any (eq k) (keys_in changes) ≡ true = sym (has-key (eq k) changes.answers.entries) ∙ there in
        let same = λ (j : Key) (h : eq k j ≡ true). ap p (sym (same_key-true k j (sym (same_key_is k j) ∙ h))) ∙ is in
        let wrong : true ≡ false = sym (any-other (eq k) p same (keys_in changes) among) ∙ none in
        cc

-- ---- what lines settle

-- nothing, if they put at no changed key
pub settled-none : (now : Changed) (puts : List Put) → ((k : Key) → is_some (now k) ≡ true → is_some (last_put puts k) ≡ false) → agreed now puts ≡ now
settled-none now puts none = λ i. λ k. at k (now k) refl (is_some (last_put puts k)) refl i
  where
    at : (k : Key) (here : Option (Option Answer)) → now k ≡ here → (put : Bool) → is_some (last_put puts k) ≡ put → (if put then None else here) ≡ here
    at k None is true put = refl
    at k None is false put = refl
    at k (Some x) is false put = refl
    at k (Some x) is true put =
        let wrong : true ≡ false = sym put ∙ none k (ap is_some is) in
        cc

settled-append : (now : Changed) (ps qs : List Put) → agreed (agreed now ps) qs ≡ agreed now (ps ++ qs)
settled-append now ps qs =
    λ i. λ k. (at k (last_put qs k) (last_put ps k) ∙ ap (λ (last : Option Answer). if is_some last then None else now k) (sym (last_put-append ps qs k))) i
  where
    at : (k : Key) (new old : Option Answer) → (if is_some new then None else (if is_some old then None else now k)) ≡ (if is_some (option_or new old) then None else now k)
    at k None old = refl
    at k (Some a) old = refl

-- what one line more settles
pub settle-next : (now before end : Changed) (ts : List Trace) (i : ℕ) (t : Trace) → i < length ts → t ≡ get_or ts i t → now ≡ agreed before t.puts
    → agreed before (puts_of (drop i ts)) ≡ end → agreed now (puts_of (drop (i + 1) ts)) ≡ end
settle-next now before end ts i t lt is made so_far =
    ap (λ (c : Changed). agreed c (puts_of (drop (i + 1) ts))) made ∙ settled-append before t.puts (puts_of (drop (i + 1) ts))
    ∙ ap (λ us. agreed before (puts_of us)) (sym (drop_at ts i t lt is)) ∙ so_far

pub settle-done : (now end : Changed) (ts : List Trace) (i : ℕ) → length ts ≤ i → agreed now (puts_of (drop i ts)) ≡ end → now ≡ end
settle-done now end ts i past so_far = sym (ap (λ us. agreed now (puts_of us)) (drop_all i ts past)) ∙ so_far
