-- A state and changed keys that exchange what stands there, key by key.
use Rattle.std.proofs.Common.{◌≡◌, refl, sym, ap, ◌∙◌, ℕ, ◌+◌, ◌<◌, ◌≤◌, Bool, true, false, ◌||◌, List, length, get_or, take, Option, None, Some, arith}
use Rattle.std.specs.Prelude.{is_some, unwrap_or, if◌then◌else◌}
use Rattle.std.specs.List.{list_any, slice_get, IsDistinct}
use Rattle.std.proofs.lemmas.Option.{slice_get_within, get_or_from_slice_get}
use Rattle.std.proofs.lemmas.List.{length-take, get_or-take, take_all}
use Rattle.std.proofs.lemmas.List.Folds.{list_any_none, list_any_more}
use Rattle.std.proofs.lemmas.Map.Entries.{length-keys_of}
use Rattle.std.proofs.lemmas.Map.Keys.{apart_from_distinct}
use Rattle.cps_state.specs.declared.key.Key.{Key}
use Rattle.cps_state.specs.declared.key.Answer.{Answer}
use Rattle.cps_state.specs.contracts.key.KeyEq.TheImpl.Laws.{laws-law}
use Rattle.cps_state.specs.declared.state.State.{State as KeptState}
use Rattle.cps_state.specs.Code.Exchange.{with_answer}
use Rattle.cps_state.specs.Code.KeptAnswers.{answers_in}
use Rattle.cps_state.specs.Code.OtherAnswers.{answer_of}
use Rattle.cps_state.specs.Keys.{State, same_key}
use Rattle.cps_state.proofs.KnownLemmas.{same_key_is, same_key-true}
use Rattle.cps_final.specs.declared.changes.Changes.{Changes as KeptChanges}
use Rattle.cps_final.specs.Changes.{Changed, changed, with_change}
use Rattle.cps_final.specs.Code.Kept.{changes_in, count_of, keys_in}
use Rattle.cps_final.proofs.KeptLemmas.{eq, has-key}

-- what stands in a state
abbrev pub state_in : KeptState → State
state_in state = answers_in state.control state.nominal state.uses state.blocks state.ranges state.locals (answer_of state.others)

-- behind an exchange at some keys
pub record Exchanged (ks : List Key) (now : Changed) (state : State) (next : Changed) (next_state : State) : Type 0 where
  pub changes : (k : Key) → next k ≡ (if list_any (eq k) ks then Some (state k) else now k)
  pub answers : (k : Key) → next_state k ≡ (if list_any (eq k) ks then unwrap_or (now k) (state k) else state k)

or-true : (b : Bool) → (b || true) ≡ true
or-true true = refl
or-true false = refl

or-false : (b : Bool) → (b || false) ≡ b
or-false true = refl
or-false false = refl

module _ (ks : List Key) (i : ℕ) (at : Key) (distinct : IsDistinct eq ks) (is : slice_get ks i ≡ Some at) where
  within : i < length ks
  within = slice_get_within ks i at is

  -- the key at a place is none of those before it
  new-key : list_any (eq at) (take i ks) ≡ false
  new-key =
      list_any_none (eq at) (take i ks) (λ j d lt.
      let lt_in : i < length ks = within in
      let len = length-take i ks in
      let below : j < i = omega arith in
      laws-law.symm at (get_or (take i ks) j d)
      ∙ ap (λ (k : Key). eq k at) (get_or-take i ks j d below)
      ∙ ap (eq (get_or ks j d)) (sym (get_or_from_slice_get ks i at d is))
      ∙ apart_from_distinct eq ks j i d distinct below lt_in)

  more : (k : Key) → list_any (eq k) (take (i + 1) ks) ≡ (list_any (eq k) (take i ks) || eq k at)
  more k = list_any_more (eq k) ks i at within ∙ ap (λ (x : Key). list_any (eq k) (take i ks) || eq k x) (get_or_from_slice_get ks i at at is)

  more-at : (k : Key) (b : Bool) → same_key at k ≡ b → list_any (eq k) (take (i + 1) ks) ≡ (list_any (eq k) (take i ks) || b)
  more-at k b same = more k ∙ ap (λ (c : Bool). list_any (eq k) (take i ks) || c) (laws-law.symm k at ∙ same_key_is at k ∙ same)

  module _ (now : Changed) (state : State) (between : Changed) (between_state : State) (next : Changed) (next_state : State)
      (before : Exchanged (take i ks) now state between between_state)
      (changes-is : next ≡ with_change between at (between_state at))
      (state-is : next_state ≡ with_answer between_state at (changed between between_state at)) where
    there : between_state at ≡ state at
    there = before.answers at ∙ ap (λ (b : Bool). if b then unwrap_or (now at) (state at) else state at) new-key

    was : between at ≡ now at
    was = before.changes at ∙ ap (λ (b : Bool). if b then Some (state at) else now at) new-key

    changes-at : (k : Key) (b : Bool) → same_key at k ≡ b
        → (if b then Some (between_state at) else between k) ≡ (if list_any (eq k) (take i ks) || b then Some (state k) else now k)
    changes-at k true same =
        ap Some (there ∙ ap state (same_key-true at k same)) ∙ sym (ap (λ (b : Bool). if b then Some (state k) else now k) (or-true (list_any (eq k) (take i ks))))
    changes-at k false same = before.changes k ∙ sym (ap (λ (b : Bool). if b then Some (state k) else now k) (or-false (list_any (eq k) (take i ks))))

    answers-at : (k : Key) (b : Bool) → same_key at k ≡ b
        → (if b then unwrap_or (between at) (between_state at) else between_state k) ≡ (if list_any (eq k) (take i ks) || b then unwrap_or (now k) (state k) else state k)
    answers-at k true same =
        (λ j. unwrap_or (was j) (there j)) ∙ ap (λ (x : Key). unwrap_or (now x) (state x)) (same_key-true at k same)
        ∙ sym (ap (λ (b : Bool). if b then unwrap_or (now k) (state k) else state k) (or-true (list_any (eq k) (take i ks))))
    answers-at k false same =
        before.answers k ∙ sym (ap (λ (b : Bool). if b then unwrap_or (now k) (state k) else state k) (or-false (list_any (eq k) (take i ks))))

    -- one key more
    pub exchanged-next : Exchanged (take (i + 1) ks) now state next next_state
    exchanged-next = record {
      changes = λ k.
          ap (λ (c : Changed). c k) changes-is ∙ changes-at k (same_key at k) refl
          ∙ sym (ap (λ (b : Bool). if b then Some (state k) else now k) (more-at k (same_key at k) refl));
      answers = λ k.
          ap (λ (s : State). s k) state-is ∙ answers-at k (same_key at k) refl
          ∙ sym (ap (λ (b : Bool). if b then unwrap_or (now k) (state k) else state k) (more-at k (same_key at k) refl));
    }

-- all keys
module _ (old : KeptChanges) (count : ℕ) (all : count_of old ≤ count) (state : State) (next : Changed) (next_state : State)
    (done : Exchanged (take count (keys_in old)) (changes_in old) state next next_state) where
  everywhere : (k : Key) → list_any (eq k) (take count (keys_in old)) ≡ is_some (changes_in old k)
  everywhere k =
      let len = length-keys_of old.answers.entries in
      let whole : length (keys_in old) ≤ count = omega arith in
      ap (list_any (eq k)) (take_all count (keys_in old) whole) ∙ sym (has-key (eq k) old.answers.entries)

  next-is : (k : Key) → next k ≡ (if is_some (changes_in old k) then Some (state k) else changes_in old k)
  next-is k = done.changes k ∙ ap (λ (b : Bool). if b then Some (state k) else changes_in old k) (everywhere k)

  taken : (o : Option (Option Answer)) (s : Option Answer) → (if is_some o then unwrap_or o s else s) ≡ unwrap_or o s
  taken None s = refl
  taken (Some a) s = refl

  next_state-is : (k : Key) → next_state k ≡ unwrap_or (changes_in old k) (state k)
  next_state-is k =
      done.answers k ∙ ap (λ (b : Bool). if b then unwrap_or (changes_in old k) (state k) else state k) (everywhere k) ∙ taken (changes_in old k) (state k)

  given : (o : Option (Option Answer)) (s : Option Answer) → unwrap_or (if is_some o then Some s else o) (unwrap_or o s) ≡ s
  given None s = refl
  given (Some a) s = refl

  same : (o : Option (Option Answer)) (s : Option Answer) → is_some (if is_some o then Some s else o) ≡ is_some o
  same None s = refl
  same (Some a) s = refl

  pub exchanged-state : next_state ≡ changed (changes_in old) state
  exchanged-state = λ i. λ k. next_state-is k i

  pub exchanged-back : changed next next_state ≡ state
  exchanged-back =
      λ i. λ k. (ap (λ (o : Option (Option Answer)). unwrap_or o (next_state k)) (next-is k)
      ∙ ap (unwrap_or (if is_some (changes_in old k) then Some (state k) else changes_in old k)) (next_state-is k) ∙ given (changes_in old k) (state k)) i

  pub exchanged-keys : (k : Key) → is_some (next k) ≡ is_some (changes_in old k)
  exchanged-keys k = ap is_some (next-is k) ∙ same (changes_in old k) (state k)
