-- What a move of lines makes anew: its places, the whole of it, and its counts.
use Rattle.std.proofs.Common.{◌≡◌, refl, sym, ap, subst, ◌∙◌, ℕ, ◌+◌, ◌≤◌, List, [], ◌++◌, length, take, drop, arith}
use Rattle.std.proofs.lemmas.List.{length-take, length-take-le, length-drop}
use Rattle.cps_state.specs.Keys.{first_state}
use Rattle.cps_state.specs.Course.{Trace}
use Rattle.cps_final.specs.Outcome.{Resolved, Outcome, outcome_of}
use Rattle.cps_edit.specs.declared.exchange.Exchange.{Exchange}
use Rattle.cps_edit.specs.Exchange.{IsWithin, exchanged}
use Rattle.cps_edit.proofs.ListLemmas.{whole}
use Rattle.cps_edit.specs.Passes.{state_after, traces_from, traces_of, outcomes_by}
use Rattle.cps_edit.specs.Disturbed.{kept, all_kept, disturbed_from, redone_places, finals_in, ones_of_exchange, twos_of_exchange}
use Rattle.cps_edit.specs.Renewed.{AllWereMeant}
use Rattle.cps_edit.proofs.SpliceLemmas.{length-traces_from, take-traces_from, traces_from-append, state_after-append, none-disturbed, AllWereMeant-traces_from, AllWereMeant-drop}
use Rattle.cps_chunk.specs.declared.sparse.SparseItem.{SparseItem}
use Rattle.cps_chunk.specs.Sparse.{item_at, renewed, AreWithin, AgreeFor}
use Rattle.cps_chunk.specs.Replayed.{replayed, redone}
use Rattle.cps_chunk.specs.Code.Walk.{stretch}
use Rattle.cps_chunk.specs.Code.Moved.{state_before, state_between, state_past, first_replayed, second_replayed, behind_replayed, replayed_moved}
use Rattle.cps_chunk.proofs.SparseLemmas.{AreWithin-append, AgreeFor-drop_front, AgreeFor-behind_none}
use Rattle.cps_chunk.proofs.ReplayedLemmas.{replayed-within, renewed-replayed, length-replayed, replayed-still, redone-within, renewed-redone, count-redone, count-redone_among}
use Rattle.cps_chunk.proofs.WalkLemmas.{stretch-long, stretch-did}
use Rattle.cps_chunk.proofs.ExchangedLemmas.{map-exchanged, exchanged-renewed, kept-exchanged, disturbed_from-append, redone_places-append, length-three, turned-three, turned-four, length-redone_parts}

module _ (lines : List (List ℕ)) (e : Exchange) where
  pub state-moved : state_after (state_past lines e) (drop e.from lines) ≡ state_after first_state (exchanged e lines)
  state-moved =
      let front = take e.keep lines in
      let first = stretch e.keep e.mid lines in
      let second = stretch e.mid e.from lines in
      let last = drop e.from lines in
      sym (state_after-append first_state front (second ++ (first ++ last)) ∙ state_after-append (state_before lines e) second (first ++ last)
      ∙ state_after-append (state_between lines e) first last)

  traces-parts : traces_of (exchanged e lines)
      ≡ traces_from first_state (take e.keep lines)
      ++ (traces_from (state_before lines e) (stretch e.mid e.from lines)
      ++ (traces_from (state_between lines e) (stretch e.keep e.mid lines) ++ traces_from (state_past lines e) (drop e.from lines)))
  traces-parts =
      let front = take e.keep lines in
      let first = stretch e.keep e.mid lines in
      let second = stretch e.mid e.from lines in
      let last = drop e.from lines in
      traces_from-append first_state front (second ++ (first ++ last))
      ∙ ap (λ ts. traces_from first_state front ++ ts) (traces_from-append (state_before lines e) second (first ++ last)
      ∙ ap (λ ts. traces_from (state_before lines e) second ++ ts) (traces_from-append (state_between lines e) first last))

module _ (lines : List (List ℕ)) (e : Exchange) (within : IsWithin (length lines) e) where
  long : length (traces_of lines) ≡ length lines
  long = length-traces_from first_state lines

  mid-within : e.mid ≤ length lines
  mid-within = omega (arith, within.second, within.all)

  front-long : {X : Type 0} (xs : List X) → length xs ≡ length lines → length (take e.keep xs) ≡ e.keep
  front-long xs same = length-take-le e.keep xs (omega (arith, same, within.first, mid-within))

  part-long : {X : Type 0} (a b : ℕ) (xs : List X) → a ≤ b → b ≤ length lines → length xs ≡ length lines → a + length (stretch a b xs) ≡ b
  part-long a b xs le most same = omega (arith, le, stretch-long a b le xs (omega (arith, most, same)))

  meant-part : (a b : ℕ) → a ≤ b → AllWereMeant (stretch a b lines) (stretch a b (traces_of lines))
  meant-part a b le =
      subst (λ (ts : List Trace). AllWereMeant (stretch a b lines) ts) (sym (stretch-did lines (traces_of lines) refl a b le))
      (AllWereMeant-traces_from (state_after first_state (take a lines)) (stretch a b lines))

  as-many : (a b : ℕ) → a ≤ b → length (stretch a b lines) ≡ length (stretch a b (traces_of lines))
  as-many a b le =
      sym (ap length (stretch-did lines (traces_of lines) refl a b le) ∙ length-traces_from (state_after first_state (take a lines)) (stretch a b lines))

  as-many_front : length (take e.keep lines) ≡ length (take e.keep (traces_of lines))
  as-many_front = sym (ap length (take-traces_from e.keep first_state lines) ∙ length-traces_from first_state (take e.keep lines))

  as-many_last : length (drop e.from lines) ≡ length (drop e.from (traces_of lines))
  as-many_last = omega (arith, long, length-drop e.from lines, length-drop e.from (traces_of lines))

  -- they stand among the lines of their stretch
  pub first-within : AreWithin e.keep e.mid (first_replayed lines e)
  first-within =
      let all = first_replayed lines e in
      let end = part-long e.keep e.mid lines within.first mid-within refl in
      subst (λ (k : ℕ). AreWithin e.keep k all) end (replayed-within (state_between lines e) e.keep (stretch e.keep e.mid lines) (stretch e.keep e.mid (traces_of lines)))

  pub second-within : AreWithin e.mid e.from (second_replayed lines e)
  second-within =
      let all = second_replayed lines e in
      let end = part-long e.mid e.from lines within.second within.all refl in
      subst (λ (k : ℕ). AreWithin e.mid k all) end (replayed-within (state_before lines e) e.mid (stretch e.mid e.from lines) (stretch e.mid e.from (traces_of lines)))

  pub last-within : AreWithin e.from (length lines) (behind_replayed lines e)
  last-within =
      let all = behind_replayed lines e in
      let end : e.from + length (drop e.from lines) ≡ length lines = omega (arith, within.all, length-drop e.from lines) in
      subst (λ (k : ℕ). AreWithin e.from k all) end (replayed-within (state_past lines e) e.from (drop e.from lines) (drop e.from (traces_of lines)))

  pub both-within : AreWithin e.mid (length lines) (second_replayed lines e ++ behind_replayed lines e)
  both-within = AreWithin-append e.mid e.from (length lines) (second_replayed lines e) (behind_replayed lines e) second-within last-within

  pub replayed_moved-within : AreWithin e.keep (length lines) (replayed_moved lines e)
  replayed_moved-within = AreWithin-append e.keep e.mid (length lines) (first_replayed lines e) (second_replayed lines e ++ behind_replayed lines e) first-within both-within

  -- put at their places first
  pub traces-moved : exchanged e (renewed 0 (replayed_moved lines e) (traces_of lines)) ≡ traces_of (exchanged e lines)
  traces-moved =
      let ts = traces_of lines in
      let front = take-traces_from e.keep first_state lines in
      let second = renewed-replayed (state_before lines e) e.mid (stretch e.mid e.from lines) (stretch e.mid e.from ts) (meant-part e.mid e.from within.second) in
      let first = renewed-replayed (state_between lines e) e.keep (stretch e.keep e.mid lines) (stretch e.keep e.mid ts) (meant-part e.keep e.mid within.first) in
      let last = renewed-replayed (state_past lines e) e.from (drop e.from lines) (drop e.from ts) (AllWereMeant-drop e.from first_state lines) in
      exchanged-renewed e ts (length lines) long within (first_replayed lines e) (second_replayed lines e) (behind_replayed lines e) first-within second-within last-within
      ∙ (λ i. front i ++ (second i ++ (first i ++ last i)))
      ∙ sym (traces-parts lines e)

  -- as many are made anew as lines are disturbed
  pub ones-moved : ones_of_exchange lines e ≡ length (replayed_moved lines e)
  ones-moved =
      let ts = traces_of lines in
      let second = kept (stretch e.mid e.from lines) (stretch e.mid e.from ts) in
      let first = kept (stretch e.keep e.mid lines) (stretch e.keep e.mid ts) in
      let last = kept (drop e.from lines) (drop e.from ts) in
      let still = ap (λ us. disturbed_from first_state (kept (take e.keep lines) us)) (take-traces_from e.keep first_state lines) ∙ none-disturbed first_state (take e.keep lines) in
      let twos = length-replayed (state_before lines e) e.mid (stretch e.mid e.from lines) (stretch e.mid e.from ts) in
      let ones = length-replayed (state_between lines e) e.keep (stretch e.keep e.mid lines) (stretch e.keep e.mid ts) in
      let lasts = length-replayed (state_past lines e) e.from (drop e.from lines) (drop e.from ts) in
      ap (disturbed_from first_state) (kept-exchanged e lines ts)
      ∙ disturbed_from-append first_state (take e.keep lines) (take e.keep ts) (second ++ (first ++ last)) as-many_front
      ∙ (λ i. still i + disturbed_from-append (state_before lines e) (stretch e.mid e.from lines) (stretch e.mid e.from ts) (first ++ last) (as-many e.mid e.from within.second) i)
      ∙ (λ i. 0 + (sym twos i + disturbed_from-append (state_between lines e) (stretch e.keep e.mid lines) (stretch e.keep e.mid ts) last (as-many e.keep e.mid within.first) i))
      ∙ (λ i. 0 + (length (second_replayed lines e) + (sym ones i + sym lasts i)))
      ∙ turned-three (length (first_replayed lines e)) (length (second_replayed lines e)) (length (behind_replayed lines e))
      ∙ sym (length-three (first_replayed lines e) (second_replayed lines e) (behind_replayed lines e))

  -- ---- pass two

  module _ (was now : Resolved) where
    abbrev made : ℕ → List Trace → ℕ
    made i olds = length (redone was now i (replayed_moved lines e) olds)

    -- in front of both runs no line is disturbed in pass one
    count-front : made 0 (take e.keep (traces_of lines)) ≡ redone_places was now first_state (kept (take e.keep lines) (take e.keep (traces_of lines)))
    count-front =
        let olds = take e.keep (traces_of lines) in
        let few : 0 + length olds ≤ e.keep = omega (arith, length-take e.keep (traces_of lines)) in
        let still : replayed first_state 0 (take e.keep lines) olds ≡ [] =
        ap (replayed first_state 0 (take e.keep lines)) (take-traces_from e.keep first_state lines) ∙ replayed-still first_state 0 (take e.keep lines) in
        let agree : AgreeFor 0 (length olds) (replayed_moved lines e) (replayed first_state 0 (take e.keep lines) olds) = λ k low high.
        AgreeFor-behind_none e.keep (length lines) 0 (length olds) (replayed_moved lines e) replayed_moved-within few k low high
        ∙ ap (λ (us : List (SparseItem Trace)). item_at us k) (sym still) in
        count-redone was now first_state 0 (replayed_moved lines e) (take e.keep lines) olds as-many_front agree

    count-first : made e.keep (stretch e.keep e.mid (traces_of lines))
        ≡ redone_places was now (state_between lines e) (kept (stretch e.keep e.mid lines) (stretch e.keep e.mid (traces_of lines)))
    count-first =
        let end = part-long e.keep e.mid (traces_of lines) within.first mid-within long in
        count-redone_among was now 0 0 e.mid (length lines) e.keep (state_between lines e) [] (second_replayed lines e ++ behind_replayed lines e) (stretch e.keep e.mid lines)
        (stretch e.keep e.mid (traces_of lines)) (as-many e.keep e.mid within.first) (omega arith) (omega arith) both-within (omega (arith, end))

    count-second : made e.mid (stretch e.mid e.from (traces_of lines))
        ≡ redone_places was now (state_before lines e) (kept (stretch e.mid e.from lines) (stretch e.mid e.from (traces_of lines)))
    count-second =
        let end = part-long e.mid e.from (traces_of lines) within.second within.all long in
        count-redone_among was now e.keep e.mid e.from (length lines) e.mid (state_before lines e) (first_replayed lines e) (behind_replayed lines e) (stretch e.mid e.from lines)
        (stretch e.mid e.from (traces_of lines)) (as-many e.mid e.from within.second) first-within (omega arith) last-within (omega (arith, end))

    count-last : made e.from (drop e.from (traces_of lines)) ≡ redone_places was now (state_past lines e) (kept (drop e.from lines) (drop e.from (traces_of lines)))
    count-last =
        let n : ℕ = length (drop e.from (traces_of lines)) in
        let agree : AgreeFor e.from n (replayed_moved lines e) (behind_replayed lines e) = λ k low high.
        AgreeFor-drop_front e.keep e.mid e.from n (first_replayed lines e) (second_replayed lines e ++ behind_replayed lines e) first-within within.second k low high
        ∙ AgreeFor-drop_front e.mid e.from e.from n (second_replayed lines e) (behind_replayed lines e) second-within (omega arith) k low high in
        count-redone was now (state_past lines e) e.from (replayed_moved lines e) (drop e.from lines) (drop e.from (traces_of lines)) as-many_last agree

    count-moved : redone_places was now first_state (exchanged e (all_kept lines)) ≡ made 0 (traces_of lines)
    count-moved =
        let ts = traces_of lines in
        let front = take e.keep ts in
        let first = stretch e.keep e.mid ts in
        let second = stretch e.mid e.from ts in
        let last = drop e.from ts in
        let firsts = kept (stretch e.keep e.mid lines) first in
        let seconds = kept (stretch e.mid e.from lines) second in
        let lasts = kept (drop e.from lines) last in
        ap (redone_places was now first_state) (kept-exchanged e lines ts)
        ∙ redone_places-append was now first_state (take e.keep lines) front (seconds ++ (firsts ++ lasts)) as-many_front
        ∙ (λ i. sym count-front i + redone_places-append was now (state_before lines e) (stretch e.mid e.from lines) second (firsts ++ lasts) (as-many e.mid e.from within.second) i)
        ∙ (λ i. made 0 front
        + (sym count-second i + redone_places-append was now (state_between lines e) (stretch e.keep e.mid lines) first lasts (as-many e.keep e.mid within.first) i))
        ∙ (λ i. made 0 front + (made e.mid second + (sym count-first i + sym count-last i)))
        ∙ turned-four (made 0 front) (made e.keep first) (made e.mid second) (made e.from last)
        ∙ sym (length-redone_parts was now (replayed_moved lines e) front first second last e.keep e.mid e.from (front-long ts long)
        (part-long e.keep e.mid ts within.first mid-within long) (part-long e.mid e.from ts within.second within.all long))
        ∙ ap (made 0) (whole ts e.keep e.mid e.from within.first within.second (omega (arith, within.all, long)))

    pub twos-moved : was ≡ finals_in lines → now ≡ finals_in (exchanged e lines)
        → twos_of_exchange lines e ≡ length (redone was now 0 (replayed_moved lines e) (traces_of lines))
    twos-moved before behind =
        ap (λ (r : Resolved). redone_places r (finals_in (exchanged e lines)) first_state (exchanged e (all_kept lines))) (sym before)
        ∙ ap (λ (r : Resolved). redone_places was r first_state (exchanged e (all_kept lines))) (sym behind)
        ∙ count-moved

    pub outcomes-moved : (outcomes : List Outcome) → outcomes ≡ outcomes_by was (traces_of lines)
        → exchanged e (renewed 0 (redone was now 0 (replayed_moved lines e) (traces_of lines)) outcomes) ≡ outcomes_by now (traces_of (exchanged e lines))
    outcomes-moved outcomes is =
        let news = replayed_moved lines e in
        let ts = traces_of lines in
        ap (λ (os : List Outcome). exchanged e (renewed 0 (redone was now 0 news ts) os)) is
        ∙ ap (exchanged e) (renewed-redone was now 0 news ts)
        ∙ sym (map-exchanged (outcome_of now) e (renewed 0 news ts))
        ∙ ap (outcomes_by now) traces-moved

    pub redone_moved-within : AreWithin 0 (length lines) (redone was now 0 (replayed_moved lines e) (traces_of lines))
    redone_moved-within =
        let made = redone was now 0 (replayed_moved lines e) (traces_of lines) in
        let end : 0 + length (traces_of lines) ≡ length lines = omega (arith, long) in
        subst (λ (k : ℕ). AreWithin 0 k made) end (redone-within was now 0 (replayed_moved lines e) (traces_of lines))
