-- What both passes of a move compare: no more than twice the lines of the chunks that the move touches.
use Rattle.std.proofs.Common.{arith, ◌≡◌, ℕ, ◌+◌, ◌*◌, ◌<◌, ◌≤◌, refl, sym, ap, subst, ◌∙◌, Bool, true, false, List, [], ◌∷◌, length, get_or, take, drop, None, Some}
use Rattle.std.specs.Prelude.{not, ◌&&◌, nat_eq, sum, if◌then◌else◌}
use Rattle.std.specs.List.{list_any}
use Rattle.std.specs.Cmp.Lexicographic.{pointwise}
use Rattle.std.proofs.lemmas.Bool.{and_parts, not-false}
use Rattle.std.proofs.lemmas.List.{length-drop, length-take, length-take-le, drop-drop, take-map, drop-map, get_or-take, get_or-drop, nil_from_length}
use Rattle.std.proofs.lemmas.List.Folds.{sum_by-replicate}
use Rattle.cps_state.specs.Course.{Trace}
use Rattle.cps_state.specs.Keys.{State, first_state}
use Rattle.cps_pass.specs.Expansion.{trace_of}
use Rattle.cps_final.specs.Outcome.{Resolved}
use Rattle.cps_chunk.specs.Division.{IsDivision}
use Rattle.cps_chunk.specs.Exchange.{exchanged_at}
use Rattle.cps_chunk.proofs.ExchangeLemmas.{exchanged-divides}
use Rattle.cps_edit.specs.declared.exchange.Exchange.{Exchange}
use Rattle.cps_edit.specs.Exchange.{IsWithin, exchanged}
use Rattle.cps_edit.specs.Numbers.{numbers, picked, exchanged_numbers}
use Rattle.cps_edit.proofs.ListLemmas.{exchanged-long}
use Rattle.cps_edit.proofs.NumberLemmas.{exchanged-picks}
use Rattle.cps_final.specs.NamedFinals.{statements_of, names_in}
use Rattle.cps_final.proofs.NamesLemmas.{names-law}
use Rattle.cps_final.specs.Agreeing.{same_at, same_named}
use Rattle.cps_final.specs.Holds.{holds}
use Rattle.cps_final.specs.Run.{run_of}
use Rattle.cps_edit.specs.Disturbed.{kept, disturbed_from, finals_in}
use Rattle.cps_edit.specs.Passes.{state_after, traces_from, traces_of}
use Rattle.cps_chunk.specs.declared.sparse.SparseItem.{SparseItem}
use Rattle.cps_chunk.specs.Code.Redo.{is_passed}
use Rattle.cps_chunk.specs.Code.Moved.{fronts, fronts_moved, replayed_moved}
use Rattle.cps_chunk.proofs.FrontsLemmas.{fronts-moved}
use Rattle.cps_edit.proofs.SpliceLemmas.{length-traces_from, take-traces_from, drop-traces_from}
use Rattle.cps_chunk.proofs.ReplayedLemmas.{replayed-none}
use Rattle.cps_chunk.proofs.RunLemmas.{run-law}
use Rattle.cps_chunk.specs.Code.Looks.{looks_again}
use Rattle.cps_chunk.specs.Code.MoveLooks.{is_cut_by, looks_moved, stands_moved, MoveLooksLaw}
use Rattle.cps_chunk.specs.Touched.{cut, is_touched, touched_from, did_as_chunks}
use Rattle.cps_chunk.proofs.CutLemmas.{sum-cons, sum-parts, AreShort, chunks-short}
use Rattle.cps_chunk.proofs.SeamLemmas.{AreSeamless, seamless-take, seamless-drop, seamless-uncut, exchanged-seamless}
use Rattle.cps_chunk.proofs.WeightLemmas.{weights, length-weights, small-weights, small-picked, sum-weights, sum-exchanged, are-of-chunk}
use Rattle.cps_chunk.proofs.FrontLemmas.{take-fronts, drop-fronts, first-front, anew, anew-fronts, anew-before, anew-from, length-fronts_moved, anew-moved}

-- ---- how often the lines of a chunk are compared

both-weigh : (a b : Bool) (n : ℕ) → (if a then 0 else n) + (if b then 0 else n) ≡ n * ((if a then 0 else 1) + (if b then 0 else 1))
both-weigh true true n = omega arith
both-weigh true false n = omega arith
both-weigh false true n = omega arith
both-weigh false false n = omega arith

at-most-two : (a b : Bool) → (if a then 0 else 1) + (if b then 0 else 1) ≤ 2
at-most-two true true = omega arith
at-most-two true false = omega arith
at-most-two false true = omega arith
at-most-two false false = omega arith

first-and-rest : (a b c d here left next weigh rest all : ℕ) → b ≡ left → c ≡ here → d ≡ next → a + here ≡ weigh → left + next ≡ rest → all ≡ weigh + rest → (a + b) + (c + d) ≡ all
first-and-rest a b c d here left next weigh rest all p q r s t u = omega arith

parts-touched : (all one left y z : ℕ) → one + left ≡ all → one ≤ 128 * y → left ≤ 128 * z → all ≤ 128 * (y + z)
parts-touched all one left y z is p q = omega arith

looks-touched : (a b was now y : ℕ) → a + b ≡ was → now ≡ was → now ≤ 128 * y → a + b ≤ 128 * y
looks-touched a b was now y p q r = omega arith

-- what a line did, for places at which there is none
abbrev nothing : Trace
nothing = trace_of [] first_state

module _ (was now : Resolved) (lines : List (List ℕ)) (e : Exchange) (within : IsWithin (length lines) e) where
  abbrev did : List Trace
  did = traces_of lines

  abbrev stand : List State
  stand = fronts_moved lines e

  as_many : length did ≡ length lines
  as_many = length-traces_from first_state lines

  states : length stand ≡ length lines
  states = length-fronts_moved lines e within

  -- of a chunk that begins at a place and has so many lines: pass one compares none of them
  abbrev holds_at : ℕ → ℕ → Bool
  holds_at at n = not (is_cut_by e at n) && holds (run_of (take n (drop at did))).asks (stands_moved lines e at)

  -- nor does pass two
  abbrev passes_at : ℕ → ℕ → Bool
  passes_at at n = is_passed was now (names_in (take n (drop at did))) (anew (take n (drop at stand)) at (take n (drop at lines)) (take n (drop at did)))

  -- in how many passes each of them is compared
  abbrev weight : ℕ → ℕ → ℕ
  weight at n = (if holds_at at n then 0 else 1) + (if passes_at at n then 0 else 1)

  -- both passes together compare as many lines of chunks as these weigh
  looks-weigh : (ns : List ℕ) (at : ℕ) → at + sum ns ≤ length lines
      → looks_moved e ns at (stands_moved lines e) (drop at did) + looks_again was now ns at (anew (drop at stand) at (drop at lines) (drop at did)) (drop at did)
      ≡ sum (weights weight ns at)
  looks-weigh [] at le = omega arith
  looks-weigh (n ∷ ns) at le =
      let all = sum-cons n ns in
      let long = length-drop at lines in
      let of_states : length (drop at stand) ≡ length (drop at lines) = omega (arith, long, length-drop at stand, states) in
      let of_did : length (drop at did) ≡ length (drop at lines) = omega (arith, long, length-drop at did, as_many) in
      let fits : n ≤ length (drop at lines) = omega (arith, long, all, le) in
      let before = anew-before (drop at stand) at n (drop at lines) (drop at did) of_states of_did fits in
      let from = anew-from (drop at stand) at n (drop at lines) (drop at did) of_states of_did fits in
      let behind = drop-drop n at did in
      first-and-rest _ _ _ _ _ _ _ _ _ _
      (ap (λ (ts : List Trace). looks_moved e ns (at + n) (stands_moved lines e) ts) behind)
      (ap (λ (news : List (SparseItem Trace)). if is_passed was now (names_in (take n (drop at did))) news then 0 else n) before)
      ((λ i. looks_again was now ns (at + n) (from i) (drop n (drop at did)))
      ∙ (λ i. looks_again was now ns (at + n) (anew (drop-drop n at stand i) (at + n) (drop-drop n at lines i) (behind i)) (behind i)))
      (both-weigh (holds_at at n) (passes_at at n) n)
      (looks-weigh ns (at + n) (omega (arith, all, le)))
      (sum-weights weight n ns at)

  -- They weigh nothing where the move doesn't cut the chunk, its lines stand one behind the other in a state that answers what they ask as before,
  -- and what they name has the final values that it had.
  weightless : (f : State) (at n : ℕ) → 1 ≤ n → at + n ≤ length lines → is_cut_by e at n ≡ false → take n (drop at stand) ≡ fronts f (take n (drop at lines))
      → holds (run_of (take n (drop at did))).asks f ≡ true → same_named was now (statements_of (take n (drop at did))) ≡ true → weight at n ≡ 0
  weightless f at n some fits uncut stands held same = λ i. (if holding i then 0 else 1) + (if passing i then 0 else 1)
    where
      ls : List (List ℕ)
      ls = take n (drop at lines)

      os : List Trace
      os = take n (drop at did)

      g : State
      g = state_after first_state (take at lines)

      done : os ≡ traces_from g ls
      done = ap (take n) (drop-traces_from at first_state lines) ∙ take-traces_from n g (drop at lines)

      long : length ls ≡ n
      long = length-take-le n (drop at lines) (omega (arith, fits, length-drop at lines))

      here : stands_moved lines e at ≡ f
      here =
          let end : at ≡ at + 0 = omega arith in
          ap (λ k. get_or stand k first_state) end ∙ sym (get_or-drop at stand 0 first_state) ∙ sym (get_or-take n (drop at stand) 0 first_state some)
          ∙ ap (λ (ss : List State). get_or ss 0 first_state) stands ∙ first-front f ls (omega (arith, long, some))

      holding : holds_at at n ≡ true
      holding = (λ i. not (uncut i) && holds (run_of os).asks (here i)) ∙ held

      undisturbed : disturbed_from f (kept ls os) ≡ 0
      undisturbed =
          let law = run-law g f ls (ap (λ (ts : List Trace). holds (run_of ts).asks f) (sym done) ∙ held) in
          ap (λ ts. disturbed_from f (kept ls ts)) done ∙ law.undisturbed

      passing : passes_at at n ≡ true
      passing =
          ap (is_passed was now (names_in os)) (ap (λ (ss : List State). anew ss at ls os) stands ∙ anew-fronts f at ls os ∙ replayed-none f at ls os undisturbed)
          ∙ names-law (same_at was now) os ∙ same

  module _ (olds : List ℕ) (division : IsDivision (length lines) olds) where
    abbrev all_weights : List ℕ
    all_weights = weights weight olds 0

    -- lines in their new order, the first of them in this state, and what they did and weigh, all by the numbers that they had
    record AreFrom (f : State) (ms : List ℕ) (ls : List (List ℕ)) (os : List Trace) (ws : List ℕ) : Type 0 where
      were : ls ≡ picked lines [] ms
      done : os ≡ picked did nothing ms
      stands : fronts f ls ≡ picked stand first_state ms
      weigh : ws ≡ picked all_weights 0 ms
      seamless : AreSeamless e ms

    are-behind : (n : ℕ) (f : State) (ms : List ℕ) (ls : List (List ℕ)) (os : List Trace) (ws : List ℕ) → AreFrom f ms ls os ws
        → AreFrom (state_after f (take n ls)) (drop n ms) (drop n ls) (drop n os) (drop n ws)
    are-behind n f ms ls os ws are = record {
      were = ap (drop n) are.were ∙ drop-map (λ k. get_or lines k []) n ms;
      done = ap (drop n) are.done ∙ drop-map (λ k. get_or did k nothing) n ms;
      stands = sym (drop-fronts n f ls) ∙ ap (drop n) are.stands ∙ drop-map (λ k. get_or stand k first_state) n ms;
      weigh = ap (drop n) are.weigh ∙ drop-map (λ k. get_or all_weights k 0) n ms;
      seamless = seamless-drop e n ms are.seamless;
    }

    abbrev is_old : List ℕ → Bool
    is_old ms = list_any (pointwise nat_eq ms) (cut olds (numbers 0 (length lines)))

    -- of one chunk of the new division: its lines weigh no more than what is allowed for it
    piece-touched : (n : ℕ) (f : State) (ms : List ℕ) (ls : List (List ℕ)) (os : List Trace) (ws : List ℕ) → AreFrom f ms ls os ws → n ≤ 64
        → sum (take n ws) ≤ 128 * (if is_touched was now f (if is_old (take n ms) then Some (take n os) else None) then 1 else 0)
    piece-touched n f ms ls os ws are le = by_old (is_old (take n ms)) refl
      where
        its : take n ws ≡ picked all_weights 0 (take n ms)
        its = ap (take n) are.weigh ∙ take-map (λ k. get_or all_weights k 0) n ms

        few : sum (take n ws) ≤ 128
        few =
            omega (
              arith,
              ap sum its,
              small-picked all_weights (take n ms) (small-weights weight (λ at k. at-most-two (holds_at at k) (passes_at at k)) olds 0),
              length-take n ms,
              le,
            )

        nothing-weighs : is_old (take n ms) ≡ true → is_touched was now f (Some (take n os)) ≡ false → sum (take n ws) ≡ 0
        nothing-weighs old untouched =
            let told : list_any (pointwise nat_eq (take n ms)) (cut olds (numbers 0 (sum olds))) ≡ true =
            ap (λ k. list_any (pointwise nat_eq (take n ms)) (cut olds (numbers 0 k))) division.total ∙ old in
            let of = are-of-chunk weight olds (take n ms) division.chunks told in
            let at = of.at in
            let k = of.n in
            let fits : at + k ≤ length lines = omega (arith, of.within, division.total) in
            let did-fits : at + k ≤ length did = omega (arith, fits, as_many) in
            let states-fit : at + k ≤ length stand = omega (arith, fits, states) in
            let run : take n ls ≡ take k (drop at lines) =
            ap (take n) are.were ∙ take-map (λ j. get_or lines j []) n ms ∙ ap (picked lines []) of.same ∙ (exchanged-picks lines []).1 at k fits in
            let its-did : take n os ≡ take k (drop at did) =
            ap (take n) are.done ∙ take-map (λ j. get_or did j nothing) n ms ∙ ap (picked did nothing) of.same ∙ (exchanged-picks did nothing).1 at k did-fits in
            let stands : take k (drop at stand) ≡ fronts f (take k (drop at lines)) =
            sym (ap (take n) are.stands ∙ take-map (λ j. get_or stand j first_state) n ms ∙ ap (picked stand first_state) of.same
            ∙ (exchanged-picks stand first_state).1 at k states-fit)
            ∙ take-fronts n f ls ∙ ap (fronts f) run in
            let uncut : is_cut_by e at k ≡ false = seamless-uncut e at k (subst (λ (js : List ℕ). AreSeamless e js) of.same (seamless-take e n ms are.seamless)) in
            let both = and_parts (holds (run_of (take n os)).asks f) (same_named was now (statements_of (take n os)))
            (not-false (holds (run_of (take n os)).asks f && same_named was now (statements_of (take n os))) untouched) in
            let held : holds (run_of (take k (drop at did))).asks f ≡ true = ap (λ (ts : List Trace). holds (run_of ts).asks f) (sym its-did) ∙ both.0 in
            let same : same_named was now (statements_of (take k (drop at did))) ≡ true = ap (λ (ts : List Trace). same_named was now (statements_of ts)) (sym its-did) ∙ both.1 in
            let none : weight at k ≡ 0 = weightless f at k of.some fits uncut stands held same in
            ap sum (its ∙ of.weighs) ∙ sum_by-replicate (λ (j : ℕ). j) k (weight at k) ∙ ap (λ j. k * j) none ∙ omega arith

        by_touch : is_old (take n ms) ≡ true → (b : Bool) → is_touched was now f (Some (take n os)) ≡ b → sum (take n ws) ≤ 128 * (if b then 1 else 0)
        by_touch old true is = few
        by_touch old false is = omega (arith, nothing-weighs old is)

        by_old : (b : Bool) → is_old (take n ms) ≡ b → sum (take n ws) ≤ 128 * (if is_touched was now f (if b then Some (take n os) else None) then 1 else 0)
        by_old false is = few
        by_old true is = by_touch is (is_touched was now f (Some (take n os))) refl

    -- and of all of them
    pieces-touched : (ns : List ℕ) (f : State) (ms : List ℕ) (ls : List (List ℕ)) (os : List Trace) (ws : List ℕ) → AreFrom f ms ls os ws → AreShort ns → length ws ≤ sum ns
        → sum ws ≤ 128 * touched_from was now f (cut ns ls) (did_as_chunks (cut olds (numbers 0 (length lines))) (cut ns ms) (cut ns os))
    pieces-touched [] f ms ls os ws are short fits =
        let none : ws ≡ [] = nil_from_length ws (omega (arith, fits)) in
        omega (arith, ap sum none)
    pieces-touched (n ∷ ns) f ms ls os ws are short fits =
        parts-touched _ _ _ _ _ (sum-parts n ws) (piece-touched n f ms ls os ws are short.0)
        (pieces-touched ns (state_after f (take n ls)) (drop n ms) (drop n ls) (drop n os) (drop n ws) (are-behind n f ms ls os ws are) short.1
        (omega (arith, fits, sum-cons n ns, length-drop n ws)))

    weights-long : length all_weights ≡ length lines
    weights-long = length-weights weight olds 0 ∙ division.total

    -- all lines
    are-all : e.keep < e.mid → e.mid < e.from → AreFrom first_state (exchanged_numbers (length lines) e) (exchanged e lines) (exchanged e did) (exchanged e all_weights)
    are-all first second = record {
      were = (exchanged-picks lines []).0 e within;
      done =
          (exchanged-picks did nothing).0 e (subst (λ (n : ℕ). IsWithin n e) (sym as_many) within)
          ∙ ap (λ n. picked did nothing (exchanged_numbers n e)) as_many;
      stands =
          sym (fronts-moved lines e within) ∙ (exchanged-picks stand first_state).0 e (subst (λ (n : ℕ). IsWithin n e) (sym states) within)
          ∙ ap (λ n. picked stand first_state (exchanged_numbers n e)) states;
      weigh =
          (exchanged-picks all_weights 0).0 e (subst (λ (n : ℕ). IsWithin n e) (sym weights-long) within)
          ∙ ap (λ n. picked all_weights 0 (exchanged_numbers n e)) weights-long;
      seamless = exchanged-seamless e (length lines) first second within.all;
    }

    all-touched : e.keep < e.mid → e.mid < e.from → (news : List ℕ) → IsDivision (length lines) news
        → sum (exchanged e all_weights)
        ≤ 128 * touched_from was now first_state (cut news (exchanged e lines))
        (did_as_chunks (cut olds (numbers 0 (length lines))) (cut news (exchanged_numbers (length lines) e)) (cut news (exchanged e did)))
    all-touched first second news made =
        let there : IsWithin (length all_weights) e = subst (λ (n : ℕ). IsWithin n e) (sym weights-long) within in
        pieces-touched news first_state (exchanged_numbers (length lines) e) (exchanged e lines) (exchanged e did) (exchanged e all_weights) (are-all first second)
        (chunks-short news made.chunks) (omega (arith, exchanged-long all_weights e there, weights-long, made.total))

    all-weigh : looks_moved e olds 0 (stands_moved lines e) did + looks_again was now olds 0 (replayed_moved lines e) did ≡ sum all_weights
    all-weigh =
        ap (λ (news : List (SparseItem Trace)). looks_moved e olds 0 (stands_moved lines e) did + looks_again was now olds 0 news did) (sym (anew-moved lines e within))
        ∙ looks-weigh olds 0 (omega (arith, division.total))

    same-sum : sum (exchanged e all_weights) ≡ sum all_weights
    same-sum = sum-exchanged all_weights e (subst (λ (n : ℕ). IsWithin n e) (sym weights-long) within)

pub move-looks-law : MoveLooksLaw
move-looks-law lines e olds division first second all =
    let was = finals_in lines in
    let now = finals_in (exchanged e lines) in
    let within : IsWithin (length lines) e = record { first = omega arith; second = omega arith; all = all } in
    let made : IsDivision (length lines) (exchanged_at e olds) =
    exchanged-divides e.keep e.mid e.from (length lines) olds division within.first within.second all in
    looks-touched _ _ _ _ _ (all-weigh was now lines e within olds division) (same-sum was now lines e within olds division)
    (all-touched was now lines e within olds division first second (exchanged_at e olds) made)
