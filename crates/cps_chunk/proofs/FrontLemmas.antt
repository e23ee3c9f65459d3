-- What stands in front of each line behind a move, and what the lines do anew in these states.
use Rattle.std.proofs.Common.{arith, ◌≡◌, ℕ, zero, suc, ◌+◌, ◌-◌, ◌≤◌, refl, sym, ap, subst, ◌∙◌, append_assoc, List, [], ◌∷◌, ◌++◌, length, get_or, take, drop, Some}
use Rattle.std.proofs.lemmas.List.{length-append, length-drop, length-take-le, take-append-drop}
use Rattle.cps_state.specs.Course.{Trace}
use Rattle.cps_state.specs.Keys.{State, first_state}
use Rattle.cps_pass.specs.Expansion.{trace_of}
use Rattle.cps_edit.specs.declared.exchange.Exchange.{Exchange}
use Rattle.cps_edit.specs.Exchange.{IsWithin}
use Rattle.cps_edit.proofs.ListLemmas.{whole, between-long}
use Rattle.cps_edit.specs.Passes.{after, state_after, traces_of}
use Rattle.cps_edit.specs.Disturbed.{is_disturbed}
use Rattle.cps_chunk.specs.declared.sparse.SparseItem.{SparseItem}
use Rattle.cps_chunk.specs.Sparse.{one_if, AreWithin}
use Rattle.cps_chunk.specs.Replayed.{replayed}
use Rattle.cps_chunk.specs.Code.Walk.{stretch}
use Rattle.cps_chunk.specs.Code.Moved.{fronts, state_before, state_between, state_past, fronts_moved, replayed_moved}
use Rattle.cps_chunk.proofs.SparseLemmas.{AreWithin-one, AreWithin-wider}
use Rattle.cps_edit.proofs.SpliceLemmas.{length-traces_from, take-traces_from}
use Rattle.cps_chunk.proofs.ReplayedLemmas.{replayed-still}
use Rattle.cps_chunk.proofs.FrontsLemmas.{length-fronts}
use Rattle.cps_chunk.specs.Code.Looks.{items_before, items_from}
use Rattle.cps_chunk.proofs.ItemLemmas.{before-first, from-second}

-- ---- in front of lines that follow one another

pub take-fronts : (n : ℕ) (f : State) (ls : List (List ℕ)) → take n (fronts f ls) ≡ fronts f (take n ls)
take-fronts zero f ls = refl
take-fronts (suc n) f [] = refl
take-fronts (suc n) f (l ∷ ls) = ap (λ (ss : List State). f ∷ ss) (take-fronts n (after f l) ls)

pub drop-fronts : (n : ℕ) (f : State) (ls : List (List ℕ)) → drop n (fronts f ls) ≡ fronts (state_after f (take n ls)) (drop n ls)
drop-fronts zero f ls = refl
drop-fronts (suc n) f [] = refl
drop-fronts (suc n) f (l ∷ ls) = drop-fronts n (after f l) ls

pub first-front : (f : State) (ls : List (List ℕ)) → 1 ≤ length ls → get_or (fronts f ls) 0 first_state ≡ f
first-front f [] some = absurd (omega (arith, some))
first-front f (l ∷ ls) some = refl

-- ---- what lines do anew, each in its own state

abbrev pub anew : List State → ℕ → List (List ℕ) → List Trace → List (SparseItem Trace)
anew [] i lines traces = []
anew (state ∷ states) i [] traces = []
anew (state ∷ states) i (line ∷ lines) [] = []
anew (state ∷ states) i (line ∷ lines) (trace ∷ traces) = one_if (is_disturbed (Some trace) state) i (trace_of line state) ++ anew states (suc i) lines traces

-- where each state is the one behind the line before, that is what they do one after another
pub anew-fronts : (f : State) (i : ℕ) (ls : List (List ℕ)) (os : List Trace) → anew (fronts f ls) i ls os ≡ replayed f i ls os
anew-fronts f i [] os = refl
anew-fronts f i (l ∷ ls) [] = refl
anew-fronts f i (l ∷ ls) (o ∷ os) = ap (λ (news : List (SparseItem Trace)). one_if (is_disturbed (Some o) f) i (trace_of l f) ++ news) (anew-fronts (after f l) (suc i) ls os)

anew-append : (ss us : List State) (i : ℕ) (ls ms : List (List ℕ)) (os ps : List Trace) → length ss ≡ length ls → length os ≡ length ls
    → anew (ss ++ us) i (ls ++ ms) (os ++ ps) ≡ anew ss i ls os ++ anew us (i + length ls) ms ps
anew-append [] us i [] ms [] ps p q = let at : i ≡ i + 0 = omega arith in ap (λ k. anew us k ms ps) at
anew-append [] us i [] ms (o ∷ os) ps p q = absurd (omega (arith, q))
anew-append [] us i (l ∷ ls) ms os ps p q = absurd (omega (arith, p))
anew-append (s ∷ ss) us i [] ms os ps p q = absurd (omega (arith, p))
anew-append (s ∷ ss) us i (l ∷ ls) ms [] ps p q = absurd (omega (arith, q))
anew-append (s ∷ ss) us i (l ∷ ls) ms (o ∷ os) ps p q =
    let one : List (SparseItem Trace) = one_if (is_disturbed (Some o) s) i (trace_of l s) in
    let on : suc i + length ls ≡ i + suc (length ls) = omega arith in
    ap (λ (news : List (SparseItem Trace)). one ++ news)
    (anew-append ss us (suc i) ls ms os ps (omega (arith, p)) (omega (arith, q)) ∙ ap (λ k. anew ss (suc i) ls os ++ anew us k ms ps) on)
    ∙ sym (append_assoc one (anew ss (suc i) ls os) (anew us (i + suc (length ls)) ms ps))

anew-within : (ss : List State) (i : ℕ) (ls : List (List ℕ)) (os : List Trace) → AreWithin i (i + length ls) (anew ss i ls os)
anew-within [] i ls os = omega arith
anew-within (s ∷ ss) i [] os = omega arith
anew-within (s ∷ ss) i (l ∷ ls) [] = omega arith
anew-within (s ∷ ss) i (l ∷ ls) (o ∷ os) =
    let rest = anew ss (suc i) ls os in
    AreWithin-one (is_disturbed (Some o) s) i (i + suc (length ls)) (trace_of l s) rest (omega arith)
    (AreWithin-wider (suc i) (suc i + length ls) (suc i) (i + suc (length ls)) rest (omega arith) (omega arith) (anew-within ss (suc i) ls os))

-- of the first of them, and of the others
module _ (ss : List State) (at n : ℕ) (ls : List (List ℕ)) (os : List Trace) (states : length ss ≡ length ls) (did : length os ≡ length ls) (le : n ≤ length ls) where
  abbrev first : List (SparseItem Trace)
  first = anew (take n ss) at (take n ls) (take n os)

  abbrev others : List (SparseItem Trace)
  others = anew (drop n ss) (at + n) (drop n ls) (drop n os)

  count : length (take n ls) ≡ n
  count = length-take-le n ls le

  in-parts : anew ss at ls os ≡ first ++ others
  in-parts =
      (λ i. anew (sym (take-append-drop n ss) i) at (sym (take-append-drop n ls) i) (sym (take-append-drop n os) i))
      ∙ anew-append (take n ss) (drop n ss) at (take n ls) (drop n ls) (take n os) (drop n os)
      (length-take-le n ss (omega (arith, states, le)) ∙ sym count) (length-take-le n os (omega (arith, did, le)) ∙ sym count)
      ∙ ap (λ k. first ++ anew (drop n ss) (at + k) (drop n ls) (drop n os)) count

  first-within : AreWithin at (at + n) first
  first-within = subst (λ (k : ℕ). AreWithin at (at + k) first) count (anew-within (take n ss) at (take n ls) (take n os))

  others-within : AreWithin (at + n) (at + n + length (drop n ls)) others
  others-within = anew-within (drop n ss) (at + n) (drop n ls) (drop n os)

  pub anew-before : items_before (at + n) (anew ss at ls os) ≡ first
  anew-before = ap (items_before (at + n)) in-parts ∙ before-first (at + n) at (at + n + length (drop n ls)) first others first-within others-within

  pub anew-from : items_from (at + n) (anew ss at ls os) ≡ others
  anew-from = ap (items_from (at + n)) in-parts ∙ from-second (at + n) at (at + n + length (drop n ls)) first others first-within others-within

-- ---- behind a move

module _ (lines : List (List ℕ)) (e : Exchange) (within : IsWithin (length lines) e) where
  abbrev front : List (List ℕ)
  front = take e.keep lines

  abbrev one : List (List ℕ)
  one = stretch e.keep e.mid lines

  abbrev two : List (List ℕ)
  two = stretch e.mid e.from lines

  abbrev back : List (List ℕ)
  back = drop e.from lines

  abbrev before : List State
  before = fronts first_state front

  abbrev at_one : List State
  at_one = fronts (state_between lines e) one

  abbrev at_two : List State
  at_two = fronts (state_before lines e) two

  abbrev at_back : List State
  at_back = fronts (state_past lines e) back

  mid-within : e.mid ≤ length lines
  mid-within = omega (arith, within.second, within.all)

  long-front : length front ≡ e.keep
  long-front = length-take-le e.keep lines (omega (arith, within.first, mid-within))

  long-one : length one ≡ e.mid - e.keep
  long-one = between-long e.keep e.mid lines within.first mid-within

  long-two : length two ≡ e.from - e.mid
  long-two = between-long e.mid e.from lines within.second within.all

  long-back : length back ≡ length lines - e.from
  long-back = length-drop e.from lines

  pub length-fronts_moved : length (fronts_moved lines e) ≡ length lines
  length-fronts_moved =
      omega (
        arith,
        length-append before (at_one ++ (at_two ++ at_back)),
        length-append at_one (at_two ++ at_back),
        length-append at_two at_back,
        length-fronts first_state front,
        length-fronts (state_between lines e) one,
        length-fronts (state_before lines e) two,
        length-fronts (state_past lines e) back,
        long-front,
        long-one,
        long-two,
        long-back,
        within.first,
        within.second,
        within.all,
      )

  -- in the old order, they do this anew
  pub anew-moved : anew (fronts_moved lines e) 0 lines (traces_of lines) ≡ replayed_moved lines e
  anew-moved =
      (λ i. anew (fronts_moved lines e) 0 (sym all i) (sym all-did i))
      ∙ anew-append before (at_one ++ (at_two ++ at_back)) 0 front (one ++ (two ++ back)) did-front (did-one ++ (did-two ++ did-back))
      (length-fronts first_state front) (did-front-long ∙ sym long-front)
      ∙ (λ i. still i ++ anew (at_one ++ (at_two ++ at_back)) (at-one i) (one ++ (two ++ back)) (did-one ++ (did-two ++ did-back)))
      ∙ anew-append at_one (at_two ++ at_back) e.keep one (two ++ back) did-one (did-two ++ did-back)
      (length-fronts (state_between lines e) one) (did-one-long ∙ sym long-one)
      ∙ (λ i. anew-fronts (state_between lines e) e.keep one did-one i ++ anew (at_two ++ at_back) (at-two i) (two ++ back) (did-two ++ did-back))
      ∙ ap (λ (news : List (SparseItem Trace)). replayed (state_between lines e) e.keep one did-one ++ news)
      (anew-append at_two at_back e.mid two back did-two did-back (length-fronts (state_before lines e) two) (did-two-long ∙ sym long-two)
      ∙ (λ i. anew-fronts (state_before lines e) e.mid two did-two i ++ anew at_back (at-back i) back did-back)
      ∙ ap (λ (news : List (SparseItem Trace)). replayed (state_before lines e) e.mid two did-two ++ news) (anew-fronts (state_past lines e) e.from back did-back))
    where
      did-front : List Trace
      did-front = take e.keep (traces_of lines)

      did-one : List Trace
      did-one = stretch e.keep e.mid (traces_of lines)

      did-two : List Trace
      did-two = stretch e.mid e.from (traces_of lines)

      did-back : List Trace
      did-back = drop e.from (traces_of lines)

      as_many : length (traces_of lines) ≡ length lines
      as_many = length-traces_from first_state lines

      did-front-long : length did-front ≡ e.keep
      did-front-long = length-take-le e.keep (traces_of lines) (omega (arith, as_many, within.first, mid-within))

      did-one-long : length did-one ≡ e.mid - e.keep
      did-one-long = between-long e.keep e.mid (traces_of lines) within.first (omega (arith, as_many, mid-within))

      did-two-long : length did-two ≡ e.from - e.mid
      did-two-long = between-long e.mid e.from (traces_of lines) within.second (omega (arith, as_many, within.all))

      all : front ++ (one ++ (two ++ back)) ≡ lines
      all = whole lines e.keep e.mid e.from within.first within.second within.all

      all-did : did-front ++ (did-one ++ (did-two ++ did-back)) ≡ traces_of lines
      all-did = whole (traces_of lines) e.keep e.mid e.from within.first within.second (omega (arith, as_many, within.all))

      still : anew before 0 front did-front ≡ []
      still =
          anew-fronts first_state 0 front did-front ∙ ap (replayed first_state 0 front) (take-traces_from e.keep first_state lines)
          ∙ replayed-still first_state 0 front

      at-one : 0 + length front ≡ e.keep
      at-one = omega (arith, long-front)

      at-two : e.keep + length one ≡ e.mid
      at-two = omega (arith, long-one, within.first)

      at-back : e.mid + length two ≡ e.from
      at-back = omega (arith, long-two, within.second)
