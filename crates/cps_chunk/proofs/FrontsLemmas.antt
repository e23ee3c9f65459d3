-- What stands in front of each line once two runs of them have changed places.
use Rattle.std.proofs.Common.{◌≡◌, refl, sym, ap, ◌∙◌, ℕ, zero, suc, ◌+◌, ◌-◌, ◌<◌, ◌≤◌, List, [], ◌∷◌, ◌++◌, length, get_or, take, drop, arith}
use Rattle.std.proofs.lemmas.List.{length-take-le, length-drop, take-take, get_or_append_left, get_or-append-add}
use Rattle.cps_state.specs.Keys.{State, first_state}
use Rattle.cps_edit.specs.declared.exchange.Exchange.{Exchange}
use Rattle.cps_edit.specs.Exchange.{IsWithin, exchanged}
use Rattle.cps_edit.specs.Passes.{after, state_after}
use Rattle.cps_chunk.specs.Code.Walk.{stretch}
use Rattle.cps_chunk.specs.Code.Moved.{fronts, state_before, state_between, state_past, fronts_moved}
use Rattle.cps_chunk.proofs.WalkLemmas.{stretch-part, stretch-long}
use Rattle.cps_chunk.proofs.ExchangedLemmas.{exchanged-parts}

-- ---- lists

get_or-past : {X : Type 0} (xs ys : List X) (n i j : ℕ) (other : X) → length xs ≡ n → i ≡ n + j → get_or (xs ++ ys) i other ≡ get_or ys j other
get_or-past xs ys n i j other long is =
    let at : i ≡ length xs + j = omega (arith, long, is) in
    ap (λ k. get_or (xs ++ ys) k other) at ∙ get_or-append-add xs ys j other

-- a stretch of the first items
pub stretch-take : {X : Type 0} (a at b : ℕ) (xs : List X) → a ≤ at → at ≤ b → take (at - a) (stretch a b xs) ≡ stretch a at xs
stretch-take a at b xs le most = stretch-part a at le (take b xs) ∙ ap (drop a) (take-take at b xs most)

-- ---- what stands in front of each of some lines

pub length-fronts : (state : State) (lines : List (List ℕ)) → length (fronts state lines) ≡ length lines
length-fronts state [] = refl
length-fronts state (line ∷ lines) = ap suc (length-fronts (after state line) lines)

pub fronts-append : (state : State) (xs ys : List (List ℕ)) → fronts state (xs ++ ys) ≡ fronts state xs ++ fronts (state_after state xs) ys
fronts-append state [] ys = refl
fronts-append state (x ∷ xs) ys = ap (λ us. state ∷ us) (fronts-append (after state x) xs ys)

pub get_or-fronts : (state other : State) (lines : List (List ℕ)) (at : ℕ) → at < length lines → get_or (fronts state lines) at other ≡ state_after state (take at lines)
get_or-fronts state other [] at lt = absurd (omega (arith, lt))
get_or-fronts state other (line ∷ lines) zero lt = refl
get_or-fronts state other (line ∷ lines) (suc at) lt = get_or-fronts (after state line) other lines at (omega (arith, lt))

-- one that stands in the first of two lists, at a place of it
at-place : (state other : State) (lines : List (List ℕ)) (rest : List State) (at : ℕ) → at < length lines → get_or (fronts state lines ++ rest) at other ≡ state_after state (take at lines)
at-place state other lines rest at lt =
    get_or_append_left (fronts state lines) rest other at (omega (arith, lt, length-fronts state lines)) ∙ get_or-fronts state other lines at lt

-- ---- a whole move

module _ (lines : List (List ℕ)) (e : Exchange) (within : IsWithin (length lines) e) where
  mid-within : e.mid ≤ length lines
  mid-within = omega (arith, within.second, within.all)

  front-long : length (take e.keep lines) ≡ e.keep
  front-long = length-take-le e.keep lines (omega (arith, within.first, mid-within))

  first-long : length (stretch e.keep e.mid lines) ≡ e.mid - e.keep
  first-long = stretch-long e.keep e.mid within.first lines mid-within

  second-long : length (stretch e.mid e.from lines) ≡ e.from - e.mid
  second-long = stretch-long e.mid e.from within.second lines within.all

  abbrev front : List State
  front = fronts first_state (take e.keep lines)

  abbrev first : List State
  first = fronts (state_between lines e) (stretch e.keep e.mid lines)

  abbrev second : List State
  second = fronts (state_before lines e) (stretch e.mid e.from lines)

  abbrev last : List State
  last = fronts (state_past lines e) (drop e.from lines)

  front-size : length front ≡ e.keep
  front-size = length-fronts first_state (take e.keep lines) ∙ front-long

  first-size : length first ≡ e.mid - e.keep
  first-size = length-fronts (state_between lines e) (stretch e.keep e.mid lines) ∙ first-long

  second-size : length second ≡ e.from - e.mid
  second-size = length-fronts (state_before lines e) (stretch e.mid e.from lines) ∙ second-long

  -- in their new order they are those of the lines now
  pub fronts-moved : exchanged e (fronts_moved lines e) ≡ fronts first_state (exchanged e lines)
  fronts-moved =
      let one = stretch e.keep e.mid lines in
      let two = stretch e.mid e.from lines in
      let rest = drop e.from lines in
      exchanged-parts e (length lines) within front first second last front-size first-size second-size
      ∙ sym (fronts-append first_state (take e.keep lines) (two ++ (one ++ rest))
      ∙ ap (λ us. front ++ us) (fronts-append (state_before lines e) two (one ++ rest) ∙ ap (λ us. second ++ us) (fronts-append (state_between lines e) one rest)))

  -- in front of both runs
  pub stands_front-moved : (at : ℕ) → at < e.keep → get_or (fronts_moved lines e) at first_state ≡ state_after first_state (take at lines)
  stands_front-moved at lt =
      let le : at ≤ e.keep = omega (arith, lt) in
      at-place first_state first_state (take e.keep lines) (first ++ (second ++ last)) at (omega (arith, lt, front-long))
      ∙ ap (state_after first_state) (take-take at e.keep lines le)

  -- in the first
  pub stands_first-moved : (at : ℕ) → e.keep ≤ at → at < e.mid → get_or (fronts_moved lines e) at first_state ≡ state_after (state_between lines e) (stretch e.keep at lines)
  stands_first-moved at low high =
      let place : at ≡ e.keep + (at - e.keep) = omega (arith, low) in
      let most : at ≤ e.mid = omega (arith, high) in
      get_or-past front (first ++ (second ++ last)) e.keep at (at - e.keep) first_state front-size place
      ∙ at-place (state_between lines e) first_state (stretch e.keep e.mid lines) (second ++ last) (at - e.keep) (omega (arith, low, high, first-long))
      ∙ ap (state_after (state_between lines e)) (stretch-take e.keep at e.mid lines low most)

  -- in the second
  pub stands_second-moved : (at : ℕ) → e.mid ≤ at → at < e.from → get_or (fronts_moved lines e) at first_state ≡ state_after (state_before lines e) (stretch e.mid at lines)
  stands_second-moved at low high =
      let place : at ≡ e.keep + (at - e.keep) = omega (arith, low, within.first) in
      let next : at - e.keep ≡ (e.mid - e.keep) + (at - e.mid) = omega (arith, low, within.first) in
      let most : at ≤ e.from = omega (arith, high) in
      get_or-past front (first ++ (second ++ last)) e.keep at (at - e.keep) first_state front-size place
      ∙ get_or-past first (second ++ last) (e.mid - e.keep) (at - e.keep) (at - e.mid) first_state first-size next
      ∙ at-place (state_before lines e) first_state (stretch e.mid e.from lines) last (at - e.mid) (omega (arith, low, high, second-long))
      ∙ ap (state_after (state_before lines e)) (stretch-take e.mid at e.from lines low most)

  -- behind both
  pub stands_last-moved : (at : ℕ) → e.from ≤ at → at < length lines → get_or (fronts_moved lines e) at first_state ≡ state_after (state_past lines e) (stretch e.from at lines)
  stands_last-moved at low high =
      let place : at ≡ e.keep + (at - e.keep) = omega (arith, low, within.first, within.second) in
      let next : at - e.keep ≡ (e.mid - e.keep) + (at - e.mid) = omega (arith, low, within.first, within.second) in
      let past : at - e.mid ≡ (e.from - e.mid) + (at - e.from) = omega (arith, low, within.second) in
      get_or-past front (first ++ (second ++ last)) e.keep at (at - e.keep) first_state front-size place
      ∙ get_or-past first (second ++ last) (e.mid - e.keep) (at - e.keep) (at - e.mid) first_state first-size next
      ∙ get_or-past second last (e.from - e.mid) (at - e.mid) (at - e.from) first_state second-size past
      ∙ get_or-fronts (state_past lines e) first_state (drop e.from lines) (at - e.from) (omega (arith, low, high, length-drop e.from lines))
      ∙ ap (state_after (state_past lines e)) (stretch-part e.from at low lines)
