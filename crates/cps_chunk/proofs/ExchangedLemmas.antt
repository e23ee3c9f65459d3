-- Lists of which two runs change places: items made anew at some places of them, and lines beside what they did.
use Rattle.std.proofs.Common.{◌≡◌, refl, sym, ap, ◌∙◌, ℕ, zero, suc, ◌+◌, ◌-◌, ◌≤◌, List, [], ◌∷◌, ◌++◌, length, take, drop, map, add_assoc, zero-add, Some, arith}
use Rattle.std.specs.Prelude.{if◌then◌else◌}
use Rattle.std.proofs.lemmas.List.{length-append, length-take, map-append, take-map, drop-map}
use Rattle.cps_state.specs.Keys.{State}
use Rattle.cps_state.specs.Course.{Trace}
use Rattle.cps_final.specs.Outcome.{Resolved}
use Rattle.cps_edit.specs.declared.exchange.Exchange.{Exchange}
use Rattle.cps_edit.specs.Exchange.{IsWithin, exchanged}
use Rattle.cps_edit.proofs.ListLemmas.{parts}
use Rattle.cps_edit.specs.Passes.{after, state_after}
use Rattle.cps_edit.specs.Disturbed.{Placed, kept, is_disturbed, is_redone_at, disturbed_from, redone_places}
use Rattle.cps_edit.proofs.SpliceLemmas.{kept-drop}
use Rattle.cps_chunk.specs.declared.sparse.SparseItem.{SparseItem}
use Rattle.cps_chunk.specs.Sparse.{renewed, AreWithin}
use Rattle.cps_chunk.specs.Replayed.{redone}
use Rattle.cps_chunk.specs.Code.Walk.{stretch}
use Rattle.cps_chunk.proofs.SparseLemmas.{AreWithin-append, renewed-drop_front, renewed-drop_behind, renewed-behind_none, take-renewed, drop-renewed}
use Rattle.cps_chunk.proofs.ReplayedLemmas.{redone-append}
use Rattle.cps_chunk.proofs.WalkLemmas.{stretch-long}

-- ---- lists in which two runs change places

-- four runs, of which the second and the third change places
pub exchanged-parts : {X : Type 0} (e : Exchange) (n : ℕ) → IsWithin n e → (az bs cs ds : List X) → length az ≡ e.keep → length bs ≡ e.mid - e.keep → length cs ≡ e.from - e.mid
    → exchanged e (az ++ (bs ++ (cs ++ ds))) ≡ az ++ (cs ++ (bs ++ ds))
exchanged-parts e n within az bs cs ds a b c =
    parts az bs cs ds e.keep e.mid e.from (sym a) (omega (arith, a, b, within.first)) (omega (arith, a, b, c, within.first, within.second))

pub map-exchanged : {X Y : Type 0} (f : X → Y) (e : Exchange) (xs : List X) → map f (exchanged e xs) ≡ exchanged e (map f xs)
map-exchanged f e xs =
    let part : (a b : ℕ) → map f (stretch a b xs) ≡ stretch a b (map f xs) = λ a b. sym (drop-map f a (take b xs)) ∙ ap (drop a) (sym (take-map f b xs)) in
    map-append f (take e.keep xs) (stretch e.mid e.from xs ++ (stretch e.keep e.mid xs ++ drop e.from xs))
    ∙ ap (λ ys. map f (take e.keep xs) ++ ys) (map-append f (stretch e.mid e.from xs) (stretch e.keep e.mid xs ++ drop e.from xs)
    ∙ ap (λ ys. map f (stretch e.mid e.from xs) ++ ys) (map-append f (stretch e.keep e.mid xs) (drop e.from xs)))
    ∙ (λ i. sym (take-map f e.keep xs) i ++ (part e.mid e.from i ++ (part e.keep e.mid i ++ sym (drop-map f e.from xs) i)))

-- what is made anew in the first run, in the second, and behind both
module _ {X : Type 0} (e : Exchange) (xs : List X) (n : ℕ) (long : length xs ≡ n) (within : IsWithin n e) (one two three : List (SparseItem X))
    (in_first : AreWithin e.keep e.mid one) (in_second : AreWithin e.mid e.from two) (behind : AreWithin e.from n three) where
  abbrev all : List (SparseItem X)
  all = one ++ (two ++ three)

  last-two : AreWithin e.mid n (two ++ three)
  last-two = AreWithin-append e.mid e.from n two three in_second behind

  size : (a b : ℕ) → a ≤ b → b ≤ n → a + length (stretch a b xs) ≤ b
  size a b le most = omega (arith, le, stretch-long a b le xs (omega (arith, most, long)))

  renewed-front : renewed 0 all (take e.keep xs) ≡ take e.keep xs
  renewed-front =
      renewed-behind_none e.keep n 0 all (take e.keep xs) (AreWithin-append e.keep e.mid n one (two ++ three) in_first last-two) (omega (arith, length-take e.keep xs))

  renewed-first : renewed e.keep all (stretch e.keep e.mid xs) ≡ renewed e.keep one (stretch e.keep e.mid xs)
  renewed-first =
      renewed-drop_behind e.mid n e.keep one (two ++ three) (stretch e.keep e.mid xs) last-two
      (size e.keep e.mid within.first (omega (arith, within.second, within.all)))

  renewed-second : renewed e.mid all (stretch e.mid e.from xs) ≡ renewed e.mid two (stretch e.mid e.from xs)
  renewed-second =
      renewed-drop_front e.keep e.mid e.mid one (two ++ three) (stretch e.mid e.from xs) in_first (omega arith)
      ∙ renewed-drop_behind e.from n e.mid two three (stretch e.mid e.from xs) behind (size e.mid e.from within.second within.all)

  renewed-last : renewed e.from all (drop e.from xs) ≡ renewed e.from three (drop e.from xs)
  renewed-last =
      renewed-drop_front e.keep e.mid e.from one (two ++ three) (drop e.from xs) in_first within.second
      ∙ renewed-drop_front e.mid e.from e.from two three (drop e.from xs) in_second (omega arith)

  stretch-renewed : (a b : ℕ) → stretch a b (renewed 0 all xs) ≡ renewed a all (stretch a b xs)
  stretch-renewed a b =
      ap (drop a) (take-renewed b 0 all xs) ∙ drop-renewed a 0 all (take b xs) ∙ ap (λ k. renewed k all (stretch a b xs)) (zero-add a)

  -- each goes with its run
  pub exchanged-renewed : exchanged e (renewed 0 (one ++ (two ++ three)) xs)
      ≡ take e.keep xs ++ (renewed e.mid two (stretch e.mid e.from xs) ++ (renewed e.keep one (stretch e.keep e.mid xs) ++ renewed e.from three (drop e.from xs)))
  exchanged-renewed =
      let front = take-renewed e.keep 0 all xs ∙ renewed-front in
      let second = stretch-renewed e.mid e.from ∙ renewed-second in
      let first = stretch-renewed e.keep e.mid ∙ renewed-first in
      let last = drop-renewed e.from 0 all xs ∙ ap (λ k. renewed k all (drop e.from xs)) (zero-add e.from) ∙ renewed-last in
      λ i. front i ++ (second i ++ (first i ++ last i))

-- ---- lines, and what they did, in four parts

kept-take : (n : ℕ) (ls : List (List ℕ)) (ts : List Trace) → take n (kept ls ts) ≡ kept (take n ls) (take n ts)
kept-take zero ls ts = refl
kept-take (suc n) [] ts = refl
kept-take (suc n) (l ∷ ls) [] = refl
kept-take (suc n) (l ∷ ls) (t ∷ ts) = ap (λ ps. record { line = l; old = Some t } ∷ ps) (kept-take n ls ts)

pub kept-exchanged : (e : Exchange) (ls : List (List ℕ)) (ts : List Trace) → exchanged e (kept ls ts)
    ≡ kept (take e.keep ls) (take e.keep ts)
    ++ (kept (stretch e.mid e.from ls) (stretch e.mid e.from ts) ++ (kept (stretch e.keep e.mid ls) (stretch e.keep e.mid ts) ++ kept (drop e.from ls) (drop e.from ts)))
kept-exchanged e ls ts =
    let part : (a b : ℕ) → stretch a b (kept ls ts) ≡ kept (stretch a b ls) (stretch a b ts) = λ a b. ap (drop a) (kept-take b ls ts) ∙ kept-drop a (take b ls) (take b ts) in
    λ i. kept-take e.keep ls ts i ++ (part e.mid e.from i ++ (part e.keep e.mid i ++ kept-drop e.from ls ts i))

pub disturbed_from-append : (state : State) (ls : List (List ℕ)) (ts : List Trace) (places : List Placed) → length ls ≡ length ts
    → disturbed_from state (kept ls ts ++ places) ≡ disturbed_from state (kept ls ts) + disturbed_from (state_after state ls) places
disturbed_from-append state [] ts places len = sym (zero-add (disturbed_from state places))
disturbed_from-append state (l ∷ ls) [] places len = absurd (omega (arith, len))
disturbed_from-append state (l ∷ ls) (t ∷ ts) places len =
    let one : ℕ = if is_disturbed (Some t) state then 1 else 0 in
    ap (λ n. one + n) (disturbed_from-append (after state l) ls ts places (omega (arith, len)))
    ∙ sym (add_assoc one (disturbed_from (after state l) (kept ls ts)) (disturbed_from (state_after (after state l) ls) places))

pub redone_places-append : (was now : Resolved) (state : State) (ls : List (List ℕ)) (ts : List Trace) (places : List Placed) → length ls ≡ length ts
    → redone_places was now state (kept ls ts ++ places) ≡ redone_places was now state (kept ls ts) + redone_places was now (state_after state ls) places
redone_places-append was now state [] ts places len = sym (zero-add (redone_places was now state places))
redone_places-append was now state (l ∷ ls) [] places len = absurd (omega (arith, len))
redone_places-append was now state (l ∷ ls) (t ∷ ts) places len =
    let one : ℕ = if is_redone_at was now (Some t) state then 1 else 0 in
    ap (λ n. one + n) (redone_places-append was now (after state l) ls ts places (omega (arith, len)))
    ∙ sym (add_assoc one (redone_places was now (after state l) (kept ls ts)) (redone_places was now (state_after (after state l) ls) places))

pub length-three : {X : Type 0} (xs ys zs : List X) → length (xs ++ (ys ++ zs)) ≡ length xs + (length ys + length zs)
length-three xs ys zs = length-append xs (ys ++ zs) ∙ ap (λ n. length xs + n) (length-append ys zs)

-- the second and the third change places
pub turned-three : (a b c : ℕ) → 0 + (b + (a + c)) ≡ a + (b + c)
turned-three a b c = omega arith

pub turned-four : (a b c d : ℕ) → a + (c + (b + d)) ≡ a + (b + (c + d))
turned-four a b c d = omega arith

module _ (was now : Resolved) where
  redone-then : (news : List (SparseItem Trace)) (os ps : List Trace) (i j : ℕ) → i + length os ≡ j → redone was now i news (os ++ ps) ≡ redone was now i news os ++ redone was now j news ps
  redone-then news os ps i j at = redone-append was now i news os ps ∙ ap (λ k. redone was now i news os ++ redone was now k news ps) at

  pub length-redone_parts : (news : List (SparseItem Trace)) (az bs cs ds : List Trace) (i j k : ℕ) → length az ≡ i → i + length bs ≡ j → j + length cs ≡ k
      → length (redone was now 0 news (az ++ (bs ++ (cs ++ ds))))
      ≡ length (redone was now 0 news az) + (length (redone was now i news bs) + (length (redone was now j news cs) + length (redone was now k news ds)))
  length-redone_parts news az bs cs ds i j k a b c =
      let front = redone was now 0 news az in
      ap length (redone-then news az (bs ++ (cs ++ ds)) 0 i (omega (arith, a))
      ∙ ap (λ us. front ++ us) (redone-then news bs (cs ++ ds) i j b ∙ ap (λ us. redone was now i news bs ++ us) (redone-then news cs ds j k c)))
      ∙ length-append front (redone was now i news bs ++ (redone was now j news cs ++ redone was now k news ds))
      ∙ ap (λ n. length front + n) (length-three (redone was now i news bs) (redone was now j news cs) (redone was now k news ds))
