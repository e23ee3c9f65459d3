-- Items in front of a place, and those from it on: of what lines do now, those of the first lines and of the others.
use Rattle.std.proofs.Common.{arith, ◌≡◌, ℕ, suc, ◌+◌, ◌≤◌, refl, sym, ap, subst, ◌∙◌, List, [], ◌∷◌, ◌++◌, length, take, drop}
use Rattle.std.specs.Prelude.{if◌then◌else◌}
use Rattle.std.proofs.lemmas.Bool.{lt-ltb, le-ltb}
use Rattle.std.proofs.lemmas.List.{length-take-le, take-append-drop}
use Rattle.cps_state.specs.Course.{Trace}
use Rattle.cps_state.specs.Keys.{State}
use Rattle.cps_edit.specs.Passes.{state_after}
use Rattle.cps_chunk.specs.declared.sparse.SparseItem.{SparseItem}
use Rattle.cps_chunk.specs.Sparse.{AreWithin}
use Rattle.cps_chunk.specs.Replayed.{replayed}
use Rattle.cps_chunk.proofs.ReplayedLemmas.{replayed-within, replayed-append}
use Rattle.cps_chunk.specs.Code.Looks.{items_before, items_from}

module _ {X : Type 0} (place : ℕ) where
  before-none : (b : ℕ) (news : List (SparseItem X)) → AreWithin place b news → items_before place news ≡ []
  before-none b [] within = refl
  before-none b (new ∷ news) within = ap (λ test. if test then new ∷ items_before place news else []) (le-ltb new.at place within.0)

  from-all : (b : ℕ) (news : List (SparseItem X)) → AreWithin place b news → items_from place news ≡ news
  from-all b [] within = refl
  from-all b (new ∷ news) within = ap (λ test. if test then items_from place news else new ∷ news) (le-ltb new.at place within.0)

  -- of two lists, one in front of the place and one from it on
  pub before-first : (a b : ℕ) (xs ys : List (SparseItem X)) → AreWithin a place xs → AreWithin place b ys → items_before place (xs ++ ys) ≡ xs
  before-first a b [] ys front behind = before-none b ys behind
  before-first a b (x ∷ xs) ys front behind =
      ap (λ test. if test then x ∷ items_before place (xs ++ ys) else []) (lt-ltb x.at place front.1)
      ∙ ap (λ us. x ∷ us) (before-first (suc x.at) b xs ys front.2 behind)

  pub from-second : (a b : ℕ) (xs ys : List (SparseItem X)) → AreWithin a place xs → AreWithin place b ys → items_from place (xs ++ ys) ≡ ys
  from-second a b [] ys front behind = from-all b ys behind
  from-second a b (x ∷ xs) ys front behind =
      ap (λ test. if test then items_from place (xs ++ ys) else x ∷ (xs ++ ys)) (lt-ltb x.at place front.1)
      ∙ from-second (suc x.at) b xs ys front.2 behind

module _ (state : State) (at n : ℕ) (lines : List (List ℕ)) (olds : List Trace) (as_many : length olds ≡ length lines) (le : n ≤ length lines) where
  -- what the first lines do now, and what those behind them do
  abbrev first : List (SparseItem Trace)
  first = replayed state at (take n lines) (take n olds)

  abbrev others : List (SparseItem Trace)
  others = replayed (state_after state (take n lines)) (at + n) (drop n lines) (drop n olds)

  count : length (take n lines) ≡ n
  count = length-take-le n lines le

  in-parts : replayed state at lines olds ≡ first ++ others
  in-parts =
      (λ i. replayed state at (sym (take-append-drop n lines) i) (sym (take-append-drop n olds) i))
      ∙ replayed-append state at (take n lines) (drop n lines) (take n olds) (drop n olds) (count ∙ sym (length-take-le n olds (omega (arith, as_many, le))))
      ∙ ap (λ k. first ++ replayed (state_after state (take n lines)) (at + k) (drop n lines) (drop n olds)) count

  first-within : AreWithin at (at + n) first
  first-within = subst (λ (k : ℕ). AreWithin at (at + k) first) count (replayed-within state at (take n lines) (take n olds))

  others-within : AreWithin (at + n) (at + n + length (drop n lines)) others
  others-within = replayed-within (state_after state (take n lines)) (at + n) (drop n lines) (drop n olds)

  pub replayed-before : items_before (at + n) (replayed state at lines olds) ≡ first
  replayed-before = ap (items_before (at + n)) in-parts ∙ before-first (at + n) at (at + n + length (drop n lines)) first others first-within others-within

  pub replayed-from : items_from (at + n) (replayed state at lines olds) ≡ others
  replayed-from = ap (items_from (at + n)) in-parts ∙ from-second (at + n) at (at + n + length (drop n lines)) first others first-within others-within
