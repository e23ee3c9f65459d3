-- Stretches of a list, and items in front of a place and from it on.
use Rattle.std.proofs.Common.{arith, ◌≡◌, ℕ, suc, ◌+◌, ◌<◌, ◌≤◌, refl, sym, ap, ◌∙◌, Bool, true, false, List, [], ◌∷◌, ◌++◌, take, drop}
use Rattle.std.specs.Prelude.{nat_lt, if◌then◌else◌}
use Rattle.std.proofs.lemmas.Bool.{ltb-true, ltb-false}
use Rattle.std.proofs.lemmas.List.{take-take, drop-drop, drop-take}
use Rattle.cps_chunk.specs.declared.sparse.SparseItem.{SparseItem}
use Rattle.cps_chunk.specs.Sparse.{AreWithin}
use Rattle.cps_chunk.specs.Code.Walk.{stretch}
use Rattle.cps_chunk.proofs.WalkLemmas.{stretch-behind}
use Rattle.cps_chunk.specs.Code.Looks.{items_before, items_from}

-- ---- items in front of a place, and from it on

module _ {X : Type 0} (p : ℕ) where
  pub before-within : (a b : ℕ) (news : List (SparseItem X)) → a ≤ p → AreWithin a b news → AreWithin a p (items_before p news)
  before-within a b [] le within = le
  before-within a b (new ∷ news) le within = by_test (nat_lt new.at p) refl (λ lt. before-within (suc new.at) b news lt within.2)
    where
      by_test : (test : Bool) → nat_lt new.at p ≡ test → (suc new.at ≤ p → AreWithin (suc new.at) p (items_before p news))
          → AreWithin a p (if test then new ∷ items_before p news else [])
      by_test true is rest = let lt : new.at < p = ltb-true new.at p is in (within.0, lt, rest (omega (arith, lt)))
      by_test false is rest = le

  pub from-within : (a b : ℕ) (news : List (SparseItem X)) → p ≤ b → AreWithin a b news → AreWithin p b (items_from p news)
  from-within a b [] le within = le
  from-within a b (new ∷ news) le within = by_test (nat_lt new.at p) refl (from-within (suc new.at) b news le within.2)
    where
      by_test : (test : Bool) → nat_lt new.at p ≡ test → AreWithin p b (items_from p news) → AreWithin p b (if test then items_from p news else new ∷ news)
      by_test true is rest = rest
      by_test false is rest = (ltb-false new.at p is, within.1, within.2)

  pub before-from : (news : List (SparseItem X)) → items_before p news ++ items_from p news ≡ news
  before-from [] = refl
  before-from (new ∷ news) = by_test (nat_lt new.at p) (before-from news)
    where
      by_test : (test : Bool) → items_before p news ++ items_from p news ≡ news
          → (if test then new ∷ items_before p news else []) ++ (if test then items_from p news else new ∷ news) ≡ new ∷ news
      by_test true rest = ap (λ ns. new ∷ ns) rest
      by_test false rest = refl

-- ---- stretches

module _ {X : Type 0} (xs : List X) where
  pub stretch-join : (a m b : ℕ) → a ≤ m → m ≤ b → stretch a b xs ≡ stretch a m xs ++ stretch m b xs
  stretch-join a m b one two = stretch-behind a m one (take b xs) ∙ ap (λ ys. drop a ys ++ stretch m b xs) (take-take m b xs two)

  -- of a stretch
  pub stretch-stretch : (f e a b : ℕ) → f + b ≤ e → stretch a b (stretch f e xs) ≡ stretch (f + a) (f + b) xs
  stretch-stretch f e a b le =
      ap (drop a) (sym (drop-take f b (take e xs))) ∙ drop-drop a f (take (f + b) (take e xs)) ∙ ap (drop (f + a)) (take-take (f + b) e xs le)
