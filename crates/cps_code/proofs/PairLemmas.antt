-- Pairs of elements of a list, by a test of two elements.
use Rattle.std.proofs.Common.{◌≡◌, Bool, true, false, not, ◌&&◌, List, [], ◌∷◌, All, AllPairs, refl, arith}
use Rattle.std.proofs.lemmas.List.Kept.{AllPairs-cons}
use Rattle.std.proofs.lemmas.List.Sums.{AllPass-from_list_all}
use Rattle.std.specs.List.{list_all}
use Rattle.cps_code.proofs.BothTrue.{left_true, right_true}

module _ {T : Type 0} (clash : T → T → Bool) where
  -- no element clashes with a later one
  abbrev pub no_clash : List T → Bool
  no_clash [] = true
  no_clash (x ∷ xs) = list_all (λ y. not (clash x y)) xs && no_clash xs

  passed : (b : Bool) → not b ≡ true → b ≡ false
  passed true is = cc
  passed false is = refl

  pub pairs_apart : (Apart : T → T → Type 0) → ((x y : T) → clash x y ≡ false → Apart x y) → (xs : List T) → no_clash xs ≡ true → AllPairs Apart xs
  pairs_apart Apart apart [] none = λ i j d before within. absurd (omega arith)
  pairs_apart Apart apart (x ∷ xs) none =
      let first = AllPass-from_list_all (λ y. not (clash x y)) xs (left_true (list_all (λ y. not (clash x y)) xs) (no_clash xs) none) in
      let here : All (Apart x) xs = λ k d within. apart x _ (passed _ (first k d within)) in
      AllPairs-cons Apart x xs here (pairs_apart Apart apart xs (right_true (list_all (λ y. not (clash x y)) xs) (no_clash xs) none))
