-- Where lines stand that an edit leaves, and what stands there.
use Rattle.std.proofs.Common.{◌≡◌, ℕ, zero, suc, ◌+◌, ◌-◌, ◌<◌, ◌≤◌, ⊎_elim, Bool, true, false, refl, ap, ◌∙◌, List, [], ◌∷◌, ◌++◌, length, take, drop, map, arith}
use Rattle.std.specs.Prelude.{nat_lt, if◌then◌else◌, All, Option, None, Some, unwrap_or, slice_get}
use Rattle.std.proofs.lemmas.Bool.{le-ltb}
use Rattle.std.proofs.lemmas.Bool.Decides.{nat_tests}
use Rattle.std.proofs.lemmas.List.{length-take-le}
use Rattle.std.proofs.lemmas.List.Elements.{All-head, All-tail}
use Rattle.cps_chunk.specs.declared.sparse.SparseItem.{SparseItem}
use Rattle.cps_chunk.specs.Sparse.{item_at, renewed}
use Rattle.cps_chunk.proofs.SparseLemmas.{item_at-other, length-renewed}
use Rattle.cps_live.specs.Code.Editing.{put_between}
use Rattle.cps_live.specs.Code.Redone.{place_behind, places_behind}
use Rattle.cps_live.specs.Edits.{IsLeft, place_before}

module _ {X : Type 0} where
  -- ---- items of a list

  pub slice_get-front : (xs ys : List X) (i : ℕ) → i < length xs → slice_get (xs ++ ys) i ≡ slice_get xs i
  slice_get-front [] ys i lt = absurd (omega (arith, lt))
  slice_get-front (x ∷ xs) ys zero lt = refl
  slice_get-front (x ∷ xs) ys (suc i) lt = slice_get-front xs ys i (omega (arith, lt))

  pub slice_get-back : (xs ys : List X) (i k : ℕ) → i ≡ length xs + k → slice_get (xs ++ ys) i ≡ slice_get ys k
  slice_get-back [] ys i k is = let same : i ≡ k = omega (arith, is) in ap (slice_get ys) same
  slice_get-back (x ∷ xs) ys zero k is = absurd (omega (arith, is))
  slice_get-back (x ∷ xs) ys (suc i) k is = slice_get-back xs ys i k (omega (arith, is))

  slice_get-drop : (n : ℕ) (xs : List X) (i k : ℕ) → k ≡ n + i → slice_get (drop n xs) i ≡ slice_get xs k
  slice_get-drop zero xs i k is = let same : i ≡ k = omega (arith, is) in ap (slice_get xs) same
  slice_get-drop (suc n) [] i k is = refl
  slice_get-drop (suc n) (x ∷ xs) i zero is = absurd (omega (arith, is))
  slice_get-drop (suc n) (x ∷ xs) i (suc k) is = slice_get-drop n xs i k (omega (arith, is))

  slice_get-take : (n : ℕ) (xs : List X) (i : ℕ) → i < n → slice_get (take n xs) i ≡ slice_get xs i
  slice_get-take zero xs i lt = absurd (omega (arith, lt))
  slice_get-take (suc n) [] i lt = refl
  slice_get-take (suc n) (x ∷ xs) zero lt = refl
  slice_get-take (suc n) (x ∷ xs) (suc i) lt = slice_get-take n xs i (omega (arith, lt))

  -- one that isn't put anew
  slice_get-renewed : (from : ℕ) (news : List (SparseItem X)) (xs : List X) (a : ℕ) → item_at news (from + a) ≡ None
      → slice_get (renewed from news xs) a ≡ slice_get xs a
  slice_get-renewed from news [] a none = refl
  slice_get-renewed from news (x ∷ xs) zero none =
      let same : from ≡ from + 0 = omega arith in
      ap (λ (held : Option X). Some (unwrap_or held x)) (ap (item_at news) same ∙ none)
  slice_get-renewed from news (x ∷ xs) (suc a) none =
      let same : suc from + a ≡ from + suc a = omega arith in
      slice_get-renewed (suc from) news xs a (ap (item_at news) same ∙ none)

  -- ---- lines in the place of others

  module _ (keep from : ℕ) (xs ys : List X) where
    abbrev pub all : List X
    all = put_between keep from ys xs

    front-long : keep ≤ length xs → length (take keep xs) ≡ keep
    front-long within = length-take-le keep xs within

    -- one of these
    pub slice_get-new : (at k : ℕ) → keep ≤ length xs → k < length ys → at ≡ keep + k → slice_get all at ≡ slice_get ys k
    slice_get-new at k within lt is =
        slice_get-back (take keep xs) (ys ++ drop from xs) at k (omega (arith, is, front-long within)) ∙ slice_get-front ys (drop from xs) k lt

    -- one that is left
    pub slice_get-left : (count at : ℕ) → keep ≤ from → from ≤ length xs → length ys ≡ count → IsLeft keep count at
        → slice_get all at ≡ slice_get xs (place_before keep from count at)
    slice_get-left count at ordered within long is = by_test (nat_lt at keep) refl
      where
        front : length (take keep xs) ≡ keep
        front = front-long (omega (arith, ordered, within))

        by_test : (b : Bool) → nat_lt at keep ≡ b → slice_get all at ≡ slice_get xs (if b then at else at - (keep + count) + from)
        by_test true test =
            let lt : at < keep = grind (arith, nat_tests) in
            slice_get-front (take keep xs) (ys ++ drop from xs) at (omega (arith, lt, front)) ∙ slice_get-take keep xs at lt
        by_test false test =
            let le : keep ≤ at = grind (arith, nat_tests) in
            let past : keep + count ≤ at = ⊎_elim (λ (lt : at < keep). absurd (omega (arith, lt, le))) (λ (behind : keep + count ≤ at). behind) is in
            let rest = at - (keep + count) in
            slice_get-back (take keep xs) (ys ++ drop from xs) at (count + rest) (omega (arith, front, past))
            ∙ slice_get-back ys (drop from xs) (count + rest) rest (omega (arith, long))
            ∙ slice_get-drop from xs rest (rest + from) (omega arith)

  -- ---- places

  none-listed : (to : ℕ → ℕ) (news : List (SparseItem X)) (at was : ℕ) → to was ≡ at → All (λ place. place ≡ at → ⊥) (map (λ (new : SparseItem X). to new.at) news)
      → item_at news was ≡ None
  none-listed to [] at was is none = refl
  none-listed to (new ∷ news) at was is none =
      let rest : List ℕ = map (λ (n : SparseItem X). to n.at) news in
      item_at-other new news was (λ here. All-head (λ place. place ≡ at → ⊥) (to new.at) rest none (ap to here ∙ is))
      ∙ none-listed to news at was is (All-tail (λ place. place ≡ at → ⊥) (to new.at) rest none)

-- a line comes to stand where it is sought
place-back : (keep from count at : ℕ) → keep ≤ from → IsLeft keep count at → place_behind keep from (keep + count) (place_before keep from count at) ≡ at
place-back keep from count at ordered is = by_test (nat_lt at keep) refl
  where
    by_test : (b : Bool) → nat_lt at keep ≡ b → place_behind keep from (keep + count) (if b then at else at - (keep + count) + from) ≡ at
    by_test true test = ap (λ (b : Bool). if b then at else at - from + (keep + count)) test
    by_test false test =
        let le : keep ≤ at = grind (arith, nat_tests) in
        let past : keep + count ≤ at = ⊎_elim (λ (lt : at < keep). absurd (omega (arith, lt, le))) (λ (behind : keep + count ≤ at). behind) is in
        let was = at - (keep + count) + from in
        let back : was - from + (keep + count) ≡ at = omega (arith, past) in
        ap (λ (b : Bool). if b then was else was - from + (keep + count)) (le-ltb was keep (omega (arith, ordered))) ∙ back

-- ---- what is left of a list

-- an item that is left and isn't made anew
pub left : {X : Type 0} (keep from count : ℕ) (olds es : List X) (news : List (SparseItem X)) (at : ℕ) → keep ≤ from → from ≤ length olds → length es ≡ count
    → IsLeft keep count at → All (λ place. place ≡ at → ⊥) (places_behind keep from count news)
    → slice_get (put_between keep from es (renewed 0 news olds)) at ≡ slice_get olds (place_before keep from count at)
left keep from count olds es news at ordered within long is none =
    let was = place_before keep from count at in
    let zero_was : 0 + was ≡ was = omega arith in
    let to : ℕ → ℕ = place_behind keep from (keep + count) in
    let back : to (0 + was) ≡ at = ap to zero_was ∙ place-back keep from count at ordered is in
    slice_get-left keep from (renewed 0 news olds) es count at ordered (omega (arith, within, length-renewed 0 news olds)) long is
    ∙ slice_get-renewed 0 news olds was (none-listed to news at (0 + was) back none)
