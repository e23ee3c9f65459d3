-- Items put at their places in a list, from the first to the last.
use Rattle.std.proofs.Common.{◌≡◌, ℕ, zero, suc, ◌+◌, ◌<◌, refl, sym, ap, subst, ◌∙◌, List, [], ◌∷◌, ◌++◌, length, get_or, set, take, drop, None, Some, arith}
use Rattle.std.specs.Prelude.{unwrap_or}
use Rattle.std.specs.Option.{option_or}
use Rattle.std.proofs.lemmas.List.{take_more, take-append-drop}
use Rattle.cps_edit.proofs.TakenLemmas.{drop_at}
use Rattle.cps_chunk.specs.declared.sparse.SparseItem.{SparseItem}
use Rattle.cps_chunk.specs.Sparse.{item_at, renewed, AreWithin}
use Rattle.cps_chunk.proofs.SparseLemmas.{AreWithin-ordered, item_at-append, item_at-here, item_at-push, item_at-behind, renewed-agree}

module _ {X : Type 0} where
  -- those in front of one of them, and it with those behind it
  AreWithin-parts : (a b : ℕ) (xs : List (SparseItem X)) (new : SparseItem X) (ys : List (SparseItem X)) → AreWithin a b (xs ++ new ∷ ys) → AreWithin a new.at xs × AreWithin new.at b (new ∷ ys)
  AreWithin-parts a b [] new ys within = (within.0, (omega arith, within.1, within.2))
  AreWithin-parts a b (x ∷ xs) new ys within =
      let rest = AreWithin-parts (suc x.at) b xs new ys within.2 in
      let lt : x.at < new.at = omega (arith, AreWithin-ordered (suc x.at) new.at xs rest.0) in
      ((within.0, lt, rest.0), rest.1)

  -- one more, behind those that stand in front of it
  renewed-last : (i a : ℕ) (news : List (SparseItem X)) (new : SparseItem X) (zs : List X) → item_at news (i + a) ≡ None → new.at ≡ i + a
      → renewed i (news ++ new ∷ []) zs ≡ set (renewed i news zs) a new.item
  renewed-last i a news new [] none at = refl
  renewed-last i zero news new (z ∷ zs) none at =
      let same : i ≡ i + 0 = omega arith in
      let alone : item_at news i ≡ None = ap (item_at news) same ∙ none in
      let only : item_at (new ∷ []) i ≡ Some new.item = item_at-here new [] i (omega (arith, at)) in
      let here : item_at (news ++ new ∷ []) i ≡ Some new.item = item_at-append news (new ∷ []) i ∙ (λ j. option_or (alone j) (only j)) in
      let later = renewed-agree (suc i) (news ++ new ∷ []) news zs (λ k low high. item_at-push news new k (λ is. omega (arith, at, is, low))) in
      λ j. unwrap_or (here j) z ∷ later j
  renewed-last i (suc a) news new (z ∷ zs) none at =
      let same : suc i + a ≡ i + suc a = omega arith in
      let here = item_at-push news new i (λ is. omega (arith, at, is)) in
      let later = renewed-last (suc i) a news new zs (ap (item_at news) same ∙ none) (omega (arith, at)) in
      λ j. unwrap_or (here j) z ∷ later j

  get_or-renewed : (i a : ℕ) (news : List (SparseItem X)) (zs : List X) (d : X) → item_at news (i + a) ≡ None → get_or (renewed i news zs) a d ≡ get_or zs a d
  get_or-renewed i a news [] d none = refl
  get_or-renewed i zero news (z ∷ zs) d none =
      let same : i ≡ i + 0 = omega arith in
      ap (λ held. unwrap_or held z) (ap (item_at news) same ∙ none)
  get_or-renewed i (suc a) news (z ∷ zs) d none =
      let same : suc i + a ≡ i + suc a = omega arith in
      get_or-renewed (suc i) a news zs d (ap (item_at news) same ∙ none)

  -- ---- one of a list

  module _ (a b i : ℕ) (news : List (SparseItem X)) (new : SparseItem X) (lt : i < length news) (is : new ≡ get_or news i new) where
    pub left-next : AreWithin a b (drop i news) → AreWithin a b (new ∷ drop (i + 1) news)
    left-next within = subst (AreWithin a b) (drop_at news i new lt is) within

    parts : AreWithin a b news → AreWithin a new.at (take i news) × AreWithin new.at b (new ∷ drop (i + 1) news)
    parts within =
        let whole : news ≡ take i news ++ new ∷ drop (i + 1) news = sym (take-append-drop i news) ∙ ap (λ ns. take i news ++ ns) (drop_at news i new lt is) in
        AreWithin-parts a b (take i news) new (drop (i + 1) news) (subst (AreWithin a b) whole within)

    pub place-within : AreWithin a b news → new.at < b
    place-within within = (parts within).1.1

    none : AreWithin a b news → item_at (take i news) (0 + new.at) ≡ None
    none within = item_at-behind a new.at (take i news) (0 + new.at) (parts within).0 (omega arith)

    pub renewed-next : AreWithin a b news → (zs : List X) → renewed 0 (take (i + 1) news) zs ≡ set (renewed 0 (take i news) zs) new.at new.item
    renewed-next within zs =
        let first : take (i + 1) news ≡ take i news ++ new ∷ [] = take_more news i new lt ∙ ap (λ n. take i news ++ n ∷ []) (sym is) in
        ap (λ ns. renewed 0 ns zs) first ∙ renewed-last 0 new.at (take i news) new zs (none within) (omega arith)

    -- what stands there still
    pub renewed-still : AreWithin a b news → (zs : List X) (d : X) → get_or (renewed 0 (take i news) zs) new.at d ≡ get_or zs new.at d
    renewed-still within zs d = get_or-renewed 0 new.at (take i news) zs d (none within)
