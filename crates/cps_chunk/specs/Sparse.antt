-- Items at some places of a list: what was made anew of few of its lines. Our own.
use Rattle.std.specs.Prelude.{◌≡◌, ℕ, suc, ◌+◌, ◌≤◌, ◌<◌, nat_eq, Bool, List, [], ◌∷◌, Option, None, Some, unwrap_or, if◌then◌else◌}
use Rattle.cps_chunk.specs.declared.sparse.SparseItem.{SparseItem}

module _ {X : Type 0} where
  -- the item at a place, if there is one
  abbrev pub item_at : List (SparseItem X) → ℕ → Option X
  item_at [] i = None
  item_at (new ∷ news) i = if nat_eq new.at i then Some new.item else item_at news i

  -- an item at a place, if a test passes, and no item if it doesn't
  abbrev pub one_if : Bool → ℕ → X → List (SparseItem X)
  one_if test i item = if test then record { at = i; item = item } ∷ [] else []

  -- a list that begins at a place of its own, with these items in the place of its own
  abbrev pub renewed : ℕ → List (SparseItem X) → List X → List X
  renewed i news [] = []
  renewed i news (x ∷ xs) = unwrap_or (item_at news i) x ∷ renewed (suc i) news xs

  -- their places grow, from one on, below another
  abbrev pub AreWithin : ℕ → ℕ → List (SparseItem X) → Type 0
  AreWithin from to [] = from ≤ to
  AreWithin from to (new ∷ news) = (from ≤ new.at) × (new.at < to) × AreWithin (suc new.at) to news

  -- two lists have the same item, or both none, at each of so many places from one on
  abbrev pub AgreeFor : ℕ → ℕ → List (SparseItem X) → List (SparseItem X) → Type 0
  AgreeFor i n ns ms = (k : ℕ) → i ≤ k → k < i + n → item_at ns k ≡ item_at ms k
