-- Items at some places of a list: looked up, joined, and put into the list.
use Rattle.std.proofs.Common.{◌≡◌, ℕ, zero, suc, ◌+◌, ◌<◌, ◌≤◌, refl, ap, ◌∙◌, Bool, true, false, List, [], ◌∷◌, ◌++◌, length, set, take, drop, Option, None, Some, arith}
use Rattle.std.specs.Prelude.{nat_eq, unwrap_or, if◌then◌else◌}
use Rattle.std.specs.Option.{option_or}
use Rattle.std.proofs.lemmas.Bool.{eq-eqb, ne_eqb}
use Rattle.cps_chunk.specs.declared.sparse.SparseItem.{SparseItem}
use Rattle.cps_chunk.specs.Sparse.{item_at, one_if, renewed, AreWithin, AgreeFor}

module _ {X : Type 0} where
  -- ---- where they stand

  pub AreWithin-ordered : (a b : ℕ) (news : List (SparseItem X)) → AreWithin a b news → a ≤ b
  AreWithin-ordered a b [] within = within
  AreWithin-ordered a b (new ∷ news) within = omega (arith, within.0, within.1)

  pub AreWithin-wider : (a b c d : ℕ) (news : List (SparseItem X)) → c ≤ a → b ≤ d → AreWithin a b news → AreWithin c d news
  AreWithin-wider a b c d [] low high within = omega (arith, low, high, within)
  AreWithin-wider a b c d (new ∷ news) low high within =
      (omega (arith, low, within.0), omega (arith, high, within.1), AreWithin-wider (suc new.at) b (suc new.at) d news (omega arith) high within.2)

  pub AreWithin-append : (a b c : ℕ) (xs ys : List (SparseItem X)) → AreWithin a b xs → AreWithin b c ys → AreWithin a c (xs ++ ys)
  AreWithin-append a b c [] ys one two = AreWithin-wider b c a c ys one (omega arith) two
  AreWithin-append a b c (x ∷ xs) ys one two =
      (one.0, omega (arith, one.1, AreWithin-ordered b c ys two), AreWithin-append (suc x.at) b c xs ys one.2 two)

  -- the first of them are within as well
  pub AreWithin-front : (a b : ℕ) (xs ys : List (SparseItem X)) → AreWithin a b (xs ++ ys) → AreWithin a b xs
  AreWithin-front a b [] ys within = AreWithin-ordered a b ys within
  AreWithin-front a b (x ∷ xs) ys within = (within.0, within.1, AreWithin-front (suc x.at) b xs ys within.2)

  -- and the last one
  pub AreWithin-last : (a b : ℕ) (news : List (SparseItem X)) (new : SparseItem X) → AreWithin a b (news ++ new ∷ []) → (a ≤ new.at) × (new.at < b)
  AreWithin-last a b [] new within = (within.0, within.1)
  AreWithin-last a b (n ∷ news) new within =
      let last = AreWithin-last (suc n.at) b news new within.2 in
      (omega (arith, within.0, last.0), last.1)

  -- ---- the item at a place

  or-none : (held : Option X) → option_or held None ≡ held
  or-none None = refl
  or-none (Some x) = refl

  pub item_at-append : (xs ys : List (SparseItem X)) (i : ℕ) → item_at (xs ++ ys) i ≡ option_or (item_at xs i) (item_at ys i)
  item_at-append [] ys i = refl
  item_at-append (x ∷ xs) ys i = by_test (nat_eq x.at i) (item_at-append xs ys i)
    where
      by_test : (test : Bool) → item_at (xs ++ ys) i ≡ option_or (item_at xs i) (item_at ys i)
          → (if test then Some x.item else item_at (xs ++ ys) i) ≡ option_or (if test then Some x.item else item_at xs i) (item_at ys i)
      by_test true rest = refl
      by_test false rest = rest

  -- the one that stands there, or one at another place
  pub item_at-here : (new : SparseItem X) (news : List (SparseItem X)) (i : ℕ) → new.at ≡ i → item_at (new ∷ news) i ≡ Some new.item
  item_at-here new news i is = ap (λ test. if test then Some new.item else item_at news i) (eq-eqb new.at i is)

  pub item_at-other : (new : SparseItem X) (news : List (SparseItem X)) (i : ℕ) → (new.at ≡ i → ⊥) → item_at (new ∷ news) i ≡ item_at news i
  item_at-other new news i not_here = ap (λ test. if test then Some new.item else item_at news i) (ne_eqb new.at i not_here)

  pub item_at-push : (news : List (SparseItem X)) (new : SparseItem X) (i : ℕ) → (new.at ≡ i → ⊥) → item_at (news ++ new ∷ []) i ≡ item_at news i
  item_at-push news new i not_here =
      item_at-append news (new ∷ []) i ∙ ap (λ last. option_or (item_at news i) last) (item_at-other new [] i not_here) ∙ or-none (item_at news i)

  pub item_at-before : (a b : ℕ) (news : List (SparseItem X)) (i : ℕ) → AreWithin a b news → i < a → item_at news i ≡ None
  item_at-before a b [] i within lt = refl
  item_at-before a b (new ∷ news) i within lt =
      item_at-other new news i (λ is. omega (arith, is, within.0, lt)) ∙ item_at-before (suc new.at) b news i within.2 (omega (arith, within.0, lt))

  pub item_at-behind : (a b : ℕ) (news : List (SparseItem X)) (i : ℕ) → AreWithin a b news → b ≤ i → item_at news i ≡ None
  item_at-behind a b [] i within le = refl
  item_at-behind a b (new ∷ news) i within le =
      item_at-other new news i (λ is. omega (arith, is, within.1, le)) ∙ item_at-behind (suc new.at) b news i within.2 le

  -- ---- lists that have the same at some places

  pub AgreeFor-later : (i n : ℕ) (ns ms : List (SparseItem X)) → AgreeFor i (suc n) ns ms → AgreeFor (suc i) n ns ms
  AgreeFor-later i n ns ms agree k low high = agree k (omega (arith, low)) (omega (arith, high))

  -- those that stand before these places do not matter there
  pub AgreeFor-drop_front : (a b i n : ℕ) (ns ms : List (SparseItem X)) → AreWithin a b ns → b ≤ i → AgreeFor i n (ns ++ ms) ms
  AgreeFor-drop_front a b i n ns ms within le k low high =
      item_at-append ns ms k ∙ ap (λ new. option_or new (item_at ms k)) (item_at-behind a b ns k within (omega (arith, le, low)))

  -- nor do those that stand behind them
  pub AgreeFor-drop_behind : (a b i n : ℕ) (ns ms : List (SparseItem X)) → AreWithin a b ms → i + n ≤ a → AgreeFor i n (ns ++ ms) ns
  AgreeFor-drop_behind a b i n ns ms within le k low high =
      item_at-append ns ms k ∙ ap (λ new. option_or (item_at ns k) new) (item_at-before a b ms k within (omega (arith, le, high))) ∙ or-none (item_at ns k)

  -- and those among others are alone there
  pub AgreeFor-drop_both : (a b c d i n : ℕ) (front ns behind : List (SparseItem X)) → AreWithin a b front → b ≤ i → AreWithin c d behind → i + n ≤ c → AgreeFor i n (front ++ (ns ++ behind)) ns
  AgreeFor-drop_both a b c d i n front ns behind before low after high k from to =
      AgreeFor-drop_front a b i n front (ns ++ behind) before low k from to ∙ AgreeFor-drop_behind c d i n ns behind after high k from to

  -- where all stand before these places, or all behind them, there is nothing
  pub AgreeFor-front_none : (a b i n : ℕ) (ns : List (SparseItem X)) → AreWithin a b ns → b ≤ i → AgreeFor i n ns []
  AgreeFor-front_none a b i n ns within le k low high = item_at-behind a b ns k within (omega (arith, le, low))

  pub AgreeFor-behind_none : (a b i n : ℕ) (ns : List (SparseItem X)) → AreWithin a b ns → i + n ≤ a → AgreeFor i n ns []
  AgreeFor-behind_none a b i n ns within le k low high = item_at-before a b ns k within (omega (arith, le, high))

  -- ---- put into a list

  pub length-renewed : (i : ℕ) (news : List (SparseItem X)) (xs : List X) → length (renewed i news xs) ≡ length xs
  length-renewed i news [] = refl
  length-renewed i news (x ∷ xs) = ap suc (length-renewed (suc i) news xs)

  pub renewed-none : (i : ℕ) (xs : List X) → renewed i [] xs ≡ xs
  renewed-none i [] = refl
  renewed-none i (x ∷ xs) = ap (λ us. x ∷ us) (renewed-none (suc i) xs)

  pub renewed-agree : (i : ℕ) (ns ms : List (SparseItem X)) (xs : List X) → AgreeFor i (length xs) ns ms → renewed i ns xs ≡ renewed i ms xs
  renewed-agree i ns ms [] agree = refl
  renewed-agree i ns ms (x ∷ xs) agree =
      let here : item_at ns i ≡ item_at ms i = agree i (omega arith) (omega arith) in
      λ j. unwrap_or (here j) x ∷ renewed-agree (suc i) ns ms xs (AgreeFor-later i (length xs) ns ms agree) j

  -- nothing of these stands in the list
  pub renewed-front_none : (a b i : ℕ) (news : List (SparseItem X)) (xs : List X) → AreWithin a b news → b ≤ i → renewed i news xs ≡ xs
  renewed-front_none a b i news xs within le = renewed-agree i news [] xs (AgreeFor-front_none a b i (length xs) news within le) ∙ renewed-none i xs

  pub renewed-behind_none : (a b i : ℕ) (news : List (SparseItem X)) (xs : List X) → AreWithin a b news → i + length xs ≤ a → renewed i news xs ≡ xs
  renewed-behind_none a b i news xs within le = renewed-agree i news [] xs (AgreeFor-behind_none a b i (length xs) news within le) ∙ renewed-none i xs

  -- only some of these stand in it
  pub renewed-drop_front : (a b i : ℕ) (ns ms : List (SparseItem X)) (xs : List X) → AreWithin a b ns → b ≤ i → renewed i (ns ++ ms) xs ≡ renewed i ms xs
  renewed-drop_front a b i ns ms xs within le = renewed-agree i (ns ++ ms) ms xs (AgreeFor-drop_front a b i (length xs) ns ms within le)

  pub renewed-drop_behind : (a b i : ℕ) (ns ms : List (SparseItem X)) (xs : List X) → AreWithin a b ms → i + length xs ≤ a → renewed i (ns ++ ms) xs ≡ renewed i ns xs
  renewed-drop_behind a b i ns ms xs within le = renewed-agree i (ns ++ ms) ns xs (AgreeFor-drop_behind a b i (length xs) ns ms within le)

  pub renewed-outside : (a b c d i : ℕ) (front behind : List (SparseItem X)) (xs : List X) → AreWithin a b front → b ≤ i → AreWithin c d behind → i + length xs ≤ c
      → renewed i (front ++ behind) xs ≡ xs
  renewed-outside a b c d i front behind xs before low after high =
      renewed-drop_front a b i front behind xs before low ∙ renewed-behind_none c d i behind xs after high

  pub renewed-append : (i : ℕ) (news : List (SparseItem X)) (xs ys : List X) → renewed i news (xs ++ ys) ≡ renewed i news xs ++ renewed (i + length xs) news ys
  renewed-append i news [] ys = let at : i ≡ i + 0 = omega arith in ap (λ k. renewed k news ys) at
  renewed-append i news (x ∷ xs) ys =
      let at : suc i + length xs ≡ i + suc (length xs) = omega arith in
      ap (λ us. unwrap_or (item_at news i) x ∷ us) (renewed-append (suc i) news xs ys ∙ ap (λ k. renewed (suc i) news xs ++ renewed k news ys) at)

  pub take-renewed : (n i : ℕ) (news : List (SparseItem X)) (xs : List X) → take n (renewed i news xs) ≡ renewed i news (take n xs)
  take-renewed zero i news xs = refl
  take-renewed (suc n) i news [] = refl
  take-renewed (suc n) i news (x ∷ xs) = ap (λ us. unwrap_or (item_at news i) x ∷ us) (take-renewed n (suc i) news xs)

  pub drop-renewed : (n i : ℕ) (news : List (SparseItem X)) (xs : List X) → drop n (renewed i news xs) ≡ renewed (i + n) news (drop n xs)
  drop-renewed zero i news xs = let at : i ≡ i + 0 = omega arith in ap (λ k. renewed k news xs) at
  drop-renewed (suc n) i news [] = refl
  drop-renewed (suc n) i news (x ∷ xs) =
      let at : suc i + n ≡ i + suc n = omega arith in
      drop-renewed n (suc i) news xs ∙ ap (λ k. renewed k news (drop n xs)) at

  -- nothing of these stands among the first
  pub renewed-split : (n i b : ℕ) (news : List (SparseItem X)) (xs : List X) → AreWithin (i + n) b news → renewed i news xs ≡ take n xs ++ renewed (i + n) news (drop n xs)
  renewed-split zero i b news xs within = let at : i ≡ i + 0 = omega arith in ap (λ k. renewed k news xs) at
  renewed-split (suc n) i b news [] within = refl
  renewed-split (suc n) i b news (x ∷ xs) within =
      let at : suc i + n ≡ i + suc n = omega arith in
      let here = item_at-before (i + suc n) b news i within (omega arith) in
      let later = AreWithin-wider (i + suc n) b (suc i + n) b news (omega arith) (omega arith) within in
      (λ j. unwrap_or (here j) x ∷ renewed-split n (suc i) b news xs later j) ∙ ap (λ k. x ∷ (take n xs ++ renewed k news (drop n xs))) at

  -- ---- one item put at its place, behind all others

  -- the first of them
  pub renewed-set : (i a : ℕ) (new : SparseItem X) (news : List (SparseItem X)) (zs : List X) → new.at ≡ i + a → renewed i (new ∷ news) zs ≡ set (renewed i news zs) a new.item
  renewed-set i a new news [] at = refl
  renewed-set i zero new news (z ∷ zs) at =
      let here = item_at-here new news i (omega (arith, at)) in
      let later = renewed-agree (suc i) (new ∷ news) news zs (λ k low high. item_at-other new news k (λ is. omega (arith, at, is, low))) in
      λ j. unwrap_or (here j) z ∷ later j
  renewed-set i (suc a) new news (z ∷ zs) at =
      let here = item_at-other new news i (λ is. omega (arith, at, is)) in
      let later = renewed-set (suc i) a new news zs (omega (arith, at)) in
      λ j. unwrap_or (here j) z ∷ later j

  -- the last of them
  pub renewed-push : (i a : ℕ) (news : List (SparseItem X)) (new : SparseItem X) (zs : List X) → new.at ≡ i + a → renewed i (news ++ new ∷ []) zs ≡ renewed i news (set zs a new.item)
  renewed-push i a news new [] at = refl
  renewed-push i zero news new (z ∷ zs) at =
      let here = item_at-append news (new ∷ []) i ∙ ap (λ last. option_or (item_at news i) last) (item_at-here new [] i (omega (arith, at))) in
      let later = renewed-agree (suc i) (news ++ new ∷ []) news zs (λ k low high. item_at-push news new k (λ is. omega (arith, at, is, low))) in
      λ j. (ap (λ held. unwrap_or held z) here ∙ given (item_at news i)) j ∷ later j
    where
      given : (held : Option X) → unwrap_or (option_or held (Some new.item)) z ≡ unwrap_or held new.item
      given None = refl
      given (Some x) = refl
  renewed-push i (suc a) news new (z ∷ zs) at =
      let here = item_at-push news new i (λ is. omega (arith, at, is)) in
      let later = renewed-push (suc i) a news new zs (omega (arith, at)) in
      λ j. unwrap_or (here j) z ∷ later j

  -- ---- one item more in front, if a test passes

  pub length-one : (test : Bool) (i : ℕ) (x : X) (rest : List (SparseItem X)) → length (one_if test i x ++ rest) ≡ (if test then 1 else 0) + length rest
  length-one true i x rest = omega arith
  length-one false i x rest = omega arith

  pub AreWithin-one : (test : Bool) (i b : ℕ) (x : X) (rest : List (SparseItem X)) → i < b → AreWithin (suc i) b rest → AreWithin i b (one_if test i x ++ rest)
  AreWithin-one true i b x rest lt within = (omega arith, lt, within)
  AreWithin-one false i b x rest lt within = AreWithin-wider (suc i) b i b rest (omega arith) (omega arith) within

  pub item_at-one : (test : Bool) (i b : ℕ) (x : X) (rest : List (SparseItem X)) → AreWithin (suc i) b rest → item_at (one_if test i x ++ rest) i ≡ (if test then Some x else None)
  item_at-one true i b x rest within = item_at-here (record { at = i; item = x }) rest i refl
  item_at-one false i b x rest within = item_at-before (suc i) b rest i within (omega arith)

  pub item_at-past : (test : Bool) (i k : ℕ) (x : X) (rest : List (SparseItem X)) → i < k → item_at (one_if test i x ++ rest) k ≡ item_at rest k
  item_at-past true i k x rest lt = item_at-other (record { at = i; item = x }) rest k (λ is. omega (arith, lt, is))
  item_at-past false i k x rest lt = refl

  pub renewed-one : (test : Bool) (i b : ℕ) (x y : X) (rest : List (SparseItem X)) (ys : List X) → AreWithin (suc i) b rest
      → renewed i (one_if test i x ++ rest) (y ∷ ys) ≡ (if test then x else y) ∷ renewed (suc i) rest ys
  renewed-one test i b x y rest ys within =
      let here = item_at-one test i b x rest within in
      let later = renewed-agree (suc i) (one_if test i x ++ rest) rest ys (λ k low high. item_at-past test i k x rest low) in
      λ j. (ap (λ held. unwrap_or held y) here ∙ given test) j ∷ later j
    where
      given : (test : Bool) → unwrap_or (if test then Some x else None) y ≡ (if test then x else y)
      given true = refl
      given false = refl
