-- Marks of keys, one after another.
use Rattle.std.proofs.Common.{arith, ◌≡◌, ℕ, ◌+◌, ◌-◌, ◌*◌, ◌/◌, ◌%◌, ◌^◌, ◌<◌, ◌≤◌, refl, sym, ap, subst, ◌∙◌, true, false, ◌&&◌, ◌⊎◌, ◌≢◌, inl, inr, List, [], ◌∷◌, ◌++◌, length, get_or, set, take, replicate, append-nil, bit_or}
use Rattle.std.specs.Prelude.{map, flat_map, nat_eq}
use Rattle.std.specs.List.{list_all}
use Rattle.std.specs.Int.{bit_at}
use Rattle.std.proofs.lemmas.Bool.{eqb-true, eq-eqb, and_parts, and_from, cases_eq, cases_lt}
use Rattle.std.proofs.lemmas.Grind.{flat_map-append}
use Rattle.std.proofs.lemmas.List.{length-set, get_or-set_same, get_or-set_other, get_or_past, get_or-replicate, take_more, take_all, map_more, map-append}
use Rattle.std.proofs.lemmas.List.Folds.{list_all-append}
use Rattle.std.proofs.lemmas.Nat.Bits.{bit_at-lt, bit_at-zero, bit_at_or, bit_at_ones, bit_at-pow_same}
use Rattle.std.proofs.lemmas.Nat.{one_shl}
use Rattle.cps_text.specs.declared.name.Name.{Name}
use Rattle.cps_state.specs.declared.hashing.Hashing.{Hashing}
use Rattle.cps_state.specs.declared.key.Key.{Key}
use Rattle.cps_state.specs.declared.key.Key.TheVariants as key
use Rattle.cps_state.specs.Course.{Trace}
use Rattle.cps_chunk.specs.declared.key_filter.KeyFilter.{KeyFilter}
use Rattle.cps_chunk.specs.KeyFilter.{mark_of, is_set, has, AreMarked, HasAll, HasBits}

-- ---- one bit

-- a bit of one of two words is one of both together
or-left : (a b i : ℕ) → bit_at a i ≡ 1 → bit_at (bit_or a b) i ≡ 1
or-left a b i one = bit_at_or a b i ∙ omega (arith, one, bit_at-lt b i)

or-right : (a b i : ℕ) → bit_at b i ≡ 1 → bit_at (bit_or a b) i ≡ 1
or-right a b i one = bit_at_or a b i ∙ omega (arith, one, bit_at-lt a i)

-- `1 << i`
pub one-bit : (i : ℕ) → i < 64 → bit_at (1 * 2 ^ i % 2 ^ 64) i ≡ 1
one-bit i lt = ap (λ x. bit_at x i) (one_shl i 64 lt) ∙ bit_at-pow_same i

-- with the bits of one word more
abbrev pub joined : KeyFilter → ℕ → ℕ → KeyFilter
joined m j w = record { bits = set m.bits j (bit_or (get_or m.bits j 0) w) }

module _ (m : KeyFilter) (j w : ℕ) (lt : j < length m.bits) where
  there : get_or (joined m j w).bits j 0 ≡ bit_or (get_or m.bits j 0) w
  there = get_or-set_same m.bits j (bit_or (get_or m.bits j 0) w) 0 lt

  pub joined-keeps : HasBits m (joined m j w)
  joined-keeps n one = at (cases_eq (n / 64) j)
    where
      bit : bit_at (get_or m.bits (n / 64) 0) (n % 64) ≡ 1
      bit = eqb-true (bit_at (get_or m.bits (n / 64) 0) (n % 64)) 1 one

      at : (n / 64 ≡ j) ⊎ (n / 64 ≢ j) → is_set (joined m j w) n ≡ true
      at (inl same) =
          let here : bit_at (get_or m.bits j 0) (n % 64) ≡ 1 = ap (λ i. bit_at (get_or m.bits i 0) (n % 64)) (sym same) ∙ bit in
          eq-eqb _ 1 (ap (λ i. bit_at (get_or (joined m j w).bits i 0) (n % 64)) same ∙ ap (λ x. bit_at x (n % 64)) there ∙ or-left (get_or m.bits j 0) w (n % 64) here)
      at (inr apart) = eq-eqb _ 1 (ap (λ x. bit_at x (n % 64)) (get_or-set_other m.bits j (n / 64) (bit_or (get_or m.bits j 0) w) 0 apart) ∙ bit)

  pub joined-set : (n : ℕ) → n / 64 ≡ j → bit_at w (n % 64) ≡ 1 → is_set (joined m j w) n ≡ true
  joined-set n same one =
      eq-eqb _ 1 (ap (λ i. bit_at (get_or (joined m j w).bits i 0) (n % 64)) same ∙ ap (λ x. bit_at x (n % 64)) there ∙ or-right (get_or m.bits j 0) w (n % 64) one)

-- a mark is two bits
pub bits-all : (old new : KeyFilter) → HasBits old new → HasAll old new
bits-all old new kept mark there =
    let parts = and_parts (is_set old (mark / 2048)) (is_set old (mark % 2048)) there in
    and_from (is_set new (mark / 2048)) (is_set new (mark % 2048)) (kept (mark / 2048) parts.0) (kept (mark % 2048) parts.1)

-- ---- words of two, one after another

-- the first words are joined
pub record AreJoined (old other new : KeyFilter) (i : ℕ) : Type 0 where
  pub long : length new.bits ≡ 32
  pub kept : HasBits old new
  pub first : (n : ℕ) → n / 64 < i → is_set other n ≡ true → is_set new n ≡ true

pub joined-none : (m other : KeyFilter) → length m.bits ≡ 32 → AreJoined m other m 0
joined-none m other long = record { long = long; kept = λ n h. h; first = λ n lt h. absurd (omega arith) }

pub joined-more : (old other now : KeyFilter) (i : ℕ) → i < 32 → AreJoined old other now i → AreJoined old other (joined now i (get_or other.bits i 0)) (i + 1)
joined-more old other now i small was = record {
  long = length-set now.bits i (bit_or (get_or now.bits i 0) (get_or other.bits i 0)) ∙ was.long;
  kept = λ n h. joined-keeps now i (get_or other.bits i 0) lt n (was.kept n h);
  first = λ n below h. at n below h (cases_eq (n / 64) i);
}
  where
    lt : i < length now.bits
    lt = omega (arith, was.long)

    at : (n : ℕ) → n / 64 < i + 1 → is_set other n ≡ true → (n / 64 ≡ i) ⊎ (n / 64 ≢ i) → is_set (joined now i (get_or other.bits i 0)) n ≡ true
    at n below h (inl same) =
        joined-set now i (get_or other.bits i 0) lt n same
        (ap (λ k. bit_at (get_or other.bits k 0) (n % 64)) (sym same) ∙ eqb-true (bit_at (get_or other.bits (n / 64) 0) (n % 64)) 1 h)
    at n below h (inr apart) = joined-keeps now i (get_or other.bits i 0) lt n (was.first n (omega arith) h)

-- all words are joined
pub joined-all : (old other new : KeyFilter) (i : ℕ) → length other.bits ≤ i → AreJoined old other new i → HasAll other new
joined-all old other new i past was = bits-all other new here
  where
    here : HasBits other new
    here n h = at (cases_lt (n / 64) i)
      where
        at : (n / 64 < i) ⊎ (i ≤ n / 64) → is_set new n ≡ true
        at (inl lt) = was.first n lt h
        at (inr ge) =
            let none : bit_at (get_or other.bits (n / 64) 0) (n % 64) ≡ 0 = ap (λ w. bit_at w (n % 64)) (get_or_past other.bits (n / 64) 0 (omega arith)) ∙ bit_at-zero (n % 64) in
            absurd (omega (arith, none, eqb-true (bit_at (get_or other.bits (n / 64) 0) (n % 64)) 1 h))

-- ---- all marks

pub mark-bound : (hashing : Hashing) (k : Key) → mark_of hashing k < 2 ^ 22
unfolding mark_of
mark-bound hashing k = omega arith

abbrev full : KeyFilter
full = record { bits = replicate 32 (2 ^ 64 - 1) }

full-set : (n : ℕ) → n < 2048 → is_set full n ≡ true
full-set n lt =
    let word : get_or (replicate 32 (2 ^ 64 - 1)) (n / 64) 0 ≡ 2 ^ 64 - 1 = get_or-replicate 32 (n / 64) (2 ^ 64 - 1) 0 (omega arith) in
    eq-eqb _ 1 (ap (λ w. bit_at w (n % 64)) word ∙ bit_at_ones 64 (n % 64) (omega arith))

full-has : (mark : ℕ) → mark < 2 ^ 22 → has full mark ≡ true
full-has mark lt = and_from (is_set full (mark / 2048)) (is_set full (mark % 2048)) (full-set (mark / 2048) (omega (arith, lt))) (full-set (mark % 2048) (omega arith))

pub full-marked : (hashing : Hashing) (keys : List Key) → AreMarked hashing full keys
full-marked hashing [] = refl
full-marked hashing (k ∷ keys) = and_from _ _ (full-has (mark_of hashing k) (mark-bound hashing k)) (full-marked hashing keys)

-- ---- no mark

abbrev no-bits : List ℕ
no-bits = replicate 32 0

none-set : (n : ℕ) → is_set (record { bits = no-bits }) n ≡ false
none-set n = ap (λ w. nat_eq (bit_at w (n % 64)) 1) (at (cases_lt (n / 64) 32)) ∙ ap (λ b. nat_eq b 1) (bit_at-zero (n % 64))
  where
    at : (n / 64 < 32) ⊎ (32 ≤ n / 64) → get_or no-bits (n / 64) 0 ≡ 0
    at (inl lt) = get_or-replicate 32 (n / 64) 0 0 lt
    at (inr ge) = get_or_past no-bits (n / 64) 0 ge

pub none-has : (mark : ℕ) → has (record { bits = no-bits }) mark ≡ false
none-has mark = ap (λ b. b && is_set (record { bits = no-bits }) (mark % 2048)) (none-set (mark / 2048))

-- ---- keys, one after another

-- these keys were marked, and no mark was lost
pub record WereMarked (hashing : Hashing) (old new : KeyFilter) (keys : List Key) : Type 0 where
  pub kept : HasAll old new
  pub marked : AreMarked hashing new keys

module _ (hashing : Hashing) where
  pub marked-still : (old new : KeyFilter) (keys : List Key) → HasAll old new → AreMarked hashing old keys → AreMarked hashing new keys
  marked-still old new [] kept marked = refl
  marked-still old new (k ∷ keys) kept marked =
      let parts = and_parts (has old (mark_of hashing k)) (list_all (λ q. has old (mark_of hashing q)) keys) marked in
      and_from _ _ (kept (mark_of hashing k) parts.0) (marked-still old new keys kept parts.1)

  pub marked-append : (m : KeyFilter) (keys more : List Key) → AreMarked hashing m keys → AreMarked hashing m more → AreMarked hashing m (keys ++ more)
  marked-append m keys more one two =
      list_all-append (λ k. has m (mark_of hashing k)) keys more ∙ and_from _ _ one two

  pub marked-parts : (m : KeyFilter) (keys more : List Key) → AreMarked hashing m (keys ++ more) → AreMarked hashing m keys × AreMarked hashing m more
  marked-parts m keys more all = and_parts _ _ (sym (list_all-append (λ k. has m (mark_of hashing k)) keys more) ∙ all)

  -- those of one line
  pub marked-line : (m : KeyFilter) (f : Trace → List Key) (t : Trace) → AreMarked hashing m (f t) → AreMarked hashing m (flat_map f (t ∷ []))
  marked-line m f t marked = subst (AreMarked hashing m) (sym (append-nil (f t))) marked

  more : (old mid new : KeyFilter) (keys next : List Key) → WereMarked hashing old mid keys → HasAll mid new → AreMarked hashing new next → WereMarked hashing old new (keys ++ next)
  more old mid new keys next was kept marked = record {
    kept = λ n h. kept n (was.kept n h);
    marked = marked-append new keys next (marked-still mid new keys kept was.marked) marked;
  }

  -- one key more
  pub key-more : {X : Type 0} (f : X → Key) (xs : List X) (i : ℕ) (x : X) (old mid new : KeyFilter) → i < length xs → x ≡ get_or xs i x → WereMarked hashing old mid (map f (take i xs))
      → has new (mark_of hashing (f x)) ≡ true → HasAll mid new → WereMarked hashing old new (map f (take (i + 1) xs))
  key-more f xs i x old mid new lt is was marked kept =
      let all : map f (take (i + 1) xs) ≡ map f (take i xs) ++ f x ∷ [] = map_more f xs i x lt ∙ ap (λ y. map f (take i xs) ++ f y ∷ []) (sym is) in
      subst (WereMarked hashing old new) (sym all) (more old mid new (map f (take i xs)) (f x ∷ []) was kept (and_from _ _ marked refl))

  -- the labels of one thing more
  pub names-more : {X : Type 0} (f : X → List Name) (xs : List X) (i : ℕ) (x : X) (old mid new : KeyFilter) → i < length xs → x ≡ get_or xs i x
      → WereMarked hashing old mid (map key.Label (flat_map f (take i xs))) → AreMarked hashing new (map key.Label (f x)) → HasAll mid new
      → WereMarked hashing old new (map key.Label (flat_map f (take (i + 1) xs)))
  names-more f xs i x old mid new lt is was marked kept =
      let whole : take (i + 1) xs ≡ take i xs ++ x ∷ [] = take_more xs i x lt ∙ ap (λ y. take i xs ++ y ∷ []) (sym is) in
      let all : map key.Label (flat_map f (take (i + 1) xs)) ≡ map key.Label (flat_map f (take i xs)) ++ map key.Label (f x) =
      ap (λ ys. map key.Label (flat_map f ys)) whole ∙ ap (map key.Label) (flat_map-append f (take i xs) (x ∷ []) ∙ ap (λ ns. flat_map f (take i xs) ++ ns) (append-nil (f x)))
      ∙ map-append key.Label (flat_map f (take i xs)) (f x) in
      subst (WereMarked hashing old new) (sym all) (more old mid new (map key.Label (flat_map f (take i xs))) (map key.Label (f x)) was kept marked)

  -- all of them
  pub keys-all : {X : Type 0} (f : X → Key) (xs ys : List X) (i : ℕ) (old new : KeyFilter) → length xs ≤ i → xs ≡ ys → WereMarked hashing old new (map f (take i xs)) → AreMarked hashing new (map f ys)
  keys-all f xs ys i old new past same was = subst (λ us. AreMarked hashing new (map f us)) (take_all i xs past ∙ same) was.marked

  pub names-all : {X : Type 0} (f : X → List Name) (xs ys : List X) (i : ℕ) (old new : KeyFilter) → length xs ≤ i → xs ≡ ys → WereMarked hashing old new (map key.Label (flat_map f (take i xs)))
      → AreMarked hashing new (map key.Label (flat_map f ys))
  names-all f xs ys i old new past same was = subst (λ us. AreMarked hashing new (map key.Label (flat_map f us))) (take_all i xs past ∙ same) was.marked
