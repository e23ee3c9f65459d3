-- The order of names, and lists of mentions in it.
use Rattle.std.proofs.Common.{◌≡◌, suc, ◌+◌, true, false, true≢false, not, ◌&&◌, ◌||◌, refl, sym, ap, ◌∙◌, List, [], ◌∷◌, arith}
use Rattle.std.specs.Prelude.{⊤, map, filter, flat_map, Option, None, Some, is_some}
use Rattle.std.specs.declared.cmp.Ordering.{Ordering}
use Rattle.std.specs.declared.cmp.Ordering.TheVariants.{Less, Equal, Greater}
use Rattle.std.specs.List.{list_any}
use Rattle.std.specs.List.Sorted.{IsPermutation, IsSortedByKey, IsStableByKey}
use Rattle.std.specs.Ordering.{is_lt, is_eq, ordering_reverse, eq_by_cmp, nat_cmp}
use Rattle.std.specs.Cmp.{IsTotalOrder, Equal-is, unsigned_ties, on_total, tied_itself, alike_right}
use Rattle.std.specs.Cmp.Lexicographic.{nat_list_cmp_total, lists_ties}
use Rattle.std.specs.FinMap.{IsAntisymmetric, nat_cmp-IsAntisymmetric, slice_cmp-IsAntisymmetric, keys, find, get-from_entries, same_map}
use Rattle.std.specs.FinMap.Entries.{is_some-find}
use Rattle.std.proofs.lemmas.List.Sorted.{list_any-IsPermutation}
use Rattle.cps_text.specs.declared.name.Name.{Name}
use Rattle.cps_expr.specs.Value.{same_name}
use Rattle.cps_final.specs.Finals.{Finals}
use Rattle.cps_list.specs.declared.mention.Mention.{Mention}
use Rattle.cps_list.specs.Symbols.{mentions_of, name_order, symbol_set, symbols_in, row_of, symbol_rows}

-- ---- names

pub name_total : IsTotalOrder name_order
name_total = on_total (λ (n : Name). n.bytes) nat_list_cmp_total

pub name_is : IsAntisymmetric name_order
name_is a b tied = let bytes = slice_cmp-IsAntisymmetric nat_cmp-IsAntisymmetric a.bytes b.bytes tied in λ i. record { bytes = bytes i }

pub same-tied : (a b : Name) → same_name a b ≡ eq_by_cmp name_order a b
same-tied a b = lists_ties nat_cmp unsigned_ties a.bytes b.bytes

pub same-is : (a b : Name) → same_name a b ≡ true → a ≡ b
same-is a b same = name_is a b ((Equal-is (name_order a b)).0 (sym (same-tied a b) ∙ same))

pub same-itself : (a : Name) → same_name a a ≡ true
same-itself a = same-tied a a ∙ ap is_eq (tied_itself name_total a)

-- a name that stands after another is not the same
pub same-not : (a b : Name) → name_order a b ≡ Less → same_name b a ≡ false
same-not a b below = same-tied b a ∙ ap is_eq (name_total.antisymm b a ∙ ap ordering_reverse below)

-- a name above one is above each that ties with that
pub above-tied : (n a b : Name) → name_order a b ≡ Equal → name_order n b ≡ Less → name_order n a ≡ Less
above-tied n a b tied below = alike_right name_total a b n tied ∙ below

-- ---- a stable sort by the names

tie-by : (r : Ordering) → (not (is_lt r) && not (is_lt (ordering_reverse r))) ≡ is_eq (ordering_reverse r)
tie-by Less = refl
tie-by Equal = refl
tie-by Greater = refl

ties-same : (a b : Name) → (not (is_lt (name_order a b)) && not (is_lt (name_order b a))) ≡ same_name b a
ties-same a b =
    ap (λ r. not (is_lt (name_order a b)) && not (is_lt r)) (name_total.antisymm b a)
    ∙ tie-by (name_order a b) ∙ ap is_eq (sym (name_total.antisymm b a)) ∙ sym (same-tied b a)

abbrev mention_of : Name → Mention
mention_of name = record { name = name; line = 0; is_definition = false }

mentions-stable : (xs ys : List Mention) → IsStableByKey (λ (m : Mention). m.name) name_order xs ys → (n : Name) → mentions_of n ys ≡ mentions_of n xs
mentions-stable xs ys stable n =
    (λ i. filter (λ (m : Mention). sym (ties-same n m.name) i) ys) ∙ stable (mention_of n) ∙ (λ i. filter (λ (m : Mention). ties-same n m.name i) xs)

-- ---- the set of the symbols

abbrev pub entry : Mention → Name × Unit {0}
entry m = (m.name, tt)

-- nothing stands beside a symbol, so that it is there is all that can be found
same-found : (a b : Option (Unit {0})) → is_some a ≡ is_some b → a ≡ b
same-found None None same = refl
same-found None (Some y) same = absurd (true≢false (sym same))
same-found (Some x) None same = absurd (true≢false same)
same-found (Some x) (Some y) same = refl

pub any-entry : (q : Name) (ms : List Mention) → list_any (eq_by_cmp name_order q) (map (λ (e : Name × Unit {0}). e.0) (map entry ms)) ≡ list_any (λ (m : Mention). eq_by_cmp name_order q m.name) ms
any-entry q [] = refl
any-entry q (m ∷ ms) = ap (λ b. eq_by_cmp name_order q m.name || b) (any-entry q ms)

pub found-any : (q : Name) (ms : List Mention) → is_some (find name_order q (map entry ms)) ≡ list_any (λ (m : Mention). eq_by_cmp name_order q m.name) ms
found-any q ms = is_some-find name_order q (map entry ms) ∙ any-entry q ms

symbols-moved : (xs ys : List Mention) → IsPermutation xs ys → symbols_in ys ≡ symbols_in xs
symbols-moved xs ys moved =
    ap keys (same_map name_total name_is (symbol_set ys) (symbol_set xs) (λ q.
    get-from_entries name_total (map entry ys) q
    ∙ same-found _ _ (found-any q ys ∙ sym (list_any-IsPermutation (λ (m : Mention). eq_by_cmp name_order q m.name) xs ys moved) ∙ sym (found-any q xs))
    ∙ sym (get-from_entries name_total (map entry xs) q)))

-- the rows are the same
pub rows-sorted : (finals : Finals) (xs ys : List Mention) → IsPermutation xs ys → IsStableByKey (λ (m : Mention). m.name) name_order xs ys
    → symbol_rows finals ys ≡ symbol_rows finals xs
rows-sorted finals xs ys moved stable = λ i. flat_map (λ n. row_of finals n (mentions-stable xs ys stable n i)) (symbols-moved xs ys moved i)

-- ---- mentions in the order of their names

-- the first of some mentions has no name below one
abbrev pub NotBelow : Name → List Mention → Type 0
NotBelow n [] = ⊤
NotBelow n (m ∷ ms) = is_lt (name_order m.name n) ≡ false

abbrev pub Rising : List Mention → Type 0
Rising [] = ⊤
Rising (m ∷ ms) = NotBelow m.name ms × Rising ms

pub rising-sorted : (ms : List Mention) → IsSortedByKey (λ (m : Mention). m.name) name_order ms → Rising ms
rising-sorted [] sorted = tt
rising-sorted (m ∷ []) sorted = (tt, tt)
rising-sorted (m ∷ n ∷ ms) sorted = (
  sorted 0 m (omega arith) (omega arith),
  rising-sorted (n ∷ ms) (λ k d low high. let next : suc k + 1 ≡ suc (k + 1) = omega arith in
      rw next at (sorted (suc k) d (omega arith) (omega arith))),
)

-- each name is above one
abbrev pub Above : Name → List Mention → Type 0
Above n [] = ⊤
Above n (m ∷ ms) = (name_order n m.name ≡ Less) × Above n ms

-- what is not below a name above n is above n
above-by : (n a b : Name) (r : Ordering) → name_order n a ≡ Less → name_order b a ≡ r → is_lt r ≡ false → name_order n b ≡ Less
above-by n a b Less below is not_less = cc
above-by n a b Equal below is not_less = above-tied n b a is below
above-by n a b Greater below is not_less = name_total.trans n a b below (name_total.antisymm a b ∙ ap ordering_reverse is)

above-next : (n a : Name) (ms : List Mention) → name_order n a ≡ Less → NotBelow a ms → Rising ms → Above n ms
above-next n a [] below first rising = tt
above-next n a (m ∷ ms) below first rising =
    let here = above-by n a m.name (name_order m.name a) below refl first in
    (here, above-next n m.name ms here rising.0 rising.1)

-- a name that is not below n and not the same is above n
above-other : (n a : Name) (r : Ordering) → name_order a n ≡ r → is_lt r ≡ false → is_eq r ≡ false → name_order n a ≡ Less
above-other n a Less is not_less other = cc
above-other n a Equal is not_less other = cc
above-other n a Greater is not_less other = name_total.antisymm n a ∙ ap ordering_reverse is

pub above-first : (n : Name) (m : Mention) (ms : List Mention) → is_lt (name_order m.name n) ≡ false → same_name m.name n ≡ false → Rising (m ∷ ms) → Above n (m ∷ ms)
above-first n m ms not_less other rising =
    let here = above-other n m.name (name_order m.name n) refl not_less (sym (same-tied m.name n) ∙ other) in
    (here, above-next n m.name ms here rising.0 rising.1)
