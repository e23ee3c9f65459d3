-- Layouts: with the words that one more put gives, and of maps with the same entries.
use Rattle.std.proofs.Common.{◌≡◌, ℕ, ◌+◌, ◌<◌, ◌≤◌, Bool, true, false, cond, ◌||◌, List, [], ◌∷◌, ◌++◌, length, get_or, drop, take, Option, None, Some, max, refl, sym, ap, ◌∙◌, arith}
use Rattle.std.specs.Prelude.{option_map, unwrap_or, position, if◌then◌else◌, ◌&&◌, ◌==◌}
use Rattle.std.specs.Cmp.{IsEquivalence}
use Rattle.std.specs.Cmp.Lexicographic.{pointwise, bytes_decides}
use Rattle.std.specs.List.{list_any, sum_by, slice_get}
use Rattle.std.specs.Map.{keys_of, lookup}
use Rattle.std.specs.HashMap.Eq.{lookup_congr}
use Rattle.std.proofs.lemmas.Bool.{and_parts, eqb-true}
use Rattle.std.proofs.lemmas.Cmp.{nat_list_eq_equiv}
use Rattle.std.proofs.lemmas.List.{drop_more, length-append, take_more}
use Rattle.std.proofs.lemmas.List.Sums.{sum_by-append}
use Rattle.std.proofs.lemmas.List.Folds.{list_any_at}
use Rattle.std.proofs.lemmas.List.Quantifiers.{position-Some}
use Rattle.std.proofs.lemmas.Map.Entries.{hash_map_get_place}
use Rattle.std.proofs.lemmas.Option.{slice_get_within, get_or_from_slice_get, slice_get-get_or, slice_get-map}
use Rattle.indexmap.specs.IndexMap.{IndexMap, keys, values, get, insert_entry, with_value_at, IsUnique, Updates}
use Rattle.indexmap.proofs.CallerLemmas.{keys-with_value_at, updates-with_value_at}
use Rattle.indexmap.specs.IndexSet.{insert_key, insert_all}
use Rattle.cps_text.specs.declared.name.Name.{Name}
use Rattle.cps_expr.specs.declared.machine.Machine.TheVariants.{Cp}
use Rattle.cps_expr.specs.Value.{same_name}
use Rattle.cps_state.specs.declared.key.Put.{Put}
use Rattle.cps_state.specs.declared.key.Key.{Key}
use Rattle.cps_state.specs.declared.key.Key.TheVariants as key
use Rattle.cps_state.specs.Keys.{same_block, same_key, place_of}
use Rattle.cps_final.specs.Layout.{Layout, words_before, named_by, names_put}
use Rattle.cps_final.specs.Finals.{words_of_first}
use Rattle.cps_final.specs.Code.Gathering.{size_kept, layout_kept, grown, grown_by, grown_to}
use Rattle.cps_final.specs.Code.Storage.{AreSameNamed}

pub same_name-laws : IsEquivalence same_name
same_name-laws = record {
  refl = λ x. nat_list_eq_equiv.refl x.bytes;
  symm = λ x y. nat_list_eq_equiv.symm x.bytes y.bytes;
  congr = λ x y z. nat_list_eq_equiv.congr x.bytes y.bytes z.bytes;
}

pub same_name-is : (a b : Name) → same_name a b ≡ true → a ≡ b
same_name-is a b same = let bytes = (bytes_decides a.bytes b.bytes).0 same in λ i. record { bytes = bytes i }

-- the keys of a map in which one more was inserted
module _ {K X : Type 0} (eq : K → K → Bool) (k : K) (v : X) where
  behind : (e : K) (ks : List K) (b : Bool) → e ∷ (if b then ks else ks ++ k ∷ []) ≡ (if b then e ∷ ks else e ∷ ks ++ k ∷ [])
  behind e ks true = refl
  behind e ks false = refl

  at_entry : (e : K × X) (es : List (K × X)) (b : Bool) → keys_of (insert_entry eq es k v) ≡ insert_key eq (keys_of es) k
      → keys_of (if b then (e.0, v) ∷ es else e ∷ insert_entry eq es k v) ≡ (if b || list_any (eq k) (keys_of es) then e.0 ∷ keys_of es else e.0 ∷ keys_of es ++ k ∷ [])
  at_entry e es true rest = refl
  at_entry e es false rest = ap (λ ks. e.0 ∷ ks) rest ∙ behind e.0 (keys_of es) (list_any (eq k) (keys_of es))

  pub keys-insert_entry : (es : List (K × X)) → keys_of (insert_entry eq es k v) ≡ insert_key eq (keys_of es) k
  keys-insert_entry [] = refl
  keys-insert_entry (e ∷ es) = at_entry e es (eq k e.0) (keys-insert_entry es)

max-zero : (n : ℕ) → n ≡ max n 0
max-zero n = omega arith

-- the size of one block where one is inserted
module _ {S : Type 0} (old new : IndexMap Name ℕ S) (name : Name) (words size : ℕ) (is : size ≡ max (unwrap_or (get same_name old name) 0) words) where
  size-at : (other : Name) (b : Bool) → same_name name other ≡ b
      → unwrap_or (cond b (Some size) (get same_name old other)) 0 ≡ max (unwrap_or (get same_name old other) 0) (if b then words else 0)
  size-at other true same =
      is ∙ ap (λ (o : Option ℕ). max (unwrap_or o 0) words) (lookup_congr same_name same_name-laws.congr old.entries name other same)
  size-at other false same = max-zero _

  size-inserted : (nominal : ℕ) (block : Option Name) → Updates same_name old new name (Some size)
      → size_kept nominal (get same_name new) block ≡ max (size_kept nominal (get same_name old) block) (if same_block block (Some name) then words else 0)
  size-inserted nominal None updates = max-zero nominal
  size-inserted nominal (Some other) updates =
      ap (λ (o : Option ℕ). unwrap_or o 0) (updates.0 other) ∙ size-at other (same_name name other) refl
      ∙ ap (λ (b : Bool). max (unwrap_or (get same_name old other) 0) (if b then words else 0)) (same_name-laws.symm name other)

  pub layout-inserted : (nominal : ℕ) → Updates same_name old new name (Some size) → new.entries ≡ insert_entry same_name old.entries name size
      → layout_kept nominal new ≡ grown_to (layout_kept nominal old) (Some name) words
  layout-inserted nominal updates entries =
      let named : keys new ≡ insert_key same_name (keys old) name = ap keys_of entries ∙ keys-insert_entry same_name name size old.entries in
      λ i. record { named = named i; size = λ block. size-inserted nominal block updates i }

-- the entry at a place is the name and the words there
entry-at : {S : Type 0} (m : IndexMap Name ℕ S) (i : ℕ) (name : Name) (size : ℕ) → slice_get (keys m) i ≡ Some name → Some size ≡ slice_get (values m) i
    → slice_get m.entries i ≡ Some (name, size)
entry-at m i name size name-is size-is =
    by (slice_get m.entries i) (sym (slice_get-map (λ (e : Name × ℕ). e.0) m.entries i) ∙ name-is)
    (size-is ∙ slice_get-map (λ (e : Name × ℕ). e.1) m.entries i)
  where
    by : (o : Option (Name × ℕ)) → option_map (λ e. e.0) o ≡ Some name → Some size ≡ option_map (λ e. e.1) o → o ≡ Some (name, size)
    by None no-name no-size = cc
    by (Some e) name-is size-is = λ j. Some (unwrap_or (name-is j) name, unwrap_or (sym size-is j) size)

-- more words are written where the name stands
module _ {S : Type 0} (m : IndexMap Name ℕ S) (i : ℕ) (name : Name) (size words written : ℕ) where
  pub layout-written : (nominal : ℕ) → IsUnique same_name m → Some i ≡ position (same_name name) (keys m) → Some size ≡ slice_get (values m) i
      → written ≡ max size words → layout_kept nominal (with_value_at m i written) ≡ grown_to (layout_kept nominal m) (Some name) words
  layout-written nominal unique found was is =
      let place = position-Some (same_name name) (keys m) i name (sym found) in
      let here : name ≡ get_or (keys m) i name = same_name-is name (get_or (keys m) i name) place.1 in
      let name-is : slice_get (keys m) i ≡ Some name = slice_get-get_or (keys m) i name place.0 ∙ ap Some (sym here) in
      let entry = entry-at m i name size name-is was in
      let known : get same_name m name ≡ Some size = hash_map_get_place same_name-laws m i name size unique entry in
      let enough : written ≡ max (unwrap_or (get same_name m name) 0) words = is ∙ ap (λ (o : Option ℕ). max (unwrap_or o 0) words) (sym known) in
      let updates = updates-with_value_at m i written same_name-laws unique name size entry in
      let there : list_any (same_name name) (keys m) ≡ true = list_any_at (same_name name) (keys m) i name place.0 place.1 in
      let named : keys (with_value_at m i written) ≡ insert_key same_name (keys m) name =
      keys-with_value_at m i written ∙ sym (ap (λ (b : Bool). if b then keys m else keys m ++ name ∷ []) there) in
      λ j. record { named = named j; size = λ block. size-inserted m (with_value_at m i written) name words written enough nominal block updates j }

-- one put of the list is made
pub grown-next : (layout before end : Layout) (puts : List Put) (i : ℕ) (p : Put) → i < length puts → p ≡ get_or puts i p → layout ≡ grown before p
    → grown_by before (drop i puts) ≡ end → grown_by layout (drop (i + 1) puts) ≡ end
grown-next layout before end puts i p lt is made so_far =
    ap (λ (l : Layout). grown_by l (drop (i + 1) puts)) (made ∙ ap (grown before) is) ∙ sym (ap (grown_by before) (drop_more puts i p lt)) ∙ so_far

-- and its named block is counted
pub names-next : (puts : List Put) (i : ℕ) (p : Put) → i < length puts → p ≡ get_or puts i p
    → length (names_put (drop i puts)) ≡ length (named_by p.key) + length (names_put (drop (i + 1) puts))
names-next puts i p lt is =
    ap (λ ps. length (names_put ps)) (drop_more puts i p lt) ∙ length-append (named_by (get_or puts i p).key) (names_put (drop (i + 1) puts))
    ∙ ap (λ (q : Put). length (named_by q.key) + length (names_put (drop (i + 1) puts))) (sym is)

-- a key is the counter of one named block at most
named-one : (k : Key) → length (named_by k) ≤ 1
named-one key.Control = omega arith
named-one (key.Counter None) = omega arith
named-one (key.Counter (Some b)) = omega arith
named-one (key.Label b) = omega arith
named-one (key.Setting b) = omega arith
named-one key.Uses = omega arith
named-one key.Ifs = omega arith
named-one key.Blocks = omega arith
named-one (key.Macro b) = omega arith
named-one (key.Kept b) = omega arith
named-one key.Locals = omega arith

-- so puts are of no more named blocks than there are puts
pub names-few : (puts : List Put) → length (names_put puts) ≤ length puts
names-few [] = omega arith
names-few (p ∷ puts) = omega (arith, named-one p.key, names-few puts, length-append (named_by p.key) (names_put puts))

-- a put of a counter makes its block grow
pub grown-counter : (layout new : Layout) (p : Put) (block : Option Name) (words : ℕ) → p.key ≡ key.Counter block → words ≡ words_before (place_of Cp (Some p.answer))
    → new ≡ grown_to layout block words → new ≡ grown layout p
grown-counter layout new p block words is counted made =
    made ∙ ap (grown_to layout block) counted
    ∙ sym (ap (λ (k : Key). record {
      named = insert_all same_name layout.named (named_by k);
      size = λ (other : Option Name). max (layout.size other) (if same_key (key.Counter other) k then words_before (place_of Cp (Some p.answer)) else 0);
    }) is)

zero-plus : (n : ℕ) → 0 + n ≡ n
zero-plus n = omega arith

-- the words of one more named block
module _ (layout : Layout) (i : ℕ) (name : Name) (at : slice_get layout.named i ≡ Some name) where
  words : Name → ℕ
  words block = layout.size (Some block)

  pub words-next : words_of_first (i + 1) layout ≡ words_of_first i layout + layout.size (Some name)
  unfolding words
  words-next =
      let within : i < length layout.named = slice_get_within layout.named i name at in
      let next : take (i + 1) layout.named ≡ take i layout.named ++ name ∷ [] =
      take_more layout.named i name within ∙ ap (λ (n : Name). take i layout.named ++ n ∷ []) (get_or_from_slice_get layout.named i name name at) in
      ap (sum_by words) next ∙ sum_by-append words (take i layout.named) (name ∷ []) ∙ ap (λ n. words_of_first i layout + n) (zero-plus (layout.size (Some name)))

-- the name of an entry is a key at its place
pub key-at : {S : Type 0} (m : IndexMap Name ℕ S) (i : ℕ) (name : Name) (size : ℕ) → Some (name, size) ≡ slice_get m.entries i → slice_get (keys m) i ≡ Some name
key-at m i name size at = slice_get-map (λ (e : Name × ℕ). e.0) m.entries i ∙ ap (option_map (λ (e : Name × ℕ). e.0)) (sym at)

-- ---- maps with the same entries

same_entry : Name × ℕ → Name × ℕ → Bool
same_entry p q = same_name p.0 q.0 && p.1 == q.1

same-entries : (es fs : List (Name × ℕ)) → pointwise same_entry es fs ≡ true → es ≡ fs
unfolding same_entry
same-entries [] [] h = refl
same-entries [] (f ∷ fs) h = cc
same-entries (e ∷ es) [] h = cc
same-entries (e ∷ es) (f ∷ fs) h =
    let both = and_parts (same_entry e f) (pointwise same_entry es fs) h in
    let here = and_parts (same_name e.0 f.0) (e.1 == f.1) both.0 in
    let name = same_name-is e.0 f.0 here.0 in
    let size = eqb-true e.1 f.1 here.1 in
    let rest = same-entries es fs both.1 in
    λ i. (name i, size i) ∷ rest i

pub are-same_named : {S : Type 0} (m n : IndexMap Name ℕ S) (nominal other : ℕ) (es fs : List (Name × ℕ)) → es ≡ m.entries → fs ≡ n.entries
    → pointwise (λ p q. same_name p.0 q.0 && p.1 == q.1) es fs ≡ true → AreSameNamed (layout_kept nominal m) (layout_kept other n)
unfolding same_entry
are-same_named m n nominal other es fs left right same =
    let entries : m.entries ≡ n.entries = sym left ∙ same-entries es fs same ∙ right in
    record {
      named = ap keys_of entries;
      size = λ name. ap (λ (l : List (Name × ℕ)). unwrap_or (lookup (same_name name) l) 0) entries;
    }
