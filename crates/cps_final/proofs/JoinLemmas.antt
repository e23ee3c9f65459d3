-- What is gathered of some lines, and of others behind them.
use Rattle.std.proofs.Common.{◌≡◌, ℕ, ◌+◌, ◌<◌, Bool, true, false, ◌||◌, List, [], ◌∷◌, ◌++◌, length, get_or, drop, Option, None, Some, max, refl, sym, ap, ◌∙◌, arith}
use Rattle.std.specs.Prelude.{flat_map, nat_eq, if◌then◌else◌}
use Rattle.std.specs.Cmp.{IsEquivalence, nat_eq_equiv}
use Rattle.std.specs.List.{list_any}
use Rattle.std.specs.Option.{option_or}
use Rattle.std.proofs.lemmas.Grind.{flat_map-append}
use Rattle.std.proofs.lemmas.List.{drop_more}
use Rattle.std.proofs.lemmas.List.Folds.{list_any-append}
use Rattle.std.specs.Map.{keys_of, lookup}
use Rattle.indexmap.specs.IndexMap.{IndexMap}
use Rattle.indexmap.specs.IndexSet.{insert_key, insert_all}
use Rattle.cps_text.specs.declared.name.Name.{Name}
use Rattle.cps_expr.specs.declared.machine.Machine.TheVariants.{Cp}
use Rattle.cps_expr.specs.Value.{same_name}
use Rattle.cps_state.specs.declared.key.Key.{Key}
use Rattle.cps_state.specs.declared.key.Key.TheVariants as key
use Rattle.cps_state.specs.declared.key.Put.{Put}
use Rattle.cps_state.specs.Course.{Trace}
use Rattle.cps_state.specs.Keys.{first_state, same_block, same_key, place_of}
use Rattle.cps_final.specs.Distinct.{distinct}
use Rattle.cps_final.specs.Layout.{Layout, puts_of, words_before, words_put, size_in, named_by, names_put, named_blocks, layout_of}
use Rattle.cps_final.specs.Pool.{literals_in, pool_of}
use Rattle.cps_final.specs.Finals.{Finals, first_program, program_of, finals_of}
use Rattle.cps_final.specs.Code.Gathering.{grown_to, grown_as, joined, layout_kept, size_kept}
use Rattle.cps_final.proofs.BlockLemmas.{same_name-laws, same_name-is}
use Rattle.cps_final.proofs.GatherLemmas.{distinct-append, or-assoc}

or-false : (a b : Bool) → (a || (b || false)) ≡ (a || b)
or-false true b = refl
or-false false true = refl
or-false false false = refl

same-zero : (b : Bool) → ◌≡◌ {A = ℕ} (if b then 0 else 0) 0
same-zero true = refl
same-zero false = refl

or-true : (a : Bool) → (a || true) ≡ true
or-true true = refl
or-true false = refl

-- ---- elements that are inserted, each once

module _ {T : Type 0} (eq : T → T → Bool) (laws : IsEquivalence eq) where
  pub at_end : (y : T) (ks : List T) (j : T) → list_any (eq y) (ks ++ j ∷ []) ≡ (list_any (eq y) ks || eq y j)
  at_end y ks j = list_any-append (eq y) ks (j ∷ []) ∙ or-false (list_any (eq y) ks) (eq y j)

  stays-by : (y : T) (ks : List T) (j : T) (there : Bool) → list_any (eq y) ks ≡ true → list_any (eq y) (if there then ks else ks ++ j ∷ []) ≡ true
  stays-by y ks j true has = has
  stays-by y ks j false has = at_end y ks j ∙ ap (λ (b : Bool). b || eq y j) has

  stays : (y : T) (ks : List T) (j : T) → list_any (eq y) ks ≡ true → list_any (eq y) (insert_key eq ks j) ≡ true
  stays y ks j has = stays-by y ks j (list_any (eq j) ks) has

  stays-all : (y : T) (ks js : List T) → list_any (eq y) ks ≡ true → list_any (eq y) (insert_all eq ks js) ≡ true
  stays-all y ks [] has = has
  stays-all y ks (j ∷ js) has = stays-all y (insert_key eq ks j) js (stays y ks j has)

  alike : (y j : T) → eq y j ≡ true → (ks : List T) → list_any (eq y) ks ≡ list_any (eq j) ks
  alike y j same [] = refl
  alike y j same (k ∷ ks) = λ i. laws.congr y j k same i || alike y j same ks i

  comes-by : (y : T) (ks : List T) (j : T) → eq y j ≡ true → (there : Bool) → list_any (eq j) ks ≡ there → list_any (eq y) (if there then ks else ks ++ j ∷ []) ≡ true
  comes-by y ks j same true has = alike y j same ks ∙ has
  comes-by y ks j same false has = at_end y ks j ∙ ap (λ (b : Bool). list_any (eq y) ks || b) same ∙ or-true (list_any (eq y) ks)

  comes : (y : T) (ks : List T) (j : T) → eq y j ≡ true → list_any (eq y) (insert_key eq ks j) ≡ true
  comes y ks j same = comes-by y ks j same (list_any (eq j) ks) refl

  comes-first : (y : T) (ks : List T) (j : T) (js : List T) (same : Bool) → eq y j ≡ same → (same || list_any (eq y) js) ≡ true
      → (list_any (eq y) js ≡ true → list_any (eq y) (insert_all eq (insert_key eq ks j) js) ≡ true) → list_any (eq y) (insert_all eq (insert_key eq ks j) js) ≡ true
  comes-first y ks j js true is has rest = stays-all y (insert_key eq ks j) js (comes y ks j is)
  comes-first y ks j js false is has rest = rest has

  -- an element of what is inserted is there
  comes-all : (y : T) (ks js : List T) → list_any (eq y) js ≡ true → list_any (eq y) (insert_all eq ks js) ≡ true
  comes-all y ks [] has = cc
  comes-all y ks (j ∷ js) has = comes-first y ks j js (eq y j) refl has (comes-all y (insert_key eq ks j) js)

  fold-end : (ks js : List T) (y : T) → insert_all eq ks (js ++ y ∷ []) ≡ insert_key eq (insert_all eq ks js) y
  fold-end ks [] y = refl
  fold-end ks (j ∷ js) y = fold-end (insert_key eq ks j) js y

  once : (ks : List T) (y : T) → list_any (eq y) ks ≡ true → insert_key eq ks y ≡ ks
  once ks y has = ap (λ (b : Bool). if b then ks else ks ++ y ∷ []) has

  one_more-by : (ks js : List T) (y : T) (there : Bool) → list_any (eq y) js ≡ there → insert_all eq ks (if there then js else js ++ y ∷ []) ≡ insert_key eq (insert_all eq ks js) y
  one_more-by ks js y true has = sym (once (insert_all eq ks js) y (comes-all y ks js has))
  one_more-by ks js y false has = fold-end ks js y

  -- what was inserted is inserted into others
  in_turn : (ks js ys : List T) → insert_all eq ks (insert_all eq js ys) ≡ insert_all eq (insert_all eq ks js) ys
  in_turn ks js [] = refl
  in_turn ks js (y ∷ ys) =
      in_turn ks (insert_key eq js y) ys ∙ ap (λ (l : List T). insert_all eq l ys) (one_more-by ks js y (list_any (eq y) js) refl)

  pub distinct-joined : (xs ys : List T) → insert_all eq (distinct eq xs) (distinct eq ys) ≡ distinct eq (xs ++ ys)
  distinct-joined xs ys =
      ap (insert_all eq (distinct eq xs)) (distinct-append eq laws [] ys) ∙ in_turn (distinct eq xs) [] ys ∙ sym (distinct-append eq laws xs ys)

  pub distinct-has : (y : T) (xs : List T) → list_any (eq y) xs ≡ true → list_any (eq y) (distinct eq xs) ≡ true
  distinct-has y xs has = ap (list_any (eq y)) (distinct-append eq laws [] xs) ∙ comes-all y [] xs has

-- ---- blocks that grow as others

among : Layout → List Name → Option Name → ℕ
among other [] block = 0
among other (n ∷ ns) block = max (if same_block block (Some n) then other.size (Some n) else 0) (among other ns block)

module _ (other : Layout) where
  as-named : (names : List Name) (layout : Layout) → (grown_as other names layout).named ≡ insert_all same_name layout.named names
  as-named [] layout = refl
  as-named (n ∷ ns) layout = as-named ns (grown_to layout (Some n) (other.size (Some n)))

  as-size : (names : List Name) (layout : Layout) (block : Option Name) → (grown_as other names layout).size block ≡ max (layout.size block) (among other names block)
  unfolding among
  as-size [] layout block = omega arith
  as-size (n ∷ ns) layout block =
      let rest = as-size ns (grown_to layout (Some n) (other.size (Some n))) block in
      omega (arith, rest)

  among-nominal : (names : List Name) → among other names None ≡ 0
  unfolding among
  among-nominal [] = refl
  among-nominal (n ∷ ns) = omega (arith, among-nominal ns)

  either : (s t : ℕ) (b : Bool) → s ≡ t → max s (if b then t else 0) ≡ t
  either s t true is = omega (arith, is)
  either s t false is = omega (arith, is)

  among-first : (x n : Name) (b rest : Bool) → same_name x n ≡ b
      → max (if b then other.size (Some n) else 0) (if rest then other.size (Some x) else 0) ≡ (if b || rest then other.size (Some x) else 0)
  among-first x n true rest is = either (other.size (Some n)) (other.size (Some x)) rest (ap (λ (m : Name). other.size (Some m)) (sym (same_name-is x n is)))
  among-first x n false rest is = omega arith

  among-named : (names : List Name) (x : Name) → among other names (Some x) ≡ (if list_any (same_name x) names then other.size (Some x) else 0)
  unfolding among
  among-named [] x = refl
  among-named (n ∷ ns) x =
      ap (λ (s : ℕ). max (if same_name x n then other.size (Some n) else 0) s) (among-named ns x) ∙ among-first x n (same_name x n) (list_any (same_name x) ns) refl

-- a block that no put names has no words
keys-apart : (x : Name) (k : Key) → list_any (same_name x) (named_by k) ≡ false → same_key (key.Counter (Some x)) k ≡ false
keys-apart x key.Control h = refl
keys-apart x (key.Counter None) h = refl
keys-apart x (key.Counter (Some b)) h = sym (or-false false (same_name x b)) ∙ h
keys-apart x (key.Label n) h = refl
keys-apart x (key.Setting n) h = refl
keys-apart x (key.Macro n) h = refl
keys-apart x (key.Kept n) h = refl
keys-apart x key.Uses h = refl
keys-apart x key.Ifs h = refl
keys-apart x key.Blocks h = refl
keys-apart x key.Locals h = refl

or-none-first : (a b : Bool) → (a || b) ≡ false → a ≡ false
or-none-first true b h = cc
or-none-first false b h = refl

or-none-rest : (a b : Bool) → (a || b) ≡ false → b ≡ false
or-none-rest true b h = cc
or-none-rest false b h = h

no-words : (x : Name) (puts : List Put) → list_any (same_name x) (names_put puts) ≡ false → size_in puts (Some x) ≡ 0
no-words x [] h = refl
no-words x (p ∷ puts) h =
    let both : (list_any (same_name x) (named_by p.key) || list_any (same_name x) (names_put puts)) ≡ false =
    sym (list_any-append (same_name x) (named_by p.key) (names_put puts)) ∙ h in
    let apart = keys-apart x p.key (or-none-first (list_any (same_name x) (named_by p.key)) (list_any (same_name x) (names_put puts)) both) in
    let here : words_put (Some x) p ≡ 0 = ap (λ (b : Bool). if b then words_before (place_of Cp (Some p.answer)) else 0) apart in
    let rest = no-words x puts (or-none-rest (list_any (same_name x) (named_by p.key)) (list_any (same_name x) (names_put puts)) both) in
    omega (arith, here, rest)

if-there : (x : Name) (puts : List Put) (there : Bool) → list_any (same_name x) (names_put puts) ≡ there
    → (if list_any (same_name x) (named_blocks puts) then size_in puts (Some x) else 0) ≡ size_in puts (Some x)
if-there x puts true is = ap (λ (b : Bool). if b then size_in puts (Some x) else 0) (distinct-has same_name same_name-laws x (names_put puts) is)
if-there x puts false is =
    let none = no-words x puts is in
    ap (λ (s : ℕ). if list_any (same_name x) (named_blocks puts) then s else 0) none ∙ same-zero (list_any (same_name x) (named_blocks puts)) ∙ sym none

size-append : (xs ys : List Put) (block : Option Name) → size_in (xs ++ ys) block ≡ max (size_in xs block) (size_in ys block)
size-append [] ys block = omega arith
size-append (p ∷ xs) ys block =
    let rest = size-append xs ys block in
    omega (arith, rest)

-- ---- layouts

module _ (xs ys : List Put) where
  abbrev one : Layout
  one = layout_of xs

  abbrev two : Layout
  two = layout_of ys

  size-joined : (block : Option Name) → (joined one two).size block ≡ size_in (xs ++ ys) block
  size-joined None =
      let sizes = as-size two (named_blocks ys) (grown_to one None (size_in ys None)) None in
      let none = among-nominal two (named_blocks ys) in
      omega (arith, sizes, none, size-append xs ys None)
  size-joined (Some x) =
      let sizes = as-size two (named_blocks ys) (grown_to one None (size_in ys None)) (Some x) in
      let here = among-named two (named_blocks ys) x in
      let there = if-there x ys (list_any (same_name x) (names_put ys)) refl in
      omega (arith, sizes, here, there, size-append xs ys (Some x))

  named-joined : (joined one two).named ≡ named_blocks (xs ++ ys)
  named-joined =
      as-named two (named_blocks ys) (grown_to one None (size_in ys None))
      ∙ distinct-joined same_name same_name-laws (names_put xs) (names_put ys)
      ∙ sym (ap (distinct same_name) (flat_map-append (λ (p : Put). named_by p.key) xs ys))

  pub layout-joined : joined (layout_of xs) (layout_of ys) ≡ layout_of (xs ++ ys)
  layout-joined = λ i. record { named = named-joined i; size = λ block. size-joined block i }

-- ---- all that is kept

program-append : (xs ys : List Trace) → program_of (xs ++ ys) ≡ option_or (program_of xs) (program_of ys)
program-append [] ys = refl
program-append (x ∷ xs) ys = ap (option_or (first_program x.items)) (program-append xs ys) ∙ sym (or-assoc (first_program x.items) (program_of xs) (program_of ys))

pub stored-joined : (old other new : Finals) → new.layout ≡ joined old.layout other.layout → new.pool ≡ insert_all nat_eq old.pool other.pool
    → new.program ≡ option_or old.program other.program → new.state ≡ first_state → (before behind : List Trace)
    → old ≡ record (finals_of before) { state = first_state } → other ≡ record (finals_of behind) { state = first_state }
    → new ≡ record (finals_of (before ++ behind)) { state = first_state }
stored-joined old other new layout pool program state before behind was more =
    let puts = flat_map-append (λ (t : Trace). t.puts) before behind in
    let literals = flat_map-append literals_in before behind in
    let layout-now : new.layout ≡ layout_of (puts_of (before ++ behind)) =
    layout ∙ (λ i. joined (was i).layout (more i).layout) ∙ layout-joined (puts_of before) (puts_of behind) ∙ sym (ap layout_of puts) in
    let pool-now : new.pool ≡ pool_of (before ++ behind) =
    pool ∙ (λ i. insert_all nat_eq (was i).pool (more i).pool)
    ∙ distinct-joined nat_eq nat_eq_equiv (flat_map literals_in before) (flat_map literals_in behind) ∙ sym (ap (distinct nat_eq) literals) in
    let program-now : new.program ≡ program_of (before ++ behind) = program ∙ (λ i. option_or (was i).program (more i).program) ∙ sym (program-append before behind) in
    λ i. record { state = state i; layout = layout-now i; pool = pool-now i; program = program-now i }

-- ---- the loop

-- the blocks of the names that are left grow to the same end
pub as-next : (other layout before end : Layout) (names : List Name) (i : ℕ) (name : Name) → i < length names → name ≡ get_or names i name
    → layout ≡ grown_to before (Some name) (other.size (Some name)) → grown_as other (drop i names) before ≡ end → grown_as other (drop (i + 1) names) layout ≡ end
as-next other layout before end names i name lt is made so_far =
    ap (grown_as other (drop (i + 1) names)) (made ∙ ap (λ (n : Name). grown_to before (Some n) (other.size (Some n))) is)
    ∙ sym (ap (λ ns. grown_as other ns before) (drop_more names i name lt)) ∙ so_far

-- maps with the same entries are the same layout
pub same-kept : {S : Type 0} (nominal : ℕ) (m n : IndexMap Name ℕ S) → m.entries ≡ n.entries → layout_kept nominal m ≡ layout_kept nominal n
same-kept nominal m n same = λ i. record {
  named = keys_of (same i);
  size = size_kept nominal (λ name. lookup (same_name name) (same i));
}
