-- Where blocks and literals stand behind lines, by what the lines leave for it.
use Rattle.std.proofs.Common.{◌≡◌, ℕ, ◌+◌, ◌-◌, ◌<◌, ◌≤◌, suc, refl, sym, ap, subst, ◌∙◌, Bool, true, false, cond, List, [], ◌∷◌, ◌++◌, append-nil, append_assoc, length, get_or, take, drop, max, Option, None, Some, arith}
use Rattle.std.specs.Prelude.{Result, Ok, Err, OnOk, unwrap_or, nat_eq, slice_range, if◌then◌else◌}
use Rattle.std.specs.Option.{option_or}
use Rattle.std.proofs.lemmas.Grind.{flat_map-append}
use Rattle.std.proofs.lemmas.List.{take_all, take_more, take_rest, drop-drop, drop_all, drop_more}
use Rattle.std.proofs.lemmas.List.Elements.{filter-append}
use Rattle.cps_text.specs.declared.name.Name.{Name}
use Rattle.cps_expr.specs.declared.machine.Machine.TheVariants.{Cp}
use Rattle.cps_expr.specs.Value.{same_name}
use Rattle.cps_state.specs.declared.key.Key.{Key}
use Rattle.cps_state.specs.declared.key.Key.TheVariants as key
use Rattle.cps_state.specs.declared.key.Put.{Put}
use Rattle.cps_state.specs.Course.{Trace}
use Rattle.cps_state.specs.Keys.{first_state, same_key, place_of}
use Rattle.cps_final.specs.Distinct.{distinct}
use Rattle.cps_final.specs.Layout.{layout_of, puts_of, size_in, words_put, words_before, named_by, names_put}
use Rattle.cps_final.specs.Pool.{literals_in}
use Rattle.cps_final.specs.Finals.{Finals, first_program, program_of}
use Rattle.cps_final.specs.Code.Storage.{IsStored, StoresMore}
use Rattle.cps_final.specs.declared.storage.Storage.{Storage}
use Rattle.cps_chunk.specs.declared.sparse.SparseItem.{SparseItem}
use Rattle.cps_chunk.specs.Sparse.{AreWithin, renewed}
use Rattle.cps_chunk.specs.Code.Storing.{is_counter, counters_in, Left, left_by, stored_by, LeftLaw, StoresAlso, StoresSome}
use Rattle.cps_chunk.proofs.SparseLemmas.{item_at-here, item_at-other, renewed-agree, renewed-none, renewed-split}

-- ---- layouts, by what is put at counters alone

no-name : (k : Key) → is_counter k ≡ false → named_by k ≡ []
no-name key.Control h = refl
no-name (key.Counter b) h = cc
no-name (key.Label n) h = refl
no-name (key.Setting n) h = refl
no-name (key.Macro n) h = refl
no-name (key.Kept n) h = refl
no-name key.Uses h = refl
no-name key.Ifs h = refl
no-name key.Blocks h = refl
no-name key.Locals h = refl

no-block : (b : Option Name) (k : Key) → is_counter k ≡ false → same_key (key.Counter b) k ≡ false
no-block b key.Control h = refl
no-block b (key.Counter c) h = cc
no-block b (key.Label n) h = refl
no-block b (key.Setting n) h = refl
no-block b (key.Macro n) h = refl
no-block b (key.Kept n) h = refl
no-block b key.Uses h = refl
no-block b key.Ifs h = refl
no-block b key.Blocks h = refl
no-block b key.Locals h = refl

names-first : (p : Put) (puts : List Put) (test : Bool) → is_counter p.key ≡ test → named_by p.key ++ names_put puts ≡ names_put (cond test (p ∷ puts) puts)
names-first p puts true is = refl
names-first p puts false is = ap (λ (ns : List Name). ns ++ names_put puts) (no-name p.key is)

names-counters : (puts : List Put) → names_put puts ≡ names_put (counters_in puts)
names-counters [] = refl
names-counters (p ∷ puts) = ap (λ (ns : List Name). named_by p.key ++ ns) (names-counters puts) ∙ names-first p (counters_in puts) (is_counter p.key) refl

size-first : (b : Option Name) (p : Put) (puts : List Put) (test : Bool) → is_counter p.key ≡ test
    → max (words_put b p) (size_in puts b) ≡ size_in (cond test (p ∷ puts) puts) b
size-first b p puts true is = refl
size-first b p puts false is =
    let none : words_put b p ≡ 0 = ap (λ (t : Bool). if t then words_before (place_of Cp (Some p.answer)) else 0) (no-block b p.key is) in
    omega (arith, none)

size-counters : (b : Option Name) (puts : List Put) → size_in puts b ≡ size_in (counters_in puts) b
size-counters b [] = refl
size-counters b (p ∷ puts) = ap (λ (n : ℕ). max (words_put b p) n) (size-counters b puts) ∙ size-first b p (counters_in puts) (is_counter p.key) refl

layout-counters : (puts : List Put) → layout_of puts ≡ layout_of (counters_in puts)
layout-counters puts = λ i. record { named = distinct same_name (names-counters puts i); size = λ b. size-counters b puts i }

-- ---- what some lines leave, and then others

pub joined : Left → Left → Left
joined a b = record { puts = a.puts ++ b.puts; literals = a.literals ++ b.literals; program = option_or a.program b.program }

or-assoc : {X : Type 0} (a b c : Option X) → option_or (option_or a b) c ≡ option_or a (option_or b c)
or-assoc None b c = refl
or-assoc (Some x) b c = refl

program-append : (xs ys : List Trace) → program_of (xs ++ ys) ≡ option_or (program_of xs) (program_of ys)
program-append [] ys = refl
program-append (x ∷ xs) ys = ap (option_or (first_program x.items)) (program-append xs ys) ∙ sym (or-assoc (first_program x.items) (program_of xs) (program_of ys))

pub left-append : (xs ys : List Trace) → left_by (xs ++ ys) ≡ joined (left_by xs) (left_by ys)
unfolding joined
left-append xs ys =
    let puts = ap counters_in (flat_map-append (λ (t : Trace). t.puts) xs ys) ∙ filter-append (λ (p : Put). is_counter p.key) (puts_of xs) (puts_of ys) in
    let literals = flat_map-append literals_in xs ys in
    let program = program-append xs ys in
    λ i. record { puts = puts i; literals = literals i; program = program i }

-- ---- the law

stored_with : Left → Finals
stored_with left = record { state = first_state; layout = layout_of left.puts; pool = distinct nat_eq left.literals; program = left.program }

stored-is : (traces : List Trace) → stored_by traces ≡ stored_with (left_by traces)
unfolding stored_with
stored-is traces = let layout = layout-counters (puts_of traces) in λ i. record (stored_by traces) { layout = layout i }

pub left-law : LeftLaw
left-law front olds news behind same =
    let whole : (middle : List Trace) → left_by (front ++ (middle ++ behind)) ≡ joined (left_by front) (joined (left_by middle) (left_by behind)) =
    λ middle. left-append front (middle ++ behind) ∙ ap (joined (left_by front)) (left-append middle behind) in
    stored-is (front ++ (olds ++ behind))
    ∙ ap stored_with (whole olds ∙ ap (λ (l : Left). joined (left_by front) (joined l (left_by behind))) same ∙ sym (whole news))
    ∙ sym (stored-is (front ++ (news ++ behind)))

-- ---- some lines more

pub also-none : (old : Storage) → StoresAlso old old []
also-none old before is = subst (IsStored old) (sym (append-nil before)) is

pub also-more : (old between new : Storage) (xs ys : List Trace) → StoresAlso old between xs → StoresAlso between new ys → StoresAlso old new (xs ++ ys)
also-more old between new xs ys one two before is = subst (IsStored new) (append_assoc before xs ys) (two (before ++ xs) (one before is))

-- one line of a list more
pub also-next : (old between new : Storage) (traces : List Trace) (i : ℕ) (t : Trace) → i < length traces → t ≡ get_or traces i t
    → StoresAlso old between (take i traces) → StoresMore between new t → StoresAlso old new (take (i + 1) traces)
also-next old between new traces i t lt is one more =
    let next : take i traces ++ t ∷ [] ≡ take (i + 1) traces = ap (λ (u : Trace). take i traces ++ u ∷ []) is ∙ sym (take_more traces i t lt) in
    subst (StoresAlso old new) next (also-more old between new (take i traces) (t ∷ []) one more)

pub also-all : (old new : Storage) (traces : List Trace) (i : ℕ) → length traces ≤ i → StoresAlso old new (take i traces) → StoresAlso old new traces
also-all old new traces i le also = subst (StoresAlso old new) (take_all i traces le) also

-- ---- lines from a place on, with what is new among them

-- what is new of the first of them
renewed-first : {X : Type 0} (i : ℕ) (new : SparseItem X) (news : List (SparseItem X)) (y : X) (ys : List X) → new.at ≡ i
    → renewed i (new ∷ news) (y ∷ ys) ≡ new.item ∷ renewed (suc i) news ys
renewed-first i new news y ys is =
    let here = item_at-here new news i is in
    let later = renewed-agree (suc i) (new ∷ news) news ys (λ k low high. item_at-other new news k (λ at. omega (arith, is, at, low))) in
    λ j. unwrap_or (here j) y ∷ later j

module _ (old new : Storage) (from : ℕ) (olds : List Trace) where
  pub some-none : (news : List (SparseItem Trace)) → AreWithin from (from + length olds) news → old ≡ new → StoresSome old new from olds (renewed from news olds) 0 news
  some-none news within same =
      let at : from + 0 ≡ from = omega arith in
      record {
        first = [];
        stores = subst (λ (s : Storage). StoresAlso old s []) same (also-none old);
        rest = ap (λ (k : ℕ). renewed k news olds) at;
        within = subst (λ (k : ℕ). AreWithin k (from + length olds) news) (sym at) within;
      }

  -- those in front of what is new, and what is new in the place of the next
  pub some-more : (between front_of : Storage) (whole : List Trace) (done at : ℕ) (n : SparseItem Trace) (left : List (SparseItem Trace)) (was : StoresSome old between from olds whole done (n ∷ left))
      → at + from ≡ n.at → StoresAlso between front_of (slice_range olds done at) → StoresMore front_of new n.item → StoresSome old new from olds whole (at + 1) left
  some-more between front_of whole done at n left was is front more =
      let low : done ≤ at = omega (arith, is, was.within.0) in
      let lt : at < length olds = omega (arith, is, was.within.1) in
      let b = from + length olds in
      let some = slice_range olds done at in
      let from_at : from + done + (at - done) ≡ n.at = omega (arith, is, low) in
      let up_to : done + (at - done) ≡ at = omega (arith, low) in
      let place : suc (from + done + (at - done)) ≡ from + (at + 1) = omega (arith, low) in
      let here : n.at ≡ from + done + (at - done) = sym from_at in
      let after : AreWithin (from + (at + 1)) b left = subst (λ (k : ℕ). AreWithin k b left) (ap suc here ∙ place) was.within.2 in
      let within : AreWithin (from + done + (at - done)) b (n ∷ left) = (omega (arith, from_at), was.within.1, was.within.2) in
      let behind : drop (at - done) (drop done olds) ≡ get_or olds at n.item ∷ drop (at + 1) olds =
      drop-drop (at - done) done olds ∙ ap (λ (k : ℕ). drop k olds) up_to ∙ drop_more olds at n.item lt in
      let split : renewed (from + done) (n ∷ left) (drop done olds) ≡ some ++ (n.item ∷ renewed (from + (at + 1)) left (drop (at + 1) olds)) =
      renewed-split (at - done) (from + done) b (n ∷ left) (drop done olds) within
      ∙ ap (λ (us : List Trace). some ++ us) (ap (renewed (from + done + (at - done)) (n ∷ left)) behind
      ∙ renewed-first (from + done + (at - done)) n left (get_or olds at n.item) (drop (at + 1) olds) here
      ∙ ap (λ (k : ℕ). n.item ∷ renewed k left (drop (at + 1) olds)) place) in
      let rest = renewed (from + (at + 1)) left (drop (at + 1) olds) in
      record {
        first = was.first ++ (some ++ n.item ∷ []);
        stores = also-more old between new was.first (some ++ n.item ∷ []) was.stores (also-more between front_of new some (n.item ∷ []) front more);
        rest = append_assoc was.first (some ++ n.item ∷ []) rest ∙ ap (λ (us : List Trace). was.first ++ us) (append_assoc some (n.item ∷ []) rest ∙ sym split) ∙ was.rest;
        within = after;
      }

  -- the same where it is the next of a list
  pub some-next : (between front_of : Storage) (whole : List Trace) (done i : ℕ) (n : SparseItem Trace) (news : List (SparseItem Trace)) → i < length news → n ≡ get_or news i n
      → StoresSome old between from olds whole done (drop i news) → StoresAlso between front_of (slice_range olds done (n.at - from)) → StoresMore front_of new n.item
      → StoresSome old new from olds whole (n.at - from + 1) (drop (i + 1) news)
  some-next between front_of whole done i n news lt is was front more =
      let next : drop i news ≡ n ∷ drop (i + 1) news = drop_more news i n lt ∙ ap (λ (m : SparseItem Trace). m ∷ drop (i + 1) news) (sym is) in
      let at_next = subst (StoresSome old between from olds whole done) next was in
      let at : n.at - from + from ≡ n.at = omega (arith, at_next.within.0) in
      some-more between front_of whole done (n.at - from) n (drop (i + 1) news) at_next at front more

  pub some-all : (between : Storage) (whole : List Trace) (done i : ℕ) (news : List (SparseItem Trace)) → length news ≤ i → StoresSome old between from olds whole done (drop i news)
      → StoresAlso between new (slice_range olds done (length olds)) → StoresAlso old new whole
  some-all between whole done i news le was behind =
      let none = drop_all i news le in
      let rest = subst (StoresAlso between new) (take_rest olds done) behind in
      let last : was.first ++ drop done olds ≡ whole =
      ap (λ (us : List Trace). was.first ++ us) (sym (ap (λ ns. renewed (from + done) ns (drop done olds)) none ∙ renewed-none (from + done) (drop done olds))) ∙ was.rest in
      subst (StoresAlso old new) last (also-more old between new was.first (drop done olds) was.stores rest)

pub on_ok : {X E P Q : Type 0} (r : Result X E) → (P → Q) → OnOk r P → OnOk r Q
on_ok (Ok x) f p = f p
on_ok (Err e) f p = tt
