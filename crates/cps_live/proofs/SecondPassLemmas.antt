-- Pass two over stretches of lines, and over chunks.
use Rattle.std.proofs.Common.{arith, ◌≡◌, ℕ, ◌+◌, ◌-◌, ◌<◌, ◌≤◌, refl, sym, ap, subst, ◌∙◌, true, false, List, [], ◌∷◌, ◌++◌, append_assoc, append-nil, length, get_or, take, drop, Result, Ok, Err}
use Rattle.std.specs.Prelude.{All, OnOk, sum, if◌then◌else◌}
use Rattle.std.specs.List.{list_all}
use Rattle.std.proofs.lemmas.Bool.{and_from}
use Rattle.std.proofs.lemmas.List.{length-append, drop-drop, drop-take, take-append-drop}
use Rattle.std.proofs.lemmas.List.Elements.{All-head, All-tail}
use Rattle.std.proofs.lemmas.List.Folds.{list_all-append}
use Rattle.cps_state.specs.declared.hashing.Hashing.{Hashing}
use Rattle.cps_state.specs.Course.{Trace}
use Rattle.cps_final.specs.Finals.{Named}
use Rattle.cps_final.specs.Outcome.{Resolved}
use Rattle.cps_final.specs.Naming.{all_named}
use Rattle.cps_final.specs.NamedFinals.{NamedFinals, names_in, all_pass}
use Rattle.cps_final.proofs.NamesLemmas.{names-law}
use Rattle.cps_final.proofs.NamingLemmas.{flat-all}
use Rattle.cps_final.specs.Agreeing.{same_at, same_named}
use Rattle.cps_chunk.specs.declared.chunk.Chunk.{Chunk}
use Rattle.cps_chunk.specs.Code.Chunk.{AreChunksOf, lengths_of}
use Rattle.cps_chunk.specs.KeyFilter.{AreMarked, keys_named}
use Rattle.cps_final.specs.declared.ends.Ends.{Ends}
use Rattle.cps_chunk.specs.declared.sparse.SparseItem.{SparseItem}
use Rattle.cps_final.specs.Code.Ends.{was_of, now_of}
use Rattle.cps_chunk.specs.Code.Redo.{is_passed}
use Rattle.cps_chunk.specs.Replayed.{redone}
use Rattle.cps_chunk.specs.Sparse.{AreWithin}
use Rattle.cps_chunk.specs.Code.Walk.{stretch}
use Rattle.cps_chunk.proofs.ReplayedLemmas.{redone-all_same, redone-each_same, redone-append, redone-drop_front, redone-drop_behind}
use Rattle.cps_chunk.proofs.WalkLemmas.{stretch-long}
use Rattle.cps_chunk.specs.Code.Looks.{items_before, items_from, looks_again}
use Rattle.cps_live.specs.Code.Differences.{passes, AreExact, AreSoughtBy}
use Rattle.cps_live.specs.declared.second_pass.SecondPass.{SecondPass}
use Rattle.cps_live.specs.Code.SecondPass.{IsExactPass, GoesOver, redone_in, looks_at, looks_in}
use Rattle.cps_live.proofs.StretchLemmas.{before-from, before-within, from-within, stretch-join}
use Rattle.cps_live.proofs.PartLemmas.{lengths-here}

-- ---- what is made anew

module _ (was now : Resolved) (ts : List Trace) where
  -- nothing, where all that lines name has the same final values
  pub redone-none : (i : ℕ) → all_pass (same_at was now) (names_in ts) ≡ true → redone was now i [] ts ≡ []
  redone-none i same = redone-all_same was now i [] ts (sym (names-law (same_at was now) ts) ∙ same) (λ k low high. refl)

  -- each line for itself
  pub names-same : all_pass (same_at was now) (names_in ts) ≡ true → list_all (λ (t : Trace). same_named was now t.items) ts ≡ true
  names-same same = flat-all (all_named (same_at was now)) (λ (t : Trace). t.items) ts ∙ sym (names-law (same_at was now) ts) ∙ same

  -- of a stretch in two parts
  pub redone-parts : (a m b : ℕ) (news : List (SparseItem Trace)) → a ≤ m → m ≤ b → b ≤ length ts → AreWithin a b news
      → redone was now a news (stretch a b ts) ≡ redone was now a (items_before m news) (stretch a m ts) ++ redone was now m (items_from m news) (stretch m b ts)
  redone-parts a m b news one two end within =
      let front = items_before m news in
      let back = items_from m news in
      let long : a + length (stretch a m ts) ≡ m = omega (arith, stretch-long a m one ts (omega (arith, two, end)), one) in
      let fits : a + length (stretch a m ts) ≤ m = omega (arith, long) in
      ap (redone was now a news) (stretch-join ts a m b one two)
      ∙ ap (λ ns. redone was now a ns (stretch a m ts ++ stretch m b ts)) (sym (before-from m news))
      ∙ redone-append was now a (front ++ back) (stretch a m ts) (stretch m b ts)
      ∙ ap (λ k. redone was now a (front ++ back) (stretch a m ts) ++ redone was now k (front ++ back) (stretch m b ts)) long
      ∙ (λ j. redone-drop_behind was now m b a front back (stretch a m ts) (from-within m a b news two within) fits j
      ++ redone-drop_front was now a m m front back (stretch m b ts) (before-within m a b news one within) (omega arith) j)

-- whatever lines name whose labels have all their marks in this chunk, it has the same final value
abbrev pub IsQuiet : Resolved → Resolved → Hashing → Chunk → Type 0
IsQuiet was now hashing chunk = (ts : List Trace) → AreMarked hashing chunk.reads (keys_named ts) → all_pass (same_at was now) (names_in ts) ≡ true

-- ---- what is compared

module _ (pass : SecondPass) where
  abbrev olds : List Trace
  olds = pass.base.traces.now

  -- of one chunk, and of those behind it
  pub looks-step : (n at : ℕ) (lengths : List ℕ) (news : List (SparseItem Trace))
      → looks_in pass (n ∷ lengths) at news ≡ looks_at pass at (at + n) (items_before (at + n) news) + looks_in pass lengths (at + n) (items_from (at + n) news)
  looks-step n at lengths news =
      let was = was_of pass.redo.ends in
      let now = now_of pass.redo.ends in
      let size : n ≡ at + n - at = omega arith in
      λ i. (if is_passed was now (names_in (sym (drop-take at n olds) i)) (items_before (at + n) news) then 0 else size i)
      + looks_again was now lengths (at + n) (items_from (at + n) news) (drop-drop n at olds i)

  -- ---- its test

  pub exact-same : pass.differences.ends ≡ pass.redo.ends → AreExact pass.differences → (names : NamedFinals)
      → all_pass (passes pass.differences) names ≡ all_pass (same_at (was_of pass.redo.ends) (now_of pass.redo.ends)) names
  exact-same ends exact names =
      (λ i. all_pass (λ (named : Named). exact named i) names) ∙ ap (λ (e : Ends). all_pass (same_at (was_of e) (now_of e)) names) ends

  module _ (exact : IsExactPass pass) where
    pub exact-names : (names : NamedFinals) → all_pass (passes pass.differences) names ≡ all_pass (same_at (was_of pass.redo.ends) (now_of pass.redo.ends)) names
    exact-names names = exact-same exact.ends exact.exact names

    -- nothing that lines with these marks name has another final value
    pub exact-quiet : (chunk : Chunk) → ((us : List Trace) → AreMarked pass.base.hashing chunk.reads (keys_named us) → all_pass (passes pass.differences) (names_in us) ≡ true)
        → IsQuiet (was_of pass.redo.ends) (now_of pass.redo.ends) pass.base.hashing chunk
    exact-quiet chunk none us marked = sym (exact-names (names_in us)) ∙ none us marked

    pub exact-still : (next : SecondPass) → next.base ≡ pass.base → next.redo.ends ≡ pass.redo.ends → next.differences ≡ pass.differences → IsExactPass next
    exact-still next base ends differences = record {
      ends = ap (λ d. d.ends) differences ∙ exact.ends ∙ sym ends;
      exact = subst (λ d. (named : Named) → passes d named ≡ same_at (was_of d.ends) (now_of d.ends) named) (sym differences) exact.exact;
      sought = subst (λ d. AreSoughtBy next.base.hashing d) (sym differences) (subst (λ h. AreSoughtBy h pass.differences) (sym (ap (λ b. b.hashing) base)) exact.sought);
      known = λ yes.
          (λ i. list_all (λ (t : Trace). same_named (was_of (ends i)) (now_of (ends i)) t.items) (base i).traces.now) ∙ exact.known (sym (ap (λ d. d.unread) differences) ∙ yes);
    }

-- ---- what follows where a call ends well

pub on-ok : {T E P Q : Type 0} (result : Result T E) → (P → Q) → OnOk result P → OnOk result Q
on-ok (Ok v) f p = f p
on-ok (Err e) f p = tt

-- ---- chunks of which nothing that they name differs

module _ (was now : Resolved) (hashing : Hashing) where
  each-same : (ts : List Trace) → all_pass (same_at was now) (names_in ts) ≡ true → list_all (λ (t : Trace). same_named was now t.items) ts ≡ true
  each-same ts same = flat-all (all_named (same_at was now)) (λ (t : Trace). t.items) ts ∙ sym (names-law (same_at was now) ts) ∙ same

  pub chunks-quiet : (cs : List Chunk) (ts : List Trace) → AreChunksOf hashing cs ts → All (IsQuiet was now hashing) cs → list_all (λ (t : Trace). same_named was now t.items) ts ≡ true
  chunks-quiet [] ts chunks quiet = ap (list_all (λ (t : Trace). same_named was now t.items)) chunks
  chunks-quiet (c ∷ cs) ts chunks quiet =
      let test = λ (t : Trace). same_named was now t.items in
      let front = take c.lines ts in
      let back = drop c.lines ts in
      ap (list_all test) (sym (take-append-drop c.lines ts)) ∙ list_all-append test front back
      ∙ and_from (list_all test front) (list_all test back) (each-same front (All-head (IsQuiet was now hashing) c cs quiet front chunks.1.names))
      (chunks-quiet cs back chunks.2 (All-tail (IsQuiet was now hashing) c cs quiet))

-- ---- lines gone over, part by part

module _ (first : SecondPass) where
  abbrev was : Resolved
  was = was_of first.redo.ends

  abbrev now : Resolved
  now = now_of first.redo.ends

  abbrev ts : List Trace
  ts = first.base.traces.now

  -- lines from one on up to another are gone over, up to one of them; this is new of those from it on
  pub record GoesOn (next : SecondPass) (from at to : ℕ) (news left : List (SparseItem Trace)) : Type 0 where
    pub within : AreWithin at to left
    pub made : next.redo.news.items ++ redone_in first at to left ≡ first.redo.news.items ++ redone_in first from to news
    pub ends : next.redo.ends ≡ first.redo.ends
    pub base : next.base ≡ first.base
    pub differences : next.differences ≡ first.differences

  -- the same under the same final values
  pub same-redone : (next : SecondPass) (from to : ℕ) (news : List (SparseItem Trace)) → next.redo.ends ≡ first.redo.ends → next.base ≡ first.base → redone_in next from to news ≡ redone_in first from to news
  same-redone next from to news ends base = λ i. redone (was_of (ends i)) (now_of (ends i)) from news (stretch from to (base i).traces.now)

  pub redone-cut : (from m to : ℕ) (news : List (SparseItem Trace)) → from ≤ m → m ≤ to → to ≤ length ts → AreWithin from to news
      → redone_in first from to news ≡ redone_in first from m (items_before m news) ++ redone_in first m to (items_from m news)
  redone-cut from m to news one two end within = redone-parts was now ts from m to news one two end within

  pub count-cut : (from m to : ℕ) (news : List (SparseItem Trace)) → from ≤ m → m ≤ to → to ≤ length ts → AreWithin from to news
      → length (redone_in first from to news) ≡ length (redone_in first from m (items_before m news)) + length (redone_in first m to (items_from m news))
  count-cut from m to news one two end within =
      ap length (redone-cut from m to news one two end within) ∙ length-append (redone_in first from m (items_before m news)) (redone_in first m to (items_from m news))

  pub goes-next : (next last : SecondPass) (from at m to : ℕ) (news left : List (SparseItem Trace)) → at ≤ m → m ≤ to → to ≤ length ts → GoesOn next from at to news left
      → GoesOver next last at m (items_before m left) → GoesOn last from m to news (items_from m left)
  goes-next next last from at m to news left one two end on over =
      let here = redone_in first at m (items_before m left) in
      let rest = redone_in first m to (items_from m left) in
      let made : last.redo.news.items ≡ next.redo.news.items ++ here =
      over.made ∙ ap (λ ones. next.redo.news.items ++ ones) (same-redone next at m (items_before m left) on.ends on.base) in
      record {
        within = from-within m at to left two on.within;
        made = ap (λ ones. ones ++ rest) made ∙ append_assoc next.redo.news.items here rest
            ∙ ap (λ ones. next.redo.news.items ++ ones) (sym (redone-cut at m to left one two end on.within)) ∙ on.made;
        ends = over.ends ∙ on.ends;
        base = over.base ∙ on.base;
        differences = over.differences ∙ on.differences;
      }

  -- nothing is made anew of lines that name nothing that differs, and of which none is new
  pub none-made : (from to : ℕ) (news : List (SparseItem Trace)) → news ≡ [] → all_pass (same_at was now) (names_in (stretch from to ts)) ≡ true → redone_in first from to news ≡ []
  none-made from to news empty same = ap (λ ns. redone_in first from to ns) empty ∙ redone-none was now (stretch from to ts) from same

  pub each-made : (from to : ℕ) (news : List (SparseItem Trace)) → news ≡ [] → list_all (λ (t : Trace). same_named was now t.items) (stretch from to ts) ≡ true → redone_in first from to news ≡ []
  each-made from to news empty same = ap (λ ns. redone_in first from to ns) empty ∙ redone-each_same was now from [] (stretch from to ts) same (λ k low high. refl)

  pub goes-none : (from to : ℕ) (news : List (SparseItem Trace)) → redone_in first from to news ≡ [] → GoesOver first first from to news
  goes-none from to news none = record {
    made = sym (append-nil first.redo.news.items) ∙ ap (λ ones. first.redo.news.items ++ ones) (sym none);
    ends = refl;
    base = refl;
    differences = refl;
  }

  pub goes-join : (next last : SecondPass) (from m to : ℕ) (news : List (SparseItem Trace)) → from ≤ m → m ≤ to → to ≤ length ts → AreWithin from to news
      → GoesOver first next from m (items_before m news) → GoesOver next last m to (items_from m news) → GoesOver first last from to news
  goes-join next last from m to news one two end within front back =
      let here = redone_in first from m (items_before m news) in
      let rest = redone_in first m to (items_from m news) in
      record {
        made = back.made ∙ (λ j. front.made j ++ same-redone next m to (items_from m news) front.ends front.base j)
            ∙ append_assoc first.redo.news.items here rest ∙ ap (λ ones. first.redo.news.items ++ ones) (sym (redone-cut from m to news one two end within));
        ends = back.ends ∙ front.ends;
        base = back.base ∙ front.base;
        differences = back.differences ∙ front.differences;
      }

  -- all of them, where one is new or something differs that they name
  pub looks-all : (n at : ℕ) (news : List (SparseItem Trace)) → is_passed was now (names_in (stretch at (at + n) ts)) news ≡ false → n ≤ looks_at first at (at + n) news
  looks-all n at news out =
      let all : looks_at first at (at + n) news ≡ at + n - at = ap (λ test. if test then 0 else at + n - at) out in
      omega (arith, all)

  -- ---- chunk by chunk

  -- how many lines are compared of a chunk and of those behind it
  pub looks-here : (start : ℕ) (cs ds : List Chunk) → lengths_of ds ≡ lengths_of cs → (i at : ℕ) (c : Chunk) → i < length ds → c ≡ get_or ds i c
      → at ≡ start + sum (take i (lengths_of cs)) → (news : List (SparseItem Trace)) → looks_in first (drop i (lengths_of cs)) at news
      ≡ looks_at first at (at + c.lines) (items_before (at + c.lines) news) + looks_in first (drop (i + 1) (lengths_of cs)) (at + c.lines) (items_from (at + c.lines) news)
  looks-here start cs ds same i at c lt is place news =
      ap (λ ns. looks_in first ns at news) (lengths-here first.base start cs ds same i at c lt is place) ∙ looks-step first c.lines at (drop (i + 1) (lengths_of cs)) news
