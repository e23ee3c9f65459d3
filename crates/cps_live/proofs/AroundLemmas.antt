-- Pass two of all lines around an edit: those of the chunks in front of it, those that cut chunks keep in front and behind, and those of the chunks behind it.
use Rattle.std.proofs.Common.{arith, ◌≡◌, ℕ, ◌+◌, ◌-◌, ◌≤◌, sym, ap, subst, ◌∙◌, Bool, true, List, [], ◌++◌, append_assoc, length, drop, Result, Ok}
use Rattle.std.specs.Prelude.{sum}
use Rattle.std.specs.List.{list_all}
use Rattle.std.proofs.lemmas.Bool.{and_parts}
use Rattle.std.proofs.lemmas.List.{length-append}
use Rattle.std.proofs.lemmas.List.Folds.{list_all-append}
use Rattle.cps_state.specs.Course.{Trace}
use Rattle.cps_state.specs.Work.{Counts}
use Rattle.cps_final.specs.Agreeing.{same_named}
use Rattle.cps_edit.specs.Compares.{ComparesUpTo, Steps}
use Rattle.cps_chunk.specs.declared.chunk.Chunk.{Chunk}
use Rattle.cps_chunk.specs.Code.Chunk.{AreChunksOf, lengths_of}
use Rattle.cps_final.specs.declared.ends.Ends.{Ends}
use Rattle.cps_chunk.specs.declared.sparse.SparseItem.{SparseItem}
use Rattle.cps_chunk.specs.declared.walk.Baseline.{Baseline}
use Rattle.cps_final.specs.Code.Ends.{was_of, now_of}
use Rattle.cps_chunk.specs.Code.Walk.{stretch}
use Rattle.cps_chunk.specs.Code.Looks.{looks_again}
use Rattle.cps_chunk.specs.declared.put.ChunkSplice.{ChunkSplice}
use Rattle.cps_live.specs.declared.second_pass.SecondPass.{SecondPass}
use Rattle.cps_live.specs.Code.SecondPass.{GoesAround, GoesOver, IsExactPass, NameTheSame, NoneDiffers, redone_around, redone_in, looks_around, looks_in}
use Rattle.cps_live.specs.Code.StillChunks.{AreStillChunks}
use Rattle.cps_live.proofs.PartLemmas.{AreParts, front-sizes, back-sizes, front-end, back-end, behind-within, kept-within, back-chunks}
use Rattle.cps_live.proofs.CountLemmas.{StepsUpTo, steps-fail, steps-join, looks-join}
use Rattle.cps_live.proofs.StretchLemmas.{stretch-join}
use Rattle.cps_live.proofs.SecondPassLemmas.{same-redone, count-cut, goes-join}

pub le-same : (n : ℕ) → n ≤ n
le-same n = omega arith

-- ---- a part of lines that pass

part-passes : (p : Trace → Bool) (ts : List Trace) (a b c d : ℕ) → a ≤ b → b ≤ c → c ≤ d → list_all p (stretch a d ts) ≡ true → list_all p (stretch b c ts) ≡ true
part-passes p ts a b c d one two three all =
    let front = stretch a b ts in
    let back = stretch b d ts in
    let some = and_parts (list_all p front) (list_all p back) (sym (list_all-append p front back) ∙ ap (list_all p) (sym (stretch-join ts a b d one (omega (arith, two, three)))) ∙ all) in
    let mid = stretch b c ts in
    let rest = stretch c d ts in
    (and_parts (list_all p mid) (list_all p rest) (sym (list_all-append p mid rest) ∙ ap (list_all p) (sym (stretch-join ts b c d two three)) ∙ some.1)).0

-- those of a pass that compares by the final values that it makes lines anew by
pub record AreAround (first : SecondPass) (cut : ChunkSplice) (cs xs ms ys : List Chunk) (news here left : List (SparseItem Trace)) : Type 0 where
  pub exact : IsExactPass first
  pub parts : AreParts first.base cut cs xs ms ys news here left

pub around-of : {first : SecondPass} {cut : ChunkSplice} {cs xs ms ys : List Chunk} {news here left : List (SparseItem Trace)} → IsExactPass first
    → AreParts first.base cut cs xs ms ys news here left → AreAround first cut cs xs ms ys news here left
around-of exact parts = record { exact = exact; parts = parts }

module _ {first : SecondPass} {cut : ChunkSplice} {cs xs ms ys : List Chunk} {news here left : List (SparseItem Trace)} (h : AreAround first cut cs xs ms ys news here left) where
  abbrev ts : List Trace
  ts = first.base.traces.now

  -- ---- how many lines are made anew, and how many compared

  abbrev pub around : ℕ
  around = length (redone_around first cut news)

  abbrev pub count-front : ℕ
  count-front = length (redone_in first 0 (0 + sum (lengths_of xs)) [])

  abbrev pub count-kept : ℕ
  count-kept = length (redone_in first cut.before cut.keep [])

  abbrev pub count-loose : ℕ
  count-loose = length (redone_in first cut.from cut.behind here)

  abbrev pub count-back : ℕ
  count-back = length (redone_in first cut.behind (cut.behind + sum (lengths_of ys)) left)

  pub count-around : around ≡ count-front + count-kept + (count-loose + count-back)
  count-around =
      length-append (redone_in first 0 cut.keep []) (redone_in first cut.from (length ts) news)
      ∙ (λ j. count-cut first 0 cut.before cut.keep [] (omega arith) h.parts.cuts.begins (kept-within h.parts) (omega arith) j
      + count-cut first cut.from cut.behind (length ts) news h.parts.cuts.ends (behind-within h.parts) (omega arith) h.parts.within j)
      ∙ (λ j. length (redone_in first 0 (sym (front-end h.parts) j) []) + count-kept
      + (length (redone_in first cut.from cut.behind (sym h.parts.loose j)) + length (redone_in first cut.behind (sym (back-end h.parts) j) (sym h.parts.behind j))))

  looks-parts : looks_around first cut (lengths_of cs) news
      ≡ looks_in first (lengths_of xs) 0 [] + (cut.keep - cut.before) + (cut.behind - cut.from + looks_in first (lengths_of ys) cut.behind left)
  looks-parts = λ j. looks_in first (sym (front-sizes h.parts) j) 0 [] + (cut.keep - cut.before) + (cut.behind - cut.from + looks_in first (sym (back-sizes h.parts) j) cut.behind (sym h.parts.behind j))

  -- ---- behind some of the calls

  module _ (next : SecondPass) (base : next.base ≡ first.base) (ends : next.redo.ends ≡ first.redo.ends) where
    pub next-end : (n : ℕ) → n ≤ length ts → n ≤ length next.base.traces.now
    next-end n le = omega (arith, le, ap (λ (b : Baseline). length b.traces.now) base)

    pub next-front : {xs2 : List Chunk} {at : ℕ} {olds : List Chunk} → AreStillChunks next.base at olds xs2 → AreStillChunks first.base at olds xs2
    next-front {xs2 = xs2} {at = at} {olds = olds} still = record {
      chunks = subst (λ (b : Baseline). AreChunksOf b.hashing xs2 (stretch at (at + sum (lengths_of olds)) b.traces.now)) base still.chunks;
      lengths = still.lengths;
    }

    pub next-chunks : AreChunksOf next.base.hashing ys (stretch cut.behind (cut.behind + sum (lengths_of ys)) next.base.traces.now)
    next-chunks = subst (λ (b : Baseline). AreChunksOf b.hashing ys (stretch cut.behind (cut.behind + sum (lengths_of ys)) b.traces.now)) (sym base) (back-chunks h.parts)

    -- nothing that loose lines name differs
    pub next-same : (from to : ℕ) (none : Bool) → cut.before ≤ from → from ≤ to → to ≤ cut.behind
        → (none ≡ true → NameTheSame first (stretch cut.before cut.behind ts))
        → NoneDiffers next (record { from = from; to = to; none_differs = none })
    next-same from to none low mid high same known =
        let test = λ (e : Ends) (t : Trace). same_named (was_of e) (now_of e) t.items in
        (λ j. list_all (test (ends j)) (stretch from to (base j).traces.now))
        ∙ part-passes (test first.redo.ends) ts cut.before from to cut.behind low mid high (same known)

    pub next-looks : looks_in next (lengths_of ys) cut.behind left ≡ looks_in first (lengths_of ys) cut.behind left
    next-looks = λ j. looks_again (was_of (ends j)) (now_of (ends j)) (lengths_of ys) cut.behind left (drop cut.behind (base j).traces.now)

  -- ---- all of the calls

  module _ {s1 s2 s3 s4 : SecondPass} (o1 : GoesOver first s1 0 (0 + sum (lengths_of xs)) []) (o2 : GoesOver s1 s2 cut.before cut.keep []) (o3 : GoesOver s2 s3 cut.from cut.behind here)
      (o4 : GoesOver s3 s4 cut.behind (cut.behind + sum (lengths_of ys)) left) where
    pub around-over : GoesAround first s4 cut news
    around-over =
        let base2 : s2.base ≡ first.base = o2.base ∙ o1.base in
        let ends2 : s2.redo.ends ≡ first.redo.ends = o2.ends ∙ o1.ends in
        let one : GoesOver first s2 0 cut.keep [] =
        goes-join first s1 s2 0 cut.before cut.keep [] (omega arith) h.parts.cuts.begins (kept-within h.parts) (omega arith)
        (subst (λ (n : ℕ). GoesOver first s1 0 n []) (front-end h.parts) o1) o2 in
        let two : GoesOver s2 s4 cut.from (length ts) news =
        goes-join s2 s3 s4 cut.from cut.behind (length ts) news h.parts.cuts.ends (behind-within h.parts) (next-end s2 base2 ends2 (length ts) (omega arith)) h.parts.within
        (subst (λ (ns : List (SparseItem Trace)). GoesOver s2 s3 cut.from cut.behind ns) h.parts.loose o3)
        (subst (λ (ns : List (SparseItem Trace)). GoesOver s3 s4 cut.behind (length ts) ns) h.parts.behind (subst (λ (n : ℕ). GoesOver s3 s4 cut.behind n left) (back-end h.parts) o4)) in
        record {
          made = two.made ∙ (λ j. one.made j ++ same-redone first s2 cut.from (length ts) news ends2 base2 j)
              ∙ append_assoc first.redo.news.items (redone_in first 0 cut.keep []) (redone_in first cut.from (length ts) news);
          ends = two.ends ∙ one.ends;
        }

  -- ---- steps

  abbrev front : ℕ
  front = 0 + sum (lengths_of xs)

  abbrev back : ℕ
  back = cut.behind + sum (lengths_of ys)

  abbrev two : ℕ
  two = count-front + count-kept

  abbrev three : ℕ
  three = two + count-loose

  kept-same : {s1 : SecondPass} → GoesOver first s1 0 front [] → length (redone_in s1 cut.before cut.keep []) ≡ count-kept
  kept-same {s1 = s1} o1 = ap length (same-redone first s1 cut.before cut.keep [] o1.ends o1.base)

  loose-same : {s1 s2 : SecondPass} → GoesOver first s1 0 front [] → GoesOver s1 s2 cut.before cut.keep [] → length (redone_in s2 cut.from cut.behind here) ≡ count-loose
  loose-same {s2 = s2} o1 o2 = ap length (same-redone first s2 cut.from cut.behind here (o2.ends ∙ o1.ends) (o2.base ∙ o1.base))

  back-same : {s1 s2 s3 : SecondPass} → GoesOver first s1 0 front [] → GoesOver s1 s2 cut.before cut.keep [] → GoesOver s2 s3 cut.from cut.behind here
      → length (redone_in s3 cut.behind back left) ≡ count-back
  back-same {s3 = s3} o1 o2 o3 = ap length (same-redone first s3 cut.behind back left (o3.ends ∙ o2.ends ∙ o1.ends) (o3.base ∙ o2.base ∙ o1.base))

  pub fail-front : {T E : Type 0} {result : Result T E} {w0 w1 : Counts} → Steps result w0 w1 0 (length (redone_in first 0 front [])) → StepsUpTo w0 w1 around
  fail-front {w0 = w0} {w1 = w1} steps = steps-fail w0 w1 count-front around (omega (arith, count-around)) steps

  module _ {s1 : SecondPass} {V F : Type 0} {v : V} {w0 w1 : Counts} (o1 : GoesOver first s1 0 front [])
      (steps1 : Steps {T = V} {E = F} (Ok v) w0 w1 0 (length (redone_in first 0 front []))) where
    steps-two : {T E : Type 0} {result : Result T E} {w2 : Counts} → Steps result w1 w2 0 (length (redone_in s1 cut.before cut.keep [])) → Steps result w0 w2 0 two
    steps-two {result = result} {w2 = w2} steps =
        steps-join v result w0 w1 w2 count-front (length (redone_in s1 cut.before cut.keep [])) two (ap (λ n. count-front + n) (sym (kept-same o1))) steps1 steps

    pub fail-kept : {T E : Type 0} {result : Result T E} {w2 : Counts} → Steps result w1 w2 0 (length (redone_in s1 cut.before cut.keep [])) → StepsUpTo w0 w2 around
    fail-kept {w2 = w2} steps = steps-fail w0 w2 two around (omega (arith, count-around)) (steps-two steps)

    module _ {s2 : SecondPass} {u : V} {w2 : Counts} (o2 : GoesOver s1 s2 cut.before cut.keep [])
        (steps2 : Steps {T = V} {E = F} (Ok u) w1 w2 0 (length (redone_in s1 cut.before cut.keep []))) where
      steps-three : {T E : Type 0} {result : Result T E} {w3 : Counts} → Steps result w2 w3 0 (length (redone_in s2 cut.from cut.behind here)) → Steps result w0 w3 0 three
      steps-three {result = result} {w3 = w3} steps =
          steps-join u result w0 w2 w3 two (length (redone_in s2 cut.from cut.behind here)) three (ap (λ n. two + n) (sym (loose-same o1 o2))) (steps-two steps2) steps

      pub fail-loose : {T E : Type 0} {result : Result T E} {w3 : Counts} → Steps result w2 w3 0 (length (redone_in s2 cut.from cut.behind here)) → StepsUpTo w0 w3 around
      fail-loose {w3 = w3} steps = steps-fail w0 w3 three around (omega (arith, count-around)) (steps-three steps)

      module _ {s3 : SecondPass} {t : V} {w3 : Counts} (o3 : GoesOver s2 s3 cut.from cut.behind here)
          (steps3 : Steps {T = V} {E = F} (Ok t) w2 w3 0 (length (redone_in s2 cut.from cut.behind here))) where
        pub steps-around : {T E : Type 0} {result : Result T E} {w4 : Counts} → Steps result w3 w4 0 (length (redone_in s3 cut.behind back left)) → Steps result w0 w4 0 around
        steps-around {result = result} {w4 = w4} steps =
            steps-join t result w0 w3 w4 three (length (redone_in s3 cut.behind back left)) around (omega (arith, count-around, back-same o1 o2 o3)) (steps-three steps3) steps

  -- ---- comparisons

  pub looks-all_around : (next : SecondPass) {w0 w1 w2 w3 w4 : Counts} → next.base ≡ first.base → next.redo.ends ≡ first.redo.ends → ComparesUpTo w0 w1 (looks_in first (lengths_of xs) 0 [])
      → ComparesUpTo w1 w2 (cut.keep - cut.before) → ComparesUpTo w2 w3 (cut.behind - cut.from) → ComparesUpTo w3 w4 (looks_in next (lengths_of ys) cut.behind left)
      → ComparesUpTo w0 w4 (looks_around first cut (lengths_of cs) news)
  looks-all_around next {w0 = w0} {w1 = w1} {w2 = w2} {w3 = w3} {w4 = w4} base ends one two three four =
      let a = looks_in first (lengths_of xs) 0 [] in
      let b = cut.keep - cut.before in
      let c = cut.behind - cut.from in
      let d = looks_in next (lengths_of ys) cut.behind left in
      looks-join w0 w2 w4 (a + b) (c + d) (looks_around first cut (lengths_of cs) news) (omega (arith, looks-parts, next-looks next base ends))
      (looks-join w0 w1 w2 a b (a + b) (omega arith) one two) (looks-join w2 w3 w4 c d (c + d) (omega arith) three four)
