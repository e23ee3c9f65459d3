-- Pass two of a source behind an edit.
use Rattle.std.proofs.Common.{◌≡◌, ℕ, ◌+◌, ◌-◌, ◌≤◌, refl, sym, ap, subst, ◌∙◌, List, [], ◌++◌, length, take, drop, Result, Ok, arith}
use Rattle.std.specs.Prelude.{sum}
use Rattle.std.specs.Result.{IsErr}
use Rattle.std.specs.Vec.{with_items}
use Rattle.std.proofs.lemmas.List.{length-append, take_all, with_items_is}
use Rattle.std.proofs.lemmas.Result.{IfOk-from_err}
use Rattle.cps_state.specs.Course.{Trace}
use Rattle.cps_state.specs.Work.{Counts}
use Rattle.cps_state.specs.declared.hashing.Hashing.{Hashing}
use Rattle.cps_edit.specs.Compares.{ComparesUpTo, Steps}
use Rattle.cps_edit.specs.Disturbed.{finals_in, twos_of}
use Rattle.cps_edit.specs.Passes.{traces_of}
use Rattle.cps_edit.specs.Splice.{spliced}
use Rattle.cps_chunk.specs.declared.chunk.Chunk.{Chunk}
use Rattle.cps_chunk.specs.Code.Chunk.{AreChunksOf, lengths_of}
use Rattle.cps_chunk.proofs.ChunkLemmas.{chunks-long}
use Rattle.cps_chunk.specs.declared.sparse.SparseItem.{SparseItem}
use Rattle.cps_chunk.specs.declared.walk.Baseline.{Baseline}
use Rattle.cps_final.specs.Code.Ends.{was_of, now_of}
use Rattle.cps_chunk.specs.Replayed.{redone, replayed_behind, redone_front, redone_behind}
use Rattle.cps_chunk.specs.Code.Walk.{stretch}
use Rattle.cps_chunk.proofs.ReplayedLemmas.{twos-spliced}
use Rattle.cps_chunk.proofs.WalkLemmas.{same-long, stretch-all}
use Rattle.cps_chunk.specs.Code.Looks.{items_from, looks_again, second_looks}
use Rattle.cps_chunk.specs.declared.put.ChunkSplice.{ChunkSplice}
use Rattle.cps_live.specs.declared.kept_source.KeptSource.{KeptSource}
use Rattle.cps_live.specs.declared.second_pass.SecondPass.{SecondPass}
use Rattle.cps_live.specs.Code.Editing.{HasPassedAgain, IsSplice, LooksOfSecond, splice_of}
use Rattle.cps_live.specs.Code.SecondPass.{looks_around, redone_around}
use Rattle.cps_live.specs.Code.StillChunks.{AreStillChunks}
use Rattle.cps_live.proofs.CountLemmas.{StepsUpTo, steps-fail, steps-join}

-- the chunks that were gone over have the same lines
put-back : (kept : KeptSource) {base : Baseline} {olds news : List Chunk} → olds ≡ kept.chunks.items → AreStillChunks base 0 olds news → (with_items kept.chunks news).items ≡ news
put-back kept {olds = olds} {news = news} were still = with_items_is kept.chunks news (omega (arith, same-long olds news still.lengths, ap length were, kept.chunks.ok.0))

pub lengths-again : (kept : KeptSource) {base : Baseline} {olds news : List Chunk} → olds ≡ kept.chunks.items → AreStillChunks base 0 olds news
    → lengths_of (with_items kept.chunks news).items ≡ lengths_of kept.chunks.items
lengths-again kept were still = ap lengths_of (put-back kept were still) ∙ still.lengths ∙ ap lengths_of were

-- and are those of the traces
pub chunks-again : (kept : KeptSource) {base : Baseline} {olds news : List Chunk} → AreChunksOf kept.hashing kept.chunks.items kept.traces.items → olds ≡ kept.chunks.items
    → base.traces.now ≡ kept.traces.items → base.hashing ≡ kept.hashing → AreStillChunks base 0 olds news
    → AreChunksOf kept.hashing (with_items kept.chunks news).items kept.traces.items
chunks-again kept {base = base} {olds = olds} {news = news} are were did same still =
    let n : ℕ = 0 + sum (lengths_of olds) in
    let long : length kept.traces.items ≤ n =
    omega (arith, chunks-long kept.hashing kept.chunks.items kept.traces.items are, ap (λ (cs : List Chunk). sum (lengths_of cs)) were) in
    let whole : stretch 0 n base.traces.now ≡ kept.traces.items = ap (take n) did ∙ take_all n kept.traces.items long in
    let put : (with_items kept.chunks news).items ≡ news = put-back kept were still in
    subst (λ (cs : List Chunk). AreChunksOf kept.hashing cs kept.traces.items) (sym put)
    (subst (λ (h : Hashing). AreChunksOf h news kept.traces.items) same (subst (λ (ts : List Trace). AreChunksOf base.hashing news ts) whole still.chunks))

-- ---- steps

pub steps-of : {T E : Type 0} {result : Result T E} {w0 w1 : Counts} {all : ℕ} → IsErr result → StepsUpTo w0 w1 all → Steps result w0 w1 0 all
steps-of {result = result} err most = record {
  ones = IfOk-from_err result _ err;
  twos = IfOk-from_err result _ err;
  ones_least = most.ones_least;
  twos_least = most.twos_least;
  ones_most = most.ones_most;
  twos_most = most.twos_most;
}

pub steps-ok : {T E S F : Type 0} {v : T} {u : S} {w0 w1 : Counts} {all : ℕ} → Steps {T = T} {E = E} (Ok v) w0 w1 0 all → Steps {T = S} {E = F} (Ok u) w0 w1 0 all
steps-ok steps = record {
  ones = steps.ones;
  twos = steps.twos;
  ones_least = steps.ones_least;
  twos_least = steps.twos_least;
  ones_most = steps.ones_most;
  twos_most = steps.twos_most;
}

-- pass two stops at the new lines
pub fail-entered : (kept : KeptSource) (cut : ChunkSplice) {T E S F : Type 0} {made : Result T E} (result : Result S F) {w0 w1 : Counts} (n : ℕ) → IsErr result → n ≡ length cut.lines.items
    → w1.looked ≡ w0.looked → Steps made w0 w1 0 n → HasPassedAgain result kept cut w0 w1
fail-entered kept cut result {w0 = w0} {w1 = w1} n err entered none steps =
    let a = finals_in kept.lines.items in
    let b = finals_in (spliced kept.lines.items (splice_of cut)) in
    let few : n ≤ twos_of kept.lines.items (splice_of cut) = omega (arith, entered, twos-spliced kept.lines.items (splice_of cut) a b refl refl) in
    record {
      steps = steps-of err (steps-fail w0 w1 n (twos_of kept.lines.items (splice_of cut)) few steps);
      looked = record { least = omega (arith, none); most = omega (arith, none) };
    }

-- the same counts where more is refused, and where more is told
pub passed-fails : (kept : KeptSource) (cut : ChunkSplice) {T E S F : Type 0} {made : Result T E} (result : Result S F) {w0 w1 : Counts} → IsErr result
    → HasPassedAgain made kept cut w0 w1 → HasPassedAgain result kept cut w0 w1
passed-fails kept cut result {w0 = w0} {w1 = w1} err made =
    let most = twos_of kept.lines.items (splice_of cut) in
    record { steps = steps-of err (steps-fail w0 w1 most most (omega arith) made.steps); looked = made.looked }

pub passed-ok : (kept : KeptSource) (cut : ChunkSplice) {T E S F : Type 0} {made : T} {told : S} {w0 w1 : Counts} → HasPassedAgain {T = T} {E = E} (Ok made) kept cut w0 w1
    → HasPassedAgain {T = S} {E = F} (Ok told) kept cut w0 w1
passed-ok kept cut made = record { steps = steps-ok made.steps; looked = made.looked }

-- ---- the lines around the edit

module _ (kept : KeptSource) {cut : ChunkSplice} (cuts : IsSplice kept.lines.items (lengths_of kept.chunks.items) cut) (pass : SecondPass) (news : List (SparseItem Trace))
    (was : was_of pass.redo.ends ≡ finals_in kept.lines.items) (now : now_of pass.redo.ends ≡ finals_in (spliced kept.lines.items (splice_of cut)))
    (did : pass.base.traces.now ≡ traces_of kept.lines.items) (new : news ≡ replayed_behind kept.lines.items (splice_of cut)) where
  -- what is made anew around the edit
  pub around-is : redone_around pass cut news ≡ redone_front (finals_in kept.lines.items) (finals_in (spliced kept.lines.items (splice_of cut))) kept.lines.items (splice_of cut)
      ++ redone_behind (finals_in kept.lines.items) (finals_in (spliced kept.lines.items (splice_of cut))) kept.lines.items (splice_of cut)
  around-is =
      let back = stretch-all cut.from pass.base.traces.now ∙ ap (drop cut.from) did in
      λ j. redone (was j) (now j) 0 [] (take cut.keep (did j)) ++ redone (was j) (now j) cut.from (new j) (back j)

  -- how many lines are made anew
  twos : twos_of kept.lines.items (splice_of cut) ≡ length cut.lines.items + length (redone_around pass cut news)
  twos =
      let a = finals_in kept.lines.items in
      let b = finals_in (spliced kept.lines.items (splice_of cut)) in
      omega (
        arith,
        twos-spliced kept.lines.items (splice_of cut) a b refl refl,
        ap length around-is,
        length-append (redone_front a b kept.lines.items (splice_of cut)) (redone_behind a b kept.lines.items (splice_of cut)),
      )

  module _ {T E S F : Type 0} {v : T} {result : Result S F} {w0 w1 w2 : Counts} (n : ℕ) (entered : n ≡ length cut.lines.items) (first : Steps {T = T} {E = E} (Ok v) w0 w1 0 n)
      (second : Steps result w1 w2 0 (length (redone_around pass cut news))) where
    pub steps-again : Steps result w0 w2 0 (twos_of kept.lines.items (splice_of cut))
    steps-again = steps-join v result w0 w1 w2 n (length (redone_around pass cut news)) (twos_of kept.lines.items (splice_of cut)) (omega (arith, twos, entered)) first second

  -- and compared
  looks-is : looks_around pass cut (lengths_of kept.chunks.items) news
      ≡ second_looks kept.lines.items (splice_of cut) (take cut.start (lengths_of kept.chunks.items)) (cut.keep - cut.before) (cut.behind - cut.from)
      (drop cut.end (lengths_of kept.chunks.items))
  looks-is =
      let olds : List ℕ = lengths_of kept.chunks.items in
      let at : cut.behind ≡ cut.from + (cut.behind - cut.from) = omega (arith, cuts.behind, cuts.recuts.ends) in
      λ j. looks_again (was j) (now j) (take cut.start olds) 0 [] (did j) + (cut.keep - cut.before)
      + (cut.behind - cut.from + looks_again (was j) (now j) (drop cut.end olds) (at j) (items_from (at j) (new j)) (drop (at j) (did j)))

  pub looks-done : {w0 w1 w2 : Counts} (olds : List ℕ) → olds ≡ lengths_of kept.chunks.items → w1.looked ≡ w0.looked → ComparesUpTo w1 w2 (looks_around pass cut olds news)
      → LooksOfSecond kept.lines.items (lengths_of kept.chunks.items) cut w0 w2
  looks-done olds were none looked =
      let same = ap (λ ns. looks_around pass cut ns news) were ∙ looks-is in
      record { least = omega (arith, none, looked.least); most = omega (arith, none, looked.most, same) }

  module _ {T E S F U G : Type 0} {v : T} {w0 w1 w2 : Counts} (n : ℕ) (entered : n ≡ length cut.lines.items) (first : Steps {T = T} {E = E} (Ok v) w0 w1 0 n) (olds : List ℕ)
      (were : olds ≡ lengths_of kept.chunks.items) (none : w1.looked ≡ w0.looked) (looked : ComparesUpTo w1 w2 (looks_around pass cut olds news)) where
    pub done-again : {u : S} {r : U} → Steps {T = S} {E = F} (Ok u) w1 w2 0 (length (redone_around pass cut news)) → HasPassedAgain {T = U} {E = G} (Ok r) kept cut w0 w2
    done-again second = record { steps = steps-ok (steps-again n entered first second); looked = looks-done olds were none looked }

    pub fail-again : {made : Result S F} (result : Result U G) → IsErr result → Steps made w1 w2 0 (length (redone_around pass cut news)) → HasPassedAgain result kept cut w0 w2
    fail-again result err second = record {
      steps = steps-of err (steps-fail w0 w2 (twos_of kept.lines.items (splice_of cut)) (twos_of kept.lines.items (splice_of cut)) (omega arith) (steps-again n entered first second));
      looked = looks-done olds were none looked;
    }
