-- What is kept of a source behind an edit.
use Rattle.std.proofs.Common.{◌≡◌, ℕ, ◌+◌, ◌-◌, ◌≤◌, sym, ap, subst, ◌∙◌, List, ◌++◌, length, take, drop, arith}
use Rattle.std.specs.Prelude.{sum, vec_len, vec_capacity}
use Rattle.std.specs.declared.vec.Vec.{Vec}
use Rattle.std.proofs.lemmas.List.{length-append, length-drop, length-map, length-take-le, take-append-le, take-take, drop-drop}
use Rattle.std.proofs.lemmas.List.Sums.{sum_by-take-le}
use Rattle.std.proofs.Math.Seq.{drop-append-add}
use Rattle.cps_state.specs.Keys.{State, first_state}
use Rattle.cps_state.specs.Course.{Trace}
use Rattle.cps_state.specs.declared.hashing.Hashing.{Hashing}
use Rattle.cps_state.specs.contracts.state.StateLookup.TheImpl.{answer-value}
use Rattle.cps_final.specs.contracts.finals.FinalsGathered.TheImpl.{gathered-value}
use Rattle.cps_final.specs.Finals.{finals_of}
use Rattle.cps_final.specs.Outcome.{Outcome, Resolved}
use Rattle.cps_chunk.specs.Division.{AreChunks}
use Rattle.cps_edit.specs.Disturbed.{finals_in}
use Rattle.cps_edit.specs.Passes.{traces_from, traces_of, outcomes_by}
use Rattle.cps_edit.specs.Splice.{spliced}
use Rattle.cps_edit.proofs.RedoLemmas.{length-outcomes}
use Rattle.cps_edit.proofs.SpliceLemmas.{length-traces_from}
use Rattle.cps_chunk.specs.declared.chunk.Chunk.{Chunk}
use Rattle.cps_chunk.specs.Code.Chunk.{AreChunksOf, lengths_of}
use Rattle.cps_chunk.specs.declared.sparse.SparseItem.{SparseItem}
use Rattle.cps_chunk.specs.Sparse.{AreWithin, renewed}
use Rattle.cps_chunk.specs.Replayed.{state_front, replayed_behind, redone_front, redone_behind}
use Rattle.cps_chunk.proofs.SparseLemmas.{AreWithin-wider}
use Rattle.cps_chunk.proofs.ReplayedLemmas.{replayed_behind-within, redone-within_all, traces-put, outcomes-put}
use Rattle.cps_chunk.proofs.WalkLemmas.{same-long}
use Rattle.cps_chunk.specs.declared.put.ChunkSplice.{ChunkSplice}
use Rattle.cps_live.specs.declared.kept_source.KeptSource.{KeptSource}
use Rattle.cps_live.specs.declared.news.News.{News}
use Rattle.cps_live.specs.Code.ChunkList.{Fits, HasRoom}
use Rattle.cps_live.specs.Code.Editing.{AreKept, AreNewTraces, AreOutcomesOf, HasRoomFor, IsSplice, IsKept, splice_of}
use Rattle.cps_live.specs.Code.NamesRead.{HasRead, HasReadBy, StillHas}
use Rattle.cps_live.proofs.NamesReadLemmas.{read-by, read-still}

-- ---- the same is kept

-- whatever was gathered of the chunks
pub are-same : {old new : KeptSource} → AreKept old → new.first ≡ old.first → new.lines.items ≡ old.lines.items → new.traces.items ≡ old.traces.items → new.outcomes.items ≡ old.outcomes.items
    → AreChunksOf new.hashing new.chunks.items new.traces.items → lengths_of new.chunks.items ≡ lengths_of old.chunks.items → StillHas old.read new.read → AreKept new
are-same {old = old} {new = new} are first lines traces outcomes chunks lengths still = record {
  first = ap answer-value.it first ∙ are.first;
  did = traces ∙ are.did ∙ ap traces_of (sym lines);
  made = outcomes ∙ are.made ∙ ap (λ ls. outcomes_by (finals_in ls) (traces_of ls)) (sym lines);
  chunks = chunks;
  divided = subst AreChunks (sym lengths) are.divided;
  read = read-still old.read new.read still new.outcomes.items (subst (λ (os : List Outcome). HasRead old.read os) (sym outcomes) are.read);
}

chunks-same : (old new : KeptSource) → new.hashing ≡ old.hashing → new.traces.items ≡ old.traces.items → new.chunks.items ≡ old.chunks.items
    → AreChunksOf old.hashing old.chunks.items old.traces.items → AreChunksOf new.hashing new.chunks.items new.traces.items
chunks-same old new hashing traces chunks are =
    subst (λ (h : Hashing). AreChunksOf h new.chunks.items new.traces.items) (sym hashing)
    (subst (λ (cs : List Chunk). AreChunksOf old.hashing cs new.traces.items) (sym chunks)
    (subst (λ (ts : List Trace). AreChunksOf old.hashing old.chunks.items ts) (sym traces) are))

pub kept-same : {old new : KeptSource} → IsKept old → new.first ≡ old.first → new.hashing ≡ old.hashing → new.lines.items ≡ old.lines.items → new.traces.items ≡ old.traces.items
    → new.outcomes.items ≡ old.outcomes.items → new.chunks.items ≡ old.chunks.items → gathered-value.it new.finals ≡ gathered-value.it old.finals → new.read ≡ old.read → IsKept new
kept-same {old = old} {new = new} kept first hashing lines traces outcomes chunks finals read = record {
  lines = are-same kept.lines first lines traces outcomes (chunks-same old new hashing traces chunks kept.lines.chunks) (ap lengths_of chunks)
      (subst (StillHas old.read) (sym read) (λ name here. here));
  finals = finals ∙ kept.finals ∙ ap (λ ls. finals_of (traces_of ls)) (sym lines);
}

-- what the lines read
pub kept-read : (kept : KeptSource) → AreKept kept → HasReadBy kept.read kept.traces.items
kept-read kept are =
    subst (λ (ts : List Trace). HasReadBy kept.read ts) (sym are.did)
    (read-by kept.read (finals_in kept.lines.items) (traces_of kept.lines.items) kept.outcomes.items are.made are.read)

-- ---- items in the place of others

module _ {X : Type 0} (keep from : ℕ) (olds es news : List X) (ordered : keep ≤ from) (within : from ≤ length olds) (is : news ≡ take keep olds ++ (es ++ drop from olds)) where
  front-long : length (take keep olds) ≡ keep
  front-long = length-take-le keep olds (omega (arith, ordered, within))

  pub put-long : length news ≡ keep + length es + (length olds - from)
  put-long =
      omega (arith, ap length is, length-append (take keep olds) (es ++ drop from olds), length-append es (drop from olds), length-drop from olds, front-long)

  pub put-front : (n : ℕ) → n ≤ keep → take n news ≡ take n olds
  put-front n le = ap (take n) is ∙ take-append-le n (take keep olds) (es ++ drop from olds) (omega (arith, le, front-long)) ∙ take-take n keep olds le

  pub put-back : (n m : ℕ) → from ≤ m → n ≡ keep + length es + (m - from) → drop n news ≡ drop m olds
  put-back n m le at =
      let one : n ≡ length (take keep olds) + (length es + (m - from)) = omega (arith, at, front-long) in
      let two : from + (m - from) ≡ m = omega (arith, le) in
      (λ j. drop (one j) (is j)) ∙ drop-append-add (take keep olds) (es ++ drop from olds) (length es + (m - from)) ∙ drop-append-add es (drop from olds) (m - from)
      ∙ drop-drop (m - from) from olds ∙ ap (λ k. drop k olds) two

-- ---- an edit of what is kept

module _ {kept : KeptSource} {cut : ChunkSplice} (are : AreKept kept) (cuts : IsSplice kept.lines.items (lengths_of kept.chunks.items) cut) where
  pub traces-long : length kept.traces.items ≡ length kept.lines.items
  traces-long = ap length are.did ∙ length-traces_from first_state kept.lines.items

  pub outcomes-long : length kept.outcomes.items ≡ length kept.lines.items
  outcomes-long =
      ap length are.made ∙ length-outcomes (finals_in kept.lines.items) (traces_of kept.lines.items) ∙ length-traces_from first_state kept.lines.items

  pub entered-traces : {new : News Trace} → AreNewTraces kept.lines.items (splice_of cut) new → length new.entered.items ≡ length cut.lines.items
  entered-traces made = ap length made.entered ∙ length-traces_from (state_front kept.lines.items (splice_of cut)) cut.lines.items

  pub entered-outcomes : {new : News Outcome} → AreOutcomesOf kept cut new → length new.entered.items ≡ length cut.lines.items
  entered-outcomes made =
      let front : State = state_front kept.lines.items (splice_of cut) in
      ap length made.entered ∙ length-outcomes (finals_in (spliced kept.lines.items (splice_of cut))) (traces_from front cut.lines.items)
      ∙ length-traces_from front cut.lines.items

  pub trace-places : {news : List (SparseItem Trace)} (n : ℕ) {new : News Trace} → AreNewTraces kept.lines.items (splice_of cut) new → news ≡ new.renewed.items → n ≡ length kept.lines.items
      → AreWithin cut.from n news
  trace-places {news = news} n made is long =
      subst (λ (ns : List (SparseItem Trace)). AreWithin cut.from n ns) (sym (is ∙ made.renewed))
      (subst (λ (k : ℕ). AreWithin cut.from k (replayed_behind kept.lines.items (splice_of cut))) (sym long) (replayed_behind-within kept.lines.items (splice_of cut) cuts.recuts.within))

  pub trace-places_all : {news : List (SparseItem Trace)} (n : ℕ) {new : News Trace} → AreNewTraces kept.lines.items (splice_of cut) new → news ≡ new.renewed.items
      → n ≡ length kept.lines.items → AreWithin 0 n news
  trace-places_all {news = news} n made is long = AreWithin-wider cut.from n 0 n news (omega arith) (omega arith) (trace-places n made is long)

  pub outcome-places : (n : ℕ) {new : News Outcome} → AreOutcomesOf kept cut new → n ≡ length kept.lines.items → AreWithin 0 n new.renewed.items
  outcome-places n made long =
      let lines : List (List ℕ) = kept.lines.items in
      let was : Resolved = finals_in lines in
      let now : Resolved = finals_in (spliced lines (splice_of cut)) in
      subst (λ (ns : List (SparseItem Outcome)). AreWithin 0 n ns) (sym made.renewed)
      (subst (λ (k : ℕ). AreWithin 0 k (redone_front was now lines (splice_of cut) ++ redone_behind was now lines (splice_of cut))) (sym long)
      (redone-within_all lines (splice_of cut) was now cuts.recuts.order cuts.recuts.within))

  -- the traces and outcomes of all lines, with what was made anew in its place
  pub traces-edited : {new : News Trace} → AreNewTraces kept.lines.items (splice_of cut) new
      → take cut.keep (renewed 0 new.renewed.items kept.traces.items) ++ (new.entered.items ++ drop cut.from (renewed 0 new.renewed.items kept.traces.items))
      ≡ traces_of (spliced kept.lines.items (splice_of cut))
  traces-edited made =
      (λ j. take cut.keep (renewed 0 (made.renewed j) (are.did j)) ++ (made.entered j ++ drop cut.from (renewed 0 (made.renewed j) (are.did j))))
      ∙ traces-put kept.lines.items (splice_of cut) cuts.recuts.order cuts.recuts.within

  pub outcomes-edited : {new : News Outcome} → AreOutcomesOf kept cut new
      → take cut.keep (renewed 0 new.renewed.items kept.outcomes.items) ++ (new.entered.items ++ drop cut.from (renewed 0 new.renewed.items kept.outcomes.items))
      ≡ outcomes_by (finals_in (spliced kept.lines.items (splice_of cut))) (traces_of (spliced kept.lines.items (splice_of cut)))
  outcomes-edited made =
      (λ j. take cut.keep (renewed 0 (made.renewed j) kept.outcomes.items) ++ (made.entered j ++ drop cut.from (renewed 0 (made.renewed j) kept.outcomes.items)))
      ∙ outcomes-put kept.lines.items (splice_of cut) (finals_in kept.lines.items) (finals_in (spliced kept.lines.items (splice_of cut))) kept.outcomes.items are.made cuts.recuts.order
      cuts.recuts.within

  -- the lines that stay around the edit did the same in their chunks
  module _ (later : ChunkSplice) (cs : List Chunk) (olds es news : List Trace) (same : lengths_of cs ≡ lengths_of kept.chunks.items) (long : length olds ≡ length kept.lines.items)
      (entered : length es ≡ length cut.lines.items) (is : news ≡ take cut.keep olds ++ (es ++ drop cut.from olds)) where
    within : cut.from ≤ length olds
    within = omega (arith, long, cuts.recuts.within)

    chunks-long : length (lengths_of kept.chunks.items) ≡ length cs
    chunks-long = ap length (sym same) ∙ length-map cs (λ (c : Chunk). c.lines)

    back-end : cut.before + sum cut.lengths.items ≡ cut.keep + length es + (cut.behind - cut.from)
    back-end = omega (arith, entered, cuts.before, cuts.behind, cuts.recuts.begins, cuts.recuts.ends, cuts.recuts.order, cuts.recuts.count)

    behind-most : cut.behind ≤ length olds
    behind-most = omega (arith, long, cuts.behind, cuts.recuts.total, sum_by-take-le (λ x. x) (lengths_of kept.chunks.items) cut.end)

    pub cut-fits : (hashing : Hashing) → AreChunksOf hashing cs olds → Fits hashing (record cut { lines = later.lines }) cs olds news
    cut-fits hashing chunks = record {
      chunks = chunks;
      ordered = cuts.recuts.ordered;
      within = omega (arith, cuts.recuts.ends_within, chunks-long);
      before = cuts.before ∙ ap (λ ns. sum (take cut.start ns)) (sym same);
      behind = cuts.behind ∙ ap (λ ns. sum (take cut.end ns)) (sym same);
      front = put-front cut.keep cut.from olds es news cuts.recuts.order within is cut.before (omega (arith, cuts.before, cuts.recuts.begins));
      back = put-back cut.keep cut.from olds es news cuts.recuts.order within is (cut.before + sum cut.lengths.items) cut.behind (omega (arith, cuts.behind, cuts.recuts.ends)) back-end;
      count = omega (arith, back-end, behind-most, put-long cut.keep cut.from olds es news cuts.recuts.order within is, cuts.behind, cuts.recuts.ends);
    }

    -- and there is room for the chunks
    pub cut-room : {Z : Type 0} (chunks : Vec Chunk Z) (room : Vec Chunk Z) → chunks.items ≡ cs → vec_capacity chunks ≡ vec_capacity kept.chunks → HasRoomFor kept cut room
        → HasRoom (record cut { lines = later.lines }) chunks news room
    cut-room chunks room items capacity has =
        let count : vec_len chunks ≡ vec_len kept.chunks = omega (arith, chunks.ok.0, kept.chunks.ok.0, ap length items, same-long kept.chunks.items cs same) in
        let added : length cut.lengths.items ≡ vec_len cut.lengths = omega (arith, cut.lengths.ok.0) in
        record {
          chunks = omega (arith, count, added, capacity, has.chunks);
          list = omega (arith, added, has.list);
        }
