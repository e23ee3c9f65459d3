-- Two runs of lines of a source that change places, put together of its parts.
use Rattle.std.proofs.Common.{arith, ◌≡◌, refl, sym, ap, subst, ◌∙◌, ℕ, ◌+◌, ◌*◌, ◌<◌, ◌≤◌, ◌^◌, List, length, take, Option, Result, Ok, Err}
use Rattle.std.specs.Prelude.{sum, vec_len}
use Rattle.std.specs.Vec.{with_items}
use Rattle.std.specs.declared.vec.Vec.{Vec}
use Rattle.std.proofs.lemmas.List.{take_all, with_items_is}
use Rattle.cps_state.specs.declared.hashing.Hashing.{Hashing}
use Rattle.cps_state.specs.Keys.{first_state}
use Rattle.cps_state.specs.Course.{Trace}
use Rattle.cps_state.specs.Work.{Counts}
use Rattle.cps_edit.specs.declared.exchange.Exchange.{Exchange}
use Rattle.cps_edit.specs.Exchange.{IsWithin, exchanged}
use Rattle.cps_edit.specs.Numbers.{exchanged_numbers}
use Rattle.cps_edit.proofs.ListLemmas.{exchanged-long}
use Rattle.cps_final.specs.Finals.{Finals, final_value, finals_of}
use Rattle.cps_final.specs.Outcome.{Outcome, Resolved}
use Rattle.cps_final.specs.declared.storage.Storage.{Storage}
use Rattle.cps_chunk.specs.Division.{AreChunks, IsDivision}
use Rattle.cps_chunk.specs.Exchange.{exchanged_at}
use Rattle.cps_chunk.specs.Code.Pieces.{ArePieces}
use Rattle.cps_chunk.proofs.ExchangeLemmas.{exchanged-divides}
use Rattle.cps_edit.specs.Compares.{ComparesUpTo, Steps}
use Rattle.cps_edit.specs.Disturbed.{finals_in, twos_of_exchange}
use Rattle.cps_edit.specs.Passes.{outcomes_by, traces_of}
use Rattle.cps_edit.proofs.RedoLemmas.{length-outcomes}
use Rattle.cps_edit.proofs.SpliceLemmas.{length-traces_from}
use Rattle.cps_chunk.specs.declared.chunk.Chunk.{Chunk}
use Rattle.cps_chunk.specs.Code.Chunk.{AreChunksOf, lengths_of}
use Rattle.cps_chunk.proofs.ChunkLemmas.{chunks-long}
use Rattle.cps_chunk.specs.declared.sparse.SparseItem.{SparseItem}
use Rattle.cps_final.specs.Code.Ends.{was_of, now_of}
use Rattle.cps_chunk.specs.Code.Moved.{replayed_moved}
use Rattle.cps_chunk.specs.Replayed.{redone}
use Rattle.cps_chunk.specs.Sparse.{AreWithin, renewed}
use Rattle.cps_chunk.specs.Code.Walk.{stretch}
use Rattle.cps_chunk.proofs.MovedLemmas.{outcomes-moved, redone_moved-within, replayed_moved-within, traces-moved, twos-moved}
use Rattle.cps_chunk.proofs.SparseLemmas.{AreWithin-wider, length-renewed}
use Rattle.cps_chunk.specs.Code.Looks.{looks_again}
use Rattle.cps_chunk.specs.Code.MoveLooks.{first_looks_moved, second_looks_moved}
use Rattle.cps_chunk.specs.Touched.{touched_of_exchange}
use Rattle.cps_chunk.proofs.MoveLooksLemmas.{move-looks-law}
use Rattle.cps_chunk.specs.Code.MovedChunks.{AreMoved}
use Rattle.cps_chunk.proofs.MovedChunkLemmas.{are-moved}
use Rattle.cps_live.specs.declared.exchange.MovedParts.{MovedParts}
use Rattle.cps_live.specs.declared.kept_source.KeptSource.{KeptSource}
use Rattle.cps_live.specs.declared.second_pass.SecondPass.{SecondPass}
use Rattle.cps_live.specs.Code.Editing.{AreKept, IsStill}
use Rattle.cps_live.specs.Code.Exchanged.{AreMovedParts, HasRuns, LooksOfExchange, redone_moved}
use Rattle.cps_live.specs.Code.SecondPass.{looks_in, redone_in}
use Rattle.cps_live.specs.Code.StillChunks.{StandFrom}
use Rattle.cps_live.specs.Code.Storing.{IsStoredBehind}
use Rattle.cps_live.proofs.AgainLemmas.{steps-ok}

pub runs-within : {n : ℕ} {e : Exchange} → HasRuns n e → IsWithin n e
runs-within runs = record { first = omega (arith, runs.first); second = omega (arith, runs.second); all = runs.within }

pub lines-within : (kept : KeptSource) (e : Exchange) → HasRuns (vec_len kept.lines) e → IsWithin (length kept.lines.items) e
lines-within kept e runs = subst (λ (n : ℕ). IsWithin n e) kept.lines.ok.0 (runs-within runs)

pub still-next : {old between new : KeptSource} → IsStill old between → IsStill between new → IsStill old new
still-next one two = record {
  hashing = two.hashing ∙ one.hashing;
  lines = two.lines ∙ one.lines;
  traces = two.traces ∙ one.traces;
  outcomes = two.outcomes ∙ one.outcomes;
  lengths = two.lengths ∙ one.lengths;
}

-- ---- all lines of a source

pub lines-long : {kept : KeptSource} → AreKept kept → length kept.traces.items ≡ length kept.lines.items
lines-long {kept = kept} are = ap length are.did ∙ length-traces_from first_state kept.lines.items

pub lines-total : {kept : KeptSource} → AreKept kept → sum (lengths_of kept.chunks.items) ≡ length kept.lines.items
lines-total {kept = kept} are = sym (chunks-long kept.hashing kept.chunks.items kept.traces.items are.chunks) ∙ lines-long are

-- ---- pass two over all of them

module _ (kept : KeptSource) (are : AreKept kept) (pass : SecondPass) (olds : List Chunk) (were : olds ≡ kept.chunks.items) (did : pass.base.traces.now ≡ kept.traces.items)
    (same : pass.base.hashing ≡ kept.hashing) where
  pub all-end : 0 + sum (lengths_of olds) ≡ length kept.lines.items
  all-end = omega (arith, ap (λ (cs : List Chunk). sum (lengths_of cs)) were, lines-total are)

  all-traces : stretch 0 (0 + sum (lengths_of olds)) pass.base.traces.now ≡ kept.traces.items
  all-traces =
      let n : ℕ = 0 + sum (lengths_of olds) in
      ap (take n) did ∙ take_all n kept.traces.items (omega (arith, all-end, lines-long are))

  pub all-stand : length kept.lines.items < 2 ^ 63 → StandFrom pass.base 0 olds
  all-stand few = record {
    room = omega (arith, all-end, few);
    within = omega (arith, all-end, lines-long are, ap length did);
    chunks = subst (λ (ts : List Trace). AreChunksOf pass.base.hashing olds ts) (sym all-traces)
        (subst (λ (h : Hashing). AreChunksOf h olds kept.traces.items) (sym same)
        (subst (λ (cs : List Chunk). AreChunksOf kept.hashing cs kept.traces.items) (sym were) are.chunks));
  }

  module _ (a b : Resolved) (was : was_of pass.redo.ends ≡ a) (now : now_of pass.redo.ends ≡ b) (news : List (SparseItem Trace)) where
    -- what is made anew, and how many lines are compared
    pub all-redone : redone_in pass 0 (0 + sum (lengths_of olds)) news ≡ redone a b 0 news kept.traces.items
    all-redone = λ j. redone (was j) (now j) 0 news (all-traces j)

    pub all-looks : looks_in pass (lengths_of olds) 0 news ≡ looks_again a b (lengths_of kept.chunks.items) 0 news kept.traces.items
    all-looks = λ j. looks_again (was j) (now j) (lengths_of (were j)) 0 news (did j)

-- as many steps
pub steps-as : {T E S F : Type 0} {v : T} {u : S} {w0 w1 : Counts} {n m : ℕ} → n ≡ m → Steps {T = T} {E = E} (Ok v) w0 w1 0 n → Steps {T = S} {E = F} (Ok u) w0 w1 0 m
steps-as {T = T} {E = E} {v = v} {w0 = w0} {w1 = w1} same steps = steps-ok (subst (λ (k : ℕ). Steps {T = T} {E = E} (Ok v) w0 w1 0 k) same steps)

-- a list of which two runs were turned in place
pub turned-list : {X Z : Type 0} (v : Vec X Z) (xs us : List X) (e : Exchange) → us ≡ exchanged e xs → xs ≡ v.items → IsWithin (length v.items) e → (with_items v us).items ≡ us
turned-list v xs us e turned is within =
    let same : us ≡ exchanged e v.items = turned ∙ ap (exchanged e) is in
    with_items_is v us (omega (arith, ap length same, exchanged-long v.items e within, v.ok.0))

-- ---- the places of what is made anew in pass one

module _ (lines : List (List ℕ)) (e : Exchange) (within : IsWithin (length lines) e) (news : List (SparseItem Trace)) (is : news ≡ replayed_moved lines e) where
  pub news-behind : (n : ℕ) → n ≡ length lines → AreWithin e.keep n news
  news-behind n long =
      subst (λ (ns : List (SparseItem Trace)). AreWithin e.keep n ns) (sym is)
      (subst (λ (k : ℕ). AreWithin e.keep k (replayed_moved lines e)) (sym long) (replayed_moved-within lines e within))

  pub news-places : (n : ℕ) → n ≡ length lines → AreWithin 0 n news
  news-places n long = AreWithin-wider e.keep n 0 n news (omega arith) (omega arith) (news-behind n long)

-- ---- all that comes with a move, put in its place

module _ {kept : KeptSource} {e : Exchange} {parts : MovedParts} (are : AreKept kept) (runs : HasRuns (vec_len kept.lines) e) (made : AreMovedParts kept e parts) where
  moved-within : IsWithin (length kept.lines.items) e
  moved-within = lines-within kept e runs

  -- so many items of whatever is kept of lines
  pub turned-within : {X : Type 0} (xs ys : List X) → xs ≡ ys → length ys ≡ length kept.lines.items → IsWithin (length xs) e
  turned-within xs ys is long = subst (λ (n : ℕ). IsWithin n e) (sym (ap length is ∙ long)) moved-within

  pub turned-items : {X Z : Type 0} (v : Vec X Z) (xs us : List X) → us ≡ exchanged e xs → xs ≡ v.items → length v.items ≡ length kept.lines.items
      → (with_items v us).items ≡ exchanged e v.items
  turned-items v xs us turned is long =
      let same : us ≡ exchanged e v.items = turned ∙ ap (exchanged e) is in
      with_items_is v us (omega (arith, ap length same, exchanged-long v.items e (turned-within v.items v.items refl long), v.ok.0)) ∙ same

  pub moved-traces_long : length (renewed 0 parts.traces.items kept.traces.items) ≡ length kept.lines.items
  moved-traces_long = length-renewed 0 parts.traces.items kept.traces.items ∙ lines-long are

  outcomes-long : length kept.outcomes.items ≡ length kept.lines.items
  outcomes-long = ap length are.made ∙ length-outcomes (finals_in kept.lines.items) (traces_of kept.lines.items) ∙ length-traces_from first_state kept.lines.items

  pub moved-outcomes_long : length (renewed 0 parts.outcomes.items kept.outcomes.items) ≡ length kept.lines.items
  moved-outcomes_long = length-renewed 0 parts.outcomes.items kept.outcomes.items ∙ outcomes-long

  pub moved-trace_places : (n : ℕ) (news : List (SparseItem Trace)) → news ≡ parts.traces.items → n ≡ length kept.lines.items → AreWithin 0 n news
  moved-trace_places n news is long = news-places kept.lines.items e moved-within news (is ∙ made.traces) n long

  pub moved-outcome_places : AreWithin 0 (vec_len kept.outcomes) parts.outcomes.items
  moved-outcome_places =
      let lines : List (List ℕ) = kept.lines.items in
      let count : length lines ≡ vec_len kept.outcomes = omega (arith, outcomes-long, kept.outcomes.ok.0) in
      subst (λ (ns : List (SparseItem Outcome)). AreWithin 0 (vec_len kept.outcomes) ns) (sym made.outcomes)
      (subst (λ (n : ℕ). AreWithin 0 n (redone_moved lines e)) count (redone_moved-within lines e moved-within (finals_in lines) (finals_in (exchanged e lines))))

  pub moved-did : exchanged e (renewed 0 parts.traces.items kept.traces.items) ≡ traces_of (exchanged e kept.lines.items)
  moved-did = (λ j. exchanged e (renewed 0 (made.traces j) (are.did j))) ∙ traces-moved kept.lines.items e moved-within

  pub moved-made : exchanged e (renewed 0 parts.outcomes.items kept.outcomes.items) ≡ outcomes_by (finals_in (exchanged e kept.lines.items)) (traces_of (exchanged e kept.lines.items))
  moved-made =
      let lines : List (List ℕ) = kept.lines.items in
      ap (λ (ns : List (SparseItem Outcome)). exchanged e (renewed 0 ns kept.outcomes.items)) made.outcomes
      ∙ outcomes-moved lines e moved-within (finals_in lines) (finals_in (exchanged e lines)) kept.outcomes.items are.made

  -- the chunks that were marked, in their new order
  pub moved-chunks : (hashing : Hashing) (cs : List Chunk) (us : List Trace) → lengths_of cs ≡ lengths_of kept.chunks.items
      → AreChunksOf hashing cs (renewed 0 parts.traces.items kept.traces.items) → us ≡ exchanged e (renewed 0 parts.traces.items kept.traces.items)
      → AreMoved hashing cs parts.pieces.items us
  moved-chunks hashing cs us same marked moved =
      let ts : List Trace = renewed 0 parts.traces.items kept.traces.items in
      are-moved hashing cs parts.pieces.items ts us e marked (turned-within ts ts refl moved-traces_long)
      (subst (λ (ns : List ℕ). ArePieces ns parts.pieces.items (exchanged_numbers (sum ns) e)) (sym same) made.pieces.named) moved

  pub moved-divided : AreChunks (exchanged_at e (lengths_of kept.chunks.items))
  moved-divided =
      let division : IsDivision (length kept.lines.items) (lengths_of kept.chunks.items) = record { chunks = are.divided; total = lines-total are } in
      (exchanged-divides e.keep e.mid e.from (length kept.lines.items) (lengths_of kept.chunks.items) division moved-within.first moved-within.second moved-within.all).chunks

-- ---- what stands behind the last line

module _ (lines : List (List ℕ)) (e : Exchange) (within : IsWithin (length lines) e) where
  pub stored-moved : (storage : Option Storage) (olds : List Trace) (news : List (SparseItem Trace)) → olds ≡ traces_of lines → news ≡ replayed_moved lines e
      → IsStoredBehind olds storage (exchanged e (renewed 0 news olds)) → IsStoredBehind (traces_of lines) storage (traces_of (exchanged e lines))
  stored-moved storage olds news did is stored =
      subst (λ (ts : List Trace). IsStoredBehind ts storage (traces_of (exchanged e lines))) did
      (subst (λ (ts : List Trace). IsStoredBehind olds storage ts) ((λ j. exchanged e (renewed 0 (is j) (did j))) ∙ traces-moved lines e within) stored)

  -- the final values before and after, and what is kept of the lines
  module _ (was now : Finals) (traces : List Trace) (news : List (SparseItem Trace)) (before : was ≡ finals_of (traces_of lines)) (behind : now ≡ finals_of (traces_of (exchanged e lines)))
      (did : traces ≡ traces_of lines) (is : news ≡ replayed_moved lines e) where
    pub made-moved : redone (final_value was) (final_value now) 0 news traces ≡ redone_moved lines e
    made-moved = λ j. redone (final_value (before j)) (final_value (behind j)) 0 (is j) (did j)

    pub twos-made : twos_of_exchange lines e ≡ length (redone (final_value was) (final_value now) 0 news traces)
    twos-made = twos-moved lines e within (finals_in lines) (finals_in (exchanged e lines)) refl refl ∙ ap length (sym made-moved)

    pub looks-made : (lengths olds : List ℕ) → lengths ≡ olds → looks_again (final_value was) (final_value now) lengths 0 news traces ≡ second_looks_moved lines e olds
    looks-made lengths olds same = λ j. looks_again (final_value (before j)) (final_value (behind j)) (same j) 0 (is j) (did j)

-- ---- how many steps both passes count

module _ {T E U F : Type 0} {v : T} (w0 w1 w2 : Counts) (n m k : ℕ) (same : k ≡ m) (one : Steps {T = T} {E = E} (Ok v) w0 w1 n 0) where
  pub steps-both : {S G : Type 0} {u : S} {r : U} → Steps {T = S} {E = G} (Ok u) w1 w2 0 m → Steps {T = U} {E = F} (Ok r) w0 w2 n k
  steps-both two = record {
    ones = omega (arith, one.ones, two.ones);
    twos = omega (arith, same, one.twos, two.twos);
    ones_least = omega (arith, one.ones_least, two.ones_least);
    twos_least = omega (arith, one.twos_least, two.twos_least);
    ones_most = omega (arith, one.ones_most, two.ones_most);
    twos_most = omega (arith, same, one.twos_most, two.twos_most);
  }

  pub steps-refused : {S G : Type 0} {made : Result S G} {x : F} → Steps made w1 w2 0 m → Steps {T = U} {E = F} (Err x) w0 w2 n k
  steps-refused two = record {
    ones = tt;
    twos = tt;
    ones_least = omega (arith, one.ones_least, two.ones_least);
    twos_least = omega (arith, one.twos_least, two.twos_least);
    ones_most = omega (arith, one.ones_most, two.ones_most);
    twos_most = omega (arith, same, one.twos_most, two.twos_most);
  }

-- ---- how many lines are compared

module _ (kept : KeptSource) (e : Exchange) (are : AreKept kept) (runs : HasRuns (vec_len kept.lines) e) where
  abbrev most : ℕ
  most = 128 * touched_of_exchange kept.lines.items e (lengths_of kept.chunks.items) (exchanged_at e (lengths_of kept.chunks.items))

  looks : first_looks_moved kept.lines.items e (lengths_of kept.chunks.items) + second_looks_moved kept.lines.items e (lengths_of kept.chunks.items) ≤ most
  looks =
      let division : IsDivision (length kept.lines.items) (lengths_of kept.chunks.items) = record { chunks = are.divided; total = lines-total are } in
      move-looks-law kept.lines.items e (lengths_of kept.chunks.items) division runs.first runs.second (omega (arith, runs.within, kept.lines.ok.0))

  pub moved-looked_first : (u v : Counts) → ComparesUpTo u v (first_looks_moved kept.lines.items e (lengths_of kept.chunks.items)) → LooksOfExchange e kept u v
  moved-looked_first u v one = record { least = one.least; most = omega (arith, one.most, looks) }

  pub moved-looked_both : (u v w : Counts) (n : ℕ) → n ≡ second_looks_moved kept.lines.items e (lengths_of kept.chunks.items)
      → ComparesUpTo u v (first_looks_moved kept.lines.items e (lengths_of kept.chunks.items)) → ComparesUpTo v w n → LooksOfExchange e kept u w
  moved-looked_both u v w n is one two = record { least = omega (arith, one.least, two.least); most = omega (arith, is, one.most, two.most, looks) }
