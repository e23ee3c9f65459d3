-- Pass one of an edit: new lines, the lines that cut chunks leave behind them, and the chunks behind these.
use Rattle.std.proofs.Common.{arith, ◌≡◌, refl, sym, ap, ◌∙◌, ℕ, ◌+◌, ◌-◌, ◌≤◌, List, [], ◌++◌, append-nil, length, take, drop}
use Rattle.std.specs.Prelude.{sum}
use Rattle.std.proofs.lemmas.List.{length-map, take_all, drop_all, drop-drop}
use Rattle.cps_state.specs.Course.{Trace}
use Rattle.cps_state.specs.Keys.{State, first_state, overwritten}
use Rattle.cps_final.specs.Changes.{Changed, changed, no_change}
use Rattle.cps_final.specs.Code.Kept.{changes_in}
use Rattle.cps_final.specs.Layout.{puts_of}
use Rattle.cps_edit.specs.Disturbed.{ones_of}
use Rattle.cps_edit.specs.Passes.{state_after, traces_from, traces_of}
use Rattle.cps_edit.specs.Splice.{Splice, splice_at, spliced}
use Rattle.cps_edit.proofs.SpliceLemmas.{puts-state, state_after-append}
use Rattle.cps_chunk.specs.Code.Chunk.{lengths_of}
use Rattle.cps_chunk.specs.declared.chunk.Chunk.{Chunk}
use Rattle.cps_chunk.specs.declared.walk.Baseline.{Baseline}
use Rattle.cps_chunk.specs.declared.walk.Walk.{Walk}
use Rattle.cps_chunk.specs.Noted.{noted}
use Rattle.cps_chunk.specs.Code.Replay.{now_by}
use Rattle.cps_chunk.specs.Replayed.{replayed, replayed_behind, state_behind, state_front}
use Rattle.cps_chunk.specs.Code.Walk.{GoesOver, IsStillWalk, IsWalk, cursor, looks_in, looks_over, now_at, replayed_in, stood_at, stretch}
use Rattle.cps_chunk.proofs.NotedLemmas.{noted-law}
use Rattle.cps_chunk.proofs.OverLemmas.{over-count, over-news, over-state}
use Rattle.cps_chunk.proofs.ReplayedLemmas.{ones-spliced}
use Rattle.cps_chunk.proofs.WalkLemmas.{as-long, lengths-within, stretch-all, stretch-did, stretch-part, stretch-state}
use Rattle.cps_chunk.specs.declared.put.ChunkSplice.{ChunkSplice}
use Rattle.cps_live.specs.Code.Editing.{splice_of}
use Rattle.cps_live.specs.Code.FirstPass.{BeginsWalk, IsWalked}

-- where the chunks of some lines end
pub ends-within : (old : Walk) (walk : IsWalk old) (behind end : ℕ) → behind ≡ sum (take end (lengths_of old.chunks.items)) → behind ≤ length old.base.lines.now
ends-within old walk behind end chunk =
    omega (arith, chunk, lengths-within old.base.hashing old.chunks.items old.base.traces.now end walk.chunks, as-long old.base.lines.now old.base.traces.now walk.base.did)

-- ---- new lines in the place of others

-- behind them stands what the old lines left, with what is noted
pub closed-state : (f : State) (olds : List Trace) (ls : List (List ℕ)) (g : State) (next : Changed) (entered : List Trace)
    → overwritten f (puts_of olds) ≡ g → entered ≡ traces_from f ls → next ≡ noted no_change f (puts_of olds) (puts_of entered) → changed next g ≡ state_after f ls
closed-state f olds ls g next entered stood does is =
    (λ i. changed (is i) (sym stood i)) ∙ noted-law no_change f (puts_of olds) (puts_of entered) ∙ ap (λ ts. overwritten f (puts_of ts)) does ∙ puts-state f ls

module _ (lines : List (List ℕ)) (traces : List Trace) (did : traces ≡ traces_of lines) (a b : ℕ) (le : a ≤ b) where
  -- what the lines left in whose place they stand
  pub left-there : overwritten (state_after first_state (take a lines)) (puts_of (stretch a b traces)) ≡ state_after first_state (take b lines)
  left-there =
      ap (λ ts. overwritten (state_after first_state (take a lines)) (puts_of ts)) (stretch-did lines traces did a b le)
      ∙ puts-state (state_after first_state (take a lines)) (stretch a b lines) ∙ stretch-state lines traces did a b le

-- new lines were entered, and those in whose place they stand have gone
pub record Entered (w0 w1 w2 : Walk) (cut : ChunkSplice) (entered : List Trace) : Type 0 where
  pub walk : IsWalk w0
  pub begins : BeginsWalk w0
  pub first : IsStillWalk w0 w1
  pub second : IsStillWalk w0 w2
  pub news : w2.replay.news.items ≡ []
  pub does : entered ≡ traces_from (now_at w0 cut.keep) cut.lines.items
  pub same : changes_in w1.replay.log.changes ≡ changes_in w0.replay.log.changes
  pub changes : changes_in w2.replay.log.changes
      ≡ noted (changes_in w1.replay.log.changes) (stood_at w1.base cut.keep) (puts_of (stretch cut.keep cut.from w1.base.traces.now)) (puts_of entered)

module _ (w0 w1 w2 : Walk) (cut : ChunkSplice) (entered : List Trace) (e : Entered w0 w1 w2 cut entered) (order : cut.keep ≤ cut.from) where
  abbrev base : Baseline
  base = w0.base

  abbrev front : State
  front = stood_at w0.base cut.keep

  pub entered-does : entered ≡ traces_from (state_front w0.base.lines.now (splice_of cut)) cut.lines.items
  entered-does = e.does ∙ (λ i. traces_from (changed (e.begins.changes i) (stood_at w0.base cut.keep)) cut.lines.items)

  pub entered-state : now_at w2 cut.from ≡ state_behind w0.base.lines.now (splice_of cut)
  entered-state =
      ap (λ (b : Baseline). changed (changes_in w2.replay.log.changes) (stood_at b cut.from)) e.second.base
      ∙ closed-state front (stretch cut.keep cut.from w0.base.traces.now) cut.lines.items (stood_at w0.base cut.from) (changes_in w2.replay.log.changes) entered
      (left-there w0.base.lines.now w0.base.traces.now e.walk.base.did cut.keep cut.from order) entered-does
      (e.changes
      ∙ (λ i. noted ((e.same ∙ e.begins.changes) i) (stood_at (e.first.base i) cut.keep) (puts_of (stretch cut.keep cut.from (e.first.base i).traces.now)) (puts_of entered)))

-- ---- behind the last

module _ (lines new : List (List ℕ)) where
  abbrev at : ℕ
  at = length lines

  pub front-all : state_front lines (splice_at (length lines) (length lines) new) ≡ state_after first_state lines
  front-all = ap (state_after first_state) (take_all (length lines) lines (omega arith))

  none-behind : drop (length lines) lines ≡ []
  none-behind = drop_all (length lines) lines (omega arith)

  pub replayed-last : replayed_behind lines (splice_at (length lines) (length lines) new) ≡ []
  replayed-last =
      ap (λ ls. replayed (state_behind lines (splice_at (length lines) (length lines) new)) (length lines) ls (drop (length lines) (traces_of lines))) none-behind

  pub spliced-last : state_after first_state (spliced lines (splice_at (length lines) (length lines) new)) ≡ state_after (state_after first_state lines) new
  spliced-last =
      (λ i. state_after first_state (take_all (length lines) lines (omega arith) i ++ (new ++ none-behind i)))
      ∙ ap (λ ls. state_after first_state (lines ++ ls)) (append-nil new) ∙ state_after-append first_state lines new

  pub ones-last : ones_of lines (splice_at (length lines) (length lines) new) ≡ length new
  ones-last =
      let some = ones-spliced lines (splice_at (length lines) (length lines) new) in
      omega (arith, some, ap length replayed-last)

-- ---- the lines that cut chunks leave

module _ (old w2 : Walk) (walk : IsWalk old) (splice : Splice) (from behind : ℕ) (source : splice.from ≡ from) (order : from ≤ behind) (within : behind ≤ length old.base.lines.now)
    (b2 : w2.base ≡ old.base) (start : now_at w2 from ≡ state_behind old.base.lines.now splice) where
  stretch-end : (xs : List Trace) → length xs ≡ length old.base.lines.now → stretch from (length old.base.lines.now) xs ≡ drop from xs
  stretch-end xs same = ap (λ k. stretch from k xs) (sym same) ∙ stretch-all from xs

  pub behind-is : replayed (state_behind old.base.lines.now splice) from (stretch from (length old.base.lines.now) old.base.lines.now)
      (stretch from (length old.base.lines.now) old.base.traces.now)
      ≡ replayed_behind old.base.lines.now splice
  behind-is =
      (λ i. replayed (state_behind old.base.lines.now splice) from (stretch-all from old.base.lines.now i)
      (stretch-end old.base.traces.now (as-long old.base.lines.now old.base.traces.now walk.base.did) i))
      ∙ (λ i. replayed (state_behind old.base.lines.now splice) (sym source i) (drop (sym source i) old.base.lines.now) (drop (sym source i) (walk.base.did i)))

  pub loose-count : length (replayed_in w2 from behind)
      ≡ length (replayed (state_behind old.base.lines.now splice) from (stretch from behind old.base.lines.now) (stretch from behind old.base.traces.now))
  loose-count = λ i. length (replayed (start i) from (stretch from behind (b2 i).lines.now) (stretch from behind (b2 i).traces.now))

  pub steps-first : length splice.new + length (replayed_in w2 from behind) ≤ ones_of old.base.lines.now splice
  steps-first =
      let parts = over-count old.base.lines.now old.base.traces.now walk.base.did from behind (length old.base.lines.now) order within (omega arith) (state_behind old.base.lines.now splice) in
      omega (arith, ones-spliced old.base.lines.now splice, ap length behind-is, parts, loose-count)

-- ---- all lines behind the new ones

module _ (old w2 w3 w4 : Walk) (walk : IsWalk old) (splice : Splice) (from behind end : ℕ) (source : splice.from ≡ from)
    (order : from ≤ behind) (within : behind ≤ length old.base.lines.now)
    (b2 : w2.base ≡ old.base) (b3 : w3.base ≡ old.base) (lengths : lengths_of w3.chunks.items ≡ lengths_of old.chunks.items)
    (start : now_at w2 from ≡ state_behind old.base.lines.now splice) (begun : w2.replay.news.items ≡ []) (loose : GoesOver w2 w3 from behind) where
  abbrev ls : List (List ℕ)
  ls = old.base.lines.now

  abbrev ts : List Trace
  ts = old.base.traces.now

  abbrev f : State
  f = state_behind ls splice

  first : w3.replay.news.items ≡ [] ++ replayed f from (stretch from behind ls) (stretch from behind ts)
  first = loose.news ∙ (λ i. begun i ++ replayed (start i) from (stretch from behind (b2 i).lines.now) (stretch from behind (b2 i).traces.now))

  next : now_at w3 behind ≡ state_after f (stretch from behind ls)
  next = loose.state ∙ (λ i. state_after (start i) (stretch from behind (b2 i).lines.now))

  all-is : replayed f from (stretch from (length ls) ls) (stretch from (length ls) ts) ≡ replayed_behind ls splice
  all-is = behind-is old w2 walk splice from behind source order within b2 start

  second-count : length (replayed_in w3 behind (length ls))
      ≡ length (replayed (state_after f (stretch from behind ls)) behind (stretch behind (length ls) ls) (stretch behind (length ls) ts))
  second-count = λ i. length (replayed (next i) behind (stretch behind (length ls) (b3 i).lines.now) (stretch behind (length ls) (b3 i).traces.now))

  -- how many lines are stepped
  pub steps-are : ones_of ls splice ≡ length splice.new + length (replayed_in w2 from behind) + length (replayed_in w3 behind (length ls))
  steps-are =
      let parts = over-count ls ts walk.base.did from behind (length ls) order within (omega arith) f in
      omega (arith, ones-spliced ls splice, ap length all-is, parts, loose-count old w2 walk splice from behind source order within b2 start, second-count)

  -- how many are compared
  pub looks-are : looks_in w3 (cursor end behind) (cursor (length w3.chunks.items) (length w3.base.lines.now))
      ≡ looks_over (state_after f (take (behind - from) (drop from ls))) (drop end (lengths_of old.chunks.items)) (drop (behind - from) (drop from ls)) (drop (behind - from) (drop from (traces_of ls)))
  looks-are =
      (λ i. looks_over (next i) (all-lengths i) (lines-behind i) (traces-behind i))
      ∙ (λ i. looks_over (state_after f (sym (stretch-part from behind order ls) i)) (drop end (lengths_of old.chunks.items)) (back ls i) (back-traces i))
    where
      whole : from + (behind - from) ≡ behind
      whole = omega (arith, order)

      back : {X : Type 0} (xs : List X) → drop behind xs ≡ drop (behind - from) (drop from xs)
      back xs = ap (λ k. drop k xs) (sym whole) ∙ sym (drop-drop (behind - from) from xs)

      back-traces : drop behind ts ≡ drop (behind - from) (drop from (traces_of ls))
      back-traces = ap (drop behind) walk.base.did ∙ back (traces_of ls)

      all-lengths : stretch end (length w3.chunks.items) (lengths_of w3.chunks.items) ≡ drop end (lengths_of old.chunks.items)
      all-lengths =
          ap (λ k. stretch end k (lengths_of w3.chunks.items)) (sym (length-map w3.chunks.items (λ (c : Chunk). c.lines)))
          ∙ stretch-all end (lengths_of w3.chunks.items) ∙ ap (drop end) lengths

      lines-behind : stretch behind (length w3.base.lines.now) w3.base.lines.now ≡ drop behind ls
      lines-behind = stretch-all behind w3.base.lines.now ∙ ap (λ (b : Baseline). drop behind b.lines.now) b3

      traces-behind : stretch behind (length w3.base.lines.now) w3.base.traces.now ≡ drop behind ts
      traces-behind =
          ap (λ (b : Baseline). stretch behind (length b.lines.now) b.traces.now) b3
          ∙ ap (λ k. stretch behind k ts) (sym (as-long ls ts walk.base.did)) ∙ stretch-all behind ts

  module _ (kept : w4.base ≡ w3.base) (over : GoesOver w3 w4 behind (length w3.base.lines.now)) where
    -- all of them were gone over
    pub walked : IsWalked old w4 splice
    walked = record {
      news =
          (over.news
          ∙ (λ i. first i ++ replayed (next i) behind (stretch behind (length (b3 i).lines.now) (b3 i).lines.now) (stretch behind (length (b3 i).lines.now) (b3 i).traces.now)))
          ∙ over-news ls ts walk.base.did from behind (length ls) order within (omega arith) f [] _ _ refl refl ∙ all-is;
      state =
          (λ i. now_by w4.replay.log (stood_at w4.base (length (sym b3 i).lines.now))) ∙ over.state
          ∙ (λ i. state_after (next i) (stretch behind (length (b3 i).lines.now) (b3 i).lines.now))
          ∙ over-state ls ts walk.base.did from behind (length ls) order within (omega arith) f
          ∙ ap (state_after f) (stretch-all from ls ∙ ap (λ k. drop k ls) (sym source))
          ∙ sym (state_after-append (state_front ls splice) splice.new (drop splice.from ls))
          ∙ sym (state_after-append first_state (take splice.keep ls) (splice.new ++ drop splice.from ls));
    }
