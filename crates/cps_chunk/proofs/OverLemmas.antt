-- Chunks that are gone over, one after another.
use Rattle.std.proofs.Common.{◌≡◌, sym, ap, subst, ◌∙◌, ℕ, ◌+◌, ◌-◌, ◌<◌, ◌≤◌, Bool, true, List, [], ◌∷◌, ◌++◌, append_assoc, append-nil, length, get_or, take, drop, arith}
use Rattle.std.specs.Prelude.{sum, if◌then◌else◌}
use Rattle.std.proofs.lemmas.List.{drop_all, length-take, take-take, take-map, get_or-take}
use Rattle.std.proofs.lemmas.List.Sums.{sum_by-take-le}
use Rattle.cps_state.specs.declared.key.Asked.{Asked}
use Rattle.cps_state.specs.Course.{Trace}
use Rattle.cps_state.specs.Keys.{State, first_state}
use Rattle.cps_state.specs.Work.{counted_on}
use Rattle.cps_final.specs.Changes.{changed, no_change, agreed}
use Rattle.cps_final.specs.Code.Kept.{changes_in}
use Rattle.cps_final.specs.Layout.{puts_of}
use Rattle.cps_edit.specs.Passes.{state_after, traces_of}
use Rattle.cps_edit.proofs.SpliceLemmas.{take-traces_from}
use Rattle.cps_chunk.specs.Code.Chunk.{AreChunksOf, lengths_of}
use Rattle.cps_chunk.specs.declared.chunk.Chunk.{Chunk}
use Rattle.cps_final.specs.Holds.{holds}
use Rattle.cps_final.specs.Run.{run_of}
use Rattle.cps_chunk.specs.declared.sparse.SparseItem.{SparseItem}
use Rattle.cps_chunk.specs.declared.walk.Baseline.{Baseline}
use Rattle.cps_chunk.specs.declared.walk.Walk.{Walk}
use Rattle.cps_chunk.specs.Noted.{stands}
use Rattle.cps_chunk.specs.Code.Replay.{now_by}
use Rattle.cps_chunk.specs.Replayed.{replayed}
use Rattle.cps_chunk.specs.Code.Walk.{GoesOver, IsBaseline, IsStillWalk, IsWalk, StandsAt, cursor, looks_at, looks_over, now_at, replayed_in, stood_at, stretch}
use Rattle.cps_chunk.proofs.PassedLemmas.{part-left, part-none, part-stands}
use Rattle.cps_chunk.proofs.WalkLemmas.{as-long, same-long, lengths-drop, lengths-next, lengths-within, part-replayed, part-state, part-count, part-looks}

-- a stretch that ends no later than another
pub stretch-within : {X : Type 0} (a b p : ℕ) (xs : List X) → b ≤ p → stretch a b (take p xs) ≡ stretch a b xs
stretch-within a b p xs le = ap (drop a) (take-take b p xs le)

module _ (lines : List (List ℕ)) (traces : List Trace) (did : traces ≡ traces_of lines) (a b p : ℕ) (le : a ≤ b) (inner : b ≤ p) (within : p ≤ length lines) (now : State) where
  done : take p traces ≡ traces_of (take p lines)
  done = ap (take p) did ∙ take-traces_from p first_state lines

  short : b ≤ length (take p lines)
  short = omega (arith, inner, within, length-take p lines)

  abbrev here : List (SparseItem Trace)
  here = replayed now a (stretch a b lines) (stretch a b traces)

  abbrev next : State
  next = state_after now (stretch a b lines)

  -- a stretch, and those behind it
  pub stretch-replayed : replayed now a (stretch a p lines) (stretch a p traces) ≡ here ++ replayed next b (stretch b p lines) (stretch b p traces)
  stretch-replayed =
      part-replayed (take p lines) (take p traces) done a b le short now
      ∙ (λ i. replayed now a (stretch-within a b p lines inner i) (stretch-within a b p traces inner i)
      ++ replayed (state_after now (stretch-within a b p lines inner i)) b (stretch b p lines) (stretch b p traces))

  pub over-news : (made more e : List (SparseItem Trace)) → more ≡ made ++ here → made ++ replayed now a (stretch a p lines) (stretch a p traces) ≡ e
      → more ++ replayed next b (stretch b p lines) (stretch b p traces) ≡ e
  over-news made more e is so_far =
      let rest = replayed next b (stretch b p lines) (stretch b p traces) in
      ap (λ us. us ++ rest) is ∙ append_assoc made here rest ∙ ap (λ us. made ++ us) (sym stretch-replayed) ∙ so_far

  pub over-state : state_after next (stretch b p lines) ≡ state_after now (stretch a p lines)
  over-state =
      sym (part-state (take p lines) (take p traces) done a b le short now ∙ ap (λ us. state_after (state_after now us) (stretch b p lines)) (stretch-within a b p lines inner))

  pub over-count : length (replayed now a (stretch a p lines) (stretch a p traces)) ≡ length here + length (replayed next b (stretch b p lines) (stretch b p traces))
  over-count =
      part-count (take p lines) (take p traces) done a b le short now
      ∙ (λ i. length (replayed now a (stretch-within a b p lines inner i) (stretch-within a b p traces inner i))
      + length (replayed (state_after now (stretch-within a b p lines inner i)) b (stretch b p lines) (stretch b p traces)))

  pub over-looks : (n : ℕ) (lengths : List ℕ) → a + n ≡ b → looks_over now (n ∷ lengths) (stretch a p lines) (stretch a p traces)
      ≡ (if holds (run_of (stretch a b traces)).asks now then 0 else b - a) + looks_over next lengths (stretch b p lines) (stretch b p traces)
  over-looks n lengths whole =
      part-looks (take p lines) (take p traces) done a b le short now n lengths whole
      ∙ (λ i. (if holds (run_of (stretch-within a b p traces inner i)).asks now then 0 else b - a)
      + looks_over (state_after now (stretch-within a b p lines inner i)) lengths (stretch b p lines) (stretch b p traces))

-- the first of some chunks, and those behind it
pub stretch-lengths : (cs : List Chunk) (i j : ℕ) (c : Chunk) → i < j → j ≤ length cs → c ≡ get_or cs i c
    → stretch i j (lengths_of cs) ≡ c.lines ∷ stretch (i + 1) j (lengths_of cs)
stretch-lengths cs i j c lt within is =
    let first = take-map (λ (d : Chunk). d.lines) j cs in
    ap (drop i) first ∙ lengths-drop (take j cs) i c (omega (arith, lt, within, length-take j cs)) (is ∙ sym (get_or-take j cs i c lt))
    ∙ ap (λ ns. c.lines ∷ ns) (sym (ap (drop (i + 1)) first))

-- how many are compared, with those that were
pub looked-over : (f w v here left all : ℕ) → v ≤ counted_on w here → all ≡ here + left → counted_on w all ≤ f → counted_on v left ≤ f
looked-over f w v here left all p q r = omega arith

-- ---- one chunk

-- a walk in which other lines were gone over, or more of chunks gathered
pub still-walk : (old mid new : Walk) → IsWalk mid → new.base ≡ mid.base → new.chunks.items ≡ mid.chunks.items → mid.base ≡ old.base
    → lengths_of mid.chunks.items ≡ lengths_of old.chunks.items → IsStillWalk old new
still-walk old mid new walk base chunks kept lengths = record {
  walk = record {
    base = subst IsBaseline (sym base) walk.base;
    chunks = subst (λ (b : Baseline). AreChunksOf b.hashing new.chunks.items b.traces.now) (sym base)
        (subst (λ (cs : List Chunk). AreChunksOf mid.base.hashing cs mid.base.traces.now) (sym chunks) walk.chunks);
  };
  base = base ∙ kept;
  lengths = ap lengths_of chunks ∙ lengths;
}

module _ (old : Walk) (walk : IsWalk old) (a b : ℕ) (le : a ≤ b) where
  abbrev asked : List Asked
  asked = (run_of (stretch a b old.base.traces.now)).asks

  -- what all its lines ask together stands, or not
  pub stands-here : (same : Bool) → stands (changes_in old.replay.log.changes) asked ≡ same → holds asked (now_at old a) ≡ same
  stands-here same is = sym (part-stands old.base.lines.now old.base.traces.now walk.base.did a b le (changes_in old.replay.log.changes)) ∙ is

  pub none-here : stands (changes_in old.replay.log.changes) asked ≡ true → replayed_in old a b ≡ []
  none-here stood = part-none old.base.lines.now old.base.traces.now walk.base.did a b le (changes_in old.replay.log.changes) stood

  pub same-over : (new : Walk) → stands (changes_in old.replay.log.changes) asked ≡ true
      → changes_in new.replay.log.changes ≡ agreed (changes_in old.replay.log.changes) (puts_of (stretch a b old.base.traces.now))
      → new.replay.news.items ≡ old.replay.news.items → changes_in new.replay.log.present ≡ no_change → new.base ≡ old.base → GoesOver old new a b
  same-over new stood changes news present base = record {
    news = news ∙ sym (append-nil old.replay.news.items) ∙ ap (λ us. old.replay.news.items ++ us) (sym (none-here stood));
    state = (λ i. changed (changes i) (stood_at (base i) b))
        ∙ part-left old.base.lines.now old.base.traces.now walk.base.did a b le (changes_in old.replay.log.changes) stood;
    present = present;
  }

-- ---- many chunks

pub lengths-upto : (cs : List Chunk) (i j : ℕ) → i ≤ j → sum (take i (lengths_of cs)) ≤ sum (take j (lengths_of cs))
lengths-upto cs i j le =
    let same : take i (take j (lengths_of cs)) ≡ take i (lengths_of cs) = take-take i j (lengths_of cs) le in
    omega (arith, ap sum same, sum_by-take-le (λ n. n) (take j (lengths_of cs)) i)

-- the place of a chunk, in chunks of the same lines
pub stands-there : (cs ds : List Chunk) (chunk line past : ℕ) → lengths_of ds ≡ lengths_of cs → line ≡ sum (take chunk (lengths_of cs)) → chunk < past → past ≤ length cs
    → StandsAt ds (cursor chunk line)
stands-there cs ds chunk line past same is lt within = record {
  within = omega (arith, lt, within, same-long cs ds same);
  line = is ∙ ap (λ ns. sum (take chunk ns)) (sym same);
}

-- where nothing is changed any more, none of the lines up to a place is compared any more than all
pub none-left : (v f left : ℕ) → counted_on v left ≤ f → v ≤ f
none-left v f left p = omega arith

-- all was gone over
pub stretch-none : {X : Type 0} (a : ℕ) (xs : List X) → stretch a a xs ≡ []
stretch-none a xs = drop_all a (take a xs) (omega (arith, length-take a xs))

pub all-over : (old new : Walk) (from at to : ℕ) → at ≡ to → new.base ≡ old.base
    → new.replay.news.items ++ replayed (now_by new.replay.log (stood_at old.base at)) at (stretch at to old.base.lines.now) (stretch at to old.base.traces.now)
    ≡ old.replay.news.items ++ replayed_in old from to
    → state_after (now_by new.replay.log (stood_at old.base at)) (stretch at to old.base.lines.now) ≡ state_after (now_at old from) (stretch from to old.base.lines.now)
    → changes_in new.replay.log.present ≡ no_change → GoesOver old new from to
all-over old new from at to same base news state present = record {
  news =
      sym (append-nil new.replay.news.items)
      ∙ ap (λ (ls : List (List ℕ)). new.replay.news.items ++ replayed (now_by new.replay.log (stood_at old.base at)) at ls (stretch at to old.base.traces.now)) (sym (none old.base.lines.now))
      ∙ news;
  state =
      (λ i. now_by new.replay.log (stood_at (base i) (sym same i)))
      ∙ ap (state_after (now_by new.replay.log (stood_at old.base at))) (sym (none old.base.lines.now)) ∙ state;
  present = present;
}
  where
    none : {X : Type 0} (xs : List X) → stretch at to xs ≡ []
    none xs = ap (λ k. stretch k to xs) same ∙ stretch-none to xs

-- how many steps are left there
pub none-over : (now : State) (at to : ℕ) (lines : List (List ℕ)) (traces : List Trace) → at ≡ to → length (replayed now at (stretch at to lines) (stretch at to traces)) ≡ 0
none-over now at to lines traces same =
    ap (λ (ls : List (List ℕ)). length (replayed now at ls (stretch at to traces))) (ap (λ k. stretch k to lines) same ∙ stretch-none to lines)

-- how many are compared where one chunk more was begun
pub looked-within : (f w v here left all : ℕ) → v ≤ counted_on w here → all ≡ here + left → counted_on w all ≤ f → v ≤ f
looked-within f w v here left all p q r = omega arith

pub still-still : (old mid new : Walk) → IsStillWalk old mid → IsStillWalk mid new → IsStillWalk old new
still-still old mid new a b = record { walk = b.walk; base = b.base ∙ a.base; lengths = b.lengths ∙ a.lengths }

-- one chunk more
module _ (old mid new : Walk) (walk : IsWalk old) (still : IsStillWalk old mid) (i j line end to : ℕ) (n : Chunk)
    (lt : i < j) (inner : j ≤ length old.chunks.items) (is : n ≡ get_or mid.chunks.items i n) (from : line ≡ sum (take i (lengths_of old.chunks.items)))
    (here : end ≡ line + n.lines) (last : to ≡ sum (take j (lengths_of old.chunks.items))) where
  abbrev lines : List (List ℕ)
  lines = old.base.lines.now

  abbrev traces : List Trace
  traces = old.base.traces.now

  abbrev now : State
  now = now_by mid.replay.log (stood_at old.base line)

  abbrev behind : State
  behind = now_by new.replay.log (stood_at old.base end)

  pub chunk-ends : sum (take (i + 1) (lengths_of old.chunks.items)) ≡ end
  chunk-ends =
      let short : i < length mid.chunks.items = omega (arith, lt, inner, same-long old.chunks.items mid.chunks.items still.lengths) in
      let next : sum (take (i + 1) (lengths_of mid.chunks.items)) ≡ sum (take i (lengths_of mid.chunks.items)) + n.lines = lengths-next mid.chunks.items i n short is in
      omega (arith, next, here, from, ap (λ ns. sum (take i ns)) still.lengths, ap (λ ns. sum (take (i + 1) ns)) still.lengths)

  pub ends-within : end ≤ to
  ends-within = omega (arith, chunk-ends, last, lengths-upto old.chunks.items (i + 1) j (omega (arith, lt)))

  within : to ≤ length old.base.lines.now
  within =
      omega (arith, last, lengths-within old.base.hashing old.chunks.items old.base.traces.now j walk.chunks, as-long old.base.lines.now old.base.traces.now walk.base.did)

  begins : line ≤ end
  begins = omega (arith, here)

  pub counted-here : length (replayed_in mid line end) ≡ length (replayed now line (stretch line end lines) (stretch line end traces))
  counted-here = ap (λ (b : Baseline). length (replayed (now_by mid.replay.log (stood_at b line)) line (stretch line end b.lines.now) (stretch line end b.traces.now))) still.base

  pub looked-here : looks_at mid line end ≡ (if holds (run_of (stretch line end traces)).asks now then 0 else end - line)
  looked-here = ap (λ (b : Baseline). if holds (run_of (stretch line end b.traces.now)).asks (now_by mid.replay.log (stood_at b line)) then 0 else end - line) still.base

  pub count-all : length (replayed now line (stretch line to lines) (stretch line to traces))
      ≡ length (replayed_in mid line end) + length (replayed (state_after now (stretch line end lines)) end (stretch end to lines) (stretch end to traces))
  count-all =
      over-count lines traces walk.base.did line end to begins ends-within within now
      ∙ ap (λ k. k + length (replayed (state_after now (stretch line end lines)) end (stretch end to lines) (stretch end to traces))) (sym counted-here)

  pub looks-all : looks_over now (stretch i j (lengths_of old.chunks.items)) (stretch line to lines) (stretch line to traces)
      ≡ looks_at mid line end + looks_over (state_after now (stretch line end lines)) (stretch (i + 1) j (lengths_of old.chunks.items)) (stretch end to lines) (stretch end to traces)
  looks-all =
      let parts : stretch i j (lengths_of old.chunks.items) ≡ n.lines ∷ stretch (i + 1) j (lengths_of old.chunks.items) =
      ap (stretch i j) (sym still.lengths)
      ∙ stretch-lengths mid.chunks.items i j n lt (omega (arith, inner, same-long old.chunks.items mid.chunks.items still.lengths)) is
      ∙ ap (λ ns. n.lines ∷ stretch (i + 1) j ns) still.lengths in
      let rest = looks_over (state_after now (stretch line end lines)) (stretch (i + 1) j (lengths_of old.chunks.items)) (stretch end to lines) (stretch end to traces) in
      ap (λ ns. looks_over now ns (stretch line to lines) (stretch line to traces)) parts
      ∙ over-looks lines traces walk.base.did line end to begins ends-within within now n.lines (stretch (i + 1) j (lengths_of old.chunks.items)) (sym here)
      ∙ ap (λ k. k + rest) (sym looked-here)

  module _ (over : GoesOver mid new line end) (kept : new.base ≡ mid.base) where
    behind-is : behind ≡ state_after now (stretch line end lines)
    behind-is =
        (λ k. now_by new.replay.log (stood_at (sym (kept ∙ still.base) k) end)) ∙ over.state
        ∙ (λ k. state_after (now_by mid.replay.log (stood_at (still.base k) line)) (stretch line end (still.base k).lines.now))

    pub next-news : (e : List (SparseItem Trace)) → mid.replay.news.items ++ replayed now line (stretch line to lines) (stretch line to traces) ≡ e
        → new.replay.news.items ++ replayed behind end (stretch end to lines) (stretch end to traces) ≡ e
    next-news e so_far =
        ap (λ s. new.replay.news.items ++ replayed s end (stretch end to lines) (stretch end to traces)) behind-is
        ∙ over-news lines traces walk.base.did line end to begins ends-within within now mid.replay.news.items new.replay.news.items e
        (over.news
        ∙ ap (λ (b : Baseline). mid.replay.news.items ++ replayed (now_by mid.replay.log (stood_at b line)) line (stretch line end b.lines.now) (stretch line end b.traces.now)) still.base)
        so_far

    pub next-state : (e : State) → state_after now (stretch line to lines) ≡ e → state_after behind (stretch end to lines) ≡ e
    next-state e so_far =
        ap (λ s. state_after s (stretch end to lines)) behind-is ∙ over-state lines traces walk.base.did line end to begins ends-within within now ∙ so_far

    pub next-count : length (replayed now line (stretch line to lines) (stretch line to traces))
        ≡ length (replayed_in mid line end) + length (replayed behind end (stretch end to lines) (stretch end to traces))
    next-count = count-all ∙ ap (λ s. length (replayed_in mid line end) + length (replayed s end (stretch end to lines) (stretch end to traces))) (sym behind-is)

    pub next-looks : looks_over now (stretch i j (lengths_of old.chunks.items)) (stretch line to lines) (stretch line to traces)
        ≡ looks_at mid line end + looks_over behind (stretch (i + 1) j (lengths_of old.chunks.items)) (stretch end to lines) (stretch end to traces)
    next-looks =
        looks-all ∙ ap (λ s. looks_at mid line end + looks_over s (stretch (i + 1) j (lengths_of old.chunks.items)) (stretch end to lines) (stretch end to traces)) (sym behind-is)
