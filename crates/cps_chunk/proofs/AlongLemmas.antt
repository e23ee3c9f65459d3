-- Lines that are gone along, in two parts; one line of them, and all lines of a chunk.
use Rattle.std.proofs.Common.{◌≡◌, refl, sym, ap, subst, ◌∙◌, ℕ, zero, suc, ◌+◌, ◌<◌, ◌≤◌, true, List, [], ◌∷◌, ◌++◌, append_assoc, append-nil, length, get_or, take, drop, arith}
use Rattle.std.specs.Prelude.{Some as Just, sum, if◌then◌else◌}
use Rattle.std.proofs.lemmas.List.{drop-take, length-map}
use Rattle.std.proofs.lemmas.List.Concat.{flat_map-append}
use Rattle.cps_state.specs.declared.key.Put.{Put}
use Rattle.cps_state.specs.Course.{Trace}
use Rattle.cps_state.specs.Keys.{State, overwritten}
use Rattle.cps_final.specs.Changes.{Changed, changed}
use Rattle.cps_final.specs.Code.Kept.{changes_in}
use Rattle.cps_final.specs.Layout.{puts_of}
use Rattle.cps_pass.specs.Expansion.{trace_of}
use Rattle.cps_final.specs.Holds.{holds}
use Rattle.cps_final.specs.Run.{run_of}
use Rattle.cps_chunk.specs.Code.Chunk.{lengths_of}
use Rattle.cps_chunk.specs.declared.chunk.Chunk.{Chunk}
use Rattle.cps_edit.specs.Passes.{state_after, traces_from}
use Rattle.cps_edit.specs.Disturbed.{kept, disturbed_from, is_disturbed}
use Rattle.cps_edit.proofs.SpliceLemmas.{traces_from-append, puts-state}
use Rattle.cps_chunk.specs.declared.change_log.ChangeLog.{ChangeLog}
use Rattle.cps_chunk.specs.declared.walk.Baseline.{Baseline}
use Rattle.cps_chunk.specs.declared.walk.Destination.{Destination}
use Rattle.cps_chunk.specs.declared.walk.Destination.TheVariants.{Same, Behind}
use Rattle.cps_chunk.specs.declared.walk.Span.{Span}
use Rattle.cps_chunk.specs.declared.walk.Walk.{Walk}
use Rattle.cps_chunk.specs.Code.Along.{GoesAlong, MayGo, Leaves, front_at, fronts_along, looks_along, looks_of, looks_of_part, reached, replayed_along, span}
use Rattle.cps_chunk.specs.Code.Compared.{with_puts}
use Rattle.cps_chunk.specs.Code.Replay.{PutsAlso, now_by, now_with}
use Rattle.cps_chunk.specs.Replayed.{replayed}
use Rattle.cps_chunk.specs.Code.Walk.{IsBaseline, IsStillWalk, IsWalk, cursor, state_at, stood_at, stretch}
use Rattle.cps_chunk.proofs.ComparedLemmas.{with_puts-append}
use Rattle.cps_chunk.proofs.GoLemmas.{stretch-cons}
use Rattle.cps_chunk.proofs.OverLemmas.{over-count, over-state, stretch-none, stretch-replayed, stretch-within}
use Rattle.cps_chunk.proofs.ReplayLemmas.{entered}
use Rattle.cps_chunk.proofs.ReplayedLemmas.{replayed-none}
use Rattle.cps_chunk.proofs.RunLemmas.{run-law}
use Rattle.cps_chunk.proofs.SparseLemmas.{length-one}
use Rattle.cps_chunk.proofs.SpanLemmas.{looks-next, part-agree}
use Rattle.cps_chunk.proofs.WalkLemmas.{as-long, lengths-next, lengths-within, same-long, stretch-behind, stretch-did}

-- ---- what lines put, in two parts

puts-append : (ts us : List Trace) → puts_of (ts ++ us) ≡ puts_of ts ++ puts_of us
puts-append ts us = flat_map-append (λ (t : Trace). t.puts) ts us

stretch-append : {X : Type 0} (a b c : ℕ) (xs : List X) → a ≤ b → b ≤ c → stretch a c xs ≡ stretch a b xs ++ stretch b c xs
stretch-append a b c xs le inner = stretch-behind a b le (take c xs) ∙ ap (λ ys. ys ++ stretch b c xs) (stretch-within a b c xs inner)

puts-parts : (f : State) (a b c : ℕ) (ls : List (List ℕ)) → a ≤ b → b ≤ c
    → puts_of (traces_from f (stretch a b ls)) ++ puts_of (traces_from (state_after f (stretch a b ls)) (stretch b c ls)) ≡ puts_of (traces_from f (stretch a c ls))
puts-parts f a b c ls le inner =
    sym (puts-append (traces_from f (stretch a b ls)) (traces_from (state_after f (stretch a b ls)) (stretch b c ls)))
    ∙ ap puts_of (sym (traces_from-append f (stretch a b ls) (stretch b c ls)) ∙ ap (traces_from f) (sym (stretch-append a b c ls le inner)))

-- what stands behind lines that put more
pub puts-now : (old new : ChangeLog) (puts : List Put) (f : State) → PutsAlso old new puts → now_with new f ≡ overwritten (now_with old f) puts
puts-now old new puts f also =
    ap (λ (c : Changed). changed c (now_by new f)) also.present ∙ entered (changes_in old.present) (with_puts (changes_in old.present) puts) (now_by new f) puts refl
    ∙ (λ i. overwritten (changed (changes_in old.present) (changed (changes_in (also.changes i)) f)) puts)

-- ---- lines in two parts

module _ (old mid : Walk) (position : Destination) (a b c : ℕ) (base : IsBaseline old.base) (kept : mid.base ≡ old.base) (le : a ≤ b) (inner : b ≤ c) (within : c ≤ length old.base.lines.now)
    (first : GoesAlong old mid position (span a b)) where
  abbrev ls : List (List ℕ)
  ls = old.base.lines.now

  abbrev ts : List Trace
  ts = old.base.traces.now

  abbrev was : State
  was = front_at old position a

  abbrev next : State
  next = state_after was (stretch a b ls)

  rest-is : replayed_along mid position (span b c) ≡ replayed next b (stretch b c ls) (stretch b c ts)
  rest-is = λ i. replayed (first.state i) b (stretch b c (kept i).lines.now) (stretch b c (kept i).traces.now)

  pub along-count : length (replayed_along old position (span a c)) ≡ length (replayed_along old position (span a b)) + length (replayed_along mid position (span b c))
  along-count = over-count ls ts base.did a b c le inner within was ∙ ap (λ us. length (replayed_along old position (span a b)) + length us) (sym rest-is)

  module _ (new : Walk) (second : GoesAlong mid new position (span b c)) where
    news-join : new.replay.news.items ≡ old.replay.news.items ++ replayed_along old position (span a c)
    news-join =
        second.news ∙ (λ i. first.news i ++ rest-is i)
        ∙ append_assoc old.replay.news.items (replayed_along old position (span a b)) (replayed next b (stretch b c ls) (stretch b c ts))
        ∙ ap (λ us. old.replay.news.items ++ us) (sym (stretch-replayed ls ts base.did a b c le inner within was))

    state-join : front_at new position c ≡ state_after was (stretch a c ls)
    state-join =
        second.state ∙ (λ i. state_after (first.state i) (stretch b c (kept i).lines.now)) ∙ over-state ls ts base.did a b c le inner within was

leaves-join : (old mid new : Walk) (position : Destination) (a b c : ℕ) → mid.base ≡ old.base → a ≤ b → b ≤ c
    → GoesAlong old mid position (span a b) → GoesAlong mid new position (span b c) → Leaves old new position (span a c)
leaves-join old mid new Same a b c kept le inner first second = second.leaves
leaves-join old mid new (Behind place) a b c kept le inner first second =
    let ls = old.base.lines.now in
    let was = front_at old (Behind place) a in
    let one = puts_of (traces_from was (stretch a b ls)) in
    let two : puts_of (traces_from (front_at mid (Behind place) b) (stretch b c mid.base.lines.now)) ≡ puts_of (traces_from (state_after was (stretch a b ls)) (stretch b c ls)) =
    (λ i. puts_of (traces_from (first.state i) (stretch b c (kept i).lines.now))) in
    let rest = puts_of (traces_from (state_after was (stretch a b ls)) (stretch b c ls)) in
    record {
      present = second.leaves.present ∙ (λ i. with_puts (first.leaves.present i) (two i)) ∙ with_puts-append (changes_in old.replay.log.present) one rest
          ∙ ap (with_puts (changes_in old.replay.log.present)) (puts-parts was a b c ls le inner);
      changes = second.leaves.changes ∙ first.leaves.changes;
    }

pub along-join : (old mid new : Walk) (position : Destination) (a b c : ℕ) → IsBaseline old.base → mid.base ≡ old.base → a ≤ b → b ≤ c → c ≤ length old.base.lines.now
    → GoesAlong old mid position (span a b) → GoesAlong mid new position (span b c) → GoesAlong old new position (span a c)
along-join old mid new position a b c base kept le inner within first second = record {
  news = news-join old mid position a b c base kept le inner within first new second;
  state = state-join old mid position a b c base kept le inner within first new second;
  leaves = leaves-join old mid new position a b c kept le inner first second;
}

-- ---- no line

none-left : (old : Walk) (position : Destination) (a : ℕ) → MayGo old position → Leaves old old position (span a a)
none-left old Same a may = may
none-left old (Behind place) a may =
    let none : puts_of (traces_from (front_at old (Behind place) a) (stretch a a old.base.lines.now)) ≡ [] =
    ap (λ (ls : List (List ℕ)). puts_of (traces_from (front_at old (Behind place) a) ls)) (stretch-none a old.base.lines.now) in
    record { present = ap (with_puts (changes_in old.replay.log.present)) (sym none); changes = refl }

pub replayed-empty : (old : Walk) (position : Destination) (a : ℕ) → replayed_along old position (span a a) ≡ []
replayed-empty old position a =
    ap (λ (ls : List (List ℕ)). replayed (front_at old position a) a ls (stretch a a old.base.traces.now)) (stretch-none a old.base.lines.now)

pub along-none : (old : Walk) (position : Destination) (a b : ℕ) → a ≡ b → MayGo old position → GoesAlong old old position (span a b)
along-none old position a b same may = subst (λ (c : ℕ). GoesAlong old old position (span a c)) same record {
  news = sym (append-nil old.replay.news.items) ∙ ap (λ us. old.replay.news.items ++ us) (sym (replayed-empty old position a));
  state = ap (state_after (front_at old position a)) (sym (stretch-none a old.base.lines.now));
  leaves = none-left old position a may;
}

-- ---- lines that are carried

module _ (old new : Walk) (place a b : ℕ) (kept : new.base ≡ old.base) where
  abbrev there : State
  there = front_at old (Behind place) a

  abbrev carried : List (List ℕ)
  carried = stretch a b old.base.lines.now

  carried-state : PutsAlso old.replay.log new.replay.log (puts_of (traces_from there carried)) → front_at new (Behind place) b ≡ state_after there carried
  carried-state also =
      puts-now old.replay.log new.replay.log (puts_of (traces_from there carried)) (state_at new place) also
      ∙ (λ i. overwritten (now_with old.replay.log (stood_at (kept i) place)) (puts_of (traces_from there carried)))
      ∙ puts-state there carried

  pub carried-along : new.replay.news.items ≡ old.replay.news.items ++ replayed_along old (Behind place) (span a b)
      → PutsAlso old.replay.log new.replay.log (puts_of (traces_from there carried)) → GoesAlong old new (Behind place) (span a b)
  carried-along news also = record { news = news; state = carried-state also; leaves = also }

-- one line
module _ (old new : Walk) (place at : ℕ) (kept : new.base ≡ old.base) (line : List ℕ) (t : Trace) (lt : at < length old.base.lines.now) (base : IsBaseline old.base)
    (here : line ≡ get_or old.base.lines.now at line) (did : t ≡ get_or old.base.traces.now at t) where
  one-of : {X : Type 0} (xs : List X) (x : X) → at < length xs → x ≡ get_or xs at x → stretch at (at + 1) xs ≡ x ∷ []
  one-of xs x short is = stretch-cons at (at + 1) xs x (omega arith) (omega (arith, short)) is ∙ ap (λ ys. x ∷ ys) (stretch-none (at + 1) xs)

  abbrev front : State
  front = front_at old (Behind place) at

  line-is : stretch at (at + 1) old.base.lines.now ≡ line ∷ []
  line-is = one-of old.base.lines.now line lt here

  trace-is : stretch at (at + 1) old.base.traces.now ≡ t ∷ []
  trace-is = one-of old.base.traces.now t (omega (arith, lt, as-long old.base.lines.now old.base.traces.now base.did)) did

  pub carried-count : length (replayed_along old (Behind place) (span at (at + 1))) ≡ length (replayed front at (line ∷ []) (t ∷ []))
  carried-count = λ i. length (replayed front at (line-is i) (trace-is i))

  -- as many are made anew as it is disturbed, and no more than of lines that begin with it
  pub line-count : length (replayed_along old (Behind place) (span at (at + 1))) ≡ (if is_disturbed (Just t) front then 1 else 0)
  line-count =
      let one : ℕ = if is_disturbed (Just t) front then 1 else 0 in
      let none : one + 0 ≡ one = omega arith in
      carried-count ∙ length-one (is_disturbed (Just t) front) at (trace_of line front) [] ∙ none

  pub line-within : (to : ℕ) → at < to → to ≤ length old.base.lines.now
      → (if is_disturbed (Just t) front then 1 else 0) ≤ length (replayed_along old (Behind place) (span at to))
  line-within to less all =
      let parts = over-count old.base.lines.now old.base.traces.now base.did at (at + 1) to (omega arith) (omega (arith, less)) all front in
      omega (arith, parts, line-count)

  pub carried-line : new.replay.news.items ≡ old.replay.news.items ++ replayed front at (line ∷ []) (t ∷ [])
      → PutsAlso old.replay.log new.replay.log (trace_of line front).puts → GoesAlong old new (Behind place) (span at (at + 1))
  carried-line news also =
      let puts : puts_of (traces_from front (stretch at (at + 1) old.base.lines.now)) ≡ (trace_of line front).puts =
      ap (λ (ls : List (List ℕ)). puts_of (traces_from front ls)) line-is ∙ append-nil (trace_of line front).puts in
      carried-along old new place at (at + 1) kept
      (news ∙ ap (λ us. old.replay.news.items ++ us) (sym (λ i. replayed front at (line-is i) (trace-is i))))
      (subst (λ (ps : List Put). PutsAlso old.replay.log new.replay.log ps) (sym puts) also)

-- lines of which all that they ask together has the answers that it had
module _ (old : Walk) (base : IsBaseline old.base) (a b : ℕ) (le : a ≤ b) (other : State) (held : holds (run_of (stretch a b old.base.traces.now)).asks other ≡ true) where
  abbrev asked : List (List ℕ)
  asked = stretch a b old.base.lines.now

  did-so : stretch a b old.base.traces.now ≡ traces_from (stood_at old.base a) asked
  did-so = stretch-did old.base.lines.now old.base.traces.now base.did a b le

  pub held-none : replayed other a asked (stretch a b old.base.traces.now) ≡ []
  held-none =
      let stands = run-law (stood_at old.base a) other asked (ap (λ us. holds (run_of us).asks other) (sym did-so) ∙ held) in
      replayed-none other a asked (stretch a b old.base.traces.now) (ap (λ us. disturbed_from other (kept asked us)) did-so ∙ stands.undisturbed)

  pub held-same : traces_from other asked ≡ stretch a b old.base.traces.now
  held-same =
      let stands = run-law (stood_at old.base a) other asked (ap (λ us. holds (run_of us).asks other) (sym did-so) ∙ held) in
      stands.same ∙ sym did-so

  pub held-along : (new : Walk) (place : ℕ) → new.base ≡ old.base → other ≡ front_at old (Behind place) a → new.replay.news ≡ old.replay.news
      → PutsAlso old.replay.log new.replay.log (puts_of (stretch a b old.base.traces.now)) → GoesAlong old new (Behind place) (span a b)
  held-along new place kept is same also =
      let none : replayed_along old (Behind place) (span a b) ≡ [] = ap (λ (s : State). replayed s a asked (stretch a b old.base.traces.now)) (sym is) ∙ held-none in
      let puts : puts_of (stretch a b old.base.traces.now) ≡ puts_of (traces_from (front_at old (Behind place) a) asked) =
      ap puts_of (sym held-same) ∙ ap (λ (s : State). puts_of (traces_from s asked)) is in
      carried-along old new place a b kept
      ((λ i. (same i).items) ∙ sym (append-nil old.replay.news.items) ∙ ap (λ us. old.replay.news.items ++ us) (sym none))
      (subst (λ (ps : List Put). PutsAlso old.replay.log new.replay.log ps) puts also)

-- no more of some lines than of those and others behind them
pub along-most : (old : Walk) (position : Destination) (a b c : ℕ) → IsBaseline old.base → a ≤ b → b ≤ c → c ≤ length old.base.lines.now
    → length (replayed_along old position (span a b)) ≤ length (replayed_along old position (span a c))
along-most old position a b c base le inner within =
    let parts = over-count old.base.lines.now old.base.traces.now base.did a b c le inner within (front_at old position a) in
    omega (arith, parts)

-- ---- one chunk of a source

module _ (old mid : Walk) (still : IsStillWalk old mid) (i line : ℕ) (d : Chunk) (lt : i < length old.chunks.items) (is : d ≡ get_or mid.chunks.items i d)
    (from : line ≡ sum (take i (lengths_of old.chunks.items))) where
  pub part-lt : i < length mid.chunks.items
  part-lt = omega (arith, lt, same-long old.chunks.items mid.chunks.items still.lengths)

  pub mid-end : sum (take (i + 1) (lengths_of mid.chunks.items)) ≡ line + d.lines
  mid-end =
      let next : sum (take (i + 1) (lengths_of mid.chunks.items)) ≡ sum (take i (lengths_of mid.chunks.items)) + d.lines = lengths-next mid.chunks.items i d part-lt is in
      omega (arith, next, from, ap (λ ns. sum (take i ns)) still.lengths)

  pub old-end : sum (take (i + 1) (lengths_of old.chunks.items)) ≡ line + d.lines
  old-end = sym (ap (λ ns. sum (take (i + 1) ns)) still.lengths) ∙ mid-end

  pub part-fits : IsWalk old → line + d.lines ≤ length old.base.lines.now
  part-fits walk =
      omega (
        arith,
        old-end,
        lengths-within old.base.hashing old.chunks.items old.base.traces.now (i + 1) walk.chunks,
        as-long old.base.lines.now old.base.traces.now walk.base.did,
      )

  pub part-length : d.lines ≡ get_or (lengths_of old.chunks.items) i d.lines
  part-length =
      sym (get_or-lengths mid.chunks.items i d part-lt is) ∙ ap (λ ns. get_or ns i d.lines) still.lengths
    where
      get_or-lengths : (cs : List Chunk) (k : ℕ) (c : Chunk) → k < length cs → c ≡ get_or cs k c → get_or (lengths_of cs) k c.lines ≡ c.lines
      get_or-lengths [] k c low here = absurd (omega (arith, low))
      get_or-lengths (e ∷ cs) zero c low here = sym (ap (λ (x : Chunk). x.lines) here)
      get_or-lengths (e ∷ cs) (suc k) c low here = get_or-lengths cs k c (omega (arith, low)) here

  -- how many of its lines are compared, where those in front of them were gone along
  module _ (position : Destination) (lines : Span) (walk : IsWalk old) (ordered : lines.from ≤ lines.to) (along : GoesAlong old mid position (span lines.from (reached lines line))) where
    abbrev part : Span
    part = span (reached lines line) (reached lines (line + d.lines))

    pub looks-here : looks_of mid position (cursor i line) part
        ≡ looks_of_part part line (line + d.lines) (fronts_along old position lines line) (take d.lines (drop line old.base.traces.now))
    looks-here =
        (λ j. looks_of_part part line (mid-end j) (front_at mid position line) (stretch line (mid-end j) (still.base j).traces.now))
        ∙ ap (looks_of_part part line (line + d.lines) (front_at mid position line)) (drop-take line d.lines old.base.traces.now)
        ∙ part-agree part line (line + d.lines) (front_at mid position line) (fronts_along old position lines line) (take d.lines (drop line old.base.traces.now))
        (λ begins ends some. subst (λ (k : ℕ). front_at mid position k ≡ state_after (front_at old position lines.from) (stretch lines.from k old.base.lines.now)) begins along.state)

    pub looks-more : looks_along lines (take (i + 1) (lengths_of old.chunks.items)) 0 (fronts_along old position lines) old.base.traces.now
        ≡ looks_along lines (take i (lengths_of old.chunks.items)) 0 (fronts_along old position lines) old.base.traces.now + looks_of mid position (cursor i line) part
    looks-more =
        let size : i < length (lengths_of old.chunks.items) = omega (arith, lt, length-map old.chunks.items (λ (c : Chunk). c.lines)) in
        let stands = fronts_along old position lines in
        let ts = old.base.traces.now in
        let so_far : ℕ = looks_along lines (take i (lengths_of old.chunks.items)) 0 stands ts in
        looks-next lines (lengths_of old.chunks.items) i d.lines stands ts size part-length
        ∙ (λ j. so_far + looks_of_part (span (reached lines (sym from j)) (reached lines (sym from j + d.lines))) (sym from j) (sym from j + d.lines) (stands (sym from j)) (take d.lines (drop (sym from j) ts)))
        ∙ ap (λ k. so_far + k) (sym looks-here)

-- what a span has of a chunk lies in it
pub part-inside : (from to line end : ℕ) → from ≤ to → line ≤ end → reached (span from to) line < reached (span from to) end
    → (line ≤ reached (span from to) line) × (reached (span from to) end ≤ end)
part-inside from to line end ordered grows some = (omega arith, omega arith)

-- they may be gone along further
pub may-still : (old mid : Walk) (position : Destination) (lines : Span) → mid.base ≡ old.base → MayGo old position → GoesAlong old mid position lines → MayGo mid position
may-still old mid Same lines kept may along = along.leaves
may-still old mid (Behind place) lines kept may along = subst (λ (b : Baseline). place ≤ length b.lines.now) (sym kept) may
