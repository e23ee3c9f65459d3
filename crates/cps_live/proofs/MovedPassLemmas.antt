-- Pass one of a move: two runs of lines, the second in front of the first, and the lines behind both.
use Rattle.std.proofs.Common.{arith, length-append, ◌≡◌, refl, sym, ap, subst, ◌∙◌, ℕ, ◌+◌, ◌<◌, ◌≤◌, List, [], ◌++◌, append_assoc, length, take, drop}
use Rattle.std.specs.Prelude.{sum}
use Rattle.std.proofs.lemmas.List.{take_all}
use Rattle.cps_state.specs.declared.key.Put.{Put}
use Rattle.cps_state.specs.Course.{Trace}
use Rattle.cps_state.specs.Keys.{State, first_state, overwritten}
use Rattle.cps_final.specs.Changes.{Changed, changed, no_change}
use Rattle.cps_final.specs.Code.Kept.{changes_in}
use Rattle.cps_edit.specs.declared.exchange.Exchange.{Exchange}
use Rattle.cps_edit.specs.Exchange.{IsWithin, exchanged}
use Rattle.cps_final.specs.Layout.{puts_of}
use Rattle.cps_edit.specs.Passes.{state_after, traces_from, traces_of}
use Rattle.cps_edit.specs.Disturbed.{ones_of_exchange}
use Rattle.cps_edit.proofs.SpliceLemmas.{length-traces_from, puts-state}
use Rattle.cps_chunk.specs.Code.Chunk.{lengths_of}
use Rattle.cps_chunk.proofs.ChunkLemmas.{chunks-long}
use Rattle.cps_chunk.specs.declared.sparse.SparseItem.{SparseItem}
use Rattle.cps_chunk.specs.declared.walk.Baseline.{Baseline}
use Rattle.cps_chunk.specs.declared.walk.Destination.{Destination}
use Rattle.cps_chunk.specs.declared.walk.Destination.TheVariants.{Same, Behind}
use Rattle.cps_chunk.specs.declared.walk.Walk.{Walk}
use Rattle.cps_chunk.specs.Code.Along.{GoesAlong, front_at, looks_along, looks_in_span, replayed_along, span}
use Rattle.cps_chunk.specs.Code.Compared.{with_puts}
use Rattle.cps_chunk.specs.Code.Moved.{behind_replayed, first_replayed, replayed_moved, second_replayed, state_before, state_between, state_past}
use Rattle.cps_chunk.specs.Noted.{last_puts, noted}
use Rattle.cps_chunk.specs.Replayed.{replayed}
use Rattle.cps_chunk.specs.Code.Walk.{HasMadeNothing, IsStillWalk, IsWalk, now_at, puts_in, state_at, stood_at, stretch}
use Rattle.cps_chunk.proofs.ComparedLemmas.{last_puts-more}
use Rattle.cps_chunk.proofs.ExchangedLemmas.{exchanged-parts}
use Rattle.cps_chunk.proofs.FrontsLemmas.{stands_first-moved, stands_last-moved, stands_second-moved}
use Rattle.cps_chunk.proofs.NotedLemmas.{noted-law}
use Rattle.cps_chunk.proofs.MovedLemmas.{ones-moved, state-moved}
use Rattle.cps_chunk.proofs.SpanLemmas.{looks-agree}
use Rattle.cps_chunk.proofs.WalkLemmas.{as-long, stretch-all}
use Rattle.cps_chunk.specs.Code.MoveLooks.{first_looks_moved, looks_moved, stands_moved}
use Rattle.cps_chunk.proofs.MoveSpanLemmas.{spans-moved}
use Rattle.cps_live.specs.Code.FirstPass.{BeginsWalk}
use Rattle.cps_live.specs.Code.MovedPass.{IsCrossed, IsMovedWalk, looks_of_runs, looks_of_span, order_of}
use Rattle.cps_live.proofs.FirstPassLemmas.{left-there}

-- ---- one stretch of lines, gone along

-- lines in front of which a state stands, whichever the position
module _ (old w new : Walk) (walk : IsWalk old) (position : Destination) (a b : ℕ) (kept : w.base ≡ old.base) (front : State) (is : front_at w position a ≡ front) where
  abbrev ls : List (List ℕ)
  ls = old.base.lines.now

  pub along-is : replayed_along w position (span a b) ≡ replayed front a (stretch a b ls) (stretch a b (traces_of ls))
  along-is =
      (λ i. replayed (is i) a (stretch a b (kept i).lines.now) (stretch a b (kept i).traces.now))
      ∙ ap (λ (ts : List Trace). replayed front a (stretch a b ls) (stretch a b ts)) walk.base.did

  pub news-along : (made : List (SparseItem Trace)) → w.replay.news.items ≡ made → GoesAlong w new position (span a b)
      → new.replay.news.items ≡ made ++ replayed front a (stretch a b ls) (stretch a b (traces_of ls))
  news-along made so_far along = along.news ∙ (λ i. so_far i ++ along-is i)

  pub state-along : GoesAlong w new position (span a b) → front_at new position b ≡ state_after front (stretch a b ls)
  state-along along = along.state ∙ (λ i. state_after (is i) (stretch a b (kept i).lines.now))

  -- how many are compared, where that stands in front of each
  pub looks-along : (stands : ℕ → State) → lengths_of w.chunks.items ≡ lengths_of old.chunks.items → ((k : ℕ) → a ≤ k → k < b → stands k ≡ state_after front (stretch a k ls))
      → looks_in_span w position (span a b) ≡ looks_along (span a b) (lengths_of old.chunks.items) 0 stands old.base.traces.now
  looks-along stands lengths there =
      (λ i. looks_along (span a b) (lengths i) 0 (λ k. state_after (is i) (stretch a k (kept i).lines.now)) (kept i).traces.now)
      ∙ looks-agree (span a b) (lengths_of old.chunks.items) 0 (λ k. state_after front (stretch a k ls)) stands old.base.traces.now (λ k low high. sym (there k low high))

-- ---- lines that go, and lines that came

module _ (old w new : Walk) (walk : IsWalk old) (a b : ℕ) (le : a ≤ b) (kept : w.base ≡ old.base) (same : HasMadeNothing w new) (puts : List Put)
    (closed : changes_in new.replay.log.changes ≡ noted (changes_in w.replay.log.changes) (state_at w a) (puts_in w a b) puts) where
  pub closed-now : now_at new b ≡ overwritten (now_at w a) puts
  closed-now =
      let base = old.base in
      let olds = puts_of (stretch a b base.traces.now) in
      let was = changes_in w.replay.log.changes in
      (λ i. changed (closed i) (stood_at ((same.0 ∙ kept) i) b))
      ∙ (λ i. changed (noted was (stood_at (kept i) a) (puts_of (stretch a b (kept i).traces.now)) puts) (sym (left-there base.lines.now base.traces.now walk.base.did a b le) i))
      ∙ noted-law was (stood_at base a) olds puts
      ∙ (λ i. overwritten (changed was (stood_at (sym kept i) a)) puts)

  pub closed-news : (made : List (SparseItem Trace)) → w.replay.news.items ≡ made → new.replay.news.items ≡ made
  closed-news made so_far = ap (λ news. news.items) same.2 ∙ so_far

-- ---- the first run is carried over the second

module _ (w0 w1 w2 w3 w4 : Walk) (walk : IsWalk w0) (begins : BeginsWalk w0) (e : Exchange) (le : e.keep ≤ e.mid)
    (h1 : HasMadeNothing w0 w1) (c1 : changes_in w1.replay.log.changes ≡ noted (changes_in w0.replay.log.changes) (state_at w0 e.keep) (puts_in w0 e.keep e.mid) []) where
  abbrev lines : List (List ℕ)
  lines = w0.base.lines.now

  pub gone-now : now_at w1 e.mid ≡ state_before lines e
  gone-now = closed-now w0 w0 w1 walk e.keep e.mid le refl h1 [] c1 ∙ ap (λ (c : Changed). changed c (state_at w0 e.keep)) begins.changes

  pub over-count : length (replayed_along w1 Same (span e.mid e.from)) ≡ length (second_replayed lines e)
  over-count = ap length (along-is w0 w1 w2 walk Same e.mid e.from h1.0 (state_before lines e) gone-now)

  pub over-looks : IsWithin (length lines) e → looks_in_span w1 Same (span e.mid e.from) ≡ looks_of_span w0 e (span e.mid e.from)
  over-looks within =
      looks-along w0 w1 w2 walk Same e.mid e.from h1.0 (state_before lines e) gone-now (stands_moved lines e) (ap (λ cs. lengths_of cs.items) h1.1) (stands_second-moved lines e within)

  module _ (s2 : IsStillWalk w1 w2) (g2 : GoesAlong w1 w2 Same (span e.mid e.from)) where
    pub second-news : w2.replay.news.items ≡ second_replayed lines e
    second-news = news-along w0 w1 w2 walk Same e.mid e.from h1.0 (state_before lines e) gone-now [] (closed-news w0 w0 w1 walk e.keep e.mid le refl h1 [] c1 [] begins.news) g2

    second-now : now_at w2 e.from ≡ state_between lines e
    second-now = state-along w0 w1 w2 walk Same e.mid e.from h1.0 (state_before lines e) gone-now g2

    kept2 : w2.base ≡ w0.base
    kept2 = s2.base ∙ h1.0

    pub carried-front : front_at w2 (Behind e.from) e.keep ≡ state_between lines e
    carried-front = ap (λ (c : Changed). changed c (now_at w2 e.from)) g2.leaves ∙ second-now

    pub carried-count : length (replayed_along w2 (Behind e.from) (span e.keep e.mid)) ≡ length (first_replayed lines e)
    carried-count = ap length (along-is w0 w2 w3 walk (Behind e.from) e.keep e.mid kept2 (state_between lines e) carried-front)

    pub carried-looks : IsWithin (length lines) e → looks_in_span w2 (Behind e.from) (span e.keep e.mid) ≡ looks_of_span w0 e (span e.keep e.mid)
    carried-looks within =
        looks-along w0 w2 w3 walk (Behind e.from) e.keep e.mid kept2 (state_between lines e) carried-front (stands_moved lines e) (s2.lengths ∙ ap (λ cs. lengths_of cs.items) h1.1)
        (stands_first-moved lines e within)

    module _ (s3 : IsStillWalk w2 w3) (g3 : GoesAlong w2 w3 (Behind e.from) (span e.keep e.mid)) where
      pub both-news : w3.replay.news.items ≡ second_replayed lines e ++ first_replayed lines e
      both-news = news-along w0 w2 w3 walk (Behind e.from) e.keep e.mid kept2 (state_between lines e) carried-front (second_replayed lines e) second-news g3

      abbrev carried : List Put
      carried = puts_of (traces_from (state_between lines e) (stretch e.keep e.mid lines))

      carried-puts : puts_of (traces_from (front_at w2 (Behind e.from) e.keep) (stretch e.keep e.mid w2.base.lines.now)) ≡ carried
      carried-puts = λ i. puts_of (traces_from (carried-front i) (stretch e.keep e.mid (kept2 i).lines.now))

      pub carried-present : changes_in w3.replay.log.present ≡ last_puts carried
      carried-present = g3.leaves.present ∙ (λ i. with_puts (g2.leaves i) (carried-puts i)) ∙ last_puts-more no_change [] carried refl

      carried-now : now_at w3 e.from ≡ state_between lines e
      carried-now = (λ i. changed (changes_in (g3.leaves.changes i)) (stood_at (s3.base i) e.from)) ∙ second-now

      pub first-crossed : (h4 : HasMadeNothing w3 w4) → changes_in w4.replay.log.changes ≡ noted (changes_in w3.replay.log.changes) (state_at w3 e.from) (puts_in w3 e.from e.from) carried
          → changes_in w4.replay.log.present ≡ no_change → IsCrossed w0 w4 e
      first-crossed h4 c4 p4 = record {
        news = closed-news w0 w3 w4 walk e.from e.from (omega arith) (s3.base ∙ kept2) h4 carried c4 (second_replayed lines e ++ first_replayed lines e) both-news;
        state = closed-now w0 w3 w4 walk e.from e.from (omega arith) (s3.base ∙ kept2) h4 carried c4 ∙ ap (λ (s : State). overwritten s carried) carried-now
            ∙ puts-state (state_between lines e) (stretch e.keep e.mid lines);
        present = p4;
      }

-- ---- the second run is carried in front of the first

module _ (w0 w1 : Walk) (walk : IsWalk w0) (begins : BeginsWalk w0) (e : Exchange) where
  abbrev whole : List (List ℕ)
  whole = w0.base.lines.now

  pub second-front : front_at w0 (Behind e.keep) e.mid ≡ state_before whole e
  second-front = (λ i. changed (begins.present i) (changed (begins.changes i) (state_at w0 e.keep)))

  pub came-count : length (replayed_along w0 (Behind e.keep) (span e.mid e.from)) ≡ length (second_replayed whole e)
  came-count = ap length (along-is w0 w0 w1 walk (Behind e.keep) e.mid e.from refl (state_before whole e) second-front)

  pub came-looks : IsWithin (length whole) e → looks_in_span w0 (Behind e.keep) (span e.mid e.from) ≡ looks_of_span w0 e (span e.mid e.from)
  came-looks within =
      looks-along w0 w0 w1 walk (Behind e.keep) e.mid e.from refl (state_before whole e) second-front (stands_moved whole e) refl (stands_second-moved whole e within)

module _ (w0 w1 w2 w3 w4 : Walk) (walk : IsWalk w0) (begins : BeginsWalk w0) (e : Exchange) (le : e.mid ≤ e.from)
    (s1 : IsStillWalk w0 w1) (g1 : GoesAlong w0 w1 (Behind e.keep) (span e.mid e.from)) where
  abbrev source : List (List ℕ)
  source = w0.base.lines.now

  came-front : front_at w0 (Behind e.keep) e.mid ≡ state_before source e
  came-front = second-front w0 w1 walk begins e

  pub came-news : w1.replay.news.items ≡ second_replayed source e
  came-news = news-along w0 w0 w1 walk (Behind e.keep) e.mid e.from refl (state_before source e) came-front [] begins.news g1

  abbrev came : List Put
  came = puts_of (traces_from (state_before source e) (stretch e.mid e.from source))

  came-puts : puts_of (traces_from (front_at w0 (Behind e.keep) e.mid) (stretch e.mid e.from w0.base.lines.now)) ≡ came
  came-puts = λ i. puts_of (traces_from (came-front i) (stretch e.mid e.from source))

  pub came-present : changes_in w1.replay.log.present ≡ last_puts came
  came-present = g1.leaves.present ∙ (λ i. with_puts (begins.present i) (came-puts i)) ∙ last_puts-more no_change [] came refl

  came-now : now_at w1 e.keep ≡ state_before source e
  came-now = (λ i. changed (changes_in (g1.leaves.changes i)) (stood_at (s1.base i) e.keep)) ∙ ap (λ (c : Changed). changed c (state_at w0 e.keep)) begins.changes

  module _ (h2 : HasMadeNothing w1 w2) (c2 : changes_in w2.replay.log.changes ≡ noted (changes_in w1.replay.log.changes) (state_at w1 e.keep) (puts_in w1 e.keep e.keep) came) where
    pub opened-now : now_at w2 e.keep ≡ state_between source e
    opened-now =
        closed-now w0 w1 w2 walk e.keep e.keep (omega arith) s1.base h2 came c2 ∙ ap (λ (s : State). overwritten s came) came-now
        ∙ puts-state (state_before source e) (stretch e.mid e.from source)

    kept-there : w2.base ≡ w0.base
    kept-there = h2.0 ∙ s1.base

    pub gone-count : length (replayed_along w2 Same (span e.keep e.mid)) ≡ length (first_replayed source e)
    gone-count = ap length (along-is w0 w2 w3 walk Same e.keep e.mid kept-there (state_between source e) opened-now)

    pub gone-looks : IsWithin (length source) e → looks_in_span w2 Same (span e.keep e.mid) ≡ looks_of_span w0 e (span e.keep e.mid)
    gone-looks within =
        looks-along w0 w2 w3 walk Same e.keep e.mid kept-there (state_between source e) opened-now (stands_moved source e) (ap (λ cs. lengths_of cs.items) h2.1 ∙ s1.lengths)
        (stands_first-moved source e within)

    module _ (s3 : IsStillWalk w2 w3) (g3 : GoesAlong w2 w3 Same (span e.keep e.mid)) where
      pub all-news : w3.replay.news.items ≡ second_replayed source e ++ first_replayed source e
      all-news = news-along w0 w2 w3 walk Same e.keep e.mid kept-there (state_between source e) opened-now (second_replayed source e)
          (closed-news w0 w1 w2 walk e.keep e.keep (omega arith) s1.base h2 came c2 (second_replayed source e) came-news) g3

      pub second-crossed : (h4 : HasMadeNothing w3 w4) → changes_in w4.replay.log.changes ≡ noted (changes_in w3.replay.log.changes) (state_at w3 e.mid) (puts_in w3 e.mid e.from) []
          → changes_in w4.replay.log.present ≡ no_change → IsCrossed w0 w4 e
      second-crossed h4 c4 p4 = record {
        news = closed-news w0 w3 w4 walk e.mid e.from le (s3.base ∙ kept-there) h4 [] c4 (second_replayed source e ++ first_replayed source e) all-news;
        state = closed-now w0 w3 w4 walk e.mid e.from le (s3.base ∙ kept-there) h4 [] c4
            ∙ state-along w0 w2 w3 walk Same e.keep e.mid kept-there (state_between source e) opened-now g3;
        present = p4;
      }

-- ---- the lines behind both

module _ (w0 : Walk) (walk : IsWalk w0) (e : Exchange) (within : IsWithin (length w0.base.lines.now) e) where
  abbrev all : List (List ℕ)
  all = w0.base.lines.now

  to-end : {X : Type 0} (xs : List X) → length xs ≡ length all → stretch e.from (length all) xs ≡ drop e.from xs
  to-end xs same = ap (λ k. stretch e.from k xs) (sym same) ∙ stretch-all e.from xs

  rest-is : replayed (state_past all e) e.from (stretch e.from (length all) all) (stretch e.from (length all) (traces_of all)) ≡ behind_replayed all e
  rest-is = (λ i. replayed (state_past all e) e.from (to-end all refl i) (to-end (traces_of all) (length-traces_from first_state all) i))

  -- how many are stepped in all
  pub ones-all : (length (second_replayed all e) + length (first_replayed all e)) + length (behind_replayed all e) ≡ ones_of_exchange all e
  ones-all =
      let one = first_replayed all e in
      let two = second_replayed all e in
      let three = behind_replayed all e in
      let both = length-append one (two ++ three) in
      let rest = length-append two three in
      omega (arith, ones-moved all e within, both, rest)

  -- and compared
  pub looks-all : looks_of_runs w0 e + looks_of_span w0 e (span e.from (length all)) ≤ first_looks_moved all e (lengths_of w0.chunks.items)
  looks-all =
      let size : 0 + sum (lengths_of w0.chunks.items) ≤ length all = omega (arith, chunks-long w0.base.hashing w0.chunks.items w0.base.traces.now walk.chunks, as-long all w0.base.traces.now walk.base.did) in
      let most = spans-moved e (lengths_of w0.chunks.items) 0 (stands_moved all e) w0.base.traces.now (length all) within.first within.second within.all size in
      let did = ap (λ (ts : List Trace). looks_moved e (lengths_of w0.chunks.items) 0 (stands_moved all e) ts) walk.base.did in
      omega (arith, most, did)

  module _ (w1 w2 : Walk) (s1 : IsStillWalk w0 w1) (crossed : IsCrossed w0 w1 e) where
    pub rest-count : length (replayed_along w1 Same (span e.from (length all))) ≡ length (behind_replayed all e)
    rest-count = ap length (along-is w0 w1 w2 walk Same e.from (length all) s1.base (state_past all e) crossed.state ∙ rest-is)

    pub rest-looks : looks_in_span w1 Same (span e.from (length all)) ≡ looks_of_span w0 e (span e.from (length all))
    rest-looks =
        looks-along w0 w1 w2 walk Same e.from (length all) s1.base (state_past all e) crossed.state (stands_moved all e) s1.lengths (stands_last-moved all e within)

    pub moved-walk : GoesAlong w1 w2 Same (span e.from (length all)) → IsMovedWalk w0 w2 e
    moved-walk along = record {
      news = news-along w0 w1 w2 walk Same e.from (length all) s1.base (state_past all e) crossed.state (second_replayed all e ++ first_replayed all e) crossed.news along
          ∙ ap (λ us. (second_replayed all e ++ first_replayed all e) ++ us) rest-is;
      state = state-along w0 w1 w2 walk Same e.from (length all) s1.base (state_past all e) crossed.state along
          ∙ ap (state_after (state_past all e)) (to-end all refl) ∙ state-moved all e;
    }

-- ---- what stands in its places

-- what is made anew of both runs changes places, so that it stands in the old order
pub news-turned : (lines : List (List ℕ)) (e : Exchange)
    → exchanged (order_of lines e) ((second_replayed lines e ++ first_replayed lines e) ++ behind_replayed lines e) ≡ replayed_moved lines e
news-turned lines e =
    let one = first_replayed lines e in
    let two = second_replayed lines e in
    let three = behind_replayed lines e in
    let within : IsWithin (length two + length one) (order_of lines e) = record { first = omega arith; second = omega arith; all = omega arith } in
    ap (exchanged (order_of lines e)) (append_assoc two one three)
    ∙ exchanged-parts (order_of lines e) (length two + length one) within [] two one three refl (omega arith) (omega arith)

pub order-within : (lines : List (List ℕ)) (e order : Exchange) (news : List (SparseItem Trace)) → order ≡ order_of lines e
    → news ≡ (second_replayed lines e ++ first_replayed lines e) ++ behind_replayed lines e → IsWithin (length news) order
order-within lines e order news same is =
    let one = first_replayed lines e in
    let two = second_replayed lines e in
    let long = ap length is ∙ length-append (two ++ one) (behind_replayed lines e) in
    let both = length-append two one in
    subst (λ (o : Exchange). IsWithin (length news) o) (sym same) record { first = omega arith; second = omega arith; all = omega (arith, long, both) }

-- which keys are changed behind the last line
pub moved-state : (old new : Walk) (e : Exchange) → IsStillWalk old new → IsMovedWalk old new e
    → changed (changes_in new.replay.log.changes) (state_after first_state old.base.lines.now) ≡ state_after first_state (exchanged e old.base.lines.now)
moved-state old new e still moved =
    (λ i. changed (changes_in new.replay.log.changes) (state_after first_state (sym all-of i)))
    ∙ moved.state
  where
    all-of : take (length old.base.lines.now) new.base.lines.now ≡ old.base.lines.now
    all-of = ap (λ (b : Baseline). take (length old.base.lines.now) b.lines.now) still.base ∙ take_all (length old.base.lines.now) old.base.lines.now (omega arith)
