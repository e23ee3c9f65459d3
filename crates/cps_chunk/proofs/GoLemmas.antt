-- Lines that are gone over one by one.
use Rattle.std.proofs.Common.{◌≡◌, sym, ap, ◌∙◌, ℕ, suc, ◌+◌, ◌<◌, ◌≤◌, List, [], ◌∷◌, ◌++◌, append_assoc, append-nil, length, get_or, take, Some, arith}
use Rattle.std.specs.Prelude.{if◌then◌else◌}
use Rattle.std.proofs.lemmas.List.{length-take, get_or-take}
use Rattle.cps_state.specs.Course.{Trace}
use Rattle.cps_state.specs.Keys.{State, first_state}
use Rattle.cps_final.specs.Changes.{Changed, changed, no_change}
use Rattle.cps_final.specs.Code.Kept.{changes_in}
use Rattle.cps_pass.specs.Expansion.{trace_of}
use Rattle.cps_edit.specs.Disturbed.{is_disturbed}
use Rattle.cps_edit.specs.Passes.{after, state_after, traces_of}
use Rattle.cps_edit.proofs.TakenLemmas.{drop_at}
use Rattle.cps_chunk.specs.declared.change_log.ChangeLog.{ChangeLog}
use Rattle.cps_chunk.specs.declared.sparse.SparseItem.{SparseItem}
use Rattle.cps_chunk.specs.declared.walk.Baseline.{Baseline}
use Rattle.cps_chunk.specs.declared.walk.Walk.{Walk}
use Rattle.cps_chunk.specs.Code.Replay.{now_by}
use Rattle.cps_chunk.specs.Replayed.{replayed}
use Rattle.cps_chunk.specs.Sparse.{one_if}
use Rattle.cps_chunk.specs.Code.Walk.{IsBaseline, GoesOver, now_at, stood_at, stretch}
use Rattle.cps_chunk.proofs.SparseLemmas.{length-one}
use Rattle.cps_chunk.proofs.WalkLemmas.{as-long, state-next, stretch-state, stretch-still}

-- one of a stretch, and those behind it
pub stretch-cons : {X : Type 0} (a b : ℕ) (xs : List X) (x : X) → a < b → b ≤ length xs → x ≡ get_or xs a x → stretch a b xs ≡ x ∷ stretch (a + 1) b xs
stretch-cons a b xs x lt within is = drop_at (take b xs) a x (omega (arith, length-take b xs)) (is ∙ sym (get_or-take b xs a x lt))

-- an item that is read
pub got : {X : Type 0} (ys xs : List X) (i : ℕ) (r : X) → ys ≡ xs → r ≡ get_or ys i r → get_or ys i r ≡ get_or xs i (get_or ys i r)
got ys xs i r same is = ap (λ d. get_or ys i d) is ∙ ap (λ zs. get_or zs i (get_or ys i r)) same

module _ (lines : List (List ℕ)) (traces : List Trace) (did : traces ≡ traces_of lines) (at to : ℕ) (lt : at < to) (within : to ≤ length lines)
    (line : List ℕ) (t : Trace) (here : line ≡ get_or lines at line) (there : t ≡ get_or traces at t) (past : State) (stood : past ≡ state_after first_state (take at lines)) where
  lines-cons : stretch at to lines ≡ line ∷ stretch (at + 1) to lines
  lines-cons = stretch-cons at to lines line lt within here

  traces-cons : stretch at to traces ≡ t ∷ stretch (at + 1) to traces
  traces-cons = stretch-cons at to traces t lt (omega (arith, within, as-long lines traces did)) there

  module _ (log : ChangeLog) where
    abbrev was : State
    was = now_by log (state_after first_state (take at lines))

    -- how many of them are made anew
    pub count-here : length (replayed was at (stretch at to lines) (stretch at to traces))
        ≡ (if is_disturbed (Some t) (now_by log past) then 1 else 0) + length (replayed (after was line) (suc at) (stretch (at + 1) to lines) (stretch (at + 1) to traces))
    count-here =
        let behind = replayed (after was line) (suc at) (stretch (at + 1) to lines) (stretch (at + 1) to traces) in
        (λ i. length (replayed was at (lines-cons i) (traces-cons i))) ∙ length-one (is_disturbed (Some t) was) at (trace_of line was) behind
        ∙ ap (λ (s : State). (if is_disturbed (Some t) (now_by log s) then 1 else 0) + length behind) (sym stood)

    module _ (next : ChangeLog) (state : now_by next (after past line) ≡ after (now_by log past) line) where
      abbrev now : State
      now = now_by next (state_after first_state (take (at + 1) lines))

      now-next : now ≡ after was line
      now-next =
          ap (now_by next) (state-next lines traces did at line (omega (arith, lt, within)) here ∙ ap (λ (s : State). after s line) (sym stood))
          ∙ state ∙ ap (λ (s : State). after (now_by log s) line) stood

      pub next-state : (e : State) → state_after was (stretch at to lines) ≡ e → state_after now (stretch (at + 1) to lines) ≡ e
      next-state e so_far = ap (λ (s : State). state_after s (stretch (at + 1) to lines)) now-next ∙ ap (state_after was) (sym lines-cons) ∙ so_far

      rest : replayed was at (stretch at to lines) (stretch at to traces)
          ≡ one_if (is_disturbed (Some t) was) at (trace_of line was) ++ replayed now (at + 1) (stretch (at + 1) to lines) (stretch (at + 1) to traces)
      rest =
          let place : suc at ≡ at + 1 = omega arith in
          let one = one_if (is_disturbed (Some t) was) at (trace_of line was) in
          (λ i. replayed was at (lines-cons i) (traces-cons i))
          ∙ (λ i. one ++ replayed (sym now-next i) (place i) (stretch (at + 1) to lines) (stretch (at + 1) to traces))

      pub next-news : (made more e : List (SparseItem Trace)) → more ≡ made ++ replayed (now_by log past) at (line ∷ []) (t ∷ [])
          → made ++ replayed was at (stretch at to lines) (stretch at to traces) ≡ e → more ++ replayed now (at + 1) (stretch (at + 1) to lines) (stretch (at + 1) to traces) ≡ e
      next-news made more e is so_far =
          let one = one_if (is_disturbed (Some t) was) at (trace_of line was) in
          let behind = replayed now (at + 1) (stretch (at + 1) to lines) (stretch (at + 1) to traces) in
          ap (λ us. us ++ behind) (is ∙ ap (λ (s : State). made ++ replayed (now_by log s) at (line ∷ []) (t ∷ [])) stood ∙ ap (λ us. made ++ us) (append-nil one))
          ∙ append_assoc made one behind ∙ ap (λ us. made ++ us) (sym rest) ∙ so_far

      pub next-count : length (replayed was at (stretch at to lines) (stretch at to traces))
          ≡ (if is_disturbed (Some t) (now_by log past) then 1 else 0) + length (replayed now (at + 1) (stretch (at + 1) to lines) (stretch (at + 1) to traces))
      next-count =
          let behind = replayed now (at + 1) (stretch (at + 1) to lines) (stretch (at + 1) to traces) in
          ap length rest ∙ length-one (is_disturbed (Some t) was) at (trace_of line was) behind
          ∙ ap (λ (s : State). (if is_disturbed (Some t) (now_by log s) then 1 else 0) + length behind) (sym stood)

-- where nothing is changed any more, nothing more is made anew
module _ (old new : Walk) (from at to : ℕ) (base : IsBaseline old.base) (le : at ≤ to) (none : changes_in new.replay.log.changes ≡ no_change) where
  abbrev ls : List (List ℕ)
  ls = old.base.lines.now

  abbrev ts : List Trace
  ts = old.base.traces.now

  unchanged : (s : State) → now_by new.replay.log s ≡ s
  unchanged s = ap (λ (c : Changed). changed c s) none

  pub no-more : replayed (now_by new.replay.log (stood_at old.base at)) at (stretch at to ls) (stretch at to ts) ≡ []
  no-more = stretch-still ls ts base.did at to le (now_by new.replay.log (stood_at old.base at)) (unchanged (stood_at old.base at))

  pub ended : new.base ≡ old.base
      → new.replay.news.items ++ replayed (now_by new.replay.log (stood_at old.base at)) at (stretch at to ls) (stretch at to ts)
      ≡ old.replay.news.items ++ replayed (now_at old from) from (stretch from to ls) (stretch from to ts)
      → state_after (now_by new.replay.log (stood_at old.base at)) (stretch at to ls) ≡ state_after (now_at old from) (stretch from to ls)
      → changes_in new.replay.log.present ≡ no_change → GoesOver old new from to
  ended kept news state present = record {
    news = sym (append-nil new.replay.news.items) ∙ ap (λ us. new.replay.news.items ++ us) (sym no-more) ∙ news;
    state =
        unchanged (stood_at new.base to) ∙ ap (λ (b : Baseline). stood_at b to) kept ∙ sym (stretch-state ls ts base.did at to le)
        ∙ ap (λ (s : State). state_after s (stretch at to ls)) (sym (unchanged (stood_at old.base at))) ∙ state;
    present = present;
  }
