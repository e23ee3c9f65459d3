-- Which chunks an edit touches, in three parts: those in front of it, those that it makes, and those behind it.
use Rattle.std.proofs.Common.{arith, ◌≡◌, ℕ, ◌+◌, ◌-◌, ◌≤◌, refl, sym, ap, ◌∙◌, add_assoc, zero-add, List, [], ◌∷◌, ◌++◌, length, take, drop, map, Option, Some}
use Rattle.std.specs.Prelude.{sum, if◌then◌else◌}
use Rattle.std.proofs.lemmas.List.{length-append, length-drop, length-take-le, length-map, drop-drop}
use Rattle.cps_state.specs.Course.{Trace}
use Rattle.cps_state.specs.Keys.{State, first_state}
use Rattle.cps_final.specs.Outcome.{Resolved}
use Rattle.cps_chunk.specs.Recut.{recut}
use Rattle.cps_chunk.specs.Staying.{stay_in_front, stay_behind}
use Rattle.cps_edit.specs.Passes.{state_after, traces_of}
use Rattle.cps_edit.specs.Renewed.{nones}
use Rattle.cps_edit.specs.Splice.{Splice, spliced}
use Rattle.cps_edit.proofs.SpliceLemmas.{state_after-append}
use Rattle.cps_edit.proofs.TakenLemmas.{length_nones}
use Rattle.cps_chunk.specs.Replayed.{state_behind}
use Rattle.cps_chunk.specs.Code.Recuts.{Recuts}
use Rattle.cps_chunk.specs.Touched.{cut, done_before, is_touched, touched_from}
use Rattle.cps_chunk.proofs.CutLemmas.{sum-cons, take-more, take-past, drop-past, length-cut, take-cut, drop-cut}

module _ (was now : Resolved) where
  -- those that come in the place of others
  pub new-touched : (f : State) (ns : List ℕ) (ls : List (List ℕ)) → touched_from was now f (cut ns ls) (nones {X = List Trace} (length ns)) ≡ length ns
  new-touched f [] ls = refl
  new-touched f (n ∷ ns) ls = omega (arith, new-touched (state_after f (take n ls)) ns (drop n ls))

  pub touched-append : (f : State) (ms ns : List ℕ) (ls : List (List ℕ)) (ds es : List (Option (List Trace))) → length ds ≡ length ms
      → touched_from was now f (cut (ms ++ ns) ls) (ds ++ es)
      ≡ touched_from was now f (cut ms ls) ds + touched_from was now (state_after f (take (sum ms) ls)) (cut ns (drop (sum ms) ls)) es
  touched-append f [] ns ls [] es e = sym (zero-add (touched_from was now f (cut ns ls) es))
  touched-append f [] ns ls (d ∷ ds) es e = absurd (omega (arith, e))
  touched-append f (m ∷ ms) ns ls [] es e = absurd (omega (arith, e))
  touched-append f (m ∷ ms) ns ls (d ∷ ds) es e =
      let g = state_after f (take m ls) in
      let one : ℕ = if is_touched was now f d then 1 else 0 in
      let left : ℕ = touched_from was now g (cut ms (drop m ls)) ds in
      let there : state_after g (take (sum ms) (drop m ls)) ≡ state_after f (take (sum (m ∷ ms)) ls) =
      sym (state_after-append f (take m ls) (take (sum ms) (drop m ls)))
      ∙ ap (state_after f) (sym (take-more m (sum ms) ls) ∙ ap (λ k. take k ls) (sym (sum-cons m ms))) in
      let behind : drop (sum ms) (drop m ls) ≡ drop (sum (m ∷ ms)) ls = drop-drop (sum ms) m ls ∙ ap (λ k. drop k ls) (sym (sum-cons m ms)) in
      ap (λ k. one + k) (touched-append g ms ns (drop m ls) ds es (omega (arith, e)) ∙ (λ i. left + touched_from was now (there i) (cut ns (behind i)) es))
      ∙ sym (add_assoc one left (touched_from was now (state_after f (take (sum (m ∷ ms)) ls)) (cut ns (drop (sum (m ∷ ms)) ls)) es))

  -- three parts
  touched-three : (f g : State) (ms ns ks : List ℕ) (ls here : List (List ℕ)) (ds es : List (Option (List Trace))) → length ds ≡ length ms
      → state_after (state_after f (take (sum ms) ls)) (take (sum ns) (drop (sum ms) ls)) ≡ g → drop (sum ns) (drop (sum ms) ls) ≡ here
      → touched_from was now f (cut (ms ++ (ns ++ ks)) ls) (ds ++ (nones {X = List Trace} (length ns) ++ es))
      ≡ touched_from was now f (cut ms ls) ds + (length ns + touched_from was now g (cut ks here) es)
  touched-three f g ms ns ks ls here ds es e there behind =
      let h = state_after f (take (sum ms) ls) in
      let rest = drop (sum ms) ls in
      touched-append f ms (ns ++ ks) ls ds (nones {X = List Trace} (length ns) ++ es) e
      ∙ ap (λ k. touched_from was now f (cut ms ls) ds + k) (
      touched-append h ns ks rest (nones {X = List Trace} (length ns)) es (length_nones (List Trace) (length ns))
      ∙ (λ i. new-touched h ns rest i + touched_from was now (there i) (cut ks (behind i)) es)
      )

-- the state in which the chunks behind an edit begin
entered : (f : State) (front new behind : List (List ℕ)) (before m k : ℕ) → before + m ≡ length front + (length new + k)
    → state_after (state_after f (take before (front ++ (new ++ behind)))) (take m (drop before (front ++ (new ++ behind)))) ≡ state_after (state_after (state_after f front) new) (take k behind)
entered f front new behind before m k e =
    let all = front ++ (new ++ behind) in
    sym (state_after-append f (take before all) (take m (drop before all)))
    ∙ ap (state_after f) (
    sym (take-more before m all) ∙ ap (λ j. take j all) e ∙ take-past front (new ++ behind) (length new + k) ∙ ap (λ ls. front ++ ls) (take-past new behind k)
    )
    ∙ state_after-append f front (new ++ take k behind)
    ∙ state_after-append (state_after f front) new (take k behind)

left-behind : (front new behind : List (List ℕ)) (before m k : ℕ) → before + m ≡ length front + (length new + k)
    → drop m (drop before (front ++ (new ++ behind))) ≡ drop k behind
left-behind front new behind before m k e =
    let all = front ++ (new ++ behind) in
    drop-drop m before all ∙ ap (λ j. drop j all) e ∙ drop-past front (new ++ behind) (length new + k) ∙ drop-past new behind k

-- what the chunks did, as an edit leaves them
dones-parts : (ts : List Trace) (front behind start end : ℕ) (ns olds : List ℕ) → start ≤ end → end ≤ length olds → start ≡ front → length olds - end ≡ behind
    → done_before ts front behind olds (recut start end ns olds)
    ≡ map Some (cut (take start olds) ts) ++ (nones {X = List Trace} (length ns) ++ map Some (cut (drop end olds) (drop (sum (take end olds)) ts)))
dones-parts ts front behind start end ns olds ordered within first last =
    let news = recut start end ns olds in
    let count : length news - start - (length olds - end) ≡ length ns =
    omega (
      arith,
      length-append (take start olds) (ns ++ drop end olds),
      length-append ns (drop end olds),
      length-take-le start olds (omega (arith, ordered, within)),
      length-drop end olds,
      ordered,
      within,
    ) in
    let past : length olds - (length olds - end) ≡ end = omega (arith, within) in
    (λ i. done_before ts (sym first i) (sym last i) olds news)
    ∙ (λ i. map Some (take-cut start olds ts i) ++ (nones {X = List Trace} (count i) ++ map Some (drop (past i) (cut olds ts))))
    ∙ ap (λ ds. map Some (cut (take start olds) ts) ++ (nones {X = List Trace} (length ns) ++ map Some ds)) (drop-cut end olds ts)

-- lines behind the new ones that stand in chunks which the edit makes
abbrev pub loose_behind : Splice → ℕ → List ℕ → ℕ
loose_behind splice end olds = sum (take end olds) - splice.from

module _ (was now : Resolved) (lines : List (List ℕ)) (splice : Splice) where
  -- how many of the chunks in front are touched, and how many of those behind
  abbrev pub touched_front : List ℕ → ℕ
  touched_front front = touched_from was now first_state (cut front (spliced lines splice)) (map Some (cut front (traces_of lines)))

  abbrev pub touched_behind : ℕ → List ℕ → ℕ
  touched_behind end olds =
      let loose = loose_behind splice end olds in
      touched_from was now (state_after (state_behind lines splice) (take loose (drop splice.from lines))) (cut (drop end olds) (drop loose (drop splice.from lines)))
      (map Some (cut (drop end olds) (drop (sum (take end olds)) (traces_of lines))))

  module _ (start end : ℕ) (ns olds : List ℕ) (plan : Recuts lines splice start end ns olds) where
    places : sum (take start olds) + sum ns ≡ length (take splice.keep lines) + (length splice.new + loose_behind splice end olds)
    places = omega (arith, plan.count, plan.begins, length-take-le splice.keep lines (omega (arith, plan.order, plan.within)))

    pub touched-parts : touched_from was now first_state (cut (recut start end ns olds) (spliced lines splice))
        (done_before (traces_of lines) (stay_in_front splice.keep olds (recut start end ns olds)) (stay_behind (length lines - splice.from) olds (recut start end ns olds)) olds (recut start end ns olds))
        ≡ touched_front (take start olds) + (length ns + touched_behind end olds)
    touched-parts =
        let ts = traces_of lines in
        let news = recut start end ns olds in
        let all = spliced lines splice in
        let first = take start olds in
        let rest = drop splice.from lines in
        let loose = loose_behind splice end olds in
        let g = state_after (state_behind lines splice) (take loose rest) in
        ap (touched_from was now first_state (cut news all))
        (dones-parts ts (stay_in_front splice.keep olds news) (stay_behind (length lines - splice.from) olds news) start end ns olds plan.ordered plan.ends_within plan.tight.front plan.tight.back)
        ∙ touched-three was now first_state g first ns (drop end olds) all (drop loose rest) (map Some (cut first ts)) (map Some (cut (drop end olds) (drop (sum (take end olds)) ts)))
        (length-map (cut first ts) Some ∙ length-cut first ts)
        (entered first_state (take splice.keep lines) splice.new rest (sum first) (sum ns) loose places)
        (left-behind (take splice.keep lines) splice.new rest (sum first) (sum ns) loose places)
