-- A line behind the last: what it does and what pass two makes of it, and how many lines are stepped and compared.
use Rattle.std.proofs.Common.{arith, ◌≡◌, ℕ, zero, suc, ◌+◌, ◌*◌, ◌<◌, ◌≤◌, refl, sym, ap, subst, ◌∙◌, Bool, true, false, List, [], ◌∷◌, ◌++◌, length, get_or, take, drop, Result, Ok, Err}
use Rattle.std.specs.Prelude.{nat_lt, sum, vec_len, if◌then◌else◌}
use Rattle.std.proofs.lemmas.Bool.{ltb-true, ltb-false}
use Rattle.std.proofs.lemmas.List.{take_all, drop_all, get_or_default}
use Rattle.std.proofs.lemmas.List.Sums.{sum_by-cons}
use Rattle.std.proofs.lemmas.Result.{IfOk-from_err}
use Rattle.std.specs.Result.{IsErr}
use Rattle.cps_state.specs.Course.{Trace}
use Rattle.cps_state.specs.Keys.{State, first_state, overwritten}
use Rattle.cps_state.specs.Work.{Counts, raised}
use Rattle.cps_state.specs.declared.work.Tally.TheVariants.{Ones, Twos}
use Rattle.cps_final.specs.Changes.{changed}
use Rattle.cps_final.specs.Code.Kept.{changes_in}
use Rattle.cps_final.specs.Code.FinalsPatch.{patched}
use Rattle.cps_final.specs.declared.finals_patch.FinalsPatch.{FinalsPatch}
use Rattle.cps_final.specs.contracts.finals.FinalsGathered.TheImpl.{gathered-value}
use Rattle.cps_final.specs.Finals.{Finals, final_value, finals_of}
use Rattle.cps_final.specs.Outcome.{Outcome, Resolved, outcome_of}
use Rattle.cps_pass.specs.Expansion.{trace_of}
use Rattle.cps_final.specs.NamedFinals.{names_in}
use Rattle.cps_chunk.specs.Division.{AreChunks, IsDivision, full, inserted_at}
use Rattle.cps_edit.specs.Compares.{ComparesUpTo, Steps}
use Rattle.cps_edit.specs.Disturbed.{finals_in, ones_of, twos_of}
use Rattle.cps_edit.specs.Passes.{outcomes_by, state_after, traces_of}
use Rattle.cps_edit.specs.Splice.{Splice, insertion, spliced}
use Rattle.cps_edit.proofs.RedoLemmas.{append-outcomes}
use Rattle.cps_edit.proofs.SpliceLemmas.{length-traces_from, state_after-append, traces_from-append}
use Rattle.cps_chunk.specs.Code.Chunk.{lengths_of}
use Rattle.cps_chunk.specs.Code.Redo.{is_passed}
use Rattle.cps_chunk.specs.Replayed.{redone, redone_behind, replayed_behind}
use Rattle.cps_chunk.specs.Sparse.{renewed}
use Rattle.cps_chunk.proofs.ReplayedLemmas.{renewed-redone, twos-spliced}
use Rattle.cps_chunk.proofs.SparseLemmas.{renewed-none}
use Rattle.cps_chunk.proofs.WalkLemmas.{same-long}
use Rattle.cps_chunk.specs.Code.Looks.{looks_again}
use Rattle.cps_chunk.specs.Code.Recuts.{Recuts}
use Rattle.cps_chunk.specs.Touched.{touched_of}
use Rattle.cps_chunk.proofs.CutLemmas.{sum-part, sum-parts}
use Rattle.cps_chunk.proofs.PlanLemmas.{planned}
use Rattle.cps_chunk.proofs.TouchedLemmas.{looks-law}
use Rattle.cps_live.specs.Code.Append.{HasRoomForOne, IsPatchOf, trace_behind}
use Rattle.cps_live.specs.Code.Editing.{HasAsMuchRoom, IsKept, IsStill}
use Rattle.cps_live.specs.declared.kept_source.KeptSource.{KeptSource}
use Rattle.cps_live.proofs.AgainLemmas.{steps-of}
use Rattle.cps_live.proofs.AppendLemmas.{IsAtEnd, begins, begins-first, grows}
use Rattle.cps_live.specs.Code.Storing.{IsStoredBehind}
use Rattle.cps_live.proofs.FirstPassLemmas.{ones-last}
use Rattle.cps_live.proofs.PatchedLemmas.{finals-patched}

module _ (lines : List (List ℕ)) (line : List ℕ) where
  abbrev edit : Splice
  edit = insertion (length lines) line

  -- ---- what the line does

  pub lines-behind : spliced lines (insertion (length lines) line) ≡ lines ++ line ∷ []
  lines-behind = λ i. take_all (length lines) lines (omega arith) i ++ line ∷ drop_all (length lines) lines (omega arith) i

  pub traces-behind : traces_of (lines ++ line ∷ []) ≡ traces_of lines ++ trace_of line (state_after first_state lines) ∷ []
  traces-behind = traces_from-append first_state lines (line ∷ [])

  pub state-behind : overwritten (state_after first_state lines) (trace_of line (state_after first_state lines)).puts ≡ state_after first_state (lines ++ line ∷ [])
  state-behind = sym (state_after-append first_state lines (line ∷ []))

  -- what the line changes leads there
  pub changed-behind : (patch : FinalsPatch) (t : Trace) → t ≡ trace_of line (state_after first_state lines) → ((state : State) → changed (changes_in patch.changes) state ≡ overwritten state t.puts)
      → changed (changes_in patch.changes) (state_after first_state lines) ≡ state_after first_state (lines ++ line ∷ [])
  changed-behind patch t is changes = changes (state_after first_state lines) ∙ ap (λ (u : Trace). overwritten (state_after first_state lines) u.puts) is ∙ state-behind

  pub finals-behind : (patch : FinalsPatch) (olds : List Trace) (t : Trace) → olds ≡ traces_of lines → t ≡ trace_of line (state_after first_state lines)
      → ((state : State) → changed (changes_in patch.changes) state ≡ overwritten state t.puts) → IsStoredBehind olds patch.storage (olds ++ t ∷ [])
      → patched patch (finals_of (traces_of lines)) ≡ finals_of (traces_of (lines ++ line ∷ []))
  finals-behind patch olds t did is changes stored =
      let there = subst (λ (u : Trace). IsStoredBehind (traces_of lines) patch.storage (traces_of lines ++ u ∷ [])) is
      (subst (λ (ts : List Trace). IsStoredBehind ts patch.storage (ts ++ t ∷ [])) did stored) in
      finals-patched lines (lines ++ line ∷ []) patch.storage (changes_in patch.changes)
      (subst (λ (ts : List Trace). IsStoredBehind (traces_of lines) patch.storage ts) (sym traces-behind) there) (changed-behind patch t is changes)

  -- what pass two makes of all lines, where it makes those anew that name what has another final value
  pub outcomes-behind : (was now : Resolved) (outcomes : List Outcome) → outcomes ≡ outcomes_by was (traces_of lines)
      → renewed 0 (redone was now 0 [] (traces_of lines)) outcomes ++ outcome_of now (trace_of line (state_after first_state lines)) ∷ []
      ≡ outcomes_by now (traces_of (lines ++ line ∷ []))
  outcomes-behind was now outcomes is =
      let ts : List Trace = traces_of lines in
      let t : Trace = trace_of line (state_after first_state lines) in
      let front : renewed 0 (redone was now 0 [] ts) outcomes ≡ outcomes_by now ts =
      ap (renewed 0 (redone was now 0 [] ts)) is ∙ renewed-redone was now 0 [] ts ∙ ap (outcomes_by now) (renewed-none 0 ts) in
      ap (λ os. os ++ outcome_of now t ∷ []) front ∙ sym (append-outcomes now ts (t ∷ [])) ∙ ap (outcomes_by now) (sym traces-behind)

  -- ---- how many lines are stepped

  pub ones-behind : ones_of lines (insertion (length lines) line) ≡ 1
  ones-behind = ones-last lines (line ∷ [])

  whole : take (length lines) (traces_of lines) ≡ traces_of lines
  whole = take_all (length lines) (traces_of lines) (omega (arith, length-traces_from first_state lines))

  pub twos-behind : (was now : Resolved) → was ≡ finals_in lines → now ≡ finals_in (lines ++ line ∷ []) → twos_of lines (insertion (length lines) line) ≡ 1 + length (redone was now 0 [] (traces_of lines))
  twos-behind was now before behind =
      let none : drop (length lines) (traces_of lines) ≡ [] = drop_all (length lines) (traces_of lines) (omega (arith, length-traces_from first_state lines)) in
      let nothing : redone_behind was now lines edit ≡ [] = ap (redone was now (length lines) (replayed_behind lines edit)) none in
      let front = ap (λ (ts : List Trace). length (redone was now 0 [] ts)) whole in
      omega (arith, twos-spliced lines edit was now before (behind ∙ ap finals_in (sym lines-behind)), ap length nothing, front)

  -- ---- how many lines are compared

  module _ (was now : Resolved) where
    -- no more than there are
    looks-most : (ns : List ℕ) (at : ℕ) (ts : List Trace) → looks_again was now ns at [] ts ≤ sum ns
    looks-most [] at ts = omega arith
    looks-most (n ∷ ns) at ts = by_test (is_passed was now (names_in (take n ts)) []) (looks-most ns (at + n) (drop n ts))
      where
        by_test : (test : Bool) → looks_again was now ns (at + n) [] (drop n ts) ≤ sum ns → (if test then 0 else n) + looks_again was now ns (at + n) [] (drop n ts) ≤ sum (n ∷ ns)
        by_test true rest = omega (arith, rest, sum_by-cons (λ x. x) n ns)
        by_test false rest = omega (arith, rest, sum_by-cons (λ x. x) n ns)

    looks-part : (k : ℕ) (ns : List ℕ) (at : ℕ) (ts : List Trace) → looks_again was now ns at [] ts ≤ looks_again was now (take k ns) at [] ts + sum (drop k ns)
    looks-part zero ns at ts = omega (arith, looks-most ns at ts)
    looks-part (suc k) [] at ts = omega arith
    looks-part (suc k) (n ∷ ns) at ts = omega (arith, looks-part k ns (at + n) (drop n ts))

  module _ (olds : List ℕ) (division : IsDivision (length lines) olds) (again : AreChunks (inserted_at (length lines) olds)) where
    abbrev n : ℕ
    n = length lines

    -- whatever is told past the end
    read : (ns : List ℕ) (k : ℕ) → k < length ns → get_or ns k 0 ≡ get_or ns k (get_or ns k 0)
    read ns k lt = get_or_default ns k 0 (get_or ns k 0) lt

    -- a chunk with one line more comes in the place of the last, or a new one
    by-last : (ns : List ℕ) → IsDivision n ns → (count : ℕ) → length ns ≡ count → (start : ℕ) × (last : ℕ) × IsAtEnd ns n start last
    by-last ns d zero none = (length ns, 0, begins-first ns n none d)
    by-last ns d (suc k) some = by_test (nat_lt (get_or ns k 0) full) refl
      where
        by_test : (test : Bool) → nat_lt (get_or ns k 0) full ≡ test → (start : ℕ) × (last : ℕ) × IsAtEnd ns n start last
        by_test true is = (k, get_or ns k 0, grows ns k (get_or ns k 0) n (omega (arith, some)) (read ns k (omega (arith, some))) d (ltb-true (get_or ns k 0) full is))
        by_test false is = (length ns, 0, begins ns k (get_or ns k 0) n (omega (arith, some)) (read ns k (omega (arith, some))) d (ltb-false (get_or ns k 0) full is))

    module _ (start last : ℕ) (at : IsAtEnd olds n start last) where
      abbrev ns : List ℕ
      ns = (last + 1) ∷ []

      recuts : Recuts lines edit start (length olds) ns olds
      recuts =
          let all : sum (take (length olds) olds) ≡ n = ap sum (take_all (length olds) olds (omega arith)) ∙ division.total in
          let one : sum ns ≡ last + 1 = omega arith in
          planned lines edit start (length olds) (sum (take start olds)) ns olds (omega arith) (omega arith) division
          (subst AreChunks (sym at.divided.chunks) again) at.divided.ordered at.divided.within refl at.divided.begins at.divided.ends at.divided.tight
          (omega (arith, one, all, sum-part start (length olds) olds at.divided.ordered, at.lines))

      looks-at : looks_again (finals_in lines) (finals_in (spliced lines edit)) olds 0 [] (traces_of lines) ≤ 128 * touched_of lines edit olds (inserted_at n olds)
      looks-at =
          let was = finals_in lines in
          let now = finals_in (spliced lines edit) in
          let law = looks-law lines edit start (length olds) ns olds recuts in
          let part = looks-part was now start olds 0 (traces_of lines) in
          let rest = sum-parts start olds in
          subst (λ (news : List ℕ). looks_again was now olds 0 [] (traces_of lines) ≤ 128 * touched_of lines edit olds news) at.divided.chunks (omega (arith, law, part, rest, division.total))

    pub looks-behind : looks_again (finals_in lines) (finals_in (lines ++ line ∷ [])) olds 0 [] (traces_of lines) ≤ 128 * touched_of lines (insertion (length lines) line) olds (inserted_at n olds)
    looks-behind =
        let some = by-last olds division (length olds) refl in
        subst (λ (ls : List (List ℕ)). looks_again (finals_in lines) (finals_in ls) olds 0 [] (traces_of lines) ≤ 128 * touched_of lines edit olds (inserted_at n olds)) lines-behind
        (looks-at some.0 some.1 some.2)

-- ---- what is kept where the line has been stepped and there is room for it

-- the lines and what they do, and what stood behind the last before the line and stands there now
pub record IsBehind (lines : List (List ℕ)) (line : List ℕ) (kept : KeptSource) (was now : Finals) : Type 0 where
  pub source : kept.lines.items ≡ lines
  pub traces : kept.traces.items ≡ traces_of lines
  pub before : was ≡ finals_of (traces_of lines)
  pub behind : now ≡ finals_of (traces_of (lines ++ line ∷ []))

-- what holds of a patch holds where it is lent
pub lent-patch : (kept : KeptSource) (trace : Trace) (patch lent : FinalsPatch) → lent ≡ patch → IsPatchOf kept trace patch → IsPatchOf kept trace lent
lent-patch kept trace patch lent same is = subst (IsPatchOf kept trace) (sym same) is

pub is-behind : {old one two three : KeptSource} {t : Trace} {patch : FinalsPatch} (line : List ℕ) (back : FinalsPatch) {next : Finals} → IsKept old → IsStill old one → IsStill one two → IsStill two three → IsKept three
    → t ≡ trace_behind old line → IsPatchOf one t patch → next ≡ patched patch (gathered-value.it three.finals) → patched back next ≡ gathered-value.it three.finals
    → IsBehind old.lines.items line three (patched back next) next
is-behind {old = old} {one = one} {t = t} {patch = patch} line back kept first second third there is made next undone =
    let did = first.traces ∙ kept.lines.did in
    let same = third.lines ∙ second.lines ∙ first.lines in
    let finals = there.finals ∙ ap (λ ls. finals_of (traces_of ls)) same in
    record {
      source = same;
      traces = third.traces ∙ second.traces ∙ did;
      before = undone ∙ finals;
      behind = next ∙ ap (patched patch) finals ∙ finals-behind old.lines.items line patch one.traces.items t did is made.state made.storage;
    }

module _ {lines : List (List ℕ)} {line : List ℕ} {kept : KeptSource} {was now : Finals} (b : IsBehind lines line kept was now) where
  -- how many lines pass two steps
  pub twos-are : twos_of lines (insertion (length lines) line) ≡ 1 + length (redone (final_value was) (final_value now) 0 [] kept.traces.items)
  twos-are =
      twos-behind lines line (finals_in lines) (finals_in (lines ++ line ∷ [])) refl refl
      ∙ (λ i. 1 + length (redone (final_value (sym b.before i)) (final_value (sym b.behind i)) 0 [] (sym b.traces i)))

  -- and how many it compares
  pub looks-are : (olds : List ℕ) → lengths_of kept.chunks.items ≡ olds → IsDivision (length lines) olds → AreChunks (inserted_at (length lines) olds)
      → looks_again (final_value was) (final_value now) (lengths_of kept.chunks.items) 0 [] kept.traces.items ≤ 128 * touched_of lines (insertion (length lines) line) olds (inserted_at (length lines) olds)
  looks-are olds lengths division again =
      let most : ℕ = 128 * touched_of lines (insertion (length lines) line) olds (inserted_at (length lines) olds) in
      subst (λ (m : ℕ). m ≤ most) (λ i. looks_again (final_value (sym b.before i)) (final_value (sym b.behind i)) (sym lengths i) 0 [] (sym b.traces i))
      (looks-behind lines line olds division again)

-- ---- steps and comparisons of both passes

-- one step of pass one, and then those of pass two
pub both-made : {S G U F : Type 0} {u : S} {r : U} {w0 w1 w2 : Counts} (n m k : ℕ) → n ≡ 1 → k ≡ m → w1 ≡ raised Ones w0 → Steps {T = S} {E = G} (Ok u) w1 w2 0 m
    → Steps {T = U} {E = F} (Ok r) w0 w2 n k
both-made n m k one same step two =
    let ones = ap (λ (w : Counts). w.ones) step in
    let twos = ap (λ (w : Counts). w.twos) step in
    record {
      ones = omega (arith, one, ones, two.ones);
      twos = omega (arith, same, twos, two.twos);
      ones_least = omega (arith, ones, two.ones_least);
      twos_least = omega (arith, twos, two.twos_least);
      ones_most = omega (arith, one, ones, two.ones_most);
      twos_most = omega (arith, same, twos, two.twos_most);
    }

pub both-refused : {S G U F : Type 0} {made : Result S G} {x : F} {w0 w1 w2 : Counts} (n m k : ℕ) → n ≡ 1 → k ≡ m → w1 ≡ raised Ones w0 → Steps made w1 w2 0 m
    → Steps {T = U} {E = F} (Err x) w0 w2 n k
both-refused n m k one same step two =
    let ones = ap (λ (w : Counts). w.ones) step in
    let twos = ap (λ (w : Counts). w.twos) step in
    record {
      ones = tt;
      twos = tt;
      ones_least = omega (arith, ones, two.ones_least);
      twos_least = omega (arith, twos, two.twos_least);
      ones_most = omega (arith, one, ones, two.ones_most);
      twos_most = omega (arith, same, twos, two.twos_most);
    }

pub looks-since : {w0 w1 w2 : Counts} (n most : ℕ) → n ≤ most → w1 ≡ raised Ones w0 → ComparesUpTo w1 w2 n → ComparesUpTo w0 w2 most
looks-since n most le step looked =
    let same = ap (λ (w : Counts). w.looked) step in
    record { least = omega (arith, same, looked.least); most = omega (arith, same, le, looked.most) }

-- ---- pass two of the line, and of the lines in front of it

-- all of it
pub twos-with : {T E S F : Type 0} {v : T} {u : S} {w0 w1 w2 : Counts} (n : ℕ) → w1 ≡ raised Twos w0 → Steps {T = T} {E = E} (Ok v) w1 w2 0 n → Steps {T = S} {E = F} (Ok u) w0 w2 0 (1 + n)
twos-with n step steps =
    let ones = ap (λ (w : Counts). w.ones) step in
    let twos = ap (λ (w : Counts). w.twos) step in
    record {
      ones = omega (arith, ones, steps.ones);
      twos = omega (arith, twos, steps.twos);
      ones_least = omega (arith, ones, steps.ones_least);
      twos_least = omega (arith, twos, steps.twos_least);
      ones_most = omega (arith, ones, steps.ones_most);
      twos_most = omega (arith, twos, steps.twos_most);
    }

-- a part of it
pub twos-part : {T E S F : Type 0} {made : Result T E} {result : Result S F} {w0 w1 w2 : Counts} (n : ℕ) → IsErr result → w1 ≡ raised Twos w0 → Steps made w1 w2 0 n → Steps result w0 w2 0 (1 + n)
twos-part n err step steps =
    let ones = ap (λ (w : Counts). w.ones) step in
    let twos = ap (λ (w : Counts). w.twos) step in
    steps-of err (record {
      ones_least = omega (arith, ones, steps.ones_least);
      twos_least = omega (arith, twos, steps.twos_least);
      ones_most = omega (arith, ones, steps.ones_most);
      twos_most = omega (arith, twos, steps.twos_most);
    })

-- the step of the line alone
pub twos-first : {S F : Type 0} {result : Result S F} {w0 w1 : Counts} (n : ℕ) → IsErr result → w1 ≡ raised Twos w0 → Steps result w0 w1 0 (1 + n)
twos-first n err step =
    let ones = ap (λ (w : Counts). w.ones) step in
    let twos = ap (λ (w : Counts). w.twos) step in
    steps-of err (record {
      ones_least = omega (arith, ones);
      twos_least = omega (arith, twos);
      ones_most = omega (arith, ones);
      twos_most = omega (arith, twos);
    })

pub looks-step : {w0 w1 : Counts} (most : ℕ) → w1 ≡ raised Twos w0 → ComparesUpTo w0 w1 most
looks-step most step =
    let same = ap (λ (w : Counts). w.looked) step in
    record { least = omega (arith, same); most = omega (arith, same) }

pub looks-with : {w0 w1 w2 : Counts} (n : ℕ) → w1 ≡ raised Twos w0 → ComparesUpTo w1 w2 n → ComparesUpTo w0 w2 n
looks-with n step looked =
    let same = ap (λ (w : Counts). w.looked) step in
    record { least = omega (arith, same, looked.least); most = omega (arith, same, looked.most) }

-- ---- where there is no memory

pub one-refused : {S F : Type 0} {result : Result S F} {w0 w1 : Counts} (n k : ℕ) → IsErr result → n ≡ 1 → w1 ≡ raised Ones w0 → Steps result w0 w1 n k
one-refused {result = result} n k err one step =
    let ones = ap (λ (w : Counts). w.ones) step in
    let twos = ap (λ (w : Counts). w.twos) step in
    record {
      ones = IfOk-from_err result _ err;
      twos = IfOk-from_err result _ err;
      ones_least = omega (arith, ones);
      twos_least = omega (arith, twos);
      ones_most = omega (arith, one, ones);
      twos_most = omega (arith, twos);
    }

-- ---- room

pub room-same : (old new : KeptSource) → IsStill old new → HasAsMuchRoom old new → HasRoomForOne old → HasRoomForOne new
room-same old new still much room =
    let n : vec_len new.lines ≡ vec_len old.lines = omega (arith, new.lines.ok.0, old.lines.ok.0, ap length still.lines) in
    let t : vec_len new.traces ≡ vec_len old.traces = omega (arith, new.traces.ok.0, old.traces.ok.0, ap length still.traces) in
    let o : vec_len new.outcomes ≡ vec_len old.outcomes = omega (arith, new.outcomes.ok.0, old.outcomes.ok.0, ap length still.outcomes) in
    let c : vec_len new.chunks ≡ vec_len old.chunks = omega (arith, new.chunks.ok.0, old.chunks.ok.0, same-long old.chunks.items new.chunks.items still.lengths) in
    record {
      lines = omega (arith, room.lines, n, much.lines);
      traces = omega (arith, room.traces, t, much.traces);
      outcomes = omega (arith, room.outcomes, o, much.outcomes);
      chunks = omega (arith, room.chunks, c, much.chunks);
    }
