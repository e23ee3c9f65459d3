-- One line more is gone over in pass two, with what is new of it and of those behind it.
use Rattle.std.proofs.Common.{◌≡◌, ℕ, suc, ◌+◌, ◌<◌, ◌≤◌, refl, sym, ap, subst, ◌∙◌, Bool, true, false, List, [], ◌∷◌, ◌++◌, append_assoc, append-nil, length, get_or, drop, Option, Some, None, Result, Ok, Err, arith}
use Rattle.std.specs.Prelude.{nat_eq, is_some, unwrap_or, if◌then◌else◌}
use Rattle.std.proofs.lemmas.Bool.{eqb-true, eqb-false}
use Rattle.cps_state.specs.Course.{Trace}
use Rattle.cps_state.specs.Work.{Counts, counted_on}
use Rattle.cps_final.specs.Outcome.{Resolved, Outcome, outcome_of}
use Rattle.cps_edit.specs.Compares.{Steps}
use Rattle.cps_edit.specs.Disturbed.{is_redone}
use Rattle.cps_edit.proofs.TakenLemmas.{drop_at}
use Rattle.cps_chunk.specs.declared.sparse.SparseItem.{SparseItem}
use Rattle.cps_chunk.specs.Sparse.{item_at, one_if, AreWithin, AgreeFor}
use Rattle.cps_chunk.specs.Replayed.{redone}
use Rattle.cps_chunk.specs.Code.Redo.{new_at, first_at, behind}
use Rattle.cps_chunk.proofs.SparseLemmas.{AreWithin-wider, item_at-here, item_at-other, item_at-before, length-one}
use Rattle.cps_chunk.proofs.ReplayedLemmas.{redone-agree}

-- ---- what is new at a place, and behind it

pub item_at-first : (i b : ℕ) (news : List (SparseItem Trace)) → AreWithin i b news → item_at news i ≡ first_at i news
item_at-first i b [] within = refl
item_at-first i b (new ∷ news) within =
    ap (λ (held : Option Trace). if nat_eq new.at i then Some new.item else held) (item_at-before (suc new.at) b news i within.2 (omega (arith, within.0)))

pub behind-within : (i b : ℕ) (news : List (SparseItem Trace)) → i < b → AreWithin i b news → AreWithin (suc i) b (behind i news)
behind-within i b [] lt within = omega arith
behind-within i b (new ∷ news) lt within = by_test (nat_eq new.at i) refl
  where
    by_test : (test : Bool) → nat_eq new.at i ≡ test → AreWithin (suc i) b (if test then news else new ∷ news)
    by_test true is =
        let at = eqb-true new.at i is in
        AreWithin-wider (suc new.at) b (suc i) b news (omega (arith, at)) (omega arith) within.2
    by_test false is = (omega (arith, within.0, eqb-false new.at i is), within.1, within.2)

behind-agree : (i n : ℕ) (news : List (SparseItem Trace)) → AgreeFor (suc i) n news (behind i news)
behind-agree i n [] k low high = refl
behind-agree i n (new ∷ news) k low high = by_test (nat_eq new.at i) refl
  where
    by_test : (test : Bool) → nat_eq new.at i ≡ test → item_at (new ∷ news) k ≡ item_at (if test then news else new ∷ news) k
    by_test true at = item_at-other new news k (λ is. omega (arith, is, eqb-true new.at i at, low))
    by_test false at = refl

module _ (was now : Resolved) where
  -- ---- one line

  pub one-redone : (at : ℕ) (new : Option Trace) (old : Trace) → redone was now at (new_at at new) (old ∷ []) ≡ one_if (is_redone was now (is_some new) old) at (outcome_of now (unwrap_or new old))
  one-redone at None old = append-nil (one_if (is_redone was now false old) at (outcome_of now old))
  one-redone at (Some new) old =
      ap (λ (held : Option Trace). one_if (is_redone was now (is_some held) old) at (outcome_of now (unwrap_or held old)) ++ []) (item_at-here (record { at = at; item = new }) [] at refl)
      ∙ append-nil (one_if true at (outcome_of now new))

  -- ---- one line more

  module _ (olds : List Trace) (from b i at : ℕ) (left rest : List (SparseItem Trace)) (new : Option Trace) (old : Trace) (lt : i < length olds) (here : old ≡ get_or olds i old)
      (place : at ≡ from + i) (within : AreWithin (from + i) b left) (first : new ≡ first_at at left) (others : rest ≡ behind at left) where
    held : item_at left (from + i) ≡ new
    held = item_at-first (from + i) b left within ∙ ap (λ k. first_at k left) (sym place) ∙ sym first

    later : redone was now (from + (i + 1)) left (drop (i + 1) olds) ≡ redone was now (from + (i + 1)) rest (drop (i + 1) olds)
    later =
        let k : from + (i + 1) ≡ suc (from + i) = omega arith in
        ap (λ n. redone was now n left (drop (i + 1) olds)) k
        ∙ redone-agree was now (suc (from + i)) left (behind (from + i) left) (drop (i + 1) olds) (behind-agree (from + i) (length (drop (i + 1) olds)) left)
        ∙ sym (λ j. redone was now (k j) ((others ∙ ap (λ n. behind n left) place) j) (drop (i + 1) olds))

    pub redone-step : redone was now (from + i) left (drop i olds) ≡ redone was now at (new_at at new) (old ∷ []) ++ redone was now (from + (i + 1)) rest (drop (i + 1) olds)
    redone-step =
        let k : suc (from + i) ≡ from + (i + 1) = omega arith in
        let one = λ (o : Option Trace) (n : ℕ). one_if (is_redone was now (is_some o) old) n (outcome_of now (unwrap_or o old)) in
        ap (λ xs. redone was now (from + i) left xs) (drop_at olds i old lt here)
        ∙ (λ j. one (held j) (sym place j) ++ redone was now (k j) left (drop (i + 1) olds))
        ∙ (λ j. sym (one-redone at new old) j ++ later j)

    pub within-step : from + i < b → AreWithin (from + (i + 1)) b rest
    within-step end =
        let k : suc (from + i) ≡ from + (i + 1) = omega arith in
        let same : behind (from + i) left ≡ rest = sym (others ∙ ap (λ n. behind n left) place) in
        subst (λ (n : ℕ). AreWithin n b rest) k (subst (λ (xs : List (SparseItem Trace)). AreWithin (suc (from + i)) b xs) same (behind-within (from + i) b left end within))

    pub news-step : (front more e : List (SparseItem Outcome)) → more ≡ front ++ redone was now at (new_at at new) (old ∷ []) → front ++ redone was now (from + i) left (drop i olds) ≡ e
        → more ++ redone was now (from + (i + 1)) rest (drop (i + 1) olds) ≡ e
    news-step front more e is before =
        let one = redone was now at (new_at at new) (old ∷ []) in
        let others_redone = redone was now (from + (i + 1)) rest (drop (i + 1) olds) in
        ap (λ xs. xs ++ others_redone) is ∙ append_assoc front one others_redone ∙ sym (ap (λ xs. front ++ xs) redone-step) ∙ before

    pub length-step : length (redone was now (from + i) left (drop i olds)) ≡ (if is_redone was now (is_some new) old then 1 else 0) + length (redone was now (from + (i + 1)) rest (drop (i + 1) olds))
    length-step =
        let outcome = outcome_of now (unwrap_or new old) in
        let others_redone = redone was now (from + (i + 1)) rest (drop (i + 1) olds) in
        ap length (redone-step ∙ ap (λ (ones : List (SparseItem Outcome)). ones ++ others_redone) (one-redone at new old))
        ∙ length-one (is_redone was now (is_some new) old) at outcome others_redone

-- ---- what is counted

-- no step of pass one, and so many of pass two
pub steps-of : {T E : Type 0} (result : Result T E) (old new : Counts) (twos : ℕ) → new.ones ≡ old.ones → new.twos ≡ counted_on old.twos twos → Steps result old new 0 twos
steps-of (Ok t) old new twos ones is =
    record { ones = omega (arith, ones); twos = is; ones_least = omega (arith, ones); twos_least = omega (arith, is); ones_most = omega (arith, ones); twos_most = omega (arith, is) }
steps-of (Err e) old new twos ones is =
    record { ones = tt; twos = tt; ones_least = omega (arith, ones); twos_least = omega (arith, is); ones_most = omega (arith, ones); twos_most = omega (arith, is) }

-- at most one comparison more
pub looked-next : (f w v i n : ℕ) (test : Bool) → i < n → v ≡ counted_on w (if test then 0 else 1) → w ≤ counted_on f i → v ≤ counted_on f n
looked-next f w v i n true lt is most = omega (arith, lt, is, most)
looked-next f w v i n false lt is most = omega (arith, lt, is, most)

pub looked-least : (f w v : ℕ) (test : Bool) → v ≡ counted_on w (if test then 0 else 1) → f ≤ w → f ≤ v
looked-least f w v true is least = omega (arith, is, least)
looked-least f w v false is least = omega (arith, is, least)
