-- A line that was there before, gone over: what is made anew, what stands behind it, and the steps.
use Rattle.std.proofs.Common.{◌≡◌, ◌≤◌, sym, ap, subst, ◌∙◌, ℕ, Bool, true, false, List, [], ◌∷◌, ◌++◌, append-nil, arith}
use Rattle.std.specs.Prelude.{Result, Ok, Err, OnOk, Some, not, if◌then◌else◌}
use Rattle.std.specs.Result.{IsErr}
use Rattle.cps_state.specs.Course.{Trace, Holds}
use Rattle.cps_state.specs.declared.key.Asked.{Asked}
use Rattle.cps_state.specs.declared.key.Put.{Put}
use Rattle.cps_state.specs.Keys.{State, overwritten}
use Rattle.cps_state.specs.Work.{Counts, counted_on}
use Rattle.cps_final.specs.Changes.{Changed, changed, no_change}
use Rattle.cps_final.specs.Layout.{puts_of}
use Rattle.cps_pass.specs.Expansion.{trace_of}
use Rattle.cps_edit.specs.Compares.{Steps}
use Rattle.cps_edit.specs.Passes.{after}
use Rattle.cps_edit.specs.Disturbed.{is_disturbed}
use Rattle.cps_edit.proofs.PassOneLemmas.{none-more}
use Rattle.cps_chunk.specs.declared.sparse.SparseItem.{SparseItem}
use Rattle.cps_chunk.specs.Code.Compared.{with_puts}
use Rattle.cps_chunk.specs.Noted.{AreHeld, asked_or, noted, stands}
use Rattle.cps_chunk.specs.Replayed.{replayed}
use Rattle.cps_chunk.proofs.ComparedLemmas.{changed-with_puts}
use Rattle.cps_chunk.proofs.NotedLemmas.{did-hold, asked_or-did, disturbed-stands, after-redone}

module _ (state : State) (i : ℕ) (line : List ℕ) (t : Trace) (old : List (SparseItem Trace)) where
  pub replayed-same : is_disturbed (Some t) state ≡ false → old ≡ old ++ replayed state i (line ∷ []) (t ∷ [])
  replayed-same same =
      sym (append-nil old) ∙ ap (λ (b : Bool). old ++ ((if b then record { at = i; item = trace_of line state } ∷ [] else []) ++ [])) (sym same)

  pub replayed-anew : (new : Trace) (next : List (SparseItem Trace)) → new ≡ trace_of line state → is_disturbed (Some t) state ≡ true
      → next ≡ old ++ record { at = i; item = new } ∷ [] → next ≡ old ++ replayed state i (line ∷ []) (t ∷ [])
  replayed-anew new next is disturbed pushed =
      pushed ∙ ap (λ (u : Trace). old ++ record { at = i; item = u } ∷ []) is
      ∙ ap (λ (b : Bool). old ++ ((if b then record { at = i; item = trace_of line state } ∷ [] else []) ++ [])) (sym disturbed)

-- what was found of its asks says whether it is disturbed
pub found-disturbed : (c : Changed) (f : State) (line : List ℕ) (t : Trace) → t ≡ trace_of line f → (standing which : Bool) → standing ≡ stands c t.asks → standing ≡ which
    → is_disturbed (Some t) (changed c f) ≡ not which
found-disturbed c f line t did standing which is found = disturbed-stands c f line t did ∙ ap not (sym is ∙ found)

-- it had the answers that stood in front of it
pub held-one : (f : State) (line : List ℕ) (t : Trace) (asks : List Asked) → t ≡ trace_of line f → asks ≡ t.asks → AreHeld (asked_or asks f) (t ∷ [])
held-one f line t asks did is =
    (subst (λ (s : State). Holds t.asks s) (sym (ap (λ (as_asked : List Asked). asked_or as_asked f) is ∙ asked_or-did no_change f line t did)) (did-hold no_change f line t did), tt)

-- the line is redone, where what it asked was known
pub redone-trace : (c : Changed) (f : State) (line : List ℕ) (t new : Trace) → t ≡ trace_of line f → new ≡ trace_of line (changed c (asked_or t.asks f)) → new ≡ trace_of line (changed c f)
redone-trace c f line t new did is = is ∙ ap (λ (g : State). trace_of line (changed c g)) (asked_or-did c f line t did)

pub redone-state : (c next : Changed) (f : State) (line : List ℕ) (t new : Trace) → t ≡ trace_of line f → new ≡ trace_of line (changed c (asked_or t.asks f))
    → next ≡ noted c (asked_or t.asks f) (puts_of (t ∷ [])) new.puts → changed next (after f line) ≡ after (changed c f) line
redone-state c next f line t new did is made =
    ap (λ (n : Changed). changed n (after f line))
    (made ∙ (λ i. noted c (asked_or-did c f line t did i) (append-nil t.puts i) (redone-trace c f line t new did is i).puts))
    ∙ after-redone c f line t did

-- a new line puts more
pub entered : (present next : Changed) (f : State) (puts : List Put) → next ≡ with_puts present puts → changed next f ≡ overwritten (changed present f) puts
entered present next f puts made = ap (λ (c : Changed). changed c f) made ∙ changed-with_puts present puts f

-- ---- steps

steps-two : {T E : Type 0} (result : Result T E) (old new : Counts) (b d : Bool) → b ≡ d → Steps result old new (if d then 1 else 0) 0 → Steps result old new (if b then 1 else 0) 0
steps-two result old new b d is steps = subst (λ (e : Bool). Steps result old new (if e then 1 else 0) 0) (sym is) steps

not-ok : {T E : Type 0} (P : Type 0) (result : Result T E) → IsErr result → OnOk result P
not-ok P (Ok x) failed = cc
not-ok P (Err e) failed = tt

module _ {U F : Type 0} (old mid : Counts) (ones : mid.ones ≡ old.ones) (twos : mid.twos ≡ old.twos) (b : Bool) where
  pub steps-none : (y : U) → b ≡ false → Steps {T = U} {E = F} (Ok y) old mid (if b then 1 else 0) 0
  steps-none y same = steps-two (Ok y) old mid b false same record {
    ones = ones ∙ none-more old.ones;
    twos = twos ∙ none-more old.twos;
    ones_least = omega (arith, ones);
    twos_least = omega (arith, twos);
    ones_most = subst (λ (n : ℕ). n ≤ counted_on old.ones 0) (sym ones) (subst (λ (n : ℕ). old.ones ≤ n) (none-more old.ones) (omega arith));
    twos_most = subst (λ (n : ℕ). n ≤ counted_on old.twos 0) (sym twos) (subst (λ (n : ℕ). old.twos ≤ n) (none-more old.twos) (omega arith));
  }

  pub steps-ok : {T E : Type 0} (new : Counts) (x : T) (y : U) → b ≡ true → Steps {T = T} {E = E} (Ok x) mid new 1 0 → Steps {T = U} {E = F} (Ok y) old new (if b then 1 else 0) 0
  steps-ok new x y disturbed steps = steps-two (Ok y) old new b true disturbed record {
    ones = steps.ones ∙ ap (λ n. counted_on n 1) ones;
    twos = steps.twos ∙ ap (λ n. counted_on n 0) twos;
    ones_least = subst (λ (n : ℕ). n ≤ new.ones) ones steps.ones_least;
    twos_least = subst (λ (n : ℕ). n ≤ new.twos) twos steps.twos_least;
    ones_most = subst (λ (n : ℕ). new.ones ≤ counted_on n 1) ones steps.ones_most;
    twos_most = subst (λ (n : ℕ). new.twos ≤ counted_on n 0) twos steps.twos_most;
  }

  -- a call that ends with an error makes as many steps at most
  pub steps-err : {T E : Type 0} (new : Counts) (made : Result T E) (result : Result U F) → IsErr result → b ≡ true → Steps made mid new 1 0
      → Steps result old new (if b then 1 else 0) 0
  steps-err new made result failed disturbed steps = steps-two result old new b true disturbed record {
    ones = not-ok (new.ones ≡ counted_on old.ones 1) result failed;
    twos = not-ok (new.twos ≡ counted_on old.twos 0) result failed;
    ones_least = subst (λ (n : ℕ). n ≤ new.ones) ones steps.ones_least;
    twos_least = subst (λ (n : ℕ). n ≤ new.twos) twos steps.twos_least;
    ones_most = subst (λ (n : ℕ). new.ones ≤ counted_on n 1) ones steps.ones_most;
    twos_most = subst (λ (n : ℕ). new.twos ≤ counted_on n 0) twos steps.twos_most;
  }
