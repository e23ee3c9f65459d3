-- Lines that are carried: what they put, one line after another.
use Rattle.std.proofs.Common.{◌≡◌, sym, ap, ◌∙◌, ℕ, ◌+◌, ◌<◌, ◌≤◌, true, List, Option, Some, subst, length, get_or, drop}
use Rattle.std.specs.Prelude.{Result, Ok, Err, OnOk, IfSome}
use Rattle.std.proofs.lemmas.List.{drop_all}
use Rattle.cps_state.specs.Course.{Trace}
use Rattle.cps_state.specs.Keys.{State}
use Rattle.cps_state.specs.declared.key.Put.{Put}
use Rattle.cps_final.specs.Changes.{Changed}
use Rattle.cps_final.specs.Code.Kept.{changes_in}
use Rattle.cps_final.specs.Layout.{puts_of}
use Rattle.cps_final.specs.Holds.{holds}
use Rattle.cps_final.specs.Code.RunGathering.{KeptRun, kept_run}
use Rattle.cps_final.proofs.AnswerLemmas.{asks-decide}
use Rattle.cps_pass.specs.Expansion.{trace_of}
use Rattle.cps_edit.specs.Renewed.{WasMeant}
use Rattle.cps_edit.proofs.AskedLemmas.{meant-here}
use Rattle.cps_edit.proofs.TakenLemmas.{drop_at}
use Rattle.cps_chunk.specs.declared.change_log.ChangeLog.{ChangeLog}
use Rattle.cps_chunk.specs.Code.Replay.{PutsAlso}
use Rattle.cps_chunk.specs.Code.Compared.{with_puts}
use Rattle.cps_chunk.proofs.ComparedLemmas.{with_puts-append}

-- one line more
pub carried-next : (now next end : Changed) (ts : List Trace) (i : ℕ) (t : Trace) → i < length ts → t ≡ get_or ts i t → next ≡ with_puts now t.puts
    → with_puts now (puts_of (drop i ts)) ≡ end → with_puts next (puts_of (drop (i + 1) ts)) ≡ end
carried-next now next end ts i t lt is made so_far =
    ap (λ (c : Changed). with_puts c (puts_of (drop (i + 1) ts))) made ∙ with_puts-append now t.puts (puts_of (drop (i + 1) ts))
    ∙ ap (λ (us : List Trace). with_puts now (puts_of us)) (sym (drop_at ts i t lt is)) ∙ so_far

pub carried-done : (now end : Changed) (ts : List Trace) (i : ℕ) → length ts ≤ i → with_puts now (puts_of (drop i ts)) ≡ end → now ≡ end
carried-done now end ts i all so_far = sym (ap (λ (us : List Trace). with_puts now (puts_of us)) (drop_all i ts all)) ∙ so_far

-- a line that does what it did puts what it put
pub put-also : {T E : Type 0} (result : Result T E) (old new : ChangeLog) (puts more : List Put) → puts ≡ more
    → OnOk result (changes_in new.present ≡ with_puts (changes_in old.present) puts) → new.changes ≡ old.changes → OnOk result (PutsAlso old new more)
put-also (Ok x) old new puts more is made same = record { present = made ∙ ap (with_puts (changes_in old.present)) is; changes = same }
put-also (Err e) old new puts more is made same = tt

pub held-puts : (line : List ℕ) (t : Trace) (state : State) → WasMeant line t → holds t.asks state ≡ true → t.puts ≡ (trace_of line state).puts
held-puts line t state meant held = sym (ap (λ (u : Trace). u.puts) (sym (meant-here line t state meant ((asks-decide t.asks state).0 held))))

-- ---- the lines of a chunk

-- what was gathered of a chunk is the run of its lines
pub run-is : (run : Option KeptRun) (found : KeptRun) (ts : List Trace) → run ≡ Some found → IfSome run (λ run. run ≡ kept_run ts) → found ≡ kept_run ts
run-is run found ts is gathered = subst (λ (run : Option KeptRun). IfSome run (λ run. run ≡ kept_run ts)) is gathered
