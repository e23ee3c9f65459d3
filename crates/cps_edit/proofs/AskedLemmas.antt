-- What a line asked holds where it asked it; and a line whose asks hold does the same.
use Rattle.std.proofs.Common.{◌≡◌, refl, sym, subst, ◌∙◌, Bool, true, false, List, [], ◌∷◌, ◌++◌, ℕ}
use Rattle.std.specs.Prelude.{if◌then◌else◌, is_some, length}
use Rattle.cps_state.specs.declared.key.Key.{Key}
use Rattle.cps_state.specs.declared.key.Asked.{Asked}
use Rattle.cps_state.specs.Keys.{State}
use Rattle.cps_state.specs.Course.{Course, stop, ask, put, stand, fill, mark, tell, settle, begin, Running, Trace, run, started, known_at, answer_at, with_ask, with_put_made, stood, filled, marked, with_read, settled_by, begun, too_much, Holds}
use Rattle.cps_pass.specs.Expansion.{line_part, trace_of}
use Rattle.cps_pass.proofs.StepLemmas.{same-asks, trace-same}
use Rattle.cps_edit.specs.Renewed.{WasMeant}

holds-push : (front : List Asked) (a : Asked) (g : State) → Holds front g → g a.key ≡ a.answer → Holds (front ++ a ∷ []) g
holds-push [] a g holds is = (is, tt)
holds-push (b ∷ front) a g holds is = (holds.0, holds-push front a g holds.1 is)

ask-holds : (known : Bool) (f : State) (t : Running) (k : Key) → Holds t.asks f
    → Holds (if known then t else record t { asks = t.asks ++ record { key = k; answer = f k } ∷ [] }).asks f
ask-holds true f t k holds = holds
ask-holds false f t k holds = holds-push t.asks (record { key = k; answer = f k }) f holds refl

begin-holds : (stops : Bool) (f : State) (t : Running) (rest : Running × Bool) → Holds t.asks f → Holds rest.0.asks f
    → Holds (if stops then (t, false) else rest).0.asks f
begin-holds true f t rest holds later = holds
begin-holds false f t rest holds later = later

run-holds : (course : Course) (f : State) (t : Running) → Holds t.asks f → Holds (run course f t).0.asks f
run-holds stop f t holds = holds
run-holds (ask k next) f t holds = run-holds (next (answer_at f t k)) f (with_ask f t k) (ask-holds (is_some (known_at t k)) f t k holds)
run-holds (put p rest) f t holds = run-holds rest f (with_put_made t p) holds
run-holds (stand block rest) f t holds = run-holds rest f (stood t block) holds
run-holds (fill made rest) f t holds = run-holds rest f (filled t made) holds
run-holds (mark flags rest) f t holds = run-holds rest f (marked t flags) holds
run-holds (tell name rest) f t holds = run-holds rest f (with_read t name) holds
run-holds (settle rest) f t holds = run-holds rest f (settled_by t) holds
run-holds (begin depth text rest) f t holds =
    begin-holds (too_much (length t.finished) depth) f t (run rest f (begun t depth text)) holds (run-holds rest f (begun t depth text) holds)

-- what a line asked holds where it asked it
pub asked-here : (line : List ℕ) (state : State) → Holds (trace_of line state).asks state
asked-here line state =
    subst (λ (asks : List Asked). Holds asks state) (same-asks (run (line_part line stop) state started)) (run-holds (line_part line stop) state started tt)

-- a kept trace whose asks hold is the line's trace here
pub meant-here : (line : List ℕ) (trace : Trace) (state : State) → WasMeant line trace → Holds trace.asks state → trace ≡ trace_of line state
meant-here line trace state was holds =
    was.1 ∙ sym (trace-same (line_part line stop) was.0 state (subst (λ (t : Trace). Holds t.asks state) was.1 holds))
