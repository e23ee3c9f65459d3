-- A course does the same in two states that agree on what it asked.
use Rattle.std.proofs.Common.{◌≡◌, refl, ap, ◌∙◌, Bool, true, false, List, [], ◌∷◌, ◌++◌, length, Option, Some, None}
use Rattle.std.specs.Prelude.{is_some, unwrap_or, if◌then◌else◌}
use Rattle.cps_state.specs.declared.key.Key.{Key}
use Rattle.cps_state.specs.declared.key.Answer.{Answer}
use Rattle.cps_state.specs.declared.key.Asked.{Asked}
use Rattle.cps_state.specs.Keys.{State}
use Rattle.cps_state.specs.Course.{Course, stop, ask, put, stand, fill, mark, tell, settle, begin, Running, run, known_at, answer_at, with_ask, with_put_made, stood, filled, marked, with_read, settled_by, begun, too_much, Holds}

holds-front : (front back : List Asked) (g : State) → Holds (front ++ back) g → Holds front g
holds-front [] back g held = tt
holds-front (a ∷ front) back g held = (held.0, holds-front front back g held.1)

holds-last : (front : List Asked) (a : Asked) (g : State) → Holds (front ++ a ∷ []) g → g a.key ≡ a.answer
holds-last [] a g held = held.0
holds-last (x ∷ front) a g held = holds-last front a g held.1

-- an ask, where this is known of its key
asking_with : State → Running → Key → Option (Option Answer) → Running
asking_with f t k known = if is_some known then t else record t { asks = t.asks ++ record { key = k; answer = f k } ∷ [] }

asked-before : (f g : State) (t : Running) (k : Key) (known : Option (Option Answer)) → Holds (asking_with f t k known).asks g → Holds t.asks g
unfolding asking_with
asked-before f g t k (Some a) held = held
asked-before f g t k None held = holds-front t.asks (record { key = k; answer = f k } ∷ []) g held

same-answer : (f g : State) (t : Running) (k : Key) (known : Option (Option Answer)) → Holds (asking_with f t k known).asks g → unwrap_or known (g k) ≡ unwrap_or known (f k)
unfolding asking_with
same-answer f g t k (Some a) held = refl
same-answer f g t k None held = holds-last t.asks (record { key = k; answer = f k }) g held

same-asks : (f g : State) (t : Running) (k : Key) (known : Option (Option Answer)) → Holds (asking_with f t k known).asks g → asking_with g t k known ≡ asking_with f t k known
unfolding asking_with
same-asks f g t k (Some a) held = refl
same-asks f g t k None held =
    ap (λ (a : Option Answer). record t { asks = t.asks ++ record { key = k; answer = a } ∷ [] }) (holds-last t.asks (record { key = k; answer = f k }) g held)

-- a course that goes on, unless the statement that begins is too much
going : Bool → Course → State → Running → Running → Running × Bool
going stops rest f t next = if stops then (t, false) else run rest f next

kept-going : (stops : Bool) (rest : Course) (f g : State) (t next : Running) → (Holds (run rest f next).0.asks g → Holds t.asks g)
    → Holds (going stops rest f t next).0.asks g → Holds t.asks g
unfolding going
kept-going true rest f g t next keeps held = held
kept-going false rest f g t next keeps held = keeps held

same-going : (stops : Bool) (rest : Course) (f g : State) (t next : Running) → (Holds (run rest f next).0.asks g → run rest g next ≡ run rest f next)
    → Holds (going stops rest f t next).0.asks g → going stops rest g t next ≡ going stops rest f t next
unfolding going
same-going true rest f g t next same held = refl
same-going false rest f g t next same held = same held

-- what was asked before stays asked
kept-asks : (course : Course) (f g : State) (t : Running) → Holds (run course f t).0.asks g → Holds t.asks g
unfolding asking_with going
kept-asks stop f g t held = held
kept-asks (ask k next) f g t held = asked-before f g t k (known_at t k) (kept-asks (next (answer_at f t k)) f g (with_ask f t k) held)
kept-asks (put p rest) f g t held = kept-asks rest f g (with_put_made t p) held
kept-asks (stand block rest) f g t held = kept-asks rest f g (stood t block) held
kept-asks (fill made rest) f g t held = kept-asks rest f g (filled t made) held
kept-asks (mark flags rest) f g t held = kept-asks rest f g (marked t flags) held
kept-asks (tell name rest) f g t held = kept-asks rest f g (with_read t name) held
kept-asks (settle rest) f g t held = kept-asks rest f g (settled_by t) held
kept-asks (begin depth text rest) f g t held =
    kept-going (too_much (length t.finished) depth) rest f g t (begun t depth text) (λ h. kept-asks rest f g (begun t depth text) h) held

pub run-same : (course : Course) (f g : State) (t : Running) → Holds (run course f t).0.asks g → run course g t ≡ run course f t
unfolding asking_with going
run-same stop f g t held = refl
run-same (ask k next) f g t held =
    let before : Holds (with_ask f t k).asks g = kept-asks (next (answer_at f t k)) f g (with_ask f t k) held in
    ap (λ (a : Option Answer). run (next a) g (with_ask g t k)) (same-answer f g t k (known_at t k) before)
    ∙ ap (λ (u : Running). run (next (answer_at f t k)) g u) (same-asks f g t k (known_at t k) before)
    ∙ run-same (next (answer_at f t k)) f g (with_ask f t k) held
run-same (put p rest) f g t held = run-same rest f g (with_put_made t p) held
run-same (stand block rest) f g t held = run-same rest f g (stood t block) held
run-same (fill made rest) f g t held = run-same rest f g (filled t made) held
run-same (mark flags rest) f g t held = run-same rest f g (marked t flags) held
run-same (tell name rest) f g t held = run-same rest f g (with_read t name) held
run-same (settle rest) f g t held = run-same rest f g (settled_by t) held
run-same (begin depth text rest) f g t held =
    same-going (too_much (length t.finished) depth) rest f g t (begun t depth text) (λ h. run-same rest f g (begun t depth text) h) held
