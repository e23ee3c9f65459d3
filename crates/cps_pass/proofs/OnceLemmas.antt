-- Each key is asked once.
use Rattle.std.proofs.Common.{◌≡◌, refl, subst, ℕ, zero, suc, ◌<◌, Bool, true, false, List, [], ◌∷◌, ◌++◌, length, get_or, Option, Some, None, arith}
use Rattle.std.specs.Prelude.{if◌then◌else◌, is_some, option_map}
use Rattle.std.specs.Option.{option_or}
use Rattle.std.proofs.lemmas.List.Quantifiers.{all_pairs_push}
use Rattle.cps_state.specs.declared.key.Key.{Key}
use Rattle.cps_state.specs.declared.key.Answer.{Answer}
use Rattle.cps_state.specs.declared.key.Asked.{Asked}
use Rattle.cps_state.specs.Course.{Course, stop, ask, put, stand, fill, mark, tell, settle, begin, Running, run, started, last_put, last_ask, known_at, answer_at, with_ask, with_put_made, stood, filled, marked, with_read, settled_by, begun, too_much, traced}
use Rattle.cps_state.specs.Keys.{State, same_key}
use Rattle.cps_pass.specs.Bounded.{EachOnce}
use Rattle.cps_pass.proofs.StepLemmas.{same-asks}

-- a key without an ask differs from each that was asked
no-ask-behind : (o : Option (Option Answer)) (b : Bool) (a : Option Answer) → option_or o (if b then Some a else None) ≡ None → (o ≡ None) × (b ≡ false)
no-ask-behind (Some x) b a none = absurd cc
no-ask-behind None true a none = absurd cc
no-ask-behind None false a none = (refl, refl)

unasked : (asks : List Asked) (k : Key) → last_ask asks k ≡ None → (i : ℕ) (d : Asked) → i < length asks → same_key (get_or asks i d).key k ≡ false
unasked [] k none i d lt = absurd (omega arith)
unasked (a ∷ asks) k none zero d lt = (no-ask-behind (last_ask asks k) (same_key a.key k) a.answer none).1
unasked (a ∷ asks) k none (suc i) d lt = unasked asks k (no-ask-behind (last_ask asks k) (same_key a.key k) a.answer none).0 i d (omega arith)

unknown : (o : Option Answer) (a : Option (Option Answer)) → option_or (option_map Some o) a ≡ None → a ≡ None
unknown None a none = none
unknown (Some x) a none = absurd cc

once-push : (asks : List Asked) (a : Asked) → EachOnce asks → last_ask asks a.key ≡ None → EachOnce (asks ++ a ∷ [])
once-push asks a once none = all_pairs_push (λ (x : Asked) (y : Asked). same_key x.key y.key ≡ false) asks a once (unasked asks a.key none)

-- an ask, where this is known of its key
asking_with : State → Running → Key → Option (Option Answer) → Running
asking_with f t k known = if is_some known then t else record t { asks = t.asks ++ record { key = k; answer = f k } ∷ [] }

once-asking : (f : State) (t : Running) (k : Key) (known : Option (Option Answer)) → known_at t k ≡ known → EachOnce t.asks → EachOnce (asking_with f t k known).asks
unfolding asking_with
once-asking f t k (Some a) is once = once
once-asking f t k None is once = once-push t.asks (record { key = k; answer = f k }) once (unknown (last_put t.puts k) (last_ask t.asks k) is)

-- a statement that begins, if it isn't too much
goes : Bool → Course → State → Running → Running → Running × Bool
goes stops rest f t next = if stops then (t, false) else run rest f next

once-goes : (stops : Bool) (rest : Course) (f : State) (t next : Running) → EachOnce t.asks → EachOnce (run rest f next).0.asks → EachOnce (goes stops rest f t next).0.asks
unfolding goes
once-goes true rest f t next once later = once
once-goes false rest f t next once later = later

once-run : (course : Course) (f : State) (t : Running) → EachOnce t.asks → EachOnce (run course f t).0.asks
unfolding asking_with goes
once-run stop f t once = once
once-run (ask k next) f t once = once-run (next (answer_at f t k)) f (with_ask f t k) (once-asking f t k (known_at t k) refl once)
once-run (put p rest) f t once = once-run rest f (with_put_made t p) once
once-run (stand block rest) f t once = once-run rest f (stood t block) once
once-run (fill made rest) f t once = once-run rest f (filled t made) once
once-run (mark flags rest) f t once = once-run rest f (marked t flags) once
once-run (tell name rest) f t once = once-run rest f (with_read t name) once
once-run (settle rest) f t once = once-run rest f (settled_by t) once
once-run (begin depth text rest) f t once =
    once-goes (too_much (length t.finished) depth) rest f t (begun t depth text) once (once-run rest f (begun t depth text) once)

-- ---- the trace of a line

none-once : EachOnce []
none-once i j d lt in_list = absurd (omega arith)

pub asks-once : (course : Course) (f : State) → EachOnce (traced (run course f started)).asks
asks-once course f = subst (λ (asks : List Asked). EachOnce asks) (same-asks (run course f started)) (once-run course f started none-once)
