-- A symbol that was asked is known: to ask it once more changes nothing.
use Rattle.std.proofs.Common.{◌≡◌, refl, sym, ap, ◌∙◌, [], ◌∷◌, ◌++◌, Option, Some, None, Bool, true, false}
use Rattle.std.specs.Prelude.{is_some, unwrap_or, if◌then◌else◌}
use Rattle.std.proofs.lemmas.Cmp.{nat_list_eq_equiv}
use Rattle.cps_text.specs.declared.name.Name.{Name}
use Rattle.cps_expr.specs.declared.value.Value.{Value}
use Rattle.cps_state.specs.declared.key.Key.{Key}
use Rattle.cps_state.specs.declared.key.Key.TheVariants as key
use Rattle.cps_state.specs.declared.key.Answer.{Answer}
use Rattle.cps_state.specs.Keys.{State, same_key, value_of}
use Rattle.cps_state.specs.Course.{Running, known_at, answer_at, with_ask}
use Rattle.cps_state.specs.Code.Line.{Line, line_answer, line_asked, runs}
use Rattle.cps_state.proofs.KnownLemmas.{known_in-ask}
use Rattle.cps_pass.specs.Code.Holding.{IsUnset}

-- an ask, where this is known of its key
asking_with : State → Running → Key → Option (Option Answer) → Running
asking_with f done k known = if is_some known then done else record done { asks = done.asks ++ record { key = k; answer = f k } ∷ [] }

-- what was asked is known
known-asked : (f : State) (done : Running) (k : Key) → same_key k k ≡ true → known_at (with_ask f done k) k ≡ Some (answer_at f done k)
unfolding asking_with
known-asked f done k same =
    elim (known_at done k) as (λ known. known_at done k ≡ known → known_at (asking_with f done k known) k ≡ Some (unwrap_or known (f k))) [
      | Some a ↦ λ is. is
      | None ↦ λ is.
          known_in-ask done.asks done.puts (record { key = k; answer = f k }) k is
          ∙ ap (λ (b : Bool). if b then Some (f k) else known_at done k) same
    ] refl

answer-again : (f : State) (done : Running) (k : Key) → same_key k k ≡ true → answer_at f (with_ask f done k) k ≡ answer_at f done k
answer-again f done k same = ap (λ (known : Option (Option Answer)). unwrap_or known (f k)) (known-asked f done k same)

asked-again : (f : State) (done : Running) (k : Key) → same_key k k ≡ true → with_ask f (with_ask f done k) k ≡ with_ask f done k
unfolding asking_with
asked-again f done k same = ap (asking_with f (with_ask f done k) k) (known-asked f done k same)

no-value : (value : Option Value) → is_some value ≡ false → value ≡ None
no-value None no_value = refl
no-value (Some value) no_value = cc

-- a symbol that was asked, and had no value
pub unset-asked : {S : Type 0} (f : S → State) (s t : Line S) (name : Name) (value : Option Value) → t ≡ line_asked f s (key.Setting name)
    → value ≡ value_of (line_answer f s (key.Setting name)) → is_some value ≡ false → IsUnset f t name
unset-asked f s t name value asked is no_value = rw asked (λ next rest.
    let k = key.Setting name in
    let same = nat_list_eq_equiv.refl name.bytes in
    let now = line_asked f s k in
    ap (λ (a : Option Answer). runs (next (value_of a) rest) f (line_asked f now k)) (answer-again (f s.state) s.done k same)
    ∙ ap (λ (v : Option Value). runs (next v rest) f (line_asked f now k)) (sym is ∙ no-value value no_value)
    ∙ ap (λ (done : Running). runs (next None rest) f (record { state = s.state; before = s.before; done = done })) (asked-again (f s.state) s.done k same))
