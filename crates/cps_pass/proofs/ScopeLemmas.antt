-- Parts that are done one after the other, where the last one hands a value on; and lines that are asked one after the other.
use Rattle.std.proofs.Common.{◌≡◌, ℕ, suc, ◌+◌, ◌-◌, ◌<◌, arith, sym, ap, ◌∙◌, Bool, false, Result, Ok, Err, List, [], ◌∷◌, ◌++◌, append_assoc}
use Rattle.std.specs.Prelude.{OnOk, if◌then◌else◌}
use Rattle.cps_state.specs.declared.key.Key.TheVariants as key
use Rattle.cps_state.specs.declared.flags.Flags.{Flags}
use Rattle.cps_state.specs.Course.{Course, Part, ◌before◌, fill}
use Rattle.cps_state.specs.Code.Line.{Line, Hands, line_answer, line_asked, line_filled, runs}
use Rattle.cps_state.specs.Keys.{State, text_of}
use Rattle.cps_state.specs.Made.{nothing_made}
use Rattle.cps_pass.specs.Scope.{asking_lines}

-- a value is handed on, and then something is done with it that hands another on
pub handed-on : {T U V W S : Type 0} (part : (T → Part) → Part) (value : T) (next : T → (W → Part) → Part) (later : W) (f : S → State) (s t u : Line S) (r : Result U V)
    → Hands part value f s t → OnOk r (Hands (next value) later f t u) → OnOk r (Hands (λ behind. part (λ x. next x behind)) later f s u)
handed-on part value next later f s t u (Ok x) hands does = λ behind rest. hands (λ x. next x behind) rest ∙ does behind rest
handed-on part value next later f s t u (Err x) hands does = tt

-- a value is handed on, and the statement makes nothing but flags
pub handed-flagged : {T S : Type 0} (part : (T → Part) → Part) (value : T) (flags given : Flags) (f : S → State) (s t u : Line S) → given ≡ flags
    → Hands part value f s t → u ≡ line_filled t (nothing_made given) → Hands (λ next. part (λ later. fill (nothing_made flags) before next later)) value f s u
handed-flagged part value flags given f s t u is hands made = λ next rest.
    hands (λ later. fill (nothing_made flags) before next later) rest
    ∙ ap (λ (g : Flags). runs (next value rest) f (line_filled t (nothing_made g))) (sym is)
    ∙ ap (λ r. runs (next value rest) f r) (sym made)

pub handed-else : {T S : Type 0} (holds : Bool) (first second : (T → Part) → Part) (value : T) (f : S → State) (s t : Line S) → holds ≡ false
    → Hands second value f s t → Hands (λ next. if holds then first next else second next) value f s t
handed-else holds first second value f s t is hands = λ next rest. ap (λ (b : Bool). runs ((if b then first next else second next) rest) f s) is ∙ hands next rest

-- one line more
pub lines-next : {S : Type 0} (line count : ℕ) (lines more : List (List ℕ)) (f : S → State) (s t : Line S) → line < count
    → t ≡ line_asked f s (key.Kept line) → more ≡ lines ++ text_of (line_answer f s (key.Kept line)) ∷ []
    → (next : List (List ℕ) → Part) (rest : Course)
    → runs (asking_lines (line + 1) (count - (line + 1)) (λ later. next (more ++ later)) rest) f t ≡ runs (asking_lines line (count - line) (λ later. next (lines ++ later)) rest) f s
lines-next line count lines more f s t lt asked pushed next rest =
    let left = count - (line + 1) in
    let one = text_of (line_answer f s (key.Kept line)) ∷ [] in
    let one_more : count - line ≡ suc left = omega (arith) in
    ap (λ r. runs (asking_lines (line + 1) left (λ later. next (more ++ later)) rest) f r) asked
    ∙ ap (λ (xs : List (List ℕ)). runs (asking_lines (line + 1) left (λ later. next (xs ++ later)) rest) f (line_asked f s (key.Kept line))) pushed
    ∙ ap (λ (k : List (List ℕ) → Part). runs (asking_lines (line + 1) left k rest) f (line_asked f s (key.Kept line))) (λ j later. next (append_assoc lines one later j))
    ∙ ap (λ (n : ℕ). runs (asking_lines line n (λ later. next (lines ++ later)) rest) f s) (sym one_more)
