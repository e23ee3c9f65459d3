-- One symbol more that SET may have given a value.
use Rattle.std.proofs.Common.{◌≡◌, ℕ, ◌+◌, ◌<◌, ◌≤◌, sym, ap, ◌∙◌, List, [], ◌∷◌, ◌++◌, Option, Bool, length, get_or, drop, flat_map, append-nil, append_assoc}
use Rattle.std.proofs.lemmas.List.{drop_more, drop_all}
use Rattle.cps_text.specs.declared.name.Name.{Name}
use Rattle.cps_expr.specs.declared.value.Value.{Value}
use Rattle.cps_state.specs.declared.made.SetValue.{SetValue}
use Rattle.cps_state.specs.Course.{Course, Part}
use Rattle.cps_state.specs.Code.Line.{Line, Hands, runs}
use Rattle.cps_state.specs.Keys.{State}
use Rattle.cps_pass.specs.Code.Holding.{holding_after}
use Rattle.cps_pass.specs.Placing.{held_of, setting_now, settings_now}

pub held-next : {S : Type 0} (names : List Name) (i : ℕ) (d : Name) (value : Option Value) (held more : List SetValue) (f : S → State) (s t : Line S) → i < length names
    → more ≡ held ++ held_of (get_or names i d) value → Hands (setting_now (get_or names i d)) value f s t
    → (next : List SetValue → Part) (rest : Course)
    → runs (settings_now (drop (i + 1) names) (λ later. next (more ++ later)) rest) f t ≡ runs (settings_now (drop i names) (λ later. next (held ++ later)) rest) f s
held-next names i d value held more f s t lt pushed gives next rest =
    let left = drop (i + 1) names in
    ap (λ (xs : List SetValue). runs (settings_now left (λ later. next (xs ++ later)) rest) f t) pushed
    ∙ ap (λ (k : List SetValue → Part). runs (settings_now left k rest) f t) (λ j later. next (append_assoc held (held_of (get_or names i d) value) later j))
    ∙ sym (gives (λ v. settings_now left (λ later. next (held ++ (held_of (get_or names i d) v ++ later)))) rest)
    ∙ ap (λ xs. runs (settings_now xs (λ later. next (held ++ later)) rest) f s) (sym (drop_more names i d lt))

pub held-end : {S : Type 0} (names : List Name) (i : ℕ) (held : List SetValue) (f : S → State) (t : Line S) → length names ≤ i
    → (next : List SetValue → Part) (rest : Course) (before : Line S × Bool) → runs (holding_after held (drop i names) next rest) f t ≡ before
    → before ≡ runs (next held rest) f t
held-end names i held f t past next rest before is =
    sym is
    ∙ ap (λ (xs : List Name). runs (holding_after held xs next rest) f t) (drop_all i names past)
    ∙ ap (λ (xs : List SetValue). runs (next xs rest) f t) (append-nil held)

-- ---- what several things read, one after another

-- more is held before
held-before : (held early : List SetValue) (names : List Name) (next : List SetValue → Part) → holding_after (held ++ early) names next ≡ settings_now names (λ later. next (held ++ (early ++ later)))
held-before held early names next = λ i. settings_now names (λ later. next (append_assoc held early later i))

holding-append : (names more : List Name) (held : List SetValue) (next : List SetValue → Part) → holding_after held (names ++ more) next ≡ holding_after held names (λ now. holding_after now more next)
holding-append [] more held next = ap (λ (now : List SetValue). holding_after now more next) (sym (append-nil held))
holding-append (name ∷ names) more held next = λ i. setting_now name (λ value.
    (sym (held-before held (held_of name value) (names ++ more) next)
    ∙ holding-append names more (held ++ held_of name value) next
    ∙ held-before held (held_of name value) names (λ now. holding_after now more next)) i)

pub item-next : {S X : Type 0} (f : X → List Name) (xs : List X) (i : ℕ) (one : X) (names : List Name) (held more : List SetValue) (g : S → State) (s t : Line S) → i < length xs
    → one ≡ get_or xs i one → names ≡ f one → Hands (holding_after held names) more g s t
    → (next : List SetValue → Part) (rest : Course)
    → runs (holding_after more (flat_map f (drop (i + 1) xs)) next rest) g t ≡ runs (holding_after held (flat_map f (drop i xs)) next rest) g s
item-next {X = X} f xs i one names held more g s t lt is reads gives next rest =
    let left = flat_map f (drop (i + 1) xs) in
    sym (gives (λ now. holding_after now left next) rest)
    ∙ ap (λ (ys : List Name). runs (holding_after held ys (λ now. holding_after now left next) rest) g s) (reads ∙ ap f is)
    ∙ ap (λ (p : Part). runs (p rest) g s) (sym (holding-append (f (get_or xs i one)) left held next))
    ∙ ap (λ (ys : List X). runs (holding_after held (flat_map f ys) next rest) g s) (sym (drop_more xs i one lt))

pub item-end : {S X : Type 0} (f : X → List Name) (xs : List X) (i : ℕ) (held : List SetValue) (g : S → State) (t : Line S) → length xs ≤ i
    → (next : List SetValue → Part) (rest : Course) (before : Line S × Bool) → runs (holding_after held (flat_map f (drop i xs)) next rest) g t ≡ before
    → before ≡ runs (next held rest) g t
item-end {X = X} f xs i held g t past next rest before is =
    sym is
    ∙ ap (λ (ys : List X). runs (holding_after held (flat_map f ys) next rest) g t) (drop_all i xs past)
    ∙ ap (λ (now : List SetValue). runs (next now rest) g t) (append-nil held)
