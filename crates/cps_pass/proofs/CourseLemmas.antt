-- One name more in a course.
use Rattle.std.proofs.Common.{◌≡◌, ℕ, ◌+◌, ◌<◌, refl, sym, ap, ◌∙◌, List, [], ◌∷◌, ◌++◌, length, get_or, drop}
use Rattle.std.proofs.lemmas.List.{drop_more}
use Rattle.cps_text.specs.declared.name.Name.{Name}
use Rattle.cps_expr.specs.Value.{Values}
use Rattle.cps_state.specs.Course.{Course, Part}
use Rattle.cps_state.specs.Code.Line.{Line, Hands, runs}
use Rattle.cps_state.specs.Keys.{State}
use Rattle.cps_pass.specs.declared.value_now.NameNow.{NameNow}
use Rattle.cps_pass.specs.Code.NamesNow.{with_values, name_now}
use Rattle.cps_pass.specs.ValueNow.{with_value, names_now}

with_values-more : (names : List NameNow) (v : NameNow) (values : Values) → with_values (names ++ v ∷ []) values ≡ with_values names (with_value v.name v.value values)
with_values-more [] v values = refl
with_values-more (n ∷ names) v values = ap (λ (later : Values). with_value n.name n.value later) (with_values-more names v values)

pub names-next : {S : Type 0} (names : List Name) (i : ℕ) (d : Name) (v : NameNow) (vs us : List NameNow) (f : S → State) (s t : Line S) → i < length names → us ≡ vs ++ v ∷ []
    → Hands (name_now (get_or names i d)) v f s t
    → (next : Values → Part) (rest : Course) → runs (names_now (drop (i + 1) names) (λ values. next (with_values us values)) rest) f t ≡ runs (names_now (drop i names) (λ values. next (with_values vs values)) rest) f s
names-next names i d v vs us f s t lt pushed gives next rest =
    let left = drop (i + 1) names in
    ap (λ (xs : List NameNow). runs (names_now left (λ values. next (with_values xs values)) rest) f t) pushed
    ∙ ap (λ (k : Values → Part). runs (names_now left k rest) f t) (λ j values. next (with_values-more vs v values j))
    ∙ sym (gives (λ w. names_now left (λ values. next (with_values vs (with_value w.name w.value values)))) rest)
    ∙ ap (λ xs. runs (names_now xs (λ values. next (with_values vs values)) rest) f s) (sym (drop_more names i d lt))
