-- Puts, one after another.
use Rattle.std.proofs.Common.{◌≡◌, refl, sym, ap, ◌∙◌, ◌+◌, Option, None, Some, Result, Ok, Err, List, [], ◌∷◌, ◌++◌, length, reverse, suc-ne-zero, append_assoc, length-append}
use Rattle.std.proofs.lemmas.List.{reverse-append}
use Rattle.std.specs.Prelude.{OnErr}
use Rattle.cps_text.specs.declared.name.Name.{Name}
use Rattle.cps_code.specs.declared.place.Place.{Place}
use Rattle.cps_state.specs.declared.key.Control.{Control}
use Rattle.cps_state.specs.declared.key.Mode.{Mode}
use Rattle.cps_state.specs.declared.key.Mode.TheVariants.{Normal}
use Rattle.cps_state.specs.declared.key.OpenRange.{OpenRange}
use Rattle.cps_state.specs.declared.key.Answer.TheVariants as answer
use Rattle.cps_state.specs.declared.key.Key.TheVariants as key
use Rattle.cps_state.specs.declared.key.Key.{Key}
use Rattle.cps_state.specs.declared.key.Answer.{Answer}
use Rattle.cps_state.specs.declared.key.Put.{Put}
use Rattle.cps_state.specs.Code.KeptAnswers.{answers_in}
use Rattle.cps_state.specs.Keys.{State, first_control, first_place, first_state, with_put, overwritten}

-- the state before the first line, by what is kept apart
pub first-kept : (control : Control) (mode : Mode) (nominal : Place) (uses : List (Option Name)) (ranges : List OpenRange) (others : State) → control ≡ first_control → mode ≡ Normal
    → nominal ≡ first_place → uses ≡ [] → ranges ≡ [] → ((k : Key) → others k ≡ None)
    → answers_in (answer.Control control mode) (answer.Counter nominal) (answer.Uses uses) (answer.Count 0) (answer.Ifs ranges) (answer.Count 0) others ≡ first_state
first-kept control mode nominal uses ranges others is-control is-mode is-nominal is-uses is-ranges none = λ i. λ k. at k i
  where
    at : (k : Key) → answers_in (answer.Control control mode) (answer.Counter nominal) (answer.Uses uses) (answer.Count 0) (answer.Ifs ranges) (answer.Count 0) others k ≡ first_state k
    at key.Control = λ i. Some (answer.Control (is-control i) (is-mode i))
    at (key.Counter None) = ap (λ (p : Place). Some (answer.Counter p)) is-nominal
    at (key.Counter (Some b)) = none (key.Counter (Some b))
    at (key.Label b) = none (key.Label b)
    at (key.Setting b) = none (key.Setting b)
    at key.Uses = ap (λ (blocks : List (Option Name)). Some (answer.Uses blocks)) is-uses
    at key.Ifs = ap (λ (rs : List OpenRange). Some (answer.Ifs rs)) is-ranges
    at key.Blocks = refl
    at (key.Macro b) = none (key.Macro b)
    at (key.Kept b) = none (key.Kept b)
    at key.Locals = refl

-- the same state, with the same others
pub on_err-same : {T E : Type 0} (r : Result T E) (control nominal uses blocks ranges locals : Answer) (f g : State) → f ≡ g
    → OnErr r (answers_in control nominal uses blocks ranges locals f ≡ answers_in control nominal uses blocks ranges locals g)
on_err-same (Ok x) control nominal uses blocks ranges locals f g same = tt
on_err-same (Err e) control nominal uses blocks ranges locals f g same = ap (answers_in control nominal uses blocks ranges locals) same

-- one put of the list is made
pub overwritten-next : (f g e : State) (puts rest : List Put) (p : Put) → puts ≡ p ∷ rest → f ≡ with_put g p → overwritten g puts ≡ e → overwritten f rest ≡ e
overwritten-next f g e puts rest p is made before =
    ap (λ (h : State). overwritten h rest) made ∙ sym (ap (overwritten g) is) ∙ before

pub overwritten-all : (f e : State) (puts : List Put) → length puts ≡ 0 → overwritten f (reverse puts) ≡ e → f ≡ e
overwritten-all f e [] none before = before
overwritten-all f e (p ∷ puts) none before = absurd (suc-ne-zero (length puts) none)

-- the same puts where the other answers are the same
pub overwritten-same : (control nominal uses blocks ranges locals : Answer) (f g : State) (puts others : List Put) → f ≡ g → puts ≡ others
    → overwritten (answers_in control nominal uses blocks ranges locals f) puts ≡ overwritten (answers_in control nominal uses blocks ranges locals g) others
overwritten-same control nominal uses blocks ranges locals f g puts others same is =
    λ i. overwritten (answers_in control nominal uses blocks ranges locals (same i)) (is i)

-- one put more is shared: those that are left stand before the others
pub shared-next : (rest next same more puts : List Put) (p : Put) (a : Answer) → rest ≡ next ++ p ∷ [] → more ≡ same ++ record { key = p.key; answer = a } ∷ [] → a ≡ p.answer
    → rest ++ reverse same ≡ puts → next ++ reverse more ≡ puts
shared-next rest next same more puts p a left pushed shared before =
    ap (λ (ps : List Put). next ++ reverse ps) (pushed ∙ ap (λ (b : Answer). same ++ record { key = p.key; answer = b } ∷ []) shared)
    ∙ ap (λ (ps : List Put). next ++ ps) (reverse-append same (p ∷ []))
    ∙ sym (append_assoc next (p ∷ []) (reverse same))
    ∙ ap (λ (ps : List Put). ps ++ reverse same) (sym left)
    ∙ before

pub shared-all : (rest same puts : List Put) → length rest ≡ 0 → rest ++ reverse same ≡ puts → reverse same ≡ puts
shared-all [] same puts none before = before
shared-all (p ∷ rest) same puts some before = absurd (suc-ne-zero (length rest) some)

-- the last of a list that is read from its end
pub last-first : (puts left : List Put) (p : Put) → puts ≡ left ++ p ∷ [] → reverse puts ≡ p ∷ reverse left
last-first puts left p is = ap reverse is ∙ reverse-append left (p ∷ [])

pub one-fewer : (puts left : List Put) (p : Put) → puts ≡ left ++ p ∷ [] → length puts ≡ length left + 1
one-fewer puts left p is = ap length is ∙ length-append left (p ∷ [])
