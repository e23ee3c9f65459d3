-- What stands at a key from now on, or nothing.
use Rattle.std.proofs.Common.{◌≡◌, refl, sym, ap, ◌∙◌, Bool, true, false, Option, Some, None}
use Rattle.std.specs.Prelude.{if◌then◌else◌}
use Rattle.cps_state.specs.declared.key.Key.{Key}
use Rattle.cps_state.specs.declared.key.Key.TheVariants as key
use Rattle.cps_state.specs.declared.key.Answer.{Answer}
use Rattle.cps_state.specs.Code.Exchange.{with_answer}
use Rattle.cps_state.specs.Code.KeptAnswers.{is_other, answers_in}
use Rattle.cps_state.specs.Keys.{State, same_key}
use Rattle.cps_state.proofs.KnownLemmas.{same_key-true}

-- where always something stands is no other key
pub other-apart : (key k : Key) → is_other key ≡ true → is_other k ≡ false → same_key key k ≡ false
other-apart key k other always =
    elim (same_key key k) as (λ b. same_key key k ≡ b → b ≡ false) [
      | true ↦ λ h. sym other ∙ ap is_other (same_key-true key k h) ∙ always
      | false ↦ λ h. refl
    ] refl

stays : (key k : Key) (put : Option Answer) (a : Answer) → is_other key ≡ true → is_other k ≡ false → Some a ≡ (if same_key key k then put else Some a)
stays key k put a other always = sym (ap (λ (b : Bool). if b then put else Some a) (other-apart key k other always))

-- one of the others is another answer, or none
module _ (control nominal uses blocks ranges locals : Answer) (old new : State) (at : Key) (put : Option Answer) (other : is_other at ≡ true) (made : new ≡ with_answer old at put) where
  here : (k : Key) → new k ≡ (if same_key at k then put else old k)
  here k = ap (λ (state : State). state k) made

  changed-at : (k : Key) → answers_in control nominal uses blocks ranges locals new k ≡ with_answer (answers_in control nominal uses blocks ranges locals old) at put k
  changed-at key.Control = stays at key.Control put control other refl
  changed-at (key.Counter None) = stays at (key.Counter None) put nominal other refl
  changed-at (key.Counter (Some b)) = here (key.Counter (Some b))
  changed-at (key.Label b) = here (key.Label b)
  changed-at (key.Setting b) = here (key.Setting b)
  changed-at key.Uses = stays at key.Uses put uses other refl
  changed-at key.Ifs = stays at key.Ifs put ranges other refl
  changed-at key.Blocks = stays at key.Blocks put blocks other refl
  changed-at (key.Macro b) = here (key.Macro b)
  changed-at (key.Kept b) = here (key.Kept b)
  changed-at key.Locals = stays at key.Locals put locals other refl

  pub other-changed : answers_in control nominal uses blocks ranges locals new ≡ with_answer (answers_in control nominal uses blocks ranges locals old) at put
  other-changed = λ i. λ k. changed-at k i
