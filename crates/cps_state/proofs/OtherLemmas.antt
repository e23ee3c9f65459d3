-- What stands at the keys at which nothing may stand too, by the maps that keep it.
use Rattle.std.proofs.Common.{◌≡◌, refl, sym, ap, ◌∙◌, ℕ, Bool, true, false, List, get_or, Option, None, Some}
use Rattle.std.specs.Prelude.{option_map, unwrap_or, position, if◌then◌else◌}
use Rattle.std.specs.Cmp.{IsEquivalence}
use Rattle.std.specs.Cmp.Lexicographic.{bytes_decides}
use Rattle.std.specs.List.{slice_get}
use Rattle.std.proofs.lemmas.Cmp.{nat_list_eq_equiv}
use Rattle.std.proofs.lemmas.List.Quantifiers.{position-Some}
use Rattle.std.proofs.lemmas.Map.Entries.{hash_map_get_place}
use Rattle.std.proofs.lemmas.Option.{slice_get-get_or, slice_get-map}
use Rattle.indexmap.specs.IndexMap.{IndexMap, keys, values, get, with_value_at, IsUnique}
use Rattle.std.specs.Map.{lookup}
use Rattle.indexmap.proofs.MapLemmas.{Missing-position}
use Rattle.indexmap.proofs.CallerLemmas.{updates-with_value_at}
use Rattle.cps_text.specs.declared.name.Name.{Name}
use Rattle.cps_expr.specs.Value.{same_name}
use Rattle.cps_state.specs.declared.key.Answer.{Answer}
use Rattle.cps_state.specs.declared.key.Key.{Key}
use Rattle.cps_state.specs.declared.key.Key.TheVariants as key
use Rattle.cps_state.specs.contracts.key.KeyPartialEq.TheImpl.{eq-value}
use Rattle.cps_state.specs.Code.Exchange.{with_answer}
use Rattle.cps_state.specs.Code.OtherAnswers.{others_in, is_rest}
use Rattle.cps_state.specs.Keys.{State, same_key}
use Rattle.cps_state.proofs.KnownLemmas.{same_key_is, same_key-true}

same_name-laws : IsEquivalence same_name
same_name-laws = record {
  refl = λ x. nat_list_eq_equiv.refl x.bytes;
  symm = λ x y. nat_list_eq_equiv.symm x.bytes y.bytes;
  congr = λ x y z. nat_list_eq_equiv.congr x.bytes y.bytes z.bytes;
}

same_name-is : (a b : Name) → same_name a b ≡ true → a ≡ b
same_name-is a b same = let bytes = (bytes_decides a.bytes b.bytes).0 same in λ i. record { bytes = bytes i }

-- the entry at a place is the name and the answer there
entry-at : {S : Type 0} (m : IndexMap Name Answer S) (i : ℕ) (name : Name) (answer : Answer) → slice_get (keys m) i ≡ Some name → Some answer ≡ slice_get (values m) i
    → slice_get m.entries i ≡ Some (name, answer)
entry-at m i name answer name-is answer-is =
    by (slice_get m.entries i) (sym (slice_get-map (λ (e : Name × Answer). e.0) m.entries i) ∙ name-is)
    (answer-is ∙ slice_get-map (λ (e : Name × Answer). e.1) m.entries i)
  where
    by : (o : Option (Name × Answer)) → option_map (λ e. e.0) o ≡ Some name → Some answer ≡ option_map (λ e. e.1) o → o ≡ Some (name, answer)
    by None no-name no-answer = cc
    by (Some e) name-is answer-is = λ j. Some (unwrap_or (name-is j) name, unwrap_or (sym answer-is j) answer)

-- what stands where a name is found
module _ {S : Type 0} (m : IndexMap Name Answer S) (i : ℕ) (name : Name) (found : Some i ≡ position (same_name name) (keys m)) where
  name-at : slice_get (keys m) i ≡ Some name
  name-at =
      let place = position-Some (same_name name) (keys m) i name (sym found) in
      slice_get-get_or (keys m) i name place.0 ∙ ap Some (sym (same_name-is name (get_or (keys m) i name) place.1))

  pub answer-at : (answer : Answer) → IsUnique same_name m → Some answer ≡ slice_get (values m) i → Some answer ≡ get same_name m name
  answer-at answer unique was = sym (hash_map_get_place same_name-laws m i name answer unique (entry-at m i name answer name-at was))

  pub written-at : (answer written : Answer) → IsUnique same_name m → Some answer ≡ slice_get (values m) i
      → (other : Name) → get same_name (with_value_at m i written) other ≡ (if same_name name other then Some written else get same_name m other)
  written-at answer written unique was = (updates-with_value_at m i written same_name-laws unique name answer (entry-at m i name answer name-at was)).0

-- what is found there
pub answer-found : {S : Type 0} (m : IndexMap Name Answer S) (i : ℕ) (name : Name) → Some i ≡ position (same_name name) (keys m) → (key : Name) (answer : Answer)
    → Some (key, answer) ≡ slice_get m.entries i → get same_name m key ≡ Some answer → Some answer ≡ get same_name m name
answer-found m i name found key answer at here =
    let stored : slice_get (keys m) i ≡ Some key = slice_get-map (λ (e : Name × Answer). e.0) m.entries i ∙ ap (option_map (λ (e : Name × Answer). e.0)) (sym at) in
    let same : key ≡ name = ap (λ (o : Option Name). unwrap_or o key) (sym stored ∙ name-at m i name found) in
    sym here ∙ ap (get same_name m) same

-- nothing stands where a name isn't found
pub none-at : {S : Type 0} (m : IndexMap Name Answer S) (name : Name) → None ≡ position (same_name name) (keys m) → None ≡ get same_name m name
none-at m name none = sym (Missing-position (same_name name) m.entries (sym none)).value

-- ---- one key has another answer, or none

module _ (counters labels : Name → Option Answer) (rest : State) (a : Option Answer) where
  counter-put : (new : Name → Option Answer) (block : Name) → ((name : Name) → new name ≡ (if same_name block name then a else counters name))
      → (k : Key) → others_in new labels rest k ≡ with_answer (others_in counters labels rest) (key.Counter (Some block)) a k
  counter-put new block put key.Control = refl
  counter-put new block put (key.Counter None) = refl
  counter-put new block put (key.Counter (Some b)) = put b
  counter-put new block put (key.Label b) = refl
  counter-put new block put (key.Setting b) = refl
  counter-put new block put key.Uses = refl
  counter-put new block put key.Ifs = refl
  counter-put new block put key.Blocks = refl
  counter-put new block put (key.Macro b) = refl
  counter-put new block put (key.Kept b) = refl
  counter-put new block put key.Locals = refl

  pub counter-changed : (new : Name → Option Answer) (block : Name) (at : Key) → at ≡ key.Counter (Some block)
      → ((name : Name) → new name ≡ (if same_name block name then a else counters name)) → others_in new labels rest ≡ with_answer (others_in counters labels rest) at a
  counter-changed new block at is put =
      (λ i. λ k. counter-put new block put k i) ∙ ap (λ (k : Key). with_answer (others_in counters labels rest) k a) (sym is)

  label-put : (new : Name → Option Answer) (label : Name) → ((name : Name) → new name ≡ (if same_name label name then a else labels name))
      → (k : Key) → others_in counters new rest k ≡ with_answer (others_in counters labels rest) (key.Label label) a k
  label-put new label put key.Control = refl
  label-put new label put (key.Counter None) = refl
  label-put new label put (key.Counter (Some b)) = refl
  label-put new label put (key.Label b) = put b
  label-put new label put (key.Setting b) = refl
  label-put new label put key.Uses = refl
  label-put new label put key.Ifs = refl
  label-put new label put key.Blocks = refl
  label-put new label put (key.Macro b) = refl
  label-put new label put (key.Kept b) = refl
  label-put new label put key.Locals = refl

  pub label-changed : (new : Name → Option Answer) (label : Name) (at : Key) → at ≡ key.Label label
      → ((name : Name) → new name ≡ (if same_name label name then a else labels name)) → others_in counters new rest ≡ with_answer (others_in counters labels rest) at a
  label-changed new label at is put =
      (λ i. λ k. label-put new label put k i) ∙ ap (λ (k : Key). with_answer (others_in counters labels rest) k a) (sym is)

  module _ (new : State) (at : Key) (is : is_rest at ≡ true) (put : (k : Key) → new k ≡ (if (eq-value.it) at k then a else rest k)) where
    apart : (k : Key) (answer : Option Answer) → is_rest k ≡ false → answer ≡ (if same_key at k then a else answer)
    apart k answer named =
        let differ : same_key at k ≡ false =
        elim (same_key at k) as (λ b. same_key at k ≡ b → b ≡ false) [
          | true ↦ λ h. sym is ∙ ap is_rest (same_key-true at k h) ∙ named
          | false ↦ λ h. refl
        ] refl in
        sym (ap (λ (b : Bool). if b then a else answer) differ)

    here : (k : Key) → new k ≡ (if same_key at k then a else rest k)
    here k = put k ∙ ap (λ (b : Bool). if b then a else rest k) (same_key_is at k)

    rest-put : (k : Key) → others_in counters labels new k ≡ with_answer (others_in counters labels rest) at a k
    rest-put key.Control = here key.Control
    rest-put (key.Counter None) = here (key.Counter None)
    rest-put (key.Counter (Some b)) = apart (key.Counter (Some b)) (counters b) refl
    rest-put (key.Label b) = apart (key.Label b) (labels b) refl
    rest-put (key.Setting b) = here (key.Setting b)
    rest-put key.Uses = here key.Uses
    rest-put key.Ifs = here key.Ifs
    rest-put key.Blocks = here key.Blocks
    rest-put (key.Macro b) = here (key.Macro b)
    rest-put (key.Kept b) = here (key.Kept b)
    rest-put key.Locals = here key.Locals

    pub rest-changed : others_in counters labels new ≡ with_answer (others_in counters labels rest) at a
    rest-changed = λ i. λ k. rest-put k i

-- ---- the same answers stand

pub same-kept : {S : Type 0} (old new : IndexMap Name Answer S) → new.entries ≡ old.entries → (name : Name) → get same_name new name ≡ get same_name old name
same-kept old new same name = ap (λ (es : List (Name × Answer)). lookup (same_name name) es) same

pub all-kept : (counters more-counters labels more-labels : Name → Option Answer) (rest more-rest : State)
    → ((name : Name) → more-counters name ≡ counters name) → ((name : Name) → more-labels name ≡ labels name) → ((k : Key) → more-rest k ≡ rest k)
    → others_in more-counters more-labels more-rest ≡ others_in counters labels rest
all-kept counters more-counters labels more-labels rest more-rest same-counters same-labels same-rest =
    λ i. others_in (λ name. same-counters name i) (λ name. same-labels name i) (λ k. same-rest k i)
