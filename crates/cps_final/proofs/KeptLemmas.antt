-- What a map of changed keys says of them.
use Rattle.std.proofs.Common.{◌≡◌, refl, sym, ap, ◌∙◌, ℕ, Bool, true, false, cond, ◌||◌, List, [], ◌∷◌, Option, None, Some}
use Rattle.std.specs.Prelude.{is_some, unwrap_or, option_map, if◌then◌else◌}
use Rattle.std.specs.List.{list_any, slice_get}
use Rattle.std.specs.Map.{lookup, keys_of}
use Rattle.std.proofs.lemmas.Option.{slice_get-map}
use Rattle.std.proofs.lemmas.Map.Entries.{hash_map_get_place}
use Rattle.indexmap.specs.IndexMap.{IndexMap, keys, values, get, with_value_at, IsUnique}
use Rattle.indexmap.proofs.CallerLemmas.{updates-with_value_at}
use Rattle.cps_state.specs.declared.key.Key.{Key}
use Rattle.cps_state.specs.declared.key.Key.TheVariants as key
use Rattle.cps_state.specs.declared.key.Answer.{Answer}
use Rattle.cps_state.specs.contracts.key.KeyEq.TheImpl.Laws.{laws-law}
use Rattle.cps_state.specs.contracts.key.KeyPartialEq.TheImpl.{eq-value}
use Rattle.cps_state.specs.Code.Exchange.{with_answer, MayStand}
use Rattle.cps_state.specs.Keys.{State, same_key}
use Rattle.cps_state.specs.Code.KeptAnswers.{is_other, answers_in}
use Rattle.cps_state.proofs.KnownLemmas.{same_key_is, same_key-true}
use Rattle.cps_final.specs.Changes.{Changed, changed, with_change, without}
use Rattle.cps_final.specs.Code.Kept.{MayStandIn}

abbrev pub eq : Key → Key → Bool
eq = eq-value.it

-- a map has a key where one of its keys is equal
pub has-key : (test : Key → Bool) (es : List (Key × Option Answer)) → is_some (lookup test es) ≡ list_any test (keys_of es)
has-key test [] = refl
has-key test (e ∷ es) = at (test e.0) (has-key test es)
  where
    at : (b : Bool) → is_some (lookup test es) ≡ list_any test (keys_of es) → is_some (cond b (Some e.1) (lookup test es)) ≡ (b || list_any test (keys_of es))
    at true rest = refl
    at false rest = rest

-- one key is changed
pub changed-set : (now next : Changed) (at : Key) (answer : Option Answer) → ((k : Key) → next k ≡ cond (eq at k) (Some answer) (now k)) → next ≡ with_change now at answer
changed-set now next at answer is = λ i. λ k. (is k ∙ ap (λ (b : Bool). if b then Some answer else now k) (same_key_is at k)) i

pub changed-forgotten : (now next : Changed) (at : Key) → ((k : Key) → next k ≡ cond (eq at k) None (now k)) → next ≡ without now at
changed-forgotten now next at is = λ i. λ k. (is k ∙ ap (λ (b : Bool). if b then None else now k) (same_key_is at k)) i

-- the entry at a place is the key and the answer there
entry-at : {S : Type 0} (m : IndexMap Key (Option Answer) S) (i : ℕ) (k : Key) (a : Option Answer) → slice_get (keys m) i ≡ Some k → Some a ≡ slice_get (values m) i
    → slice_get m.entries i ≡ Some (k, a)
entry-at m i k a key-is value-is =
    by (slice_get m.entries i) (sym (slice_get-map (λ (e : Key × Option Answer). e.0) m.entries i) ∙ key-is)
    (value-is ∙ slice_get-map (λ (e : Key × Option Answer). e.1) m.entries i)
  where
    by : (o : Option (Key × Option Answer)) → option_map (λ e. e.0) o ≡ Some k → Some a ≡ option_map (λ e. e.1) o → o ≡ Some (k, a)
    by None no-key no-value = cc
    by (Some e) key-is value-is = λ j. Some (unwrap_or (key-is j) k, unwrap_or (sym value-is j) a)

module _ {S : Type 0} (m : IndexMap Key (Option Answer) S) (i : ℕ) (k : Key) (a : Option Answer) where
  -- what stands at a place stands at its key
  pub at-place : IsUnique eq m → slice_get (keys m) i ≡ Some k → Some a ≡ slice_get (values m) i → get eq m k ≡ Some a
  at-place unique key-is value-is = hash_map_get_place laws-law m i k a unique (entry-at m i k a key-is value-is)

  -- another answer at a place changes its key
  pub written-at : (w : Option Answer) → IsUnique eq m → slice_get (keys m) i ≡ Some k → Some a ≡ slice_get (values m) i
      → (λ (x : Key). get eq (with_value_at m i w) x) ≡ with_change (λ (x : Key). get eq m x) k w
  written-at w unique key-is value-is = changed-set _ _ k w (updates-with_value_at m i w laws-law unique k a (entry-at m i k a key-is value-is)).0

-- the key of an entry is a key at its place
pub key-at : {S : Type 0} (m : IndexMap Key (Option Answer) S) (i : ℕ) (k : Key) (a : Option Answer) → Some (k, a) ≡ slice_get m.entries i → slice_get (keys m) i ≡ Some k
key-at m i k a at = slice_get-map (λ (e : Key × Option Answer). e.0) m.entries i ∙ ap (option_map (λ (e : Key × Option Answer). e.0)) (sym at)

-- what stands at a changed key may stand there
pub may-stand : (now : Changed) (k : Key) (a : Option Answer) → MayStandIn now → now k ≡ Some a → MayStand k a
may-stand now k (Some a) stands is = record {}
may-stand now k None stands is = elim (is_other k) as (λ b. is_other k ≡ b → b ≡ true) [ true ↦ λ h. refl | false ↦ λ h. absurd (stands k h is) ] refl

-- nothing is what never stands where always something does
pub stands-always : (control nominal uses blocks ranges locals : Answer) (others : State) (k : Key) → is_other k ≡ false → answers_in control nominal uses blocks ranges locals others k ≡ None → ⊥
stands-always control nominal uses blocks ranges locals others key.Control always none = cc
stands-always control nominal uses blocks ranges locals others (key.Counter None) always none = cc
stands-always control nominal uses blocks ranges locals others (key.Counter (Some b)) always none = cc
stands-always control nominal uses blocks ranges locals others (key.Label b) always none = cc
stands-always control nominal uses blocks ranges locals others (key.Setting b) always none = cc
stands-always control nominal uses blocks ranges locals others key.Uses always none = cc
stands-always control nominal uses blocks ranges locals others key.Ifs always none = cc
stands-always control nominal uses blocks ranges locals others key.Blocks always none = cc
stands-always control nominal uses blocks ranges locals others (key.Macro b) always none = cc
stands-always control nominal uses blocks ranges locals others (key.Kept b) always none = cc
stands-always control nominal uses blocks ranges locals others key.Locals always none = cc

-- where always something stands, it still does once a key has another answer, or one key less is changed
pub stands-next : (now next : Changed) (at : Key) (a : Option Answer) → MayStandIn now → (is_other at ≡ false → a ≡ None → ⊥) → next ≡ with_change now at a → MayStandIn next
stands-next now next at a stands some is k always none =
    let here : (if same_key at k then Some a else now k) ≡ Some None = sym (ap (λ (c : Changed). c k) is) ∙ none in
    elim (same_key at k) as (λ b. same_key at k ≡ b → (if b then Some a else now k) ≡ Some None → ⊥) [
      | true ↦ λ h e. some (ap is_other (same_key-true at k h) ∙ always) (ap (λ (o : Option (Option Answer)). unwrap_or o a) e)
      | false ↦ λ h e. stands k always e
    ] refl here

-- what stood at a changed key stands in a state now
pub answer-changed : (now : Changed) (state next : State) (at : Key) (a : Option Answer) → Some a ≡ now at → next ≡ with_answer state at a → next ≡ with_answer state at (changed now state at)
answer-changed now state next at a was is = is ∙ ap (λ (o : Option (Option Answer)). with_answer state at (unwrap_or o (state at))) was
