-- Labels that have other final values, and what has the same.
use Rattle.std.proofs.Common.{◌≡◌, ℕ, ◌+◌, ◌≤◌, refl, sym, ap, ◌∙◌, Bool, true, false, not, ◌||◌, List, [], ◌∷◌, ◌++◌, map, take, Option, None, Some}
use Rattle.std.specs.Prelude.{All, flat_map, is_some, unwrap_or, option_and_then}
use Rattle.std.specs.List.{list_all, list_any, slice_get}
use Rattle.std.proofs.lemmas.Bool.{and_from, and_parts, or_from, or_parts}
use Rattle.std.proofs.lemmas.List.{take_all}
use Rattle.std.proofs.lemmas.List.Elements.{All-head, All-tail}
use Rattle.std.proofs.lemmas.List.Folds.{list_all-append, list_any-append, list_any_more}
use Rattle.std.proofs.lemmas.Option.{slice_get_within, get_or_from_slice_get}
use Rattle.cps_text.specs.declared.name.Name.{Name}
use Rattle.cps_expr.specs.Value.{same_name}
use Rattle.cps_expr.specs.declared.value.Value.{Value}
use Rattle.cps_state.specs.declared.hashing.Hashing.{Hashing}
use Rattle.cps_state.specs.declared.key.Key.{Key}
use Rattle.cps_state.specs.declared.key.Key.TheVariants as key
use Rattle.cps_state.specs.declared.key.Answer.{Answer}
use Rattle.cps_state.specs.Course.{Trace}
use Rattle.cps_state.specs.Keys.{value_of}
use Rattle.cps_state.specs.Made.{content_literals, content_names}
use Rattle.cps_state.specs.declared.item.Item.{Item}
use Rattle.cps_state.proofs.KnownLemmas.{same_key_is, same_key-true}
use Rattle.cps_final.specs.Changes.{changed}
use Rattle.cps_final.specs.Code.Kept.{changes_in, count_of, keys_in}
use Rattle.cps_final.proofs.KeptLemmas.{eq, has-key}
use Rattle.cps_final.specs.Finals.{Finals, final_value, at_base, Named, label, setting, block, literal}
use Rattle.cps_final.specs.Code.FinalsPatch.{with_storage}
use Rattle.cps_final.specs.Code.Storage.{stored, PlacesStand}
use Rattle.cps_final.specs.declared.storage.Storage.{Storage}
use Rattle.cps_final.specs.contracts.finals.FinalsGathered.TheImpl.{gathered-value}
use Rattle.cps_final.specs.LineNames.{names_later, names_read}
use Rattle.cps_final.specs.Outcome.{blocks_named, labels_read}
use Rattle.cps_final.specs.NamedFinals.{NamedFinals, names_in, all_pass}
use Rattle.cps_final.specs.Naming.{all_named}
use Rattle.cps_final.proofs.NamesLemmas.{names-law}
use Rattle.cps_final.proofs.NamingLemmas.{flat-all}
use Rattle.cps_final.proofs.DecideLemmas.{option-decides, name-decides}
use Rattle.cps_final.specs.Agreeing.{same_value, same_at}
use Rattle.cps_final.proofs.AnswerLemmas.{value-decides}
use Rattle.cps_chunk.specs.declared.key_filter.KeyFilter.{KeyFilter}
use Rattle.cps_chunk.specs.KeyFilter.{AreMarked, has, mark_of, keys_named}
use Rattle.cps_chunk.proofs.AbsentLemmas.{each-named}
use Rattle.cps_final.specs.Code.Ends.{was_of, now_of}
use Rattle.cps_final.specs.declared.ends.Ends.{Ends}
use Rattle.cps_chunk.proofs.KeysLemmas.{all-keys}
use Rattle.cps_live.specs.Code.Differences.{passes_by, PlacesStandIn, IsListed}
use Rattle.cps_live.specs.Code.NamesRead.{has_all, has_name, HasReadBy}
use Rattle.cps_live.specs.declared.names_read.NamesRead.{NamesRead}
use Rattle.cps_live.proofs.NamesReadLemmas.{all-filter, all-once, weaker}

-- a label is among some
abbrev pub is-among : List Name → Name → Bool
is-among labels name = list_any (λ other. same_name other name) labels

-- ---- lists

all-true : {X : Type 0} (xs : List X) → list_all (λ x. true) xs ≡ true
all-true [] = refl
all-true (x ∷ xs) = all-true xs

each-passes : {X : Type 0} (p : X → Bool) (xs : List X) → All (λ x. p x ≡ true) xs → list_all p xs ≡ true
each-passes p [] all = refl
each-passes p (x ∷ xs) all = and_from (p x) (list_all p xs) (All-head (λ y. p y ≡ true) x xs all) (each-passes p xs (All-tail (λ y. p y ≡ true) x xs all))

or-right : (b : Bool) → (b || true) ≡ true
or-right true = refl
or-right false = refl

-- a test whose opposite is true
pub none-true : (b : Bool) → not b ≡ true → b ≡ false
none-true true is = cc
none-true false is = refl

-- ---- what lines name

-- a label that passes a test is none of those that don't
apart : (p : Name → Bool) (labels : List Name) → list_any p labels ≡ false → (name : Name) → p name ≡ true → is-among labels name ≡ false
apart p [] none name here = refl
apart p (other ∷ labels) none name here =
    let parts = or_parts (p other) (list_any p labels) none in
    or_from (same_name other name) (is-among labels name) (at parts.0 (same_name other name) refl) (apart p labels parts.1 name here)
  where
    at : p other ≡ false → (same : Bool) → same_name other name ≡ same → same ≡ false
    at gone false is = refl
    at gone true is =
        let wrong : true ≡ false = sym here ∙ sym (ap p ((name-decides other name).0 is)) ∙ gone in
        cc

module _ (hashing : Hashing) (m : KeyFilter) where
  abbrev pub label-has : Name → Bool
  label-has name = has m (mark_of hashing (key.Label name))

  pub none-among : (labels : List Name) → list_any label-has labels ≡ false → (ts : List Trace) → AreMarked hashing m (keys_named ts)
      → list_all (λ name. not (is-among labels name)) (names_in ts).labels ≡ true
  none-among labels none ts marked =
      each-passes (λ name. not (is-among labels name)) (names_in ts).labels
      (each-named hashing m (λ name. not (is-among labels name) ≡ true) (λ name here. ap not (apart label-has labels none name here)) ts marked)

-- a test of what is made of each
pub any-map : {X Y : Type 0} (p : Y → Bool) (f : X → Y) (xs : List X) → list_any p (map f xs) ≡ list_any (λ x. p (f x)) xs
any-map p f [] = refl
any-map p f (x ∷ xs) = ap (λ b. p (f x) || b) (any-map p f xs)

module _ (ends : Ends) where
  -- all passes but the labels that are listed
  pub labels-pass : (labels : List Name) (names : NamedFinals) → list_all (λ name. not (is-among labels name)) names.labels ≡ true → all_pass (passes_by ends (Some labels)) names ≡ true
  labels-pass labels names others =
      and_from (list_all (λ name. not (is-among labels name)) names.labels) _ others
      (and_from (list_all (λ (name : Option Name). true) names.blocks) _ (all-true names.blocks) (all-true names.literals))

  -- where none is read, all that lines name passes
  module _ (set : NamesRead) (labels : List Name) (none : list_any (has_name set) labels ≡ false) where
    abbrev test : Named → Bool
    test named = passes_by ends (Some labels) named

    item-known : (item : Item) → has_all set (flat_map content_names item.made.contents) ≡ true → all_named test item ≡ true
    item-known item all =
        let names : List Name = flat_map content_names item.made.contents in
        let others : Name → Bool = λ name. not (is-among labels name) in
        let pass = weaker (has_name set) others (λ name here. ap not (apart (has_name set) labels none name here)) names all in
        and_from (list_all others (labels_read item.made)) _ (all-filter others (λ name. not (list_any (λ held. same_name held.name name) item.made.held)) names pass)
        (and_from (list_all (λ (name : Option Name). true) (blocks_named item)) _ (all-true (blocks_named item)) (all-true (flat_map content_literals item.made.contents)))

    trace-known : (trace : Trace) → has_all set (names_read trace) ≡ true → list_all (all_named test) trace.items ≡ true
    trace-known trace all =
        let has : Name → Bool = has_name set in
        let each = all-once has same_name (λ a b. (name-decides a b).0) (trace.reads ++ names_later trace.items) all in
        let later = (and_parts (list_all has trace.reads) (list_all has (names_later trace.items)) (sym (list_all-append has trace.reads (names_later trace.items)) ∙ each)).1 in
        weaker (λ (item : Item). has_all set (flat_map content_names item.made.contents)) (all_named test) item-known trace.items
        (flat-all has (λ (item : Item). flat_map content_names item.made.contents) trace.items ∙ later)

    pub known : (ts : List Trace) → HasReadBy set ts → all_pass test (names_in ts) ≡ true
    known ts all =
        names-law test ts ∙ sym (flat-all (all_named test) (λ (t : Trace). t.items) ts)
        ∙ weaker (λ (t : Trace). has_all set (names_read t)) (λ (t : Trace). list_all (all_named test) t.items) trace-known ts all

  -- ---- the test says whether something has the same final value

  same : (named : Named) → was_of ends named ≡ now_of ends named → same_at (was_of ends) (now_of ends) named ≡ true
  same named is = (option-decides same_value value-decides (was_of ends named) (now_of ends named)).1 is

  -- places that stand, of which those before are kept apart
  pub places-in : (storage other : Storage) → ends.patch.now.storage ≡ Some storage → PlacesStand (stored storage) (stored other)
      → record (stored other) { state = (gathered-value.it ends.finals.now).state } ≡ gathered-value.it ends.finals.now → PlacesStandIn ends
  places-in storage other is stand same =
      let finals = gathered-value.it ends.finals.now in
      let before : (named : Named) → Option Storage → Option Value = λ named held. final_value (record (with_storage held finals) { state = changed (changes_in ends.patch.now.changes) finals.state }) named in
      record {
        blocks = λ name. ap (before (block name)) is ∙ stand.blocks name ∙ ap (λ (f : Finals). final_value f (block name)) same;
        literals = λ word. ap (before (literal word)) is ∙ stand.literals word ∙ ap (λ (f : Finals). final_value f (literal word)) same;
      }

  -- a label that isn't changed, where the blocks stand where they stood
  unchanged : PlacesStandIn ends → (name : Name) → changes_in ends.patch.now.changes (key.Label name) ≡ None → was_of ends (label name) ≡ now_of ends (label name)
  unchanged stand name none =
      let finals = gathered-value.it ends.finals.now in
      λ i. option_and_then (at_base (λ (b : Option Name). stand.blocks b i)) (value_of (unwrap_or (none i) (finals.state (key.Label name))))

  module _ (stand : PlacesStandIn ends) (labels : List Name) (listed : IsListed ends labels) where
    label-exact : (name : Name) → not (is-among labels name) ≡ same_at (was_of ends) (now_of ends) (label name)
    label-exact name = by_test (is-among labels name) refl
      where
        missed : is-among labels name ≡ false → (changed : Option (Option Answer)) → changes_in ends.patch.now.changes (key.Label name) ≡ changed → (same_now : Bool)
            → same_at (was_of ends) (now_of ends) (label name) ≡ same_now → true ≡ same_now
        missed out changed is true so = refl
        missed out None is false so =
            let wrong : true ≡ false = sym (same (label name) (unchanged stand name is)) ∙ so in
            cc
        missed out (Some answer) is false so =
            let wrong : true ≡ false = sym (listed.changed name (ap is_some is) so) ∙ out in
            cc

        by_test : (among : Bool) → is-among labels name ≡ among → not among ≡ same_at (was_of ends) (now_of ends) (label name)
        by_test true is = sym (listed.differ name is)
        by_test false is = missed is (changes_in ends.patch.now.changes (key.Label name)) refl (same_at (was_of ends) (now_of ends) (label name)) refl

    pub listed-exact : (named : Named) → passes_by ends (Some labels) named ≡ same_at (was_of ends) (now_of ends) named
    listed-exact (label name) = label-exact name
    listed-exact (setting name) = refl
    listed-exact (block name) = sym (same (block name) (stand.blocks name))
    listed-exact (literal word) = sym (same (literal word) (stand.literals word))

  -- ---- one changed key more

  -- of these keys, the labels that have other final values
  pub record AreListedOf (keys : List Key) (labels : List Name) : Type 0 where
    pub differ : (name : Name) → is-among labels name ≡ true → same_at (was_of ends) (now_of ends) (label name) ≡ false
    pub changed : (name : Name) → list_any (eq (key.Label name)) keys ≡ true → same_at (was_of ends) (now_of ends) (label name) ≡ false → is-among labels name ≡ true

  pub listed-none : (keys : List Key) → AreListedOf (take 0 keys) []
  listed-none keys = record { differ = λ name among. cc; changed = λ name among so. cc }

  module _ (keys : List Key) (i : ℕ) (k : Key) (got : slice_get keys i ≡ Some k) (labels : List Name) (before : AreListedOf (take i keys) labels) where
    more : (q : Key) → list_any (eq q) (take (i + 1) keys) ≡ (list_any (eq q) (take i keys) || eq q k)
    more q =
        list_any_more (eq q) keys i k (slice_get_within keys i k got)
        ∙ ap (λ (x : Key). list_any (eq q) (take i keys) || eq q x) (get_or_from_slice_get keys i k k got)

    or-false : (b : Bool) → (b || false) ≡ b
    or-false true = refl
    or-false false = refl

    -- the key of no label, or of one that has the same final value
    stays : ((name : Name) → k ≡ key.Label name → same_at (was_of ends) (now_of ends) (label name) ≡ true) → AreListedOf (take (i + 1) keys) labels
    stays none = record {
      differ = before.differ;
      changed = λ name among so.
          let here : eq (key.Label name) k ≡ false = at name so (eq (key.Label name) k) refl in
          before.changed name
          (sym (more (key.Label name) ∙ ap (λ b. list_any (eq (key.Label name)) (take i keys) || b) here ∙ or-false (list_any (eq (key.Label name)) (take i keys))) ∙ among) so;
    }
      where
        at : (name : Name) → same_at (was_of ends) (now_of ends) (label name) ≡ false → (test : Bool) → eq (key.Label name) k ≡ test → test ≡ false
        at name so false is = refl
        at name so true is =
            let wrong : true ≡ false = sym (none name (sym (same_key-true (key.Label name) k (sym (same_key_is (key.Label name) k) ∙ is)))) ∙ so in
            cc

    pub listed-other : ((name : Name) → k ≡ key.Label name → ⊥) → AreListedOf (take (i + 1) keys) labels
    listed-other none = stays (λ name is. absurd (none name is))

    pub listed-same : (name : Name) → k ≡ key.Label name → same_at (was_of ends) (now_of ends) (label name) ≡ true → AreListedOf (take (i + 1) keys) labels
    listed-same name is so = stays (λ other also. ap (λ n. same_at (was_of ends) (now_of ends) (label n)) (names other (sym also ∙ is)) ∙ so)
      where
        names : (other : Name) → key.Label other ≡ key.Label name → other ≡ name
        names other both = cc

    pub listed-label : (name : Name) → k ≡ key.Label name → same_at (was_of ends) (now_of ends) (label name) ≡ false → AreListedOf (take (i + 1) keys) (labels ++ name ∷ [])
    listed-label name is so = record {
      differ = λ n among. found n (is-among labels n) refl (sym (list_any-append (λ other. same_name other n) labels (name ∷ [])) ∙ among);
      changed = λ n among differs.
          list_any-append (λ other. same_name other n) labels (name ∷ [])
          ∙ either n differs (list_any (eq (key.Label n)) (take i keys)) refl (sym (ap (λ (x : Key). list_any (eq (key.Label n)) (take i keys) || eq (key.Label n) x) is) ∙ sym (more (key.Label n)) ∙ among);
    }
      where
        found : (n : Name) (old : Bool) → is-among labels n ≡ old → (old || (same_name name n || false)) ≡ true → same_at (was_of ends) (now_of ends) (label n) ≡ false
        found n true old all = before.differ n old
        found n false old all = ap (λ m. same_at (was_of ends) (now_of ends) (label m)) (sym ((name-decides name n).0 (sym (or-false (same_name name n)) ∙ all))) ∙ so

        either : (n : Name) → same_at (was_of ends) (now_of ends) (label n) ≡ false → (old : Bool) → list_any (eq (key.Label n)) (take i keys) ≡ old
            → (old || eq (key.Label n) (key.Label name)) ≡ true → (is-among labels n || (same_name name n || false)) ≡ true
        either n differs true old all = ap (λ b. b || (same_name name n || false)) (before.changed n old differs)
        either n differs false old all =
            let keys-same : key.Label n ≡ key.Label name = same_key-true (key.Label n) (key.Label name) (sym (same_key_is (key.Label n) (key.Label name)) ∙ all) in
            let both : name ≡ n = cc in
            ap (λ b. is-among labels n || (b || false)) ((name-decides name n).1 both) ∙ or-right (is-among labels n)

  pub listed-all : (i : ℕ) (labels : List Name) → count_of ends.patch.now.changes ≤ i → AreListedOf (take i (keys_in ends.patch.now.changes)) labels → IsListed ends labels
  listed-all i labels past all = record {
    differ = all.differ;
    changed = λ name there so.
        let changes = ends.patch.now.changes in
        let whole : take i (keys_in changes) ≡ keys_in changes = take_all i (keys_in changes) (all-keys changes i past) in
        all.changed name (ap (list_any (eq (key.Label name))) whole ∙ sym (has-key (eq (key.Label name)) changes.answers.entries) ∙ there) so;
  }
