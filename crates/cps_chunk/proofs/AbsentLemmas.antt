-- A key without its mark is none of those that were marked.
use Rattle.std.proofs.Common.{◌≡◌, refl, sym, ap, subst, ◌∙◌, Bool, true, false, List, [], ◌∷◌, ◌++◌, Some, None}
use Rattle.std.specs.Prelude.{map, flat_map, filter, not, All, if◌then◌else◌}
use Rattle.std.specs.Option.{option_or}
use Rattle.std.specs.List.{list_all, list_any}
use Rattle.std.proofs.lemmas.Bool.{and_parts, and_from, or_from}
use Rattle.std.proofs.lemmas.List.{map-append}
use Rattle.std.proofs.lemmas.List.Elements.{All-nil, All-cons}
use Rattle.std.proofs.lemmas.List.Folds.{list_all-append, list_all-map}
use Rattle.cps_text.specs.declared.name.Name.{Name}
use Rattle.cps_expr.specs.Value.{same_name}
use Rattle.cps_state.specs.declared.hashing.Hashing.{Hashing}
use Rattle.cps_state.specs.declared.item.Item.{Item}
use Rattle.cps_state.specs.declared.key.Key.{Key}
use Rattle.cps_state.specs.declared.key.Key.TheVariants as key
use Rattle.cps_state.specs.declared.key.Asked.{Asked}
use Rattle.cps_state.specs.declared.key.Put.{Put}
use Rattle.cps_state.specs.Course.{Trace, last_put, Holds}
use Rattle.cps_state.specs.Keys.{State, same_key}
use Rattle.cps_state.specs.Made.{content_names}
use Rattle.cps_state.proofs.KnownLemmas.{same_key-true}
use Rattle.cps_final.specs.Distinct.{distinct}
use Rattle.cps_final.specs.Layout.{puts_of}
use Rattle.cps_final.specs.LineNames.{later_names}
use Rattle.cps_final.specs.Outcome.{labels_read}
use Rattle.cps_final.specs.NamedFinals.{statements_of, names_in}
use Rattle.cps_final.proofs.NamingLemmas.{flat-all, flat-flat}
use Rattle.cps_chunk.specs.declared.key_filter.KeyFilter.{KeyFilter}
use Rattle.cps_chunk.specs.Code.Sought.{is_asked}
use Rattle.cps_chunk.specs.KeyFilter.{mark_of, has, AreMarked, asks_at, names_at, keys_put, keys_asked, keys_named}

-- ---- lists

map-flat : {X Y Z : Type 0} (g : Y → Z) (f : X → List Y) (xs : List X) → map g (flat_map f xs) ≡ flat_map (λ x. map g (f x)) xs
map-flat g f [] = refl
map-flat g f (x ∷ xs) = map-append g (f x) (flat_map f xs) ∙ ap (λ zs. map g (f x) ++ zs) (map-flat g f xs)

weaker : {X : Type 0} (p q : X → Bool) → ((x : X) → p x ≡ true → q x ≡ true) → (xs : List X) → list_all p xs ≡ true → list_all q xs ≡ true
weaker p q next [] all = refl
weaker p q next (x ∷ xs) all =
    let parts = and_parts (p x) (list_all p xs) all in
    and_from (q x) (list_all q xs) (next x parts.0) (weaker p q next xs parts.1)

filter-all : {X : Type 0} (p q : X → Bool) (xs : List X) → list_all p xs ≡ true → list_all p (filter q xs) ≡ true
filter-all p q [] all = refl
filter-all p q (x ∷ xs) all =
    let parts = and_parts (p x) (list_all p xs) all in
    at parts.0 (filter-all p q xs parts.1) (q x)
  where
    at : p x ≡ true → list_all p (filter q xs) ≡ true → (stays : Bool) → list_all p (if stays then x ∷ filter q xs else filter q xs) ≡ true
    at first rest true = and_from (p x) (list_all p (filter q xs)) first rest
    at first rest false = rest

distinct-all : {X : Type 0} (p : X → Bool) (eq : X → X → Bool) (xs : List X) → list_all p xs ≡ true → list_all p (distinct eq xs) ≡ true
distinct-all p eq [] all = refl
distinct-all p eq (x ∷ xs) all =
    let parts = and_parts (p x) (list_all p xs) all in
    and_from (p x) _ parts.0 (filter-all p (λ y. not (eq x y)) (distinct eq xs) (distinct-all p eq xs parts.1))

all-each : {X : Type 0} (p : X → Bool) (P : X → Type 0) → ((x : X) → p x ≡ true → P x) → (xs : List X) → list_all p xs ≡ true → All P xs
all-each p P each [] all = All-nil P
all-each p P each (x ∷ xs) all =
    let parts = and_parts (p x) (list_all p xs) all in
    All-cons P x xs (each x parts.0) (all-each p P each xs parts.1)

-- ---- a key without its mark

module _ (hashing : Hashing) (m : KeyFilter) (k : Key) (absent : has m (mark_of hashing k) ≡ false) where
  -- it is no key that was marked
  pub other-key : (q : Key) → has m (mark_of hashing q) ≡ true → same_key q k ≡ false
  other-key q marked = at (same_key q k) refl
    where
      at : (same : Bool) → same_key q k ≡ same → same ≡ false
      at false is = refl
      at true is =
          let no : true ≡ false = sym marked ∙ ap (λ r. has m (mark_of hashing r)) (same_key-true q k is) ∙ absent in
          cc

  none-put : (puts : List Put) → AreMarked hashing m (map (λ p. p.key) puts) → last_put puts k ≡ None
  none-put [] all = refl
  none-put (p ∷ puts) all =
      let parts = and_parts (has m (mark_of hashing p.key)) (list_all (λ q. has m (mark_of hashing q)) (map (λ (q : Put). q.key) puts)) all in
      let here : same_key p.key k ≡ false = other-key p.key parts.0 in
      (λ i. option_or (none-put puts parts.1 i) (if here i then Some p.answer else None))

  -- it is not put
  pub not-put : (traces : List Trace) → AreMarked hashing m (keys_put traces) → last_put (puts_of traces) k ≡ None
  not-put traces all = none-put (puts_of traces) (subst (AreMarked hashing m) (sym (map-flat (λ (p : Put). p.key) (λ (t : Trace). t.puts) traces)) all)

  -- it is not asked
  pub not-asked-by : (t : Trace) → AreMarked hashing m (asks_at t) → All (λ a. same_key a.key k ≡ false) t.asks
  not-asked-by t all =
      all-each (λ (a : Asked). has m (mark_of hashing a.key)) (λ (a : Asked). same_key a.key k ≡ false) (λ a marked. other-key a.key marked) t.asks
      (sym (list_all-map (λ q. has m (mark_of hashing q)) (λ (a : Asked). a.key) t.asks) ∙ all)

  pub not-asked : (traces : List Trace) → AreMarked hashing m (keys_asked traces) → All (λ t. All (λ a. same_key a.key k ≡ false) t.asks) traces
  not-asked traces all =
      all-each (λ t. list_all (λ q. has m (mark_of hashing q)) (asks_at t)) (λ (t : Trace). All (λ (a : Asked). same_key a.key k ≡ false) t.asks) not-asked-by traces
      (flat-all (λ q. has m (mark_of hashing q)) asks_at traces ∙ all)

  none-of-asks : (asks : List Asked) → AreMarked hashing m (map (λ a. a.key) asks) → list_any (λ (a : Asked). same_key a.key k) asks ≡ false
  none-of-asks [] all = refl
  none-of-asks (a ∷ asks) all =
      let parts = and_parts (has m (mark_of hashing a.key)) (list_all (λ q. has m (mark_of hashing q)) (map (λ (b : Asked). b.key) asks)) all in
      or_from (same_key a.key k) (list_any (λ (b : Asked). same_key b.key k) asks) (other-key a.key parts.0) (none-of-asks asks parts.1)

  pub not-among-asks : (traces : List Trace) → AreMarked hashing m (keys_asked traces) → is_asked traces k ≡ false
  not-among-asks [] all = refl
  not-among-asks (t ∷ traces) all =
      let whole = sym (list_all-append (λ q. has m (mark_of hashing q)) (asks_at t) (keys_asked traces)) ∙ all in
      let parts = and_parts (list_all (λ q. has m (mark_of hashing q)) (asks_at t)) (list_all (λ q. has m (mark_of hashing q)) (keys_asked traces)) whole in
      or_from (list_any (λ (a : Asked). same_key a.key k) t.asks) (is_asked traces k) (none-of-asks t.asks parts.0) (not-among-asks traces parts.1)

-- ---- labels

-- the labels that statements read are among the names of their contents
labels-within : (p : Name → Bool) (items : List Item) → list_all p (flat_map (λ item. flat_map content_names item.made.contents) items) ≡ true
    → list_all p (flat_map (λ item. labels_read item.made) items) ≡ true
labels-within p items all =
    sym (flat-all p (λ (item : Item). labels_read item.made) items)
    ∙ weaker (λ (item : Item). list_all p (flat_map content_names item.made.contents)) (λ (item : Item). list_all p (labels_read item.made))
    (λ item within. filter-all p (λ n. not (list_any (λ held. same_name held.name n) item.made.held)) (flat_map content_names item.made.contents) within) items
    (flat-all p (λ (item : Item). flat_map content_names item.made.contents) items ∙ all)

module _ (hashing : Hashing) (m : KeyFilter) where
  -- whether a label has its mark
  abbrev label-has : Name → Bool
  label-has n = has m (mark_of hashing (key.Label n))

  labels-marked : (traces : List Trace) → AreMarked hashing m (keys_named traces) → list_all label-has (names_in traces).labels ≡ true
  labels-marked traces all =
      let read : Item → List Name = λ item. labels_read item.made in
      let lines : list_all (λ (t : Trace). list_all label-has (flat_map read t.items)) traces ≡ true =
      weaker (λ t. list_all (λ q. has m (mark_of hashing q)) (names_at t)) (λ (t : Trace). list_all label-has (flat_map read t.items))
      (λ t marked. labels-within label-has t.items (sym (list_all-map (λ q. has m (mark_of hashing q)) key.Label (later_names t)) ∙ marked)) traces
      (flat-all (λ q. has m (mark_of hashing q)) names_at traces ∙ all) in
      let statements : list_all label-has (flat_map read (statements_of traces)) ≡ true =
      sym (ap (list_all label-has) (flat-flat read (λ (t : Trace). t.items) traces)) ∙ sym (flat-all label-has (λ (t : Trace). flat_map read t.items) traces) ∙ lines in
      distinct-all label-has same_name (flat_map read (statements_of traces)) statements

  -- what holds of each label that has its mark holds of all that lines name
  pub each-named : (P : Name → Type 0) → ((n : Name) → has m (mark_of hashing (key.Label n)) ≡ true → P n) → (traces : List Trace) → AreMarked hashing m (keys_named traces)
      → All P (names_in traces).labels
  each-named P each traces all = all-each label-has P each (names_in traces).labels (labels-marked traces all)

  -- a label whose key has no mark is none of them
  pub not-named : (name : Name) → has m (mark_of hashing (key.Label name)) ≡ false → (traces : List Trace) → AreMarked hashing m (keys_named traces)
      → All (λ n. same_name n name ≡ false) (names_in traces).labels
  not-named name absent = each-named (λ n. same_name n name ≡ false) (λ n marked. other-key hashing m (key.Label name) absent (key.Label n) marked)

  -- what was asked has the same answers in two states that agree at each key that has a mark
  pub asks-hold : (f g : State) → ((k : Key) → has m (mark_of hashing k) ≡ true → f k ≡ g k) → (asks : List Asked) → AreMarked hashing m (map (λ asked. asked.key) asks)
      → Holds asks f → Holds asks g
  asks-hold f g same [] all holds = tt
  asks-hold f g same (a ∷ asks) all holds =
      let parts = and_parts (has m (mark_of hashing a.key)) (list_all (λ q. has m (mark_of hashing q)) (map (λ (b : Asked). b.key) asks)) all in
      (sym (same a.key parts.0) ∙ holds.0, asks-hold f g same asks parts.1 holds.1)
