-- Symbols that lines read, and tests that all items of a list pass.
use Rattle.std.proofs.Common.{◌≡◌, ℕ, suc, refl, sym, ap, ◌∙◌, Bool, true, false, not, ◌&&◌, ◌||◌, List, [], ◌∷◌, ◌++◌, take, drop, Some}
use Rattle.std.specs.Prelude.{nat_eq, filter, unwrap_or, if◌then◌else◌}
use Rattle.std.specs.List.{list_all, list_any}
use Rattle.std.proofs.lemmas.Bool.{and_from, and_parts}
use Rattle.std.proofs.lemmas.List.{take-append-drop}
use Rattle.std.proofs.lemmas.List.Folds.{list_all-append, list_all-map, list_any-append}
use Rattle.cps_text.specs.declared.name.Name.{Name}
use Rattle.cps_expr.specs.Value.{same_name}
use Rattle.cps_state.specs.Course.{Trace}
use Rattle.cps_edit.specs.declared.exchange.Exchange.{Exchange}
use Rattle.cps_edit.specs.Exchange.{exchanged}
use Rattle.cps_final.specs.Distinct.{distinct}
use Rattle.cps_final.specs.Outcome.{Outcome, Resolved, outcome_of}
use Rattle.cps_final.proofs.DecideLemmas.{name-decides}
use Rattle.cps_edit.specs.Passes.{outcomes_by}
use Rattle.cps_chunk.specs.declared.sparse.SparseItem.{SparseItem}
use Rattle.cps_chunk.specs.Sparse.{item_at, renewed}
use Rattle.cps_chunk.specs.Code.Walk.{stretch}
use Rattle.indexmap.specs.IndexSet.{insert_key}
use Rattle.cps_live.specs.Code.Editing.{put_between}
use Rattle.cps_live.specs.Code.NamesRead.{has_all, has_name, HasRead, HasReadBy, StillHas, items_of}
use Rattle.cps_live.specs.declared.names_read.NamesRead.{NamesRead}

-- ---- lists of which all items pass

pub weaker : {X : Type 0} (p q : X → Bool) → ((x : X) → p x ≡ true → q x ≡ true) → (xs : List X) → list_all p xs ≡ true → list_all q xs ≡ true
weaker p q next [] all = refl
weaker p q next (x ∷ xs) all =
    let parts = and_parts (p x) (list_all p xs) all in
    and_from (q x) (list_all q xs) (next x parts.0) (weaker p q next xs parts.1)

module _ {X : Type 0} (p : X → Bool) where
  pub all-filter : (q : X → Bool) (xs : List X) → list_all p xs ≡ true → list_all p (filter q xs) ≡ true
  all-filter q [] all = refl
  all-filter q (x ∷ xs) all =
      let parts = and_parts (p x) (list_all p xs) all in
      at parts.0 (all-filter q xs parts.1) (q x)
    where
      at : p x ≡ true → list_all p (filter q xs) ≡ true → (stays : Bool) → list_all p (if stays then x ∷ filter q xs else filter q xs) ≡ true
      at first rest true = and_from (p x) (list_all p (filter q xs)) first rest
      at first rest false = rest

  pub all-joined : (xs ys : List X) → list_all p xs ≡ true → list_all p ys ≡ true → list_all p (xs ++ ys) ≡ true
  all-joined xs ys front back = list_all-append p xs ys ∙ and_from (list_all p xs) (list_all p ys) front back

  all-parts : (n : ℕ) (xs : List X) → list_all p xs ≡ true → (list_all p (take n xs) ≡ true) × (list_all p (drop n xs) ≡ true)
  all-parts n xs all = and_parts (list_all p (take n xs)) (list_all p (drop n xs)) (sym (list_all-append p (take n xs) (drop n xs)) ∙ ap (list_all p) (take-append-drop n xs) ∙ all)

  pub all-stretch : (a b : ℕ) (xs : List X) → list_all p xs ≡ true → list_all p (stretch a b xs) ≡ true
  all-stretch a b xs all = (all-parts a (take b xs) (all-parts b xs all).0).1

  -- items in the place of others
  pub all-put : (keep from : ℕ) (es xs : List X) → list_all p es ≡ true → list_all p xs ≡ true → list_all p (put_between keep from es xs) ≡ true
  all-put keep from es xs news all = all-joined (take keep xs) (es ++ drop from xs) (all-parts keep xs all).0 (all-joined es (drop from xs) news (all-parts from xs all).1)

  pub all-exchanged : (e : Exchange) (xs : List X) → list_all p xs ≡ true → list_all p (exchanged e xs) ≡ true
  all-exchanged e xs all =
      let second = drop e.mid (take e.from xs) in
      let first = drop e.keep (take e.mid xs) in
      all-joined (take e.keep xs) (second ++ (first ++ drop e.from xs)) (all-parts e.keep xs all).0
      (all-joined second (first ++ drop e.from xs) (all-stretch e.mid e.from xs all)
      (all-joined first (drop e.from xs) (all-stretch e.keep e.mid xs all) (all-parts e.from xs all).1))

  item-passes : (i : ℕ) (news : List (SparseItem X)) (x : X) → list_all p (items_of news) ≡ true → p x ≡ true → p (unwrap_or (item_at news i) x) ≡ true
  item-passes i [] x all here = here
  item-passes i (new ∷ news) x all here =
      let parts = and_parts (p new.item) (list_all p (items_of news)) all in
      at parts.0 (item-passes i news x parts.1 here) (nat_eq new.at i)
    where
      at : p new.item ≡ true → p (unwrap_or (item_at news i) x) ≡ true → (same : Bool) → p (unwrap_or (if same then Some new.item else item_at news i) x) ≡ true
      at first rest true = first
      at first rest false = rest

  pub all-renewed : (i : ℕ) (news : List (SparseItem X)) (xs : List X) → list_all p (items_of news) ≡ true → list_all p xs ≡ true → list_all p (renewed i news xs) ≡ true
  all-renewed i news [] items all = refl
  all-renewed i news (x ∷ xs) items all =
      let parts = and_parts (p x) (list_all p xs) all in
      and_from (p (unwrap_or (item_at news i) x)) (list_all p (renewed (suc i) news xs)) (item-passes i news x items parts.0) (all-renewed (suc i) news xs items parts.1)

  -- where each of them once passes, so do all
  module _ (eq : X → X → Bool) (is : (x y : X) → eq x y ≡ true → x ≡ y) where
    others : (x : X) → p x ≡ true → (ys : List X) → list_all p (filter (λ y. not (eq x y)) ys) ≡ true → list_all p ys ≡ true
    others x here [] all = refl
    others x here (y ∷ ys) all = at (eq x y) refl (others x here ys) all
      where
        at : (same : Bool) → eq x y ≡ same → (list_all p (filter (λ z. not (eq x z)) ys) ≡ true → list_all p ys ≡ true)
            → list_all p (if not same then y ∷ filter (λ z. not (eq x z)) ys else filter (λ z. not (eq x z)) ys) ≡ true → (p y && list_all p ys) ≡ true
        at true same rest left = and_from (p y) (list_all p ys) (sym (ap p (is x y same)) ∙ here) (rest left)
        at false same rest left =
            let parts = and_parts (p y) (list_all p (filter (λ z. not (eq x z)) ys)) left in
            and_from (p y) (list_all p ys) parts.0 (rest parts.1)

    pub all-once : (xs : List X) → list_all p (distinct eq xs) ≡ true → list_all p xs ≡ true
    all-once [] all = refl
    all-once (x ∷ xs) all =
        let parts = and_parts (p x) (list_all p (filter (λ y. not (eq x y)) (distinct eq xs))) all in
        and_from (p x) (list_all p xs) parts.0 (all-once xs (others x parts.0 (distinct eq xs) parts.1))

-- ---- what lines read

-- one symbol more
module _ (old new : NamesRead) (name : Name) (inserted : new.names.keys ≡ insert_key same_name old.names.keys name) where
  abbrev keys : List Name
  keys = old.names.keys

  pub still-inserted : StillHas old new
  still-inserted other there = ap (list_any (same_name other)) inserted ∙ at (list_any (same_name name) keys)
    where
      at : (has : Bool) → list_any (same_name other) (if has then keys else keys ++ name ∷ []) ≡ true
      at true = there
      at false = list_any-append (same_name other) keys (name ∷ []) ∙ ap (λ b. b || (same_name other name || false)) there

  pub has-inserted : has_name new name ≡ true
  has-inserted = ap (list_any (same_name name)) inserted ∙ at (list_any (same_name name) keys) refl
    where
      last : (b : Bool) → (b || (same_name name name || false)) ≡ true
      last true = refl
      last false = ap (λ b. b || false) ((name-decides name name).1 refl)

      at : (has : Bool) → list_any (same_name name) keys ≡ has → list_any (same_name name) (if has then keys else keys ++ name ∷ []) ≡ true
      at true is = is
      at false is = list_any-append (same_name name) keys (name ∷ []) ∙ last (list_any (same_name name) keys)

-- where no symbol has gone
pub all-still : (old new : NamesRead) → StillHas old new → (names : List Name) → has_all old names ≡ true → has_all new names ≡ true
all-still old new still names all = weaker (has_name old) (has_name new) still names all

pub read-still : (old new : NamesRead) → StillHas old new → (outcomes : List Outcome) → HasRead old outcomes → HasRead new outcomes
read-still old new still outcomes all =
    weaker (λ (o : Outcome). has_all old o.read) (λ (o : Outcome). has_all new o.read) (λ o here. all-still old new still o.read here) outcomes all

pub still-unchanged : (old new : NamesRead) → new.names.keys ≡ old.names.keys → StillHas old new
still-unchanged old new same name there = ap (list_any (same_name name)) same ∙ there

-- what pass two makes of lines has what they read
pub read-by : (set : NamesRead) (finals : Resolved) (traces : List Trace) (outcomes : List Outcome) → outcomes ≡ outcomes_by finals traces → HasRead set outcomes → HasReadBy set traces
read-by set finals traces outcomes is all =
    sym (list_all-map (λ (o : Outcome). has_all set o.read) (outcome_of finals) traces) ∙ ap (list_all (λ (o : Outcome). has_all set o.read)) (sym is) ∙ all
