-- What a run of lines names, each once.
use Rattle.std.proofs.Common.{◌≡◌, ℕ, refl, sym, ap, ◌∙◌, Bool, true, false, List, [], ◌∷◌, ◌++◌, length, take, ◌≤◌}
use Rattle.std.specs.Prelude.{filter, flat_map, not, nat_eq, ◌&&◌, if◌then◌else◌}
use Rattle.std.specs.Cmp.{IsEquivalence}
use Rattle.std.specs.List.{list_all, list_any}
use Rattle.std.specs.Option.{option_eq}
use Rattle.std.proofs.lemmas.Bool.{eqb-true}
use Rattle.std.proofs.lemmas.List.{take_all}
use Rattle.indexmap.specs.IndexSet.{insert_all}
use Rattle.cps_text.specs.declared.name.Name.{Name}
use Rattle.cps_expr.specs.Value.{same_name}
use Rattle.cps_code.specs.declared.hole.Hole.{Hole}
use Rattle.cps_code.specs.Operand.{operand_names}
use Rattle.cps_state.specs.declared.item.Item.{Item}
use Rattle.cps_state.specs.declared.made.Content.{Content}
use Rattle.cps_state.specs.declared.made.SetValue.{SetValue}
use Rattle.cps_state.specs.Course.{Trace}
use Rattle.cps_state.specs.Made.{Made, holes_of, content_names}
use Rattle.cps_final.specs.Distinct.{distinct}
use Rattle.cps_final.specs.Finals.{label, block, literal}
use Rattle.cps_final.specs.Outcome.{labels_read, blocks_named}
use Rattle.cps_final.specs.Pool.{literals_of}
use Rattle.cps_final.proofs.GatherLemmas.{distinct-append}
use Rattle.cps_final.proofs.NamingLemmas.{flat-all, flat-flat, and-four}
use Rattle.cps_final.proofs.DecideLemmas.{name-decides, option-decides}
use Rattle.cps_final.specs.NamedFinals.{statements_of, NamesLaw, labels_named, all_blocks_named, literals_named}
use Rattle.cps_final.specs.Code.NamesGathering.{label_of, hole_labels, contents_labels}

-- ---- a test of each once

module _ {T : Type 0} (eq : T → T → Bool) (is : (x y : T) → eq x y ≡ true → x ≡ y) (p : T → Bool) where
  -- where the test passes for the first, it does for those that equal it
  others-pass : (x : T) → p x ≡ true → (ys : List T) → list_all p (filter (λ y. not (eq x y)) ys) ≡ list_all p ys
  others-pass x passes [] = refl
  others-pass x passes (y ∷ ys) = at (eq x y) refl (others-pass x passes ys)
    where
      at : (same : Bool) → eq x y ≡ same → list_all p (filter (λ z. not (eq x z)) ys) ≡ list_all p ys
          → list_all p (if not same then y ∷ filter (λ z. not (eq x z)) ys else filter (λ z. not (eq x z)) ys) ≡ (p y && list_all p ys)
      at true same rest = rest ∙ sym (ap (λ b. b && list_all p ys) (sym (ap p (is x y same)) ∙ passes))
      at false same rest = ap (λ b. p y && b) rest

  once-all : (xs : List T) → list_all p (distinct eq xs) ≡ list_all p xs
  once-all [] = refl
  once-all (x ∷ xs) = at (p x) refl (once-all xs)
    where
      at : (passes : Bool) → p x ≡ passes → list_all p (distinct eq xs) ≡ list_all p xs
          → (passes && list_all p (filter (λ y. not (eq x y)) (distinct eq xs))) ≡ (passes && list_all p xs)
      at true passes rest = others-pass x passes (distinct eq xs) ∙ rest
      at false passes rest = refl

-- of a list that each of some things gives
once-each : {X T : Type 0} (eq : T → T → Bool) → ((x y : T) → eq x y ≡ true → x ≡ y) → (p : T → Bool) (f : X → List T) (xs : List X)
    → list_all p (distinct eq (flat_map f xs)) ≡ list_all (λ x. list_all p (f x)) xs
once-each eq is p f xs = once-all eq is p (flat_map f xs) ∙ sym (flat-all p f xs)

-- ---- three tests at once

all-three : {X : Type 0} (a b c : X → Bool) (xs : List X) → (list_all a xs && (list_all b xs && list_all c xs)) ≡ list_all (λ x. a x && (b x && c x)) xs
all-three a b c [] = refl
all-three a b c (x ∷ xs) =
    sym (ap (λ r. (a x && list_all a xs) && r) (and-four (b x) (c x) (list_all b xs) (list_all c xs)))
    ∙ sym (and-four (a x) (b x && c x) (list_all a xs) (list_all b xs && list_all c xs))
    ∙ ap (λ r. (a x && (b x && c x)) && r) (all-three a b c xs)

pub names-law : NamesLaw
names-law passes traces =
    let items = statements_of traces in
    let labels : list_all (λ name. passes (label name)) (labels_named items) ≡ list_all (λ item. list_all (λ name. passes (label name)) (labels_read item.made)) items =
    once-each same_name (λ a b. (name-decides a b).0) (λ name. passes (label name)) (λ (item : Item). labels_read item.made) items in
    let blocks : list_all (λ name. passes (block name)) (all_blocks_named items) ≡ list_all (λ item. list_all (λ name. passes (block name)) (blocks_named item)) items =
    once-each (option_eq same_name) (λ a b. (option-decides same_name name-decides a b).0) (λ name. passes (block name)) blocks_named items in
    let literals : list_all (λ word. passes (literal word)) (literals_named items) ≡ list_all (λ item. list_all (λ word. passes (literal word)) (literals_of item.made)) items =
    once-each nat_eq eqb-true (λ word. passes (literal word)) (λ (item : Item). literals_of item.made) items in
    (λ i. labels i && (blocks i && literals i))
    ∙ all-three (λ (item : Item). list_all (λ name. passes (label name)) (labels_read item.made)) (λ (item : Item). list_all (λ name. passes (block name)) (blocks_named item))
    (λ (item : Item). list_all (λ word. passes (literal word)) (literals_of item.made)) items

-- ---- what is found

-- the symbols that stand for their labels
labels-free : (held : List SetValue) (names : List Name) → flat_map (label_of held) names ≡ filter (λ name. not (list_any (λ set. same_name set.name name) held)) names
labels-free held [] = refl
labels-free held (name ∷ names) = at (list_any (λ set. same_name set.name name) held) (labels-free held names)
  where
    at : (is_held : Bool) → flat_map (label_of held) names ≡ filter (λ other. not (list_any (λ set. same_name set.name other) held)) names
        → ((if is_held then [] else name ∷ []) ++ flat_map (label_of held) names)
        ≡ (if not is_held then name ∷ filter (λ other. not (list_any (λ set. same_name set.name other) held)) names else filter (λ other. not (list_any (λ set. same_name set.name other) held)) names)
    at true rest = rest
    at false rest = ap (λ l. name ∷ l) rest

-- those of a statement, by its contents
pub labels-made : (made : Made) (held : List SetValue) (contents : List Content) → held ≡ made.held → contents ≡ made.contents
    → contents_labels held contents ≡ labels_read made
labels-made made held contents are_held are_contents =
    let free : Name → List Name = label_of made.held in
    let names : Hole → List Name = λ hole. operand_names hole.operand in
    (λ i. contents_labels (are_held i) (are_contents i))
    ∙ flat-flat (hole_labels made.held) holes_of made.contents
    ∙ flat-flat free names (flat_map holes_of made.contents)
    ∙ ap (flat_map free) (sym (flat-flat names holes_of made.contents))
    ∙ labels-free made.held (flat_map content_names made.contents)

-- what each line gave, inserted one after another into none, where all of them were gone through
pub once-made : {T : Type 0} (eq : T → T → Bool) → IsEquivalence eq → (f : Item → List T) (traces : List Trace) (i : ℕ) (found : List T) → length traces ≤ i
    → found ≡ insert_all eq [] (flat_map (λ trace. flat_map f trace.items) (take i traces)) → found ≡ distinct eq (flat_map f (statements_of traces))
once-made eq laws f traces i found past inserted =
    inserted ∙ ap (λ (ts : List Trace). insert_all eq [] (flat_map (λ (trace : Trace). flat_map f trace.items) ts)) (take_all i traces past)
    ∙ ap (insert_all eq []) (flat-flat f (λ (trace : Trace). trace.items) traces) ∙ sym (distinct-append eq laws [] (flat_map f (statements_of traces)))
