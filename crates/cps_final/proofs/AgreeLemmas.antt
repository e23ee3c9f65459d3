-- Final values that agree on what a line names.
use Rattle.std.proofs.Common.{◌≡◌, ℕ, refl, Bool, true, List, [], ◌∷◌, Option}
use Rattle.std.specs.Prelude.{All, ◌&&◌, flat_map}
use Rattle.std.specs.List.{list_all}
use Rattle.std.specs.Bool.{Decides}
use Rattle.std.proofs.lemmas.Bool.{and_parts, and_from}
use Rattle.std.proofs.lemmas.List.Elements.{All-nil, All-cons, All-head, All-tail}
use Rattle.cps_text.specs.declared.name.Name.{Name}
use Rattle.cps_state.specs.Course.{Trace}
use Rattle.cps_state.specs.declared.item.Item.{Item}
use Rattle.cps_state.specs.Made.{content_literals}
use Rattle.cps_final.specs.Finals.{Named, label, block, literal}
use Rattle.cps_final.specs.Outcome.{Resolved, outcome_of, blocks_named, labels_read, AgreeOnItem, AgreeOnNamed}
use Rattle.cps_final.proofs.AloneLemmas.{outcome-alone}
use Rattle.cps_final.specs.Naming.{all_named}
use Rattle.cps_final.proofs.DecideLemmas.{option-decides}
use Rattle.cps_final.specs.Agreeing.{same_value, same_at, same_named}
use Rattle.cps_final.proofs.AnswerLemmas.{value-decides}

-- ---- the test decides

at-decides : (was now : Resolved) (named : Named) → Decides (same_at was now named) (was named ≡ now named)
at-decides was now named = option-decides same_value value-decides (was named) (now named)

all-is : {X : Type 0} (P : X → Type 0) (p : X → Bool) → ((x : X) → Decides (p x) (P x)) → (xs : List X) → list_all p xs ≡ true → All P xs
all-is P p each [] h = All-nil P
all-is P p each (x ∷ xs) h = let both = and_parts (p x) (list_all p xs) h in All-cons P x xs ((each x).0 both.0) (all-is P p each xs both.1)

all-from : {X : Type 0} (P : X → Type 0) (p : X → Bool) → ((x : X) → Decides (p x) (P x)) → (xs : List X) → All P xs → list_all p xs ≡ true
all-from P p each [] h = refl
all-from P p each (x ∷ xs) h = and_from (p x) (list_all p xs) ((each x).1 (All-head P x xs h)) (all-from P p each xs (All-tail P x xs h))

all-decides : {X : Type 0} (P : X → Type 0) (p : X → Bool) → ((x : X) → Decides (p x) (P x)) → (xs : List X) → Decides (list_all p xs) (All P xs)
all-decides P p each xs = (all-is P p each xs, all-from P p each xs)

module _ (was now : Resolved) where
  labels-decide : (names : List Name) → Decides (list_all (λ name. same_at was now (label name)) names) (All (λ name. was (label name) ≡ now (label name)) names)
  labels-decide names = all-decides (λ (name : Name). was (label name) ≡ now (label name)) (λ name. same_at was now (label name)) (λ name. at-decides was now (label name)) names

  blocks-decide : (names : List (Option Name)) → Decides (list_all (λ name. same_at was now (block name)) names) (All (λ name. was (block name) ≡ now (block name)) names)
  blocks-decide names = all-decides (λ (name : Option Name). was (block name) ≡ now (block name)) (λ name. same_at was now (block name)) (λ name. at-decides was now (block name)) names

  words-decide : (words : List ℕ) → Decides (list_all (λ word. same_at was now (literal word)) words) (All (λ word. was (literal word) ≡ now (literal word)) words)
  words-decide words = all-decides (λ (word : ℕ). was (literal word) ≡ now (literal word)) (λ word. same_at was now (literal word)) (λ word. at-decides was now (literal word)) words

  item-decides : (item : Item) → Decides (all_named (same_at was now) item) (AgreeOnItem was now item)
  item-decides item =
      let labels = list_all (λ name. same_at was now (label name)) (labels_read item.made) in
      let blocks = list_all (λ name. same_at was now (block name)) (blocks_named item) in
      let words = list_all (λ word. same_at was now (literal word)) (flat_map content_literals item.made.contents) in (
        λ h.
            let one = and_parts labels (blocks && words) h in
            let two = and_parts blocks words one.1 in
            record {
              labels = (labels-decide (labels_read item.made)).0 one.0;
              blocks = (blocks-decide (blocks_named item)).0 two.0;
              literals = (words-decide (flat_map content_literals item.made.contents)).0 two.1;
            },
        λ h.
            and_from labels (blocks && words) ((labels-decide (labels_read item.made)).1 h.labels)
            (and_from blocks words ((blocks-decide (blocks_named item)).1 h.blocks) ((words-decide (flat_map content_literals item.made.contents)).1 h.literals)),
      )

  pub named-decides : (trace : Trace) → Decides (same_named was now trace.items) (AgreeOnNamed was now trace)
  named-decides trace = all-decides (λ (item : Item). AgreeOnItem was now item) (λ item. all_named (same_at was now) item) item-decides trace.items

  pub named-alone : (trace : Trace) → same_named was now trace.items ≡ true → outcome_of was trace ≡ outcome_of now trace
  named-alone trace h = outcome-alone was now trace ((named-decides trace).0 h)
