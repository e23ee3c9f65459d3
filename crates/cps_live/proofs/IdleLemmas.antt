-- A move after which all lines stand as they stood disturbs none.
use Rattle.std.proofs.Common.{◌≡◌, ℕ, suc, ◌+◌, refl, sym, ap, subst, ◌∙◌, true, List, [], ◌∷◌, length, Option}
use Rattle.std.specs.Prelude.{All, ◌||◌, not, if◌then◌else◌, flat_map}
use Rattle.std.proofs.lemmas.List.Elements.{All-nil, All-cons}
use Rattle.cps_text.specs.declared.name.Name.{Name}
use Rattle.cps_state.specs.declared.item.Item.{Item}
use Rattle.cps_state.specs.Course.{Trace}
use Rattle.cps_state.specs.Keys.{State, first_state}
use Rattle.cps_state.specs.Made.{content_literals}
use Rattle.cps_final.specs.Finals.{block, label, literal}
use Rattle.cps_final.specs.Outcome.{Resolved, AgreeOnItem, blocks_named, labels_read}
use Rattle.cps_edit.specs.declared.exchange.Exchange.{Exchange}
use Rattle.cps_edit.specs.Exchange.{IsWithin, exchanged, is_idle}
use Rattle.cps_edit.proofs.ListLemmas.{idle-same}
use Rattle.cps_pass.specs.Expansion.{trace_of}
use Rattle.cps_final.specs.Agreeing.{same_named}
use Rattle.cps_final.proofs.AgreeLemmas.{named-decides}
use Rattle.cps_edit.specs.Passes.{after, traces_from}
use Rattle.cps_edit.specs.Disturbed.{all_kept, disturbed_from, finals_in, kept, ones_of_exchange, redone_places, twos_of_exchange}
use Rattle.cps_edit.proofs.SpliceLemmas.{none-disturbed, undisturbed}

-- ---- a line names what has the same final values

all-of : {X : Type 0} (P : X → Type 0) → ((x : X) → P x) → (xs : List X) → All P xs
all-of P each [] = All-nil P
all-of P each (x ∷ xs) = All-cons P x xs (each x) (all-of P each xs)

item-itself : (was : Resolved) (item : Item) → AgreeOnItem was was item
item-itself was item = record {
  labels = all-of (λ (name : Name). was (label name) ≡ was (label name)) (λ name. refl) (labels_read item.made);
  blocks = all-of (λ (name : Option Name). was (block name) ≡ was (block name)) (λ name. refl) (blocks_named item);
  literals = all-of (λ (word : ℕ). was (literal word) ≡ was (literal word)) (λ word. refl) (flat_map content_literals item.made.contents);
}

same-itself : (was : Resolved) (trace : Trace) → same_named was was trace.items ≡ true
same-itself was trace = (named-decides was was trace).1 (all-of (λ (item : Item). AgreeOnItem was was item) (item-itself was) trace.items)

-- ---- lines where they stood

none-redone : (was : Resolved) (f : State) (ls : List (List ℕ)) → redone_places was was f (kept ls (traces_from f ls)) ≡ 0
none-redone was f [] = refl
none-redone was f (l ∷ ls) =
    λ i. (if undisturbed l f i || not (same-itself was (trace_of l f) i) then 1 else 0) + none-redone was (after f l) ls i

kept-long : (f : State) (ls : List (List ℕ)) → length (kept ls (traces_from f ls)) ≡ length ls
kept-long f [] = refl
kept-long f (l ∷ ls) = ap suc (kept-long (after f l) ls)

-- ---- a move

module _ (lines : List (List ℕ)) (e : Exchange) (idle : is_idle e ≡ true) (within : IsWithin (length lines) e) where
  stays : exchanged e (all_kept lines) ≡ all_kept lines
  stays = idle-same (all_kept lines) e idle (subst (λ n. IsWithin n e) (sym (kept-long first_state lines)) within)

  pub idle-ones : ones_of_exchange lines e ≡ 0
  idle-ones = ap (disturbed_from first_state) stays ∙ none-disturbed first_state lines

  pub idle-twos : twos_of_exchange lines e ≡ 0
  idle-twos =
      (λ i. redone_places (finals_in lines) (finals_in (idle-same lines e idle within i)) first_state (stays i))
      ∙ none-redone (finals_in lines) first_state lines
