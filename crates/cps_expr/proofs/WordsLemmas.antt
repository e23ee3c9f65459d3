-- Reading the words of data items.
use Rattle.std.proofs.Common.{◌≡◌, ℕ, zero, suc, ◌<◌, ◌≤◌, List, [], ◌∷◌, ◌++◌, length, drop, Option, None, Some, option_map, refl, sym, ap, ◌∙◌, append_assoc, arith, length-drop}
use Rattle.std.specs.Prelude.{is_some, option_and_then}
use Rattle.cps_expr.specs.declared.machine.Machine.{Machine}
use Rattle.cps_expr.specs.declared.radix.Radix.{Radix}
use Rattle.cps_expr.specs.Item.{item_of}
use Rattle.cps_expr.specs.Code.ReadSoFar.{Continues, IsAdded}
use Rattle.cps_expr.specs.Row.{words_behind, words_up_to}

pub added_word : (kept after : Option (List ℕ)) (word : ℕ) (left whole : Option (List ℕ))
    → Continues kept (option_map (λ words. word ∷ words) left) whole → IsAdded kept word after → Continues after left whole
added_word (Some kept) (Some after) word None whole so_far added = so_far
added_word (Some kept) (Some after) word (Some more) whole so_far added =
    ap (λ front. Some (front ++ more)) added ∙ ap Some (append_assoc kept (word ∷ []) more) ∙ so_far
added_word (Some kept) None word None whole so_far added = ap is_some so_far
added_word (Some kept) None word (Some more) whole so_far added = ap is_some so_far
added_word None (Some after) word left whole so_far added = absurd added
added_word None None word None whole so_far added = so_far
added_word None None word (Some more) whole so_far added = so_far

pub no_word : (radix : Radix) (machine : Machine) (more : ℕ) (text : List ℕ) → None ≡ item_of radix machine text → words_up_to radix machine more text ≡ None
unfolding words_up_to
no_word radix machine zero text is = refl
no_word radix machine (suc more) text is =
    ap (option_and_then (λ item. option_map (λ words. item.0 ∷ words) (words_behind (words_up_to radix machine more) (drop item.1 text)))) (sym is)

-- one item fewer is left behind the first
pub first_word : (radix : Radix) (machine : Machine) (more : ℕ) (text behind : List ℕ) (word extent : ℕ) → Some (word, extent) ≡ item_of radix machine text
    → length text ≤ more → 0 < extent → extent ≤ length text → behind ≡ drop extent text
    → (fewer : ℕ) × (length behind ≤ fewer)
    × (words_up_to radix machine more text ≡ option_map (λ words. word ∷ words) (words_behind (words_up_to radix machine fewer) behind))
unfolding words_up_to
first_word radix machine zero text behind word extent is fits some within rest = absurd (omega arith)
first_word radix machine (suc more) text behind word extent is fits some within rest = (
  more,
  (let left = ap length rest ∙ length-drop extent text in omega (arith, left)),
  ap (option_and_then (λ item. option_map (λ words. item.0 ∷ words) (words_behind (words_up_to radix machine more) (drop item.1 text)))) (sym is)
      ∙ ap (λ left. option_map (λ words. word ∷ words) (words_behind (words_up_to radix machine more) left)) (sym rest),
)

pub shorter_behind : (text behind : List ℕ) (extent : ℕ) → 0 < extent → extent ≤ length text → behind ≡ drop extent text → length behind < length text
shorter_behind text behind extent some within rest = let left = ap length rest ∙ length-drop extent text in omega (arith, left)
