-- Where blocks and literals stand, by the blocks with their words and by the pool.
use Rattle.std.proofs.Common.{◌≡◌, ℕ, ◌+◌, false, not, List, length, Option, None, Some, refl, sym, ◌∙◌}
use Rattle.std.specs.Prelude.{nat_eq, ◌==◌, pos, position, option_map, option_and_then}
use Rattle.std.specs.Cmp.Lexicographic.{pointwise, bytes_decides}
use Rattle.std.proofs.lemmas.Bool.{not-false}
use Rattle.cps_text.specs.declared.name.Name.{Name}
use Rattle.cps_expr.specs.declared.value.Value.{Value}
use Rattle.cps_expr.specs.Value.{same_name, plain, limited}
use Rattle.cps_final.specs.Layout.{Layout}
use Rattle.cps_final.specs.Finals.{Finals, words_of_first, final_value, block}
use Rattle.cps_final.specs.Code.Storage.{AreSameNamed, PlacesStand}

-- the address of a named block, of those in a list
block_among : Layout → List ℕ → Name → List Name → Option Value
block_among layout pool name names = option_and_then (λ base. limited (plain (pos base)))
    (option_map (λ index. layout.size None + length pool + words_of_first index layout) (position (same_name name) names))

-- the address of a literal, of those in a list
literal_among : ℕ → ℕ → List ℕ → Option Value
literal_among nominal word words = option_and_then (λ index. limited (plain (pos (nominal + index)))) (position (nat_eq word) words)

same_layout : (a b : Layout) → AreSameNamed a b → a.size None ≡ b.size None → a ≡ b
same_layout a b same nominal = let named = same.named in λ i. record { named = named i; size = λ name. sizes name i }
  where
    sizes : (name : Option Name) → a.size name ≡ b.size name
    sizes None = nominal
    sizes (Some name) = same.size name

-- what a comparison of two slices finds
pub same_pool : (a b xs ys : List ℕ) → xs ≡ a → ys ≡ b → false ≡ not (pointwise ◌==◌ xs ys) → a ≡ b
same_pool a b xs ys left right same = sym left ∙ (bytes_decides xs ys).0 (not-false (pointwise ◌==◌ xs ys) (sym same)) ∙ right

module _ (was now : Finals) where
  -- the same blocks with as many words, and the same pool
  all-blocks : was.layout ≡ now.layout → was.pool ≡ now.pool → (name : Option Name) → final_value was (block name) ≡ final_value now (block name)
  unfolding block_among
  all-blocks layout pool None = refl
  all-blocks layout pool (Some name) = λ i. block_among (layout i) (pool i) name (layout i).named

  pub all-stand : AreSameNamed was.layout now.layout → was.layout.size None ≡ now.layout.size None → was.pool ≡ now.pool → PlacesStand was now
  unfolding literal_among
  all-stand same nominal pool = record {
    blocks = all-blocks (same_layout was.layout now.layout same nominal) pool;
    literals = λ word i. literal_among (nominal i) word (pool i);
  }
