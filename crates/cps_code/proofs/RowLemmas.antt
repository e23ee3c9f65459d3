-- Rows by the first letter of their operations.
use Rattle.std.proofs.Common.{◌≡◌, ℕ, ◌<◌, Bool, true, false, cond, eqb, List, [], ◌∷◌, Option, None, Some, refl, sym, ap, subst, ◌∙◌, ◌&&◌, arith}
use Rattle.std.proofs.lemmas.Bool.Decides.{nat_tests}
use Rattle.std.specs.Prelude.{bytes_eq, option_map, slice_index, is_some, nat_lt, IfSome}
use Rattle.std.specs.List.{list_all}
use Rattle.cps_text.specs.Text.{capital, capitals}
use Rattle.cps_code.specs.declared.layout.Layout.{Layout}
use Rattle.cps_code.specs.PeripheralTable.{Row, named, pp_table}
use Rattle.cps_code.specs.Code.PeripheralRows.{beginning_with, layout_and_number}

pub none_read : {T : Type 0} (o : Option T) → is_some o ≡ false → o ≡ None
none_read None is = refl
none_read (Some x) is = cc

left_true : (a b : Bool) → (a && b) ≡ true → a ≡ true
left_true true b h = refl
left_true false b h = cc

right_true : (a b : Bool) → (a && b) ≡ true → b ≡ true
right_true true b h = h
right_true false b h = cc

no_name : (operation : List ℕ) (first : ℕ) (text : List ℕ) → eqb (slice_index operation 0) first ≡ false → bytes_eq operation (first ∷ text) ≡ false
no_name [] first text other = refl
no_name (letter ∷ operation) first text other = rw other refl

module _ (character : ℕ) (text : List ℕ) where
  kept : (row : Row) (rows : List Row) (b : Bool) → b ≡ eqb (slice_index row.operation 0) (capital character)
      → named (cond b (row ∷ rows) rows) (character ∷ text) ≡ cond (bytes_eq row.operation (capital character ∷ capitals text)) (Some row) (named rows (character ∷ text))
  kept row rows true is = refl
  kept row rows false is =
      sym (ap (λ b. cond b (Some row) (named rows (character ∷ text))) (no_name row.operation (capital character) (capitals text) (sym is)))

  by_letter : (rows : List Row) → named (beginning_with (capital character) rows) (character ∷ text) ≡ named rows (character ∷ text)
  by_letter [] = refl
  by_letter (row ∷ rows) =
      kept row (beginning_with (capital character) rows) (eqb (slice_index row.operation 0) (capital character)) refl
      ∙ ap (λ found. cond (bytes_eq row.operation (capital character ∷ capitals text)) (Some row) found) (by_letter rows)

pub named_by_letter : (character : ℕ) (text : List ℕ) → named (beginning_with (capital character) pp_table) (character ∷ text) ≡ named pp_table (character ∷ text)
named_by_letter character text = by_letter character text pp_table

pub no_empty_name : named pp_table [] ≡ None
unfolding pp_table
no_empty_name = refl

-- ---- numbers

abbrev is_small : Row → Bool
is_small row = nat_lt row.number 64

small-named : (rows : List Row) (name : List ℕ) → list_all is_small rows ≡ true → IfSome (named rows name) (λ row. row.number < 64)
small-named [] name small = tt
small-named (row ∷ rows) name small = chosen (bytes_eq row.operation (capitals name)) (left_true (is_small row) (list_all is_small rows) small)
    (small-named rows name (right_true (is_small row) (list_all is_small rows) small))
  where
    chosen : (b : Bool) → is_small row ≡ true → IfSome (named rows name) (λ row. row.number < 64) → IfSome (cond b (Some row) (named rows name)) (λ row. row.number < 64)
    chosen true here later = grind (arith, nat_tests)
    chosen false here later = later

all_small : list_all is_small pp_table ≡ true
unfolding pp_table
all_small = refl

mapped : (found : Option Row) → IfSome found (λ row. row.number < 64) → IfSome (option_map layout_and_number found) (λ f. f.1 < 64)
mapped None small = tt
mapped (Some row) small = small

pub small_numbers : (name : List ℕ) (found : Option (Layout × ℕ)) → option_map layout_and_number (named pp_table name) ≡ found → IfSome found (λ f. f.1 < 64)
small_numbers name found is =
    let P : Option (Layout × ℕ) → Type 0 = λ f. IfSome f (λ f. f.1 < 64) in
    subst P is (mapped (named pp_table name) (small-named pp_table name all_small))
