-- Operations by the first letter of their names.
use Rattle.std.proofs.Common.{◌≡◌, ℕ, ◌<◌, length, get_or, Bool, true, false, cond, eqb, ◌&&◌, List, [], ◌∷◌, None, Some, refl, sym, ap, ◌∙◌, arith}
use Rattle.std.specs.Prelude.{option_map, slice_index}
use Rattle.std.specs.List.{find, list_all}
use Rattle.std.proofs.lemmas.Bool.Decides.{nat_tests}
use Rattle.cps_text.specs.Text.{capital}
use Rattle.cps_expr.specs.declared.operation.Operation.{Operation}
use Rattle.cps_expr.specs.Operation.{Table, operations, beginning_with, operation_named, named_in}
use Rattle.cps_expr.specs.Same.{is_same}

-- a name begins with no lower-case letter
abbrev begins_capital : List ℕ × Operation → Bool
begins_capital entry = eqb (capital (slice_index entry.0 0)) (slice_index entry.0 0)

both_true : (a b : Bool) → (a && b) ≡ true → (a ≡ true) × (b ≡ true)
both_true true b is = (refl, is)
both_true false b is = cc

module _ (character : ℕ) (text : List ℕ) where
  abbrev fits : List ℕ × Operation → Bool
  fits entry = is_same (character ∷ text) entry.0

  another : (a b c : ℕ) → eqb b c ≡ true → eqb c a ≡ false → eqb a b ≡ false
  another a b c same other = grind (arith, nat_tests)

  no_name : (name : List ℕ) (operation : Operation) → begins_capital (name, operation) ≡ true → eqb (slice_index name 0) (capital character) ≡ false → fits (name, operation) ≡ false
  no_name [] operation capitals other = refl
  no_name (letter ∷ name) operation capitals other = rw (another (capital character) (capital letter) letter capitals other) refl

  kept : (entry : List ℕ × Operation) (table : Table) (b : Bool) → b ≡ eqb (slice_index entry.0 0) (capital character) → begins_capital entry ≡ true
      → find fits (cond b (entry ∷ table) table) ≡ find fits (entry ∷ table)
  kept entry table true is capitals = refl
  kept entry table false is capitals = rw (no_name entry.0 entry.1 capitals (sym is)) refl

  by_letter : (table : Table) → list_all begins_capital table ≡ true → find fits (beginning_with (capital character) table) ≡ find fits table
  by_letter [] capitals = refl
  by_letter (entry ∷ table) capitals =
      let these = both_true (begins_capital entry) (list_all begins_capital table) capitals in
      kept entry (beginning_with (capital character) table) (eqb (slice_index entry.0 0) (capital character)) refl these.0
      ∙ ap (λ found. cond (fits entry) (Some entry) found) (by_letter table these.1)

all_capital : list_all begins_capital operations ≡ true
unfolding operations
all_capital = refl

pub named_by_letter : (text : List ℕ) → 0 < length text → named_in (beginning_with (capital (get_or text 0 0)) operations) text ≡ operation_named text
named_by_letter [] some = absurd (omega arith)
named_by_letter (character ∷ text) some = ap (option_map (λ entry. entry.1)) (by_letter character text operations all_capital)

pub no_empty_name : (text : List ℕ) → length text ≡ 0 → operation_named text ≡ None
unfolding operations
no_empty_name [] none = refl
no_empty_name (character ∷ text) none = absurd (omega arith)
