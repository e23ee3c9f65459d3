-- Expressions, and the texts that write them: signed terms, of which the first may have no sign.
-- The rule is the grammar of `Grammar.antt`; what stands here computes the same. From the manual's section on expressions.
use Rattle.std.specs.Prelude.{ℕ, Bool, ◌==◌, List, [], ◌∷◌, flat_map, drop, slice_index, codes, Option, None, if◌then◌else◌}
use Rattle.std.specs.List.{list_any}
use Rattle.cps_text.specs.declared.name.Name.{Name}
use Rattle.cps_text.specs.Text.{among}
use Rattle.cps_expr.specs.declared.radix.Radix.{Radix}
use Rattle.cps_expr.specs.OperandList.{all_some}
use Rattle.cps_expr.specs.Term.{Term, term_of, term_names, term_has_counter}

abbrev pub Expression : Type 0
Expression = List Term

-- the names that stand in it, in their order
abbrev pub names_of : Expression → List Name
names_of terms = flat_map term_names terms

abbrev pub has_counter : Expression → Bool
has_counter terms = list_any term_has_counter terms

-- ---- a text cut into its signed terms

abbrev pub plus : ℕ
plus = slice_index (codes "+") 0

abbrev pub minus : ℕ
minus = slice_index (codes "-") 0

abbrev pub is_sign : ℕ → Bool
is_sign = among (codes "+-")

-- the first of some texts with a character before it
abbrev pub onto_first : ℕ → List (List ℕ) → List (List ℕ)
onto_first character [] = (character ∷ []) ∷ []
onto_first character (text ∷ texts) = (character ∷ text) ∷ texts

-- a text cut before each of its signs; first comes what stands before the first sign, if only as nothing
abbrev pub cut_at_signs : List ℕ → List (List ℕ)
cut_at_signs [] = [] ∷ []
cut_at_signs (character ∷ text) =
    if is_sign character then [] ∷ onto_first character (cut_at_signs text) else onto_first character (cut_at_signs text)

-- an expression whose first term has no sign is that with `+` before it
abbrev pub with_first_sign : List ℕ → List ℕ
with_first_sign [] = codes "+"
with_first_sign (character ∷ text) = if is_sign character then character ∷ text else plus ∷ character ∷ text

-- the terms as they are written, each with its sign
abbrev pub signed_texts : List ℕ → List (List ℕ)
signed_texts text = drop 1 (cut_at_signs (with_first_sign text))

-- ---- the terms

-- whether a sign is `-`
abbrev pub is_minus : ℕ → Bool
is_minus sign = sign == minus

abbrev pub signed_term : Radix → List ℕ → Option Term
signed_term radix [] = None
signed_term radix (sign ∷ text) = term_of radix (is_minus sign) text

abbrev pub terms_of : Radix → List (List ℕ) → Option Expression
terms_of radix texts = all_some (signed_term radix) texts

-- the terms that a text writes; it doesn't unfold in the proofs of those who only read operands
unfoldable pub expression_of : Radix → List ℕ → Option Expression
expression_of radix text = terms_of radix (signed_texts text)
