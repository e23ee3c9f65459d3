-- Rows of registers and an expression.
use Rattle.std.proofs.lemmas.List.{drop_more}
use Rattle.std.proofs.Common.{◌+◌, drop, get_or, sym, ap, ◌≡◌, ◌<◌, length, arith, ℕ, true, false, List, [], ◌∷◌, Option, None, Some, refl, ◌∙◌}
use Rattle.std.specs.Option.{option_or}
use Prim.Native.Char.{code}
use Rattle.std.specs.Prelude.{map, is_some, option_map, option_and_then}
use Rattle.cps_expr.specs.declared.radix.Radix.{Radix}
use Rattle.cps_text.specs.Operands.{operands_of}
use Rattle.cps_code.specs.declared.digits.Digits.{Digits}
use Rattle.cps_code.specs.declared.operation.FieldForm.{FieldForm}
use Rattle.cps_code.specs.declared.operation.FieldForm.TheVariants as field
use Rattle.cps_code.specs.Form.{Form}
use Rattle.cps_code.specs.RowForms.{Found, turned, registers_in, found_behind, found_in_fields, operands_in, form_in_row, form_in, form_of_rows}
use Rattle.cps_code.specs.Sum.{Summed}
use Rattle.cps_code.specs.Code.FoundForms.{no_sum, with_none_left, registers_alone, constant_in}
use Rattle.cps_code.specs.Code.Operations.{row_of_fields}
use Rattle.cps_code.specs.declared.fields.ReadFields as kept
use Rattle.cps_code.specs.declared.hole.Operand.{Operand}
use Rattle.cps_expr.specs.declared.machine.Machine.TheVariants.{Cp}
use Rattle.cps_expr.specs.OperandList.{only_one}
use Rattle.cps_code.specs.Operand.{operand_of}

module _ (radix : Radix) (digits : Digits) (texts : List (List ℕ)) where
  row-sum : (row : FieldForm) (sum : Option Summed) → form_in_row radix digits (row_of_fields row) (record { texts = texts; sum = sum }) ≡ form_in_row radix digits (row_of_fields row) (no_sum texts)
  row-sum (field.Short registers code) sum = refl
  row-sum (field.Constant registers code) sum = refl
  row-sum (field.Forcing registers code) sum = refl
  row-sum (field.Count code) sum = refl

  rows-sum : (rows : List FieldForm) (sum : Option Summed) → form_in radix digits (map row_of_fields rows) (record { texts = texts; sum = sum }) ≡ form_in radix digits (map row_of_fields rows) (no_sum texts)
  rows-sum [] sum = refl
  rows-sum (row ∷ rows) sum = λ i. option_or (row-sum row sum i) (rows-sum rows sum i)

twice : (o : Option Form) → option_or o o ≡ o
twice None = refl
twice (Some form) = refl

-- a sum changes nothing
pub without_sum : (radix : Radix) (digits : Digits) (rows : List FieldForm) (tail : List ℕ)
    → form_of_rows radix digits (map row_of_fields rows) (operands_in radix tail) ≡ form_in radix digits (map row_of_fields rows) (no_sum (operands_of tail))
without_sum radix digits rows tail =
    (λ i. option_or (rows-sum radix digits (operands_of tail) rows (operands_in radix tail).sum i) (rows-sum radix digits (operands_of tail) rows (turned (operands_in radix tail)).sum i))
    ∙ twice (form_in radix digits (map row_of_fields rows) (no_sum (operands_of tail)))

pub none_read : {T : Type 0} (o : Option T) → is_some o ≡ false → o ≡ None
none_read None is = refl
none_read (Some x) is = cc

pub registers_in-end : (registers : List (List ℕ)) (digits : Digits) → 0 < length registers → registers_in registers [] digits ≡ None
registers_in-end [] digits some = absurd (omega arith)
registers_in-end (letters ∷ registers) digits some = refl

-- ---- K after registers

abbrev found : kept.ReadFields → Found
found k = record { digits = k.digits; operand = Some k.operand }

abbrev behind : Digits → Operand → kept.ReadFields
behind digits operand = record { digits = digits; operand = operand }

mapped-found : (digits : Digits) (operand : Option Operand) → option_map (λ o. found (behind digits o)) operand ≡ option_map found (option_map (behind digits) operand)
mapped-found digits None = refl
mapped-found digits (Some operand) = refl

mapped-left : (read : List (List ℕ) → Option Operand) (left : Option (Digits × List (List ℕ)))
    → option_and_then (λ l. option_map (λ o. found (behind l.0 o)) (read l.1)) left ≡ option_map found (option_and_then (λ l. option_map (behind l.0) (read l.1)) left)
mapped-left read None = refl
mapped-left read (Some left) = mapped-found left.0 (read left.1)

pub constant_found : (radix : Radix) (registers texts : List (List ℕ)) (digits : Digits)
    → found_in_fields radix (record { registers = registers; hole = Some (code "K") }) texts digits ≡ option_map found (constant_in radix registers texts digits)
constant_found radix registers texts digits = mapped-left (only_one (operand_of Cp radix)) (registers_in registers texts digits)

-- ---- registers alone

abbrev bare : Digits → Found
bare digits = record { digits = digits; operand = None }

none-behind : (radix : Radix) (left : Option (Digits × List (List ℕ))) → option_and_then (found_behind radix None) left ≡ option_map bare (option_and_then with_none_left left)
none-behind radix None = refl
none-behind radix (Some (digits, [])) = refl
none-behind radix (Some (digits, text ∷ texts)) = refl

pub alone_found : (radix : Radix) (registers texts : List (List ℕ)) (digits : Digits)
    → found_in_fields radix (record { registers = registers; hole = None }) texts digits ≡ option_map bare (registers_alone registers texts digits)
alone_found radix registers texts digits = none-behind radix (registers_in registers texts digits)

-- ---- the first row that fits

some_first : (first rest : Option Form) → is_some first ≡ true → is_some (option_or first rest) ≡ true
some_first None rest is = cc
some_first (Some form) rest is = refl

none_first : (first rest : Option Form) → is_some first ≡ false → option_or first rest ≡ rest
none_first None rest is = refl
none_first (Some form) rest is = cc

module _ (radix : Radix) (digits : Digits) (texts : List (List ℕ)) (rows : List FieldForm) (at : ℕ) (none : FieldForm) where
  abbrev left : ℕ → Option Form
  left from = form_in radix digits (map row_of_fields (drop from rows)) (no_sum texts)

  abbrev here : Option Form
  here = form_in_row radix digits (row_of_fields (get_or rows at none)) (no_sum texts)

  next : at < length rows → left at ≡ option_or here (left (at + 1))
  next more = ap (λ rows. form_in radix digits (map row_of_fields rows) (no_sum texts)) (drop_more rows at none more)

  pub row_found : (whole : Option Form) → at < length rows → left at ≡ whole → is_some here ≡ true → is_some whole ≡ true
  row_found whole more is found = ap is_some (sym is ∙ next more) ∙ some_first here (left (at + 1)) found

  pub row_missed : (whole : Option Form) → at < length rows → left at ≡ whole → is_some here ≡ false → left (at + 1) ≡ whole
  row_missed whole more is none = sym (next more ∙ none_first here (left (at + 1)) none) ∙ is
