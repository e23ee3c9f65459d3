-- An octal text, row after row.
use Rattle.std.proofs.Common.{◌≡◌, ℕ, ◌+◌, ◌%◌, ◌<◌, Bool, true, false, cond, List, [], ◌∷◌, ◌++◌, Option, None, Some, refl, sym, ap, ◌∙◌, arith, append_assoc, append-nil}
use Rattle.std.specs.List.{count_by, AllByRecursion}
use Rattle.std.specs.Option.{option_or}
use Rattle.std.proofs.lemmas.List.Sums.{fold-append, sum_by-cons}
use Rattle.std.proofs.lemmas.Nat.{mod_below}
use Rattle.cps_claims.specs.declared.layout.WordForm.{WordForm}
use Rattle.cps_claims.specs.declared.layout.WordForm.TheVariants.{Central, Peripheral}
use Rattle.cps_claims.specs.declared.layout.OctalLayout.{OctalLayout}
use Rattle.cps_claims.specs.declared.reading.OctalReading.{OctalReading}
use Rattle.cps_claims.specs.declared.reading.RowKinds.{RowKinds}
use Rattle.cps_claims.specs.declared.reading.OctalReader.{OctalReader}
use Rattle.cps_claims.specs.Words.{size_of}
use Rattle.cps_claims.specs.Columns.{columns_read}
use Rattle.cps_claims.specs.Parts.{parts_of}
use Rattle.cps_claims.specs.Rows.{Row, read, blank, other, unread, row_among, first_address, rows_from}
use Rattle.cps_claims.specs.Claims.{Claimed, digits_from, claims_from}
use Rattle.cps_claims.specs.Reading.{is_read, is_blank_row, is_other, is_unread, unread_from, first_other_from, IsReading}
use Rattle.cps_claims.specs.Code.Held.{Holds}
use Rattle.cps_claims.specs.Code.Slots.{WordState, with_claim, after}
use Rattle.cps_claims.specs.Code.States.{ReadingState, KindsState, at_first, no_kinds, state_of, kinds_of, with_kind, with_kinds, with_row, with_rows, found_by}

-- what a reader finds in a row is what the row is
found-same : (layout : OctalLayout) (old : OctalReader) (row : List ℕ) (rows : List (List ℕ)) → old.layout ≡ layout → found_by old row rows
    ≡ row_among layout old.stand old.digits.items (parts_of (columns_read layout.columns row)) (first_address layout rows)
found-same layout old row rows same =
    ap (λ (l : OctalLayout). row_among l old.stand old.digits.items (parts_of (columns_read l.columns row)) (first_address l rows)) same

-- behind the last row
pub at-end : (layout : OctalLayout) (reader : OctalReader) (rows : List (List ℕ)) → rows ≡ []
    → state_of reader.reading ≡ with_rows layout.form (reader.number + 1) (state_of reader.reading) (rows_from layout reader.stand reader.digits.items rows)
at-end layout reader rows none = ap (λ l. with_rows layout.form (reader.number + 1) (state_of reader.reading) (rows_from layout reader.stand reader.digits.items l)) (sym none)

-- ---- all rows

after-append : (states : ℕ → WordState) (claims more : List Claimed) → after states (claims ++ more) ≡ after (after states claims) more
after-append states claims more = fold-append with_claim states claims more

all_words : (form : WordForm) (number : ℕ) (state : ReadingState) (rows : List Row)
    → (with_rows form number state rows).words ≡ after state.words (claims_from (size_of form) number rows)
all_words form number state [] = refl
all_words form number state (read claim ∷ rows) =
    all_words form (number + 1) (with_row form number state (read claim)) rows
    ∙ sym (after-append state.words (digits_from (size_of form) number claim.address claim.place claim.digits) (claims_from (size_of form) (number + 1) rows))
all_words form number state (blank ∷ rows) = all_words form (number + 1) (with_row form number state blank) rows
all_words form number state (other ∷ rows) = all_words form (number + 1) (with_row form number state other) rows
all_words form number state (unread reason ∷ rows) = all_words form (number + 1) (with_row form number state (unread reason)) rows

one-more : (test : Row → Bool) (row : Row) (rows : List Row) (old later : ℕ) → test row ≡ true → later ≡ old + 1 + count_by test rows
    → later ≡ old + count_by test (row ∷ rows)
one-more test row rows old later is h =
    let e : count_by test (row ∷ rows) ≡ 1 + count_by test rows =
    sum_by-cons (λ x. cond (test x) 1 0) row rows ∙ ap (λ b. cond b 1 0 + count_by test rows) is in
    omega (arith, e, h)

none-more : (test : Row → Bool) (row : Row) (rows : List Row) (old later : ℕ) → test row ≡ false → later ≡ old + count_by test rows
    → later ≡ old + count_by test (row ∷ rows)
none-more test row rows old later is h =
    let e : count_by test (row ∷ rows) ≡ 0 + count_by test rows =
    sum_by-cons (λ x. cond (test x) 1 0) row rows ∙ ap (λ b. cond b 1 0 + count_by test rows) is in
    omega (arith, e, h)

all_read : (number : ℕ) (kinds : KindsState) (rows : List Row) → (with_kinds number kinds rows).counts.read ≡ kinds.counts.read + count_by is_read rows
all_read number kinds [] = omega arith
all_read number kinds (read claim ∷ rows) =
    one-more is_read (read claim) rows kinds.counts.read _ refl (all_read (number + 1) (with_kind number kinds (read claim)) rows)
all_read number kinds (blank ∷ rows) =
    none-more is_read blank rows kinds.counts.read _ refl (all_read (number + 1) (with_kind number kinds blank) rows)
all_read number kinds (other ∷ rows) =
    none-more is_read other rows kinds.counts.read _ refl (all_read (number + 1) (with_kind number kinds other) rows)
all_read number kinds (unread reason ∷ rows) =
    none-more is_read (unread reason) rows kinds.counts.read _ refl (all_read (number + 1) (with_kind number kinds (unread reason)) rows)

all_blank : (number : ℕ) (kinds : KindsState) (rows : List Row) → (with_kinds number kinds rows).counts.blank ≡ kinds.counts.blank + count_by is_blank_row rows
all_blank number kinds [] = omega arith
all_blank number kinds (read claim ∷ rows) =
    none-more is_blank_row (read claim) rows kinds.counts.blank _ refl (all_blank (number + 1) (with_kind number kinds (read claim)) rows)
all_blank number kinds (blank ∷ rows) =
    one-more is_blank_row blank rows kinds.counts.blank _ refl (all_blank (number + 1) (with_kind number kinds blank) rows)
all_blank number kinds (other ∷ rows) =
    none-more is_blank_row other rows kinds.counts.blank _ refl (all_blank (number + 1) (with_kind number kinds other) rows)
all_blank number kinds (unread reason ∷ rows) =
    none-more is_blank_row (unread reason) rows kinds.counts.blank _ refl (all_blank (number + 1) (with_kind number kinds (unread reason)) rows)

all_other : (number : ℕ) (kinds : KindsState) (rows : List Row) → (with_kinds number kinds rows).counts.other ≡ kinds.counts.other + count_by is_other rows
all_other number kinds [] = omega arith
all_other number kinds (read claim ∷ rows) =
    none-more is_other (read claim) rows kinds.counts.other _ refl (all_other (number + 1) (with_kind number kinds (read claim)) rows)
all_other number kinds (blank ∷ rows) =
    none-more is_other blank rows kinds.counts.other _ refl (all_other (number + 1) (with_kind number kinds blank) rows)
all_other number kinds (other ∷ rows) =
    one-more is_other other rows kinds.counts.other _ refl (all_other (number + 1) (with_kind number kinds other) rows)
all_other number kinds (unread reason ∷ rows) =
    none-more is_other (unread reason) rows kinds.counts.other _ refl (all_other (number + 1) (with_kind number kinds (unread reason)) rows)

all_unread : (number : ℕ) (kinds : KindsState) (rows : List Row) → (with_kinds number kinds rows).counts.unread ≡ kinds.counts.unread + count_by is_unread rows
all_unread number kinds [] = omega arith
all_unread number kinds (read claim ∷ rows) =
    none-more is_unread (read claim) rows kinds.counts.unread _ refl (all_unread (number + 1) (with_kind number kinds (read claim)) rows)
all_unread number kinds (blank ∷ rows) =
    none-more is_unread blank rows kinds.counts.unread _ refl (all_unread (number + 1) (with_kind number kinds blank) rows)
all_unread number kinds (other ∷ rows) =
    none-more is_unread other rows kinds.counts.unread _ refl (all_unread (number + 1) (with_kind number kinds other) rows)
all_unread number kinds (unread reason ∷ rows) =
    one-more is_unread (unread reason) rows kinds.counts.unread _ refl (all_unread (number + 1) (with_kind number kinds (unread reason)) rows)

all_rows : (number : ℕ) (kinds : KindsState) (rows : List Row) → (with_kinds number kinds rows).unread_rows ≡ kinds.unread_rows ++ unread_from number rows
all_rows number kinds [] = sym (append-nil kinds.unread_rows)
all_rows number kinds (read claim ∷ rows) = all_rows (number + 1) (with_kind number kinds (read claim)) rows
all_rows number kinds (blank ∷ rows) = all_rows (number + 1) (with_kind number kinds blank) rows
all_rows number kinds (other ∷ rows) = all_rows (number + 1) (with_kind number kinds other) rows
all_rows number kinds (unread reason ∷ rows) =
    all_rows (number + 1) (with_kind number kinds (unread reason)) rows
    ∙ append_assoc kinds.unread_rows (record { number = number; reason = reason } ∷ []) (unread_from (number + 1) rows)

or-none : (first : Option ℕ) → first ≡ option_or first None
or-none None = refl
or-none (Some first) = refl

or-more : (first : Option ℕ) (number : ℕ) (later : Option ℕ) → option_or (option_or first (Some number)) later ≡ option_or first (Some number)
or-more None number later = refl
or-more (Some first) number later = refl

all_first : (number : ℕ) (kinds : KindsState) (rows : List Row) → (with_kinds number kinds rows).first_other ≡ option_or kinds.first_other (first_other_from number rows)
all_first number kinds [] = or-none kinds.first_other
all_first number kinds (read claim ∷ rows) = all_first (number + 1) (with_kind number kinds (read claim)) rows
all_first number kinds (blank ∷ rows) = all_first (number + 1) (with_kind number kinds blank) rows
all_first number kinds (other ∷ rows) =
    all_first (number + 1) (with_kind number kinds other) rows ∙ or-more kinds.first_other number (first_other_from (number + 1) rows)
all_first number kinds (unread reason ∷ rows) = all_first (number + 1) (with_kind number kinds (unread reason)) rows

-- ---- places

some_size : (form : WordForm) → (0 < size_of form) × (size_of form < 21)
some_size Central = (omega arith, omega arith)
some_size Peripheral = (omega arith, omega arith)

place-below : (form : WordForm) (at : ℕ) → at % size_of form < 20
place-below form at = let size = some_size form in let below = mod_below at (size_of form) size.0 in omega (arith, below, size.1)

places_append : (xs ys : List Claimed) → AllByRecursion (λ (claim : Claimed). claim.place < 20) xs → AllByRecursion (λ (claim : Claimed). claim.place < 20) ys
    → AllByRecursion (λ (claim : Claimed). claim.place < 20) (xs ++ ys)
places_append [] ys px py = py
places_append (x ∷ xs) ys px py = (px.0, places_append xs ys px.1 py)

places_digits : (form : WordForm) (row address at : ℕ) (digits : List ℕ) → AllByRecursion (λ (claim : Claimed). claim.place < 20) (digits_from (size_of form) row address at digits)
places_digits form row address at [] = tt
places_digits form row address at (digit ∷ digits) = (place-below form at, places_digits form row address (at + 1) digits)

places_all : (form : WordForm) (number : ℕ) (rows : List Row) → AllByRecursion (λ (claim : Claimed). claim.place < 20) (claims_from (size_of form) number rows)
places_all form number [] = tt
places_all form number (read claim ∷ rows) =
    places_append (digits_from (size_of form) number claim.address claim.place claim.digits) (claims_from (size_of form) (number + 1) rows)
    (places_digits form number claim.address claim.place claim.digits) (places_all form (number + 1) rows)
places_all form number (blank ∷ rows) = places_all form (number + 1) rows
places_all form number (other ∷ rows) = places_all form (number + 1) rows
places_all form number (unread reason ∷ rows) = places_all form (number + 1) rows

rows_append : (xs ys : List Claimed) → AllByRecursion (λ (claim : Claimed). 0 < claim.row) xs → AllByRecursion (λ (claim : Claimed). 0 < claim.row) ys
    → AllByRecursion (λ (claim : Claimed). 0 < claim.row) (xs ++ ys)
rows_append [] ys px py = py
rows_append (x ∷ xs) ys px py = (px.0, rows_append xs ys px.1 py)

rows_digits : (size row address at : ℕ) (digits : List ℕ) → 0 < row → AllByRecursion (λ (claim : Claimed). 0 < claim.row) (digits_from size row address at digits)
rows_digits size row address at [] some = tt
rows_digits size row address at (digit ∷ digits) some = (some, rows_digits size row address (at + 1) digits some)

rows_all : (size number : ℕ) (rows : List Row) → 0 < number → AllByRecursion (λ (claim : Claimed). 0 < claim.row) (claims_from size number rows)
rows_all size number [] some = tt
rows_all size number (read claim ∷ rows) some =
    rows_append (digits_from size number claim.address claim.place claim.digits) (claims_from size (number + 1) rows)
    (rows_digits size number claim.address claim.place claim.digits some) (rows_all size (number + 1) rows (omega arith))
rows_all size number (blank ∷ rows) some = rows_all size (number + 1) rows (omega arith)
rows_all size number (other ∷ rows) some = rows_all size (number + 1) rows (omega arith)
rows_all size number (unread reason ∷ rows) some = rows_all size (number + 1) rows (omega arith)

zero-more : (a b : ℕ) → a ≡ 0 + b → a ≡ b
zero-more a b h = omega arith

-- what the rows are, of all rows
pub all-kinds : (form : WordForm) (number : ℕ) (state : ReadingState) (rows : List Row) → (with_rows form number state rows).kinds ≡ with_kinds number state.kinds rows
all-kinds form number state [] = refl
all-kinds form number state (row ∷ rows) = all-kinds form (number + 1) (with_row form number state row) rows

-- a whole text
pub are-kinds : (rows : List Row) (kinds : RowKinds) → kinds_of kinds ≡ with_kinds 1 no_kinds rows → IsReading rows kinds
are-kinds rows kinds is = record {
  count_read = zero-more _ _ (ap (λ (s : KindsState). s.counts.read) is ∙ all_read 1 no_kinds rows);
  count_blank = zero-more _ _ (ap (λ (s : KindsState). s.counts.blank) is ∙ all_blank 1 no_kinds rows);
  count_other = zero-more _ _ (ap (λ (s : KindsState). s.counts.other) is ∙ all_other 1 no_kinds rows);
  count_unread = zero-more _ _ (ap (λ (s : KindsState). s.counts.unread) is ∙ all_unread 1 no_kinds rows);
  first_other = ap (λ (s : KindsState). s.first_other) is ∙ all_first 1 no_kinds rows;
  unread_rows = ap (λ (s : KindsState). s.unread_rows) is ∙ all_rows 1 no_kinds rows;
}

pub is-reading : (layout : OctalLayout) (rows : List Row) (reading : OctalReading) → state_of reading ≡ with_rows layout.form 1 at_first rows → IsReading rows reading.rows
is-reading layout rows reading is =
    are-kinds rows reading.rows (ap (λ (s : ReadingState). s.kinds) is ∙ all-kinds layout.form 1 at_first rows)

-- and what the rows claim is kept
pub holds-claims : (layout : OctalLayout) (rows : List Row) (reading : OctalReading) → state_of reading ≡ with_rows layout.form 1 at_first rows
    → Holds reading.words (claims_from (size_of layout.form) 1 rows)
holds-claims layout rows reading is = record {
  states = ap (λ (s : ReadingState). s.words) is ∙ all_words layout.form 1 at_first rows;
  places = places_all layout.form 1 rows;
  rows = rows_all (size_of layout.form) 1 rows (omega arith);
}
