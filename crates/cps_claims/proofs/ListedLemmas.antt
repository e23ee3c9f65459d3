-- Digits that are kept by address, one code more.
use Rattle.std.proofs.Common.{◌≡◌, ◌≢◌, ℕ, zero, suc, ◌+◌, ◌<◌, ◌≤◌, Bool, true, false, not, ◌&&◌, cond, eqb, set, List, [], ◌∷◌, ◌++◌, length, Option, Some, map, inl, inr, refl, sym, ap, ◌∙◌, arith, append-nil, append_assoc, rules}
use Rattle.std.specs.List.{slice_get, range_with_len, filter}
use Rattle.std.specs.Option.{option_map_or}
use Rattle.std.proofs.lemmas.Bool.{cases_eq}
use Rattle.std.proofs.lemmas.Bool.Decides.{nat_tests}
use Rattle.std.proofs.lemmas.Grind.{flat_map-append}
use Rattle.std.proofs.lemmas.List.Elements.{filter-append}
use Rattle.cps_claims.specs.declared.listed_digit.ListedDigit.{ListedDigit}
use Rattle.cps_claims.specs.declared.listed_word.ListedWord.{ListedWord}
use Rattle.cps_claims.specs.declared.layout.WordOffset.{WordOffset}
use Rattle.cps_claims.specs.declared.listed_words.ListedWords.{ListedWords}
use Rattle.cps_claims.specs.declared.own_reading.OwnReading.{OwnReading}
use Rattle.cps_claims.specs.Rows.{Row}
use Rattle.cps_claims.specs.Listed.{ListedCode, listed_at, listed_by, listed_for, own_row, code_of, codes_from}
use Rattle.std.proofs.lemmas.Option.{slice_get_within, slice_get_past}
use Rattle.cps_claims.specs.ListedPlaces.{can_be_read, lists_digit, differs_in, differing_places}
use Rattle.cps_claims.specs.Code.States.{KindsState, kinds_of, no_kinds, with_kind, with_kinds}
use Rattle.cps_claims.specs.Code.Listed.{digits_at, Lists, HasRead}

set-same : {X : Type 0} (xs : List X) (at : ℕ) (x : X) → at < length xs → slice_get (set xs at x) at ≡ Some x
set-same [] at x within = absurd (omega arith)
set-same (y ∷ xs) zero x within = refl
set-same (y ∷ xs) (suc at) x within = set-same xs at x (omega arith)

set-other : {X : Type 0} (xs : List X) (at other : ℕ) (x : X) → at ≢ other → slice_get (set xs at x) other ≡ slice_get xs other
set-other [] at other x apart = refl
set-other (y ∷ xs) zero zero x apart = absurd (apart refl)
set-other (y ∷ xs) zero (suc other) x apart = refl
set-other (y ∷ xs) (suc at) zero x apart = refl
set-other (y ∷ xs) (suc at) (suc other) x apart = set-other xs at other x (λ same. apart (ap suc same))

-- one code more
one-more : (codes : List ListedCode) (code : ListedCode) (address : ℕ) → listed_at (codes ++ code ∷ []) address ≡ listed_at codes address ++ listed_for address code
one-more codes code address =
    flat_map-append (listed_for address) codes (code ∷ []) ∙ ap (λ l. listed_at codes address ++ l) (append-nil (listed_for address code))

pub listed-put : (words : List ListedWord) (at by : ℕ) (digits : List ℕ) (old new : ListedWord) (codes : List ListedCode) → at < length words
    → slice_get words at ≡ Some old → new.digits.items ≡ old.digits.items ++ listed_by by digits → ((address : ℕ) → digits_at words address ≡ listed_at codes address)
    → (address : ℕ) → digits_at (set words at new) address ≡ listed_at (codes ++ record { by = by; address = at; digits = digits } ∷ []) address
listed-put words at by digits old new codes within read is was address =
    let code : ListedCode = record { by = by; address = at; digits = digits } in
    let items : Option ListedWord → List ListedDigit = λ o. option_map_or (λ word. word.digits.items) o [] in
    elim (cases_eq at address) [
      | inl same ↦
          let test : eqb at address ≡ true = grind (arith, nat_tests) in
          ap (λ n. items (slice_get (set words at new) n)) (sym same) ∙ ap items (set-same words at new within) ∙ is
          ∙ ap (λ l. l ++ listed_by by digits) (sym (ap items read) ∙ was at ∙ ap (listed_at codes) same)
          ∙ ap (λ b. listed_at codes address ++ cond b (listed_by by digits) []) (sym test)
          ∙ sym (one-more codes code address)
      | inr apart ↦
          let test : eqb at address ≡ false = grind (arith, nat_tests) in
          ap items (set-other words at address new apart) ∙ was address ∙ sym (append-nil (listed_at codes address))
          ∙ ap (λ b. listed_at codes address ++ cond b (listed_by by digits) []) (sym test)
          ∙ sym (one-more codes code address)
    ]

-- ---- places, one more

pub range-more : (from count : ℕ) → range_with_len from (count + 1) ≡ range_with_len from count ++ (from + count) ∷ []
range-more from zero = let same : from + 0 ≡ from = omega arith in rw same refl
range-more from (suc count) =
    let next : suc count + 1 ≡ suc (count + 1) = omega arith in
    let last : from + 1 + count ≡ from + suc count = omega arith in
    rw next (ap (λ range. from ∷ range) (range-more (from + 1) count) ∙ ap (λ n. from ∷ (range_with_len (from + 1) count ++ n ∷ [])) last)

pub places-more : (test : ℕ → Bool) (at : ℕ) → filter test (range_with_len 0 (at + 1)) ≡ filter test (range_with_len 0 at) ++ cond (test at) (at ∷ []) []
places-more test at =
    let same : 0 + at ≡ at = omega arith in
    ap (filter test) (range-more 0 at)
    ∙ filter-append test (range_with_len 0 at) ((0 + at) ∷ [])
    ∙ ap (λ n. filter test (range_with_len 0 at) ++ cond (test n) (n ∷ []) []) same

-- ---- rows, one more

kinds-more : (number : ℕ) (kinds : KindsState) (rows : List Row) (row : Row)
    → with_kinds number kinds (rows ++ row ∷ []) ≡ with_kind (number + length rows) (with_kinds number kinds rows) row
kinds-more number kinds [] row = let same : number ≡ number + 0 = omega arith in ap (λ n. with_kind n kinds row) same
kinds-more number kinds (first ∷ rows) row =
    let same : number + 1 + length rows ≡ number + suc (length rows) = omega arith in
    kinds-more (number + 1) (with_kind number kinds first) rows row
    ∙ ap (λ n. with_kind n (with_kinds (number + 1) (with_kind number kinds first) rows) row) same

codes-more : (number : ℕ) (rows : List Row) (row : Row) → codes_from number (rows ++ row ∷ []) ≡ codes_from number rows ++ code_of (number + length rows) row
codes-more number [] row =
    let same : number ≡ number + 0 = omega arith in append-nil (code_of number row) ∙ ap (λ n. code_of n row) same
codes-more number (first ∷ rows) row =
    let same : number + 1 + length rows ≡ number + suc (length rows) = omega arith in
    ap (λ l. code_of number first ++ l) (codes-more (number + 1) rows row ∙ ap (λ n. codes_from (number + 1) rows ++ code_of n row) same)
    ∙ sym (append_assoc (code_of number first) (codes_from (number + 1) rows) (code_of (number + suc (length rows)) row))

pub read-more : (before : List Row) (row : Row) (number : ℕ) (old new : OwnReading) → number ≡ length before + 1 → HasRead before old
    → kinds_of new.rows ≡ with_kind number (kinds_of old.rows) row → Lists new.words (codes_from 1 before ++ code_of number row)
    → HasRead (before ++ row ∷ []) new
read-more before row number old new same was kinds words =
    let next : number ≡ 1 + length before = omega (arith, same) in
    record {
      kinds = kinds ∙ (λ i. with_kind (next i) (was.kinds i) row) ∙ sym (kinds-more 1 no_kinds before row);
      words = λ address. words address
          ∙ ap (λ codes. listed_at codes address) (ap (λ n. codes_from 1 before ++ code_of n row) next ∙ sym (codes-more 1 before row));
    }

pub none-listed : (words : ListedWords) (codes : List ListedCode) → Lists words codes → Lists words (codes ++ [])
none-listed words codes was = λ address. was address ∙ ap (λ codes. listed_at codes address) (sym (append-nil codes))

-- the rows of what is left
pub rows-next : (offset : WordOffset) (before : List Row) (row : List ℕ) (rows : List (List ℕ)) (all : List Row)
    → before ++ map (own_row offset) (row ∷ rows) ≡ all → (before ++ own_row offset row ∷ []) ++ map (own_row offset) rows ≡ all
rows-next offset before row rows all is = append_assoc before (own_row offset row ∷ []) (map (own_row offset) rows) ∙ is

-- ---- no place differs

none-kept : (test : Bool) (place : ℕ) (rest : List ℕ) → length (cond test (place ∷ rest) rest) ≡ 0 → (test ≡ false) × (length rest ≡ 0)
none-kept true place rest none = absurd (omega arith)
none-kept false place rest none = (refl, none)

none-found : (test : ℕ → Bool) (from n at : ℕ) → from ≤ at → at < from + n → length (filter test (range_with_len from n)) ≡ 0 → test at ≡ false
none-found test from zero at low below none = absurd (omega arith)
none-found test from (suc n) at low below none =
    let parts = none-kept (test from) from (filter test (range_with_len (from + 1) n)) none in
    elim (cases_eq at from) [
      | inl same ↦ ap test same ∙ parts.0
      | inr apart ↦ none-found test (from + 1) n at (omega arith) (omega arith) parts.1
    ]

agrees-then : (known lists : Bool) → known && not lists ≡ false → known ≡ true → lists ≡ true
agrees-then known true none some = refl
agrees-then true false none some = cc
agrees-then false false none some = cc

pub no-place-differs : (deck text : List ListedDigit) → length (differing_places deck text) ≡ 0 → (place : ℕ) (listed : ListedDigit)
    → slice_get text place ≡ Some listed → can_be_read listed ≡ true → lists_digit deck place listed.digit ≡ true
no-place-differs deck text none place listed here known =
    let within = slice_get_within text place listed here in
    let same = none-found (differs_in deck text) 0 (length text) place (omega arith) (omega (arith, within)) none in
    let test : ListedDigit → Bool = λ one. can_be_read one && not (lists_digit deck place one.digit) in
    agrees-then (can_be_read listed) (lists_digit deck place listed.digit) (sym (ap (λ o. option_map_or test o false) here) ∙ same) known

-- no digits stand past the last address
pub past-end : (words : ListedWords) (codes : List ListedCode) → Lists words codes → (address : ℕ) → 262144 ≤ address → listed_at codes address ≡ []
past-end words codes is address far =
    let few = words.few in
    let within : length words.words.items ≤ 262144 = search (rules, few) in
    sym (is address)
    ∙ ap (λ o. option_map_or (λ word. word.digits.items) o []) (slice_get_past words.words.items address (omega (arith, within, far)))
