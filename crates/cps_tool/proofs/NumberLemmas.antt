-- A line's number, and the text behind it.
use Rattle.std.proofs.Common.{◌≡◌, ℕ, ◌+◌, ◌-◌, ◌^◌, ◌<◌, ◌≤◌, Bool, true, false, not, cond, ltb, zero, suc, ◌⊎◌, length-take, length-drop, List, [], ◌∷◌, ◌++◌, length, take, drop, Some, None, refl, sym, ap, subst, ◌∙◌, inl, inr, ⊎_elim, arith, append-nil, get_or}
use Rattle.std.specs.List.{position_or_len, position_from, before_first, after_first}
use Rattle.std.specs.Str.Parse.{AllDigits, digits_value}
use Rattle.std.specs.Char.{digit_value}
use Rattle.std.proofs.lemmas.Iterator.Adapters.{position_from-zero}
use Rattle.std.proofs.lemmas.List.Sums.{split_at_first, prefix_len_stops}
use Rattle.std.proofs.lemmas.Int.Digits.{digits_value-lt}
use Rattle.std.proofs.lemmas.List.{take_all, drop_all}
use Rattle.std.proofs.lemmas.Str.Parse.{digit_from_value}
use Rattle.std.proofs.lemmas.Bool.Decides.{nat_tests}
use Rattle.std.proofs.Math.Nat.{pow-le-pow_right}
use Rattle.cps_tool.specs.Command.{Spells, insert, replace, IsNumber, IsNumbered}
use Rattle.cps_text.specs.Text.{is_blank}

-- ---- the first blank

abbrev pub blank : ℕ
blank = 32

found : (test : Bool) (place at : ℕ) → cond test (Some place) None ≡ Some at → (test ≡ true) × (place ≡ at)
found true place at is = (refl, cc)
found false place at is = cc

missed : (test : Bool) (place : ℕ) → cond test (Some place) None ≡ None → test ≡ false
missed true place is = cc
missed false place is = refl

pub blank_at : (bytes : List ℕ) (at : ℕ) → Some at ≡ position_from is_blank 0 bytes → position_or_len is_blank bytes ≡ at
blank_at bytes at is = (found (ltb (position_or_len is_blank bytes) (length bytes)) (position_or_len is_blank bytes) at (position_from-zero is_blank bytes ∙ sym is)).1

pub blank_none : (bytes : List ℕ) → None ≡ position_from is_blank 0 bytes → length bytes ≤ position_or_len is_blank bytes
blank_none bytes is =
    let m = missed (ltb (position_or_len is_blank bytes) (length bytes)) (position_or_len is_blank bytes) (position_from-zero is_blank bytes ∙ sym is) in
    grind (arith, nat_tests)

-- all that a slice has behind its first n bytes
pub whole_tail : (bytes : List ℕ) (n : ℕ) → take (length bytes - n) (drop n bytes) ≡ drop n bytes
whole_tail bytes n = take_all (length bytes - n) (drop n bytes) (omega (arith, length-drop n bytes))

-- ---- digits have no blank

no_blank : (digit : ℕ) → digit_value digit < 10 → is_blank digit ≡ false
no_blank digit is = let range = digit_from_value digit is in grind (arith, nat_tests)

blank-behind : (digits bytes : List ℕ) → AllDigits 10 digits → position_or_len is_blank (digits ++ bytes) ≡ length digits + position_or_len is_blank bytes
blank-behind [] bytes all = omega arith
blank-behind (digit ∷ digits) bytes all =
    let here = no_blank digit all.0 in
    let later = blank-behind digits bytes all.1 in
    rw (here, later) (omega arith)

take-length : (front back : List ℕ) → take (length front) (front ++ back) ≡ front
take-length [] back = refl
take-length (b ∷ front) back = ap (λ l. b ∷ l) (take-length front back)

drop-length : (front : List ℕ) (byte : ℕ) (back : List ℕ) → drop (length front + 1) (front ++ byte ∷ back) ≡ back
drop-length [] byte back = refl
drop-length (b ∷ front) byte back =
    let more : length (b ∷ front) + 1 ≡ suc (length front + 1) = omega arith in
    rw more (drop-length front byte back)

-- ---- what stands before the first blank is the number

pub front_alone : (digits : List ℕ) → AllDigits 10 digits → before_first is_blank digits ≡ digits
front_alone digits all =
    let long : position_or_len is_blank (digits ++ []) ≡ length digits + position_or_len is_blank [] = blank-behind digits [] all in
    let long' = rw append-nil at long in
    let same : position_or_len is_blank digits ≡ length digits = omega (arith, long') in
    take_all (position_or_len is_blank digits) digits (omega arith)

front_of : (digits text : List ℕ) → AllDigits 10 digits → before_first is_blank (digits ++ blank ∷ text) ≡ digits
front_of digits text all =
    let long : position_or_len is_blank (digits ++ blank ∷ text) ≡ length digits + position_or_len is_blank (blank ∷ text) = blank-behind digits (blank ∷ text) all in
    let same : position_or_len is_blank (digits ++ blank ∷ text) ≡ length digits = omega arith in
    rw same (take-length digits (blank ∷ text))

pub number_before : (bytes : List ℕ) (number : ℕ) (text : List ℕ) → IsNumbered bytes number text → IsNumber (before_first is_blank bytes) number
number_before bytes number text numbered =
    let digits = numbered.0 in
    let is : IsNumber digits number = numbered.1 in
    let P : List ℕ → Type 0 = λ ds. IsNumber ds number in
    ⊎_elim
    (λ (alone : (bytes ≡ digits) × (text ≡ [])). subst P (sym (ap (before_first is_blank) alone.0 ∙ front_alone digits is.decimal)) is)
    (λ (both : bytes ≡ digits ++ blank ∷ text). subst P (sym (ap (before_first is_blank) both ∙ front_of digits text is.decimal)) is)
    numbered.2

behind_blank : (digits text : List ℕ) → AllDigits 10 digits → after_first is_blank (digits ++ blank ∷ text) ≡ text
behind_blank digits text all =
    let long : position_or_len is_blank (digits ++ blank ∷ text) ≡ length digits + position_or_len is_blank (blank ∷ text) = blank-behind digits (blank ∷ text) all in
    let same : position_or_len is_blank (digits ++ blank ∷ text) + 1 ≡ length digits + 1 = omega arith in
    rw same (drop-length digits blank text)

behind_none : (digits : List ℕ) → AllDigits 10 digits → after_first is_blank digits ≡ []
behind_none digits all =
    let long : position_or_len is_blank (digits ++ []) ≡ length digits + position_or_len is_blank [] = blank-behind digits [] all in
    let long' = rw append-nil at long in
    drop_all (position_or_len is_blank digits + 1) digits (omega (arith, long'))

-- and what stands behind it is the text
pub text_behind : (bytes : List ℕ) (number : ℕ) (text : List ℕ) → IsNumbered bytes number text → text ≡ after_first is_blank bytes
text_behind bytes number text numbered =
    let digits = numbered.0 in
    let is : IsNumber digits number = numbered.1 in
    ⊎_elim
    (λ (alone : (bytes ≡ digits) × (text ≡ [])). alone.1 ∙ sym (ap (after_first is_blank) alone.0 ∙ behind_none digits is.decimal))
    (λ (both : bytes ≡ digits ++ blank ∷ text). sym (ap (after_first is_blank) both ∙ behind_blank digits text is.decimal))
    numbered.2

-- the number that stands before the first blank
abbrev pub number_in : List ℕ → ℕ
number_in bytes = digits_value 10 (before_first is_blank bytes)

pub number_is : (bytes : List ℕ) (number : ℕ) (text : List ℕ) → IsNumbered bytes number text → number ≡ number_in bytes
number_is bytes number text numbered = let is = number_before bytes number text numbered in is.value

stopped : (byte : ℕ) → not (is_blank byte) ≡ false → byte ≡ blank
stopped byte is = grind (arith, nat_tests)

split_by : (test : Bool) (bytes : List ℕ) (number : ℕ) → ltb (position_or_len is_blank bytes) (length bytes) ≡ test → IsNumber (before_first is_blank bytes) number
    → ((bytes ≡ before_first is_blank bytes) × (after_first is_blank bytes ≡ [])) ⊎ (bytes ≡ before_first is_blank bytes ++ blank ∷ after_first is_blank bytes)
split_by true bytes number at is =
    let within : position_or_len is_blank bytes < length bytes = grind (arith, nat_tests) in
    let here = stopped (get_or bytes (position_or_len is_blank bytes) 0) (prefix_len_stops (λ byte. not (is_blank byte)) bytes 0 within) in
    inr (split_at_first is_blank bytes 0 within ∙ ap (λ byte. before_first is_blank bytes ++ byte ∷ after_first is_blank bytes) here)
split_by false bytes number at is =
    let past : length bytes ≤ position_or_len is_blank bytes = grind (arith, nat_tests) in
    inl (sym (take_all (position_or_len is_blank bytes) bytes past), drop_all (position_or_len is_blank bytes + 1) bytes (omega arith))

-- bytes are what stands before their first blank and behind it
pub numbered_split : (bytes : List ℕ) (number : ℕ) → IsNumber (before_first is_blank bytes) number → IsNumbered bytes number (after_first is_blank bytes)
numbered_split bytes number is =
    (before_first is_blank bytes, is, split_by (ltb (position_or_len is_blank bytes) (length bytes)) bytes number refl is)

-- ---- commands with a line's number and a text

-- where what stands behind two bytes is not numbered, a line inserts nothing
pub no_insertion : (line : List ℕ) → ((number : ℕ) (text : List ℕ) → IsNumbered (drop 2 line) number text → ⊥)
    → (after : ℕ) (text : List ℕ) → Spells line (insert after text) → ⊥
no_insertion line none after text spells =
    let P : List ℕ → Type 0 = λ bytes. IsNumbered bytes after text in
    none after text (subst P (sym (ap (drop 2) spells.2)) spells.3)

-- nor does it replace a line
pub no_replacement : (line : List ℕ) → ((number : ℕ) (text : List ℕ) → IsNumbered (drop 2 line) number text → ⊥)
    → (at : ℕ) (text : List ℕ) → Spells line (replace at text) → ⊥
no_replacement line none at text spells =
    let P : List ℕ → Type 0 = λ bytes. IsNumbered bytes at text in
    none at text (subst P (sym (ap (drop 2) spells.2)) spells.3)

-- ---- the digits of a number

-- a byte that is no digit stands in no number
pub digit_at : (digits : List ℕ) (i : ℕ) → AllDigits 10 digits → i < length digits → digit_value (get_or digits i 0) < 10
digit_at [] i all within = absurd (omega arith)
digit_at (digit ∷ digits) zero all within = all.0
digit_at (digit ∷ digits) (suc i) all within = digit_at digits i all.1 (omega arith)

-- five digits write a number below 100,000
pub number_small : (digits : List ℕ) (i : ℕ) → AllDigits 10 (take i digits) → i < length digits → length digits ≤ 5 → digits_value 10 (take i digits) < 10 ^ 4
number_small digits i all within few =
    let below : digits_value 10 (take i digits) < 10 ^ length (take i digits) = digits_value-lt 10 (take i digits) all in
    let short : length (take i digits) ≤ 4 = omega (arith, length-take i digits) in
    let most : 10 ^ length (take i digits) ≤ 10 ^ 4 = pow-le-pow_right (omega arith) short in
    omega arith
