-- The numbers of the first and the last of some lines, and of a line that they go after.
use Rattle.std.proofs.Common.{◌≡◌, ℕ, ◌<◌, ◌⊎◌, List, [], ◌∷◌, ◌++◌, length, drop, refl, sym, ap, subst, ◌∙◌, inl, inr, ⊎_elim, arith}
use Rattle.std.specs.List.{before_first, after_first}
use Rattle.std.specs.Str.Parse.{digits_value}
use Rattle.cps_tool.specs.Command.{Spells, delete, move, IsNumber, IsNumbered, IsPair, IsRange, IsMove}
use Rattle.cps_text.specs.Text.{is_blank}
use Rattle.cps_tool.proofs.NumberLemmas.{blank, front_alone, number_before, text_behind, number_in, number_is, numbered_split}

-- a range is a number, and behind it nothing or another
parts : (bytes : List ℕ) (first last : ℕ) → IsRange bytes first last
    → (text : List ℕ) × IsNumbered bytes first text × (((text ≡ []) × (last ≡ first)) ⊎ IsNumber text last)
parts bytes first last range = ⊎_elim
    (λ (alone : IsNumber bytes first × (last ≡ first)). ([], (bytes, alone.0, inl (refl, refl)), inl (refl, alone.1)))
    (λ (both : (digits : List ℕ) × (more : List ℕ) × (bytes ≡ digits ++ blank ∷ more) × IsNumber digits first × IsNumber more last).
    (both.1, (both.0, both.3, inr both.2), inr both.4))
    range

-- ---- bytes are a range in one way

pub first_is : (bytes : List ℕ) (first last : ℕ) → IsRange bytes first last → first ≡ number_in bytes
first_is bytes first last range = let of = parts bytes first last range in number_is bytes first of.0 of.1

-- the last is the first where no number follows
abbrev pub last_in : List ℕ → ℕ → ℕ
last_in [] first = first
last_in (digit ∷ digits) first = digits_value 10 (digit ∷ digits)

last_in-some : (digits : List ℕ) (first : ℕ) → 0 < length digits → last_in digits first ≡ digits_value 10 digits
last_in-some [] first some = absurd (omega arith)
last_in-some (digit ∷ digits) first some = refl

pub last_is : (bytes : List ℕ) (first last : ℕ) → IsRange bytes first last → last ≡ last_in (after_first is_blank bytes) (number_in bytes)
last_is bytes first last range =
    let of = parts bytes first last range in
    let text : List ℕ = of.0 in
    let number = number_in bytes in
    let behind : text ≡ after_first is_blank bytes = text_behind bytes first text of.1 in
    ⊎_elim
    (λ (alone : (text ≡ []) × (last ≡ first)). alone.1 ∙ first_is bytes first last range ∙ ap (λ t. last_in t number) (sym alone.0 ∙ behind))
    (λ (more : IsNumber text last). more.value ∙ sym (last_in-some text number more.some) ∙ ap (λ t. last_in t number) behind)
    of.2

-- ---- two numbers

-- the first of them has the other behind it
pair-numbered : (bytes : List ℕ) (one two : ℕ) → (pair : IsPair bytes one two) → IsNumbered bytes one pair.1
pair-numbered bytes one two pair = (pair.0, pair.3, inr pair.2)

pub pair_front : (bytes : List ℕ) (one two : ℕ) → IsPair bytes one two → IsNumber (before_first is_blank bytes) one
pair_front bytes one two pair = number_before bytes one pair.1 (pair-numbered bytes one two pair)

pub pair_back : (bytes : List ℕ) (one two : ℕ) → IsPair bytes one two → IsNumber (after_first is_blank bytes) two
pair_back bytes one two pair =
    let P : List ℕ → Type 0 = λ digits. IsNumber digits two in
    subst P (text_behind bytes one pair.1 (pair-numbered bytes one two pair)) pair.4

pub pair_split : (bytes : List ℕ) (one two : ℕ) → IsNumber (before_first is_blank bytes) one → IsNumber (after_first is_blank bytes) two → IsPair bytes one two
pair_split bytes one two front back =
    let of = numbered_split bytes one front in
    ⊎_elim
    (λ (alone : (bytes ≡ of.0) × (after_first is_blank bytes ≡ [])). let some = back.some in let none = ap length alone.1 in absurd (omega arith))
    (λ (both : bytes ≡ of.0 ++ blank ∷ after_first is_blank bytes). (of.0, after_first is_blank bytes, both, of.1, back))
    of.2

-- ---- three numbers

move-numbered : (bytes : List ℕ) (first last after : ℕ) → (numbers : IsMove bytes first last after) → IsNumbered bytes first numbers.1
move-numbered bytes first last after numbers = (numbers.0, numbers.3, inr numbers.2)

pub move_front : (bytes : List ℕ) (first last after : ℕ) → IsMove bytes first last after → IsNumber (before_first is_blank bytes) first
move_front bytes first last after numbers = number_before bytes first numbers.1 (move-numbered bytes first last after numbers)

pub move_back : (bytes : List ℕ) (first last after : ℕ) → IsMove bytes first last after → IsPair (after_first is_blank bytes) last after
move_back bytes first last after numbers =
    let P : List ℕ → Type 0 = λ more. IsPair more last after in
    subst P (text_behind bytes first numbers.1 (move-numbered bytes first last after numbers)) numbers.4

pub move_split : (bytes : List ℕ) (first last after : ℕ) → IsNumber (before_first is_blank bytes) first → IsPair (after_first is_blank bytes) last after
    → IsMove bytes first last after
move_split bytes first last after front back =
    let of = numbered_split bytes first front in
    ⊎_elim
    (λ (alone : (bytes ≡ of.0) × (after_first is_blank bytes ≡ [])).
    let some = (pair_back (after_first is_blank bytes) last after back).some in
    let none = ap (λ bs. length (after_first is_blank bs)) alone.1 in
    absurd (omega arith))
    (λ (both : bytes ≡ of.0 ++ blank ∷ after_first is_blank bytes). (of.0, after_first is_blank bytes, both, of.1, back))
    of.2

-- bytes are three numbers in one way
pub move_is : (bytes : List ℕ) (first last after : ℕ) → IsMove bytes first last after
    → (first ≡ number_in bytes) × (last ≡ number_in (after_first is_blank bytes)) × (after ≡ number_in (after_first is_blank (after_first is_blank bytes)))
move_is bytes first last after numbers =
    let front = move_front bytes first last after numbers in
    let pair = move_back bytes first last after numbers in
    let one = pair_front (after_first is_blank bytes) last after pair in
    let two = pair_back (after_first is_blank bytes) last after pair in
    (front.value, one.value, two.value ∙ ap (digits_value 10) (sym (front_alone (after_first is_blank (after_first is_blank bytes)) two.decimal)))

-- ---- commands that delete lines

-- where what stands behind two bytes is no range, a line deletes nothing
pub no_deletion : (line : List ℕ) → ((first last : ℕ) → IsRange (drop 2 line) first last → ⊥)
    → (first last : ℕ) → Spells line (delete first last) → ⊥
no_deletion line none first last spells =
    let P : List ℕ → Type 0 = λ bytes. IsRange bytes first last in
    none first last (subst P (sym (ap (drop 2) spells.2)) spells.3)

-- ---- commands that move lines

-- where what stands behind two bytes is no three numbers, a line moves nothing
pub no_move_by : (line : List ℕ) → ((first last after : ℕ) → IsMove (drop 2 line) first last after → ⊥)
    → (first last after : ℕ) → Spells line (move first last after) → ⊥
no_move_by line none first last after spells =
    let P : List ℕ → Type 0 = λ bytes. IsMove bytes first last after in
    none first last after (subst P (sym (ap (drop 2) spells.2)) spells.3)
