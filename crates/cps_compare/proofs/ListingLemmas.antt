-- Two listings, address by address.
use Rattle.std.proofs.Common.{◌≡◌, ℕ, ◌+◌, ◌-◌, ◌^◌, ◌<◌, ◌≤◌, Bool, true, false, ◌||◌, ◌&&◌, cond, All, List, [], ◌∷◌, ◌++◌, length, suc, take, get_or, flat_map, Some, inl, inr, refl, sym, ap, ◌∙◌, arith, subst, append-nil, append_assoc}
use Rattle.std.specs.Prelude.{nat_lt}
use Rattle.std.specs.List.{slice_get}
use Rattle.std.proofs.lemmas.Bool.{cases_Bool}
use Rattle.std.proofs.lemmas.Bool.Decides.{nat_tests}
use Rattle.std.proofs.lemmas.List.Elements.{All-append}
use Rattle.std.proofs.lemmas.Grind.{flat_map-append}
use Rattle.std.proofs.lemmas.List.{take_more}
use Rattle.cps_final.specs.declared.row.Row as final
use Rattle.cps_final.specs.Outcome.{Outcome}
use Rattle.cps_list.specs.Assembly.{Assembly}
use Rattle.cps_claims.specs.declared.listed_words.ListedWords.{ListedWords}
use Rattle.cps_claims.specs.Code.Listed.{Lists}
use Rattle.cps_claims.specs.declared.listed_digit.ListedDigit.{ListedDigit}
use Rattle.cps_claims.specs.Listed.{ListedCode}
use Rattle.cps_claims.specs.ListedPlaces.{gives_listed, differs_in, differing_places, lacking_places, listed_places}
use Rattle.cps_claims.proofs.ListedLemmas.{past-end}
use Rattle.cps_compare.specs.declared.listed_sides.ListedSides as code
use Rattle.cps_compare.specs.ListedSides.{ListedSides, is_listed, listed_findings, row_codes, line_codes}
use Rattle.cps_compare.specs.Code.Kept.{AreListed}
use Rattle.cps_compare.proofs.TextLemmas.{places-below}
use Rattle.cps_compare.proofs.GivenLemmas.{range-below}
use Rattle.cps_list.proofs.ViewLemmas.{take-next, number-next}

or-front : (a b : Bool) → (a || b) ≡ false → a ≡ false
or-front false b is = refl
or-front true b is = cc

pub not-given : (sides : ListedSides) (address : ℕ) → (listed_findings sides).is_compared address ≡ false → (listed_findings sides).is_given address ≡ false
not-given sides address none = or-front (gives_listed (sides.text address)) (sides.whole && is_listed (sides.deck address)) none

-- ---- past the last address nothing is listed

text-past : (kept : code.ListedSides) (assembly : Assembly) (sides : ListedSides) → AreListed kept assembly sides → (address : ℕ) → 262144 ≤ address → sides.text address ≡ []
text-past kept assembly sides are address far = ap (λ (f : ℕ → List ListedDigit). f address) are.text ∙ past-end kept.reading.words are.text_codes are.text_kept address far

deck-past : (kept : code.ListedSides) (assembly : Assembly) (sides : ListedSides) → AreListed kept assembly sides → (address : ℕ) → 262144 ≤ address → sides.deck address ≡ []
deck-past kept assembly sides are address far = ap (λ (f : ℕ → List ListedDigit). f address) are.deck ∙ past-end kept.deck are.deck_codes are.deck_kept address far

none-and : (b : Bool) → (b && false) ≡ false
none-and true = refl
none-and false = refl

pub past-compared : (kept : code.ListedSides) (assembly : Assembly) (sides : ListedSides) → AreListed kept assembly sides → (address : ℕ) → 262144 ≤ address
    → (listed_findings sides).is_compared address ≡ false
past-compared kept assembly sides are address far =
    (λ i. gives_listed (text-past kept assembly sides are address far i) || (sides.whole && is_listed (deck-past kept assembly sides are address far i)))
    ∙ none-and sides.whole

pub past-given : (kept : code.ListedSides) (assembly : Assembly) (sides : ListedSides) → AreListed kept assembly sides → (address : ℕ)
    → (address < 262144 → (listed_findings sides).is_given address ≡ false) → (listed_findings sides).is_given address ≡ false
past-given kept assembly sides are address below =
    elim (cases_Bool (nat_lt address 262144)) [
      | inl here ↦ below (grind (arith, nat_tests))
      | inr past ↦ let far : 262144 ≤ address = grind (arith, nat_tests) in ap gives_listed (text-past kept assembly sides are address far)
    ]

-- ---- places are few

none-below : (limit : ℕ) → All (λ place. place < limit) []
none-below limit k d within = absurd (omega arith)

lacking-below : (whole : Bool) (deck text : List ListedDigit) → length deck < 2 ^ 32 → length text < 2 ^ 32 → All (λ place. place < 2 ^ 32) (cond whole (lacking_places deck text) [])
lacking-below false deck text few_deck few_text = none-below (2 ^ 32)
lacking-below true deck text few_deck few_text =
    range-below (length text) (length deck - length text) (2 ^ 32) (omega (arith, few_deck, few_text))

pub listed-below : (whole : Bool) (deck text : List ListedDigit) → length deck < 2 ^ 32 → length text < 2 ^ 32
    → All (λ place. place < 2 ^ 32) (listed_places whole deck text)
listed-below whole deck text few_deck few_text =
    All-append (λ place. place < 2 ^ 32) (differing_places deck text) (cond whole (lacking_places deck text) [])
    (places-below (differs_in deck text) (length text) (2 ^ 32) (omega (arith, few_text)))
    (lacking-below whole deck text few_deck few_text)

-- ---- the codes of a source, one line more

lines-more : (number : ℕ) (outcomes : List Outcome) (outcome : Outcome) → line_codes number (outcomes ++ outcome ∷ [])
    ≡ line_codes number outcomes ++ flat_map (row_codes (number + length outcomes)) outcome.rows
lines-more number [] outcome =
    let same : number ≡ number + 0 = omega arith in
    append-nil (flat_map (row_codes number) outcome.rows) ∙ ap (λ n. flat_map (row_codes n) outcome.rows) same
lines-more number (o ∷ outcomes) outcome =
    let same : number + 1 + length outcomes ≡ number + suc (length outcomes) = omega arith in
    ap (λ l. flat_map (row_codes number) o.rows ++ l) (lines-more (number + 1) outcomes outcome
    ∙ ap (λ n. line_codes (number + 1) outcomes ++ flat_map (row_codes n) outcome.rows) same)
    ∙ sym (append_assoc (flat_map (row_codes number) o.rows) (line_codes (number + 1) outcomes) (flat_map (row_codes (number + suc (length outcomes))) outcome.rows))

-- the line after the first `i` ones
pub lines-next : (outcomes : List Outcome) (i : ℕ) (outcome : Outcome) → slice_get outcomes (i + 1 - 1) ≡ Some outcome
    → line_codes 1 (take i outcomes) ++ flat_map (row_codes (i + 1)) outcome.rows ≡ line_codes 1 (take (i + 1) outcomes)
lines-next outcomes i outcome is =
    let here : i + 1 - 1 ≡ i = omega arith in
    let there = ap (slice_get outcomes) (sym here) ∙ is in
    let one : i + 1 ≡ suc i = omega arith in
    let number = number-next outcomes i outcome is in
    let same : i + 1 ≡ 1 + length (take i outcomes) = omega (arith, number) in
    ap (λ n. line_codes 1 (take i outcomes) ++ flat_map (row_codes n) outcome.rows) same
    ∙ sym (lines-more 1 (take i outcomes) outcome)
    ∙ ap (line_codes 1) (sym (take-next outcomes i outcome there) ∙ ap (λ n. take n outcomes) (sym one))

-- one row more
pub rows-more : (number : ℕ) (words : ListedWords) (codes : List ListedCode) (rows : List final.Row) (i : ℕ) (row : final.Row) → i < length rows
    → Lists words ((codes ++ flat_map (row_codes number) (take i rows)) ++ row_codes number (get_or rows i row))
    → Lists words (codes ++ flat_map (row_codes number) (take (i + 1) rows))
rows-more number words codes rows i row within is =
    let before = flat_map (row_codes number) (take i rows) in
    let here = row_codes number (get_or rows i row) in
    let next : flat_map (row_codes number) (take (i + 1) rows) ≡ before ++ here =
    ap (flat_map (row_codes number)) (take_more rows i row within) ∙ flat_map-append (row_codes number) (take i rows) (get_or rows i row ∷ [])
    ∙ ap (λ l. before ++ l) (append-nil here) in
    subst (Lists words) (append_assoc codes before here ∙ ap (λ l. codes ++ l) (sym next)) is
