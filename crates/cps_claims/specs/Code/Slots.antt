-- For the claims that are kept by address, not part of what a reader believes: what one claim more leaves.
use Prim.Native.Char.{code}
use Rattle.std.specs.Prelude.{◌≡◌, ℕ, ◌+◌, ◌<◌, Bool, not, ◌==◌, ◌&&◌, ◌||◌, List, [], ◌∷◌, fold, slice_get, slice_index_or, if◌then◌else◌, Option, None, false, true}
use Rattle.std.specs.Option.{option_map_or}
use Rattle.std.specs.Bool.{MatchBool}
use Rattle.std.specs.Borrow.{Bor}
use Rattle.cps_claims.specs.declared.claimed_word.ClaimedDigit.{ClaimedDigit}
use Rattle.cps_claims.specs.declared.claimed_word.ClaimedWord.{ClaimedWord}
use Rattle.cps_claims.specs.declared.claimed_words.RowClaim.{RowClaim}
use Rattle.cps_claims.specs.declared.layout.WordForm.{WordForm}
use Rattle.cps_claims.specs.Words.{size_of}
use Rattle.cps_claims.specs.Parts.{is_octal}
use Rattle.cps_claims.specs.Claims.{Claimed, digits_from}
pub use Rattle.cps_claims.specs.Shown.{nothing, kept_digit}

-- ---- a digit

abbrev pub with_known : ClaimedDigit → ℕ → ClaimedDigit
with_known slot digit =
    if not (is_octal slot.shown) then record { shown = digit; again = code " " }
    else if (digit == slot.shown) || is_octal slot.again then slot
    else record { shown = slot.shown; again = digit }

abbrev pub with_digit : ClaimedDigit → ℕ → ClaimedDigit
with_digit slot digit =
    if is_octal digit then with_known slot digit
    else if is_octal slot.shown then slot
    else record { shown = code "?"; again = slot.again }

abbrev pub is_new : ClaimedDigit → ℕ → Bool
is_new slot digit = not (is_octal slot.shown) && (is_octal digit || not (slot.shown == code "?"))

abbrev pub is_contrary : ClaimedDigit → ℕ → Bool
is_contrary slot digit = is_octal slot.shown && is_octal digit && not (digit == slot.shown)

-- whether no digit is claimed
abbrev pub is_free : ClaimedDigit → Bool
is_free slot = slot.shown == code " "

-- whether a digit that can be read is claimed; whether any is
abbrev pub is_known : ClaimedDigit → Bool
is_known slot = is_octal slot.shown

abbrev pub is_claimed : ClaimedDigit → Bool
is_claimed slot = is_octal slot.shown || (slot.shown == code "?")

-- whether a digit that is claimed isn't the deck's
abbrev pub is_other : Option ℕ → ℕ → Bool
is_other deck digit = not (option_map_or (λ other. other == digit) deck false)

abbrev pub slot_differs : Option ℕ → ClaimedDigit → Bool
slot_differs deck slot = is_octal slot.shown && (is_octal slot.again || is_other deck slot.shown)

-- the digit of the deck at a place
abbrev pub deck_digit : Option (Bor (List ℕ)) → ℕ → Option ℕ
deck_digit deck place = option_map_or (λ word. slice_get word.now place) deck None

-- ---- a word

-- what is claimed of a word: of its digits, and in which rows; row 0 is none
pub record WordState : Type 0 where
  pub slots : ℕ → ClaimedDigit
  pub first : ℕ
  pub last : ℕ
  pub again : ℕ

abbrev pub empty_word : ClaimedWord
empty_word = record {
  digits =
      nothing ∷ nothing ∷ nothing ∷ nothing ∷ nothing ∷ nothing ∷ nothing ∷ nothing ∷ nothing ∷ nothing
      ∷ nothing ∷ nothing ∷ nothing ∷ nothing ∷ nothing ∷ nothing ∷ nothing ∷ nothing ∷ nothing ∷ nothing ∷ [];
  first_row = 0;
  last_row = 0;
  again_row = 0;
}

abbrev pub state_of : ClaimedWord → WordState
state_of word = record {
  slots = kept_digit word;
  first = word.first_row;
  last = word.last_row;
  again = word.again_row;
}

abbrev pub first_of : ℕ → ℕ → ℕ
first_of first row = if first == 0 then row else first

-- one digit more for a place
abbrev pub with_claim_here : WordState → ℕ → ℕ → ℕ → WordState
with_claim_here state place digit row = record {
  slots = λ other. if place == other then with_digit (state.slots other) digit else state.slots other;
  first = first_of state.first row;
  last = if is_new (state.slots place) digit then row else state.last;
  again = if is_contrary (state.slots place) digit then first_of state.again row else state.again;
}

-- digits of a row, from a place on
abbrev pub with_digits_here : ℕ → ℕ → List ℕ → WordState → WordState
with_digits_here row place [] state = state
with_digits_here row place (digit ∷ digits) state = with_digits_here row (place + 1) digits (with_claim_here state place digit row)

-- whether some place of a word passes
abbrev pub AnyPlace : Bool → (ℕ → Bool) → Type 0
AnyPlace result test = MatchBool result ((place : ℕ) × (place < 20) × (test place ≡ true)) ((place : ℕ) → place < 20 → test place ≡ false)

-- ---- all words

abbrev pub with_claim : (ℕ → WordState) → Claimed → ℕ → WordState
with_claim states claim address =
    if claim.address == address then with_claim_here (states address) claim.place claim.digit claim.row else states address

-- digits of a row for one word, from a place of it on
abbrev pub with_digits : (ℕ → WordState) → ℕ → ℕ → ℕ → List ℕ → ℕ → WordState
with_digits states row address place digits other =
    if address == other then with_digits_here row place digits (states other) else states other

abbrev pub none_claimed : ℕ → WordState
none_claimed address = state_of empty_word

abbrev pub after : (ℕ → WordState) → List Claimed → ℕ → WordState
after states claims = fold with_claim states claims

abbrev pub state_at : List ClaimedWord → ℕ → WordState
state_at words address = state_of (slice_index_or words address empty_word)

-- the digits of a row
abbrev pub digits_claimed : WordForm → RowClaim → List ℕ → List Claimed
digits_claimed form claim digits = digits_from (size_of form) claim.row claim.address claim.place digits

-- the words after more claims
abbrev pub AddsClaims : List Claimed → List ClaimedWord → List ClaimedWord → Type 0
AddsClaims claims old new = state_at new ≡ after (state_at old) claims
