-- Claims put into the slots of words.
use Rattle.std.proofs.Common.{◌≡◌, ◌≢◌, refl, zero, suc, ℕ, ◌+◌, ◌*◌, ◌/◌, ◌%◌, ◌<◌, ◌≤◌, Bool, true, false, cond, ◌&&◌, ◌||◌, ◌==◌, eqb, not, Option, None, Some, List, [], ◌∷◌, ◌++◌, length, get_or, set, take, drop, subst, sym, ap, ◌∙◌, arith, ⊎_elim, inl, inr, get_or-set_same, get_or-set_other}
use Rattle.std.specs.Prelude.{slice_get}
use Rattle.std.specs.Borrow.{Bor}
use Rattle.std.specs.Option.{option_map_or}
use Rattle.std.specs.List.{AllByRecursion, list_any, filter, sum_by, range_with_len}
use Rattle.std.proofs.lemmas.List.FromFn.{sum_by-map-range_with_len_more}
use Rattle.std.proofs.Math.Path.{fun_ext}
use Rattle.std.proofs.lemmas.Bool.{cases_eq, or_cases, and_parts, and_from, eqb-true, eq-eqb}
use Rattle.std.proofs.lemmas.Bool.Decides.{nat_tests}
use Rattle.std.proofs.lemmas.List.{get_or_default, get_or_past, map-id, take-append-drop, length-take-le}
use Rattle.std.proofs.lemmas.List.Sums.{fold-append}
use Rattle.std.proofs.lemmas.Nat.{div-mul-add, mod-mul-add, div-add-mod'}
use Rattle.cps_claims.specs.declared.claimed_word.ClaimedDigit.{ClaimedDigit}
use Rattle.cps_claims.specs.declared.claimed_word.ClaimedWord.{ClaimedWord}
use Rattle.cps_claims.specs.Claims.{Claimed, digits_from, known, Words, IsWordAt, digit_at, agrees, differs}
use Rattle.cps_claims.specs.Counts.{is_for, is_given, places}
use Rattle.cps_claims.specs.declared.claimed_words.ClaimedWords.{ClaimedWords}
use Rattle.cps_claims.specs.Code.Held.{Holds}
use Rattle.cps_claims.specs.Parts.{is_octal}
use Rattle.cps_claims.specs.Code.Slots.{is_known, is_other, deck_digit, slot_differs, AnyPlace, none_claimed, nothing, with_digit, WordState, empty_word, state_of, with_claim_here, with_digits_here, with_claim, with_digits, after, state_at}

-- what a place has, whatever is read past the end
pub slot-read : (digits : List ClaimedDigit) (place : ℕ) (other : ClaimedDigit) → place < length digits → get_or digits place other ≡ get_or digits place nothing
slot-read digits place other within = get_or_default digits place other nothing within

abbrev pub slots_in : List ClaimedDigit → ℕ → ClaimedDigit
slots_in digits place = get_or digits place nothing

pub slots-put : (digits : List ClaimedDigit) (place digit : ℕ) (slot : ClaimedDigit) → place < length digits → slot ≡ with_digit (get_or digits place nothing) digit
    → slots_in (set digits place slot) ≡ (λ other. cond (eqb place other) (with_digit (get_or digits other nothing) digit) (get_or digits other nothing))
slots-put digits place digit slot within is = fun_ext (λ other. ⊎_elim
    (λ (here : other ≡ place).
    let test : eqb place other ≡ true = grind (arith, nat_tests) in
    rw test (ap (λ n. get_or (set digits place slot) n nothing) here ∙ get_or-set_same digits place slot nothing within ∙ is
    ∙ ap (λ n. with_digit (get_or digits n nothing) digit) (sym here)))
    (λ (apart : other ≢ place).
    let test : eqb place other ≡ false = grind (arith, nat_tests) in
    rw test (get_or-set_other digits place other slot nothing apart))
    (cases_eq other place))

-- digits are put into the word at an address
pub words-put : (words : List ClaimedWord) (row address place : ℕ) (digits : List ℕ) (old new : ClaimedWord) → address < length words
    → old ≡ get_or words address empty_word → state_of new ≡ with_digits_here row place digits (state_of old)
    → state_at (set words address new) ≡ with_digits (state_at words) row address place digits
words-put words row address place digits old new within read is = fun_ext (λ other. ⊎_elim
    (λ (here : other ≡ address).
    let test : eqb address other ≡ true = grind (arith, nat_tests) in
    rw test (ap (λ n. state_of (get_or (set words address new) n empty_word)) here
    ∙ ap state_of (get_or-set_same words address new empty_word within)
    ∙ is
    ∙ ap (λ word. with_digits_here row place digits (state_of word)) (read ∙ ap (λ n. get_or words n empty_word) (sym here))))
    (λ (apart : other ≢ address).
    let test : eqb address other ≡ false = grind (arith, nat_tests) in
    rw test (ap state_of (get_or-set_other words address other new empty_word apart)))
    (cases_eq other address))

-- ---- the digits of a row, word by word

cond-same : (b : Bool) (state : WordState) → state ≡ cond b state state
cond-same true state = refl
cond-same false state = refl

cond-twice : (b : Bool) (f : WordState → WordState) (one other : WordState) → cond b (f (cond b one other)) (cond b one other) ≡ cond b (f one) other
cond-twice true f one other = refl
cond-twice false f one other = refl

-- the claims of digits that stay in one word
in-word : (size row address q r : ℕ) (digits : List ℕ) (states : ℕ → WordState) → r + length digits ≤ size → (other : ℕ)
    → after states (digits_from size row address (q * size + r) digits) other ≡ with_digits states row (address + q) r digits other
in-word size row address q r [] states fit other = cond-same (address + q == other) (states other)
in-word size row address q r (digit ∷ digits) states fit other =
    let small : r < size = omega arith in
    let word = div-mul-add q size r small in
    let place = mod-mul-add q size r small in
    let next : q * size + r + 1 ≡ q * size + (r + 1) = omega arith in
    let states_then = with_claim states (record { row = row; address = address + q; place = r; digit = digit }) in
    (λ i. after (with_claim states (record { row = row; address = address + word i; place = place i; digit = digit }))
    (digits_from size row address (next i) digits) other)
    ∙ in-word size row address q (r + 1) digits states_then (omega arith) other
    ∙ cond-twice (address + q == other) (with_digits_here row (r + 1) digits) (with_claim_here (states other) r digit row) (states other)

digits-append : (size row address at : ℕ) (xs ys : List ℕ)
    → digits_from size row address at (xs ++ ys) ≡ digits_from size row address at xs ++ digits_from size row address (at + length xs) ys
digits-append size row address at [] ys =
    let same : at ≡ at + 0 = omega arith in
    ap (λ n. digits_from size row address n ys) same
digits-append size row address at (x ∷ xs) ys =
    let same : at + 1 + length xs ≡ at + suc (length xs) = omega arith in
    ap (λ l. record { row = row; address = address + at / size; place = at % size; digit = x } ∷ l)
    (digits-append size row address (at + 1) xs ys ∙ ap (λ n. digits_from size row address (at + 1) xs ++ digits_from size row address n ys) same)

-- the digits for one word, and then those behind them
pub after-word : (size row address at count : ℕ) (digits : List ℕ) (states next : ℕ → WordState) → count ≤ length digits → at % size + count ≤ size
    → next ≡ with_digits states row (address + at / size) (at % size) (take count digits)
    → after next (digits_from size row address (at + count) (drop count digits)) ≡ after states (digits_from size row address at digits)
after-word size row address at count digits states next within fit is =
    let here = take count digits in
    let behind = drop count digits in
    let long : length here ≡ count = length-take-le count digits within in
    let fits : at % size + length here ≤ size = omega (arith, long, fit) in
    let split = div-add-mod' at size in
    let word : with_digits states row (address + at / size) (at % size) here ≡ after states (digits_from size row address at here) =
    fun_ext (λ other. sym (in-word size row address (at / size) (at % size) here states fits other))
    ∙ ap (λ n. after states (digits_from size row address n here)) split in
    (λ i. after ((is ∙ word) i) (digits_from size row address (at + sym long i) behind))
    ∙ sym (fold-append with_claim states (digits_from size row address at here) (digits_from size row address (at + length here) behind))
    ∙ ap (after states) (sym (digits-append size row address at here behind))
    ∙ ap (λ l. after states (digits_from size row address at l)) (take-append-drop count digits)

-- ---- what the slots tell of the claims

or-false : (b : Bool) → b ≡ (b || false)
or-false true = refl
or-false false = refl

or-assoc : (a b c : Bool) → ((a || b) || c) ≡ (a || (b || c))
or-assoc true b c = refl
or-assoc false b c = refl

same-all : {X : Type 0} (x : X) (xs : List X) → AllByRecursion (λ (y : X). y ≡ x) xs → (p : ℕ) → get_or xs p x ≡ x
same-all x [] all p = refl
same-all x (y ∷ xs) all zero = all.0
same-all x (y ∷ xs) all (suc p) = same-all x xs all.1 p

pub empty-slot : (place : ℕ) → slots_in empty_word.digits place ≡ nothing
empty-slot place = same-all nothing empty_word.digits (refl, (refl, (refl, (refl, (refl, (refl, (refl, (refl, (refl, (refl, (refl, (refl, (refl, (refl, (refl, (refl, (refl, (refl, (refl, (refl, tt)))))))))))))))))))) place

-- a test of a slot that one more claim passes on
module _ (test : ClaimedDigit → Bool) (adds : ℕ → Bool) (step : (slot : ClaimedDigit) (digit : ℕ) → test (with_digit slot digit) ≡ (test slot || adds digit)) where
  here : (b : Bool) (slot : ClaimedDigit) (digit : ℕ) → test (cond b (with_digit slot digit) slot) ≡ (test slot || (b && adds digit))
  here true slot digit = step slot digit
  here false slot digit = or-false (test slot)

  one : (b : Bool) (state : WordState) (place digit row other : ℕ)
      → test ((cond b (with_claim_here state place digit row) state).slots other) ≡ (test (state.slots other) || (b && ((place == other) && adds digit)))
  one true state place digit row other = here (place == other) (state.slots other) digit
  one false state place digit row other = or-false (test (state.slots other))

  pub all-claims : (claims : List Claimed) (states : ℕ → WordState) (address place : ℕ)
      → test ((after states claims address).slots place)
      ≡ (test ((states address).slots place) || list_any (λ (claim : Claimed). (claim.address == address) && ((claim.place == place) && adds claim.digit)) claims)
  all-claims [] states address place = or-false (test ((states address).slots place))
  all-claims (claim ∷ claims) states address place =
      all-claims claims (with_claim states claim) address place
      ∙ ap (λ b. b || list_any (λ (claim : Claimed). (claim.address == address) && ((claim.place == place) && adds claim.digit)) claims)
      (one (claim.address == address) (states address) claim.place claim.digit claim.row place)
      ∙ or-assoc (test ((states address).slots place)) ((claim.address == address) && ((claim.place == place) && adds claim.digit))
      (list_any (λ (claim : Claimed). (claim.address == address) && ((claim.place == place) && adds claim.digit)) claims)

-- ---- what each test adds

-- a digit more, where its tests are known
abbrev pub with_tests : Bool → Bool → Bool → Bool → ClaimedDigit → ℕ → ClaimedDigit
with_tests new known same again slot digit =
    cond new
    (cond (not known) (record { shown = digit; again = 32 }) (cond (same || again) slot (record { shown = slot.shown; again = digit })))
    (cond known slot (record { shown = 63; again = slot.again }))

known-case : (new known same again : Bool) (slot : ClaimedDigit) (digit : ℕ) → is_octal digit ≡ new → is_octal slot.shown ≡ known
    → is_octal (with_tests new known same again slot digit).shown ≡ (known || new)
known-case true true true again slot digit hd hs = hs
known-case true true false true slot digit hd hs = hs
known-case true true false false slot digit hd hs = hs
known-case true false same again slot digit hd hs = hd
known-case false true same again slot digit hd hs = hs
known-case false false same again slot digit hd hs = refl

pub known-step : (slot : ClaimedDigit) (digit : ℕ) → is_known (with_digit slot digit) ≡ (is_known slot || is_octal digit)
known-step slot digit = known-case (is_octal digit) (is_octal slot.shown) (digit == slot.shown) (is_octal slot.again) slot digit refl refl

pub or-true : (b : Bool) → (b || true) ≡ true
or-true true = refl
or-true false = refl

or-twice : (a b : Bool) → (a || b) ≡ ((a || b) || b)
or-twice true b = refl
or-twice false true = refl
or-twice false false = refl

-- no digit of the deck is two digits
one-other : (deck : Option ℕ) (first second : ℕ) → (second == first) ≡ false → (is_other deck first || is_other deck second) ≡ true
one-other None first second apart = refl
one-other (Some digit) first second apart = grind (arith, nat_tests)

differs-case : (deck : Option ℕ) (new known same again : Bool) (slot : ClaimedDigit) (digit : ℕ)
    → is_octal digit ≡ new → is_octal slot.shown ≡ known → (digit == slot.shown) ≡ same → is_octal slot.again ≡ again
    → slot_differs deck (with_tests new known same again slot digit) ≡ ((known && (again || is_other deck slot.shown)) || (new && is_other deck digit))
differs-case deck true true true again slot digit hd hs he ha =
    let is : digit ≡ slot.shown = grind (arith, nat_tests) in
    (λ i. hs i && (ha i || is_other deck slot.shown)) ∙ or-twice again (is_other deck slot.shown)
    ∙ ap (λ n. (again || is_other deck slot.shown) || is_other deck n) (sym is)
differs-case deck true true false true slot digit hd hs he ha = λ i. hs i && (ha i || is_other deck slot.shown)
differs-case deck true true false false slot digit hd hs he ha = (λ i. hs i && (hd i || is_other deck slot.shown)) ∙ sym (one-other deck slot.shown digit he)
differs-case deck true false same again slot digit hd hs he ha = ap (λ b. b && is_other deck digit) hd
differs-case deck false true same again slot digit hd hs he ha = (λ i. hs i && (ha i || is_other deck slot.shown)) ∙ or-false (again || is_other deck slot.shown)
differs-case deck false false same again slot digit hd hs he ha = refl

pub differs-step : (deck : Option ℕ) (slot : ClaimedDigit) (digit : ℕ)
    → slot_differs deck (with_digit slot digit) ≡ (slot_differs deck slot || (is_octal digit && is_other deck digit))
differs-step deck slot digit =
    differs-case deck (is_octal digit) (is_octal slot.shown) (digit == slot.shown) (is_octal slot.again) slot digit refl refl refl refl

-- ---- claims of all places of a word

implies : {X : Type 0} (p q : X → Bool) → ((x : X) → p x ≡ true → q x ≡ true) → (xs : List X) → list_any p xs ≡ true → list_any q xs ≡ true
implies p q h [] e = e
implies p q h (x ∷ xs) e = elim (or_cases (p x) (list_any p xs) e) [
  | inl here ↦ ap (λ b. b || list_any q xs) (h x here)
  | inr behind ↦ ap (λ b. q x || b) (implies p q h xs behind) ∙ or-true (q x)
]

or-none : (a b : Bool) → (a || b) ≡ false → (a ≡ false) × (b ≡ false)
or-none true b e = let no : true ≡ false = e in cc
or-none false b e = (refl, e)

module _ (test : ℕ → Claimed → Bool) (address : ℕ) where
  abbrev pub at_place : ℕ → List Claimed → Bool
  at_place place claims = list_any (λ (claim : Claimed). (claim.address == address) && ((claim.place == place) && test place claim)) claims

  abbrev pub anywhere : List Claimed → Bool
  anywhere claims = list_any (λ (claim : Claimed). (claim.address == address) && test claim.place claim) claims

  there : (place : ℕ) (claim : Claimed) → ((claim.address == address) && ((claim.place == place) && test place claim)) ≡ true
      → ((claim.address == address) && test claim.place claim) ≡ true
  there place claim e =
      let first = and_parts (claim.address == address) ((claim.place == place) && test place claim) e in
      let second = and_parts (claim.place == place) (test place claim) first.1 in
      let same : claim.place ≡ place = eqb-true claim.place place second.0 in
      and_from (claim.address == address) (test claim.place claim) first.0 (ap (λ n. test n claim) same ∙ second.1)

  not-there : (claim : Claimed) → ((claim.address == address) && ((claim.place == claim.place) && test claim.place claim)) ≡ false
      → ((claim.address == address) && test claim.place claim) ≡ false
  not-there claim e = ap (λ b. (claim.address == address) && (b && test claim.place claim)) (sym (eq-eqb claim.place claim.place refl)) ∙ e

  none-there : (claims : List Claimed) → AllByRecursion (λ (claim : Claimed). claim.place < 20) claims → ((place : ℕ) → place < 20 → at_place place claims ≡ false)
      → anywhere claims ≡ false
  none-there [] below none = refl
  none-there (claim ∷ claims) below none =
      let parts = λ (place : ℕ) (few : place < 20). or-none ((claim.address == address) && ((claim.place == place) && test place claim)) (at_place place claims) (none place few) in
      ap (λ b. b || anywhere claims) (not-there claim (parts claim.place below.0).0)
      ∙ none-there claims below.1 (λ place few. (parts place few).1)

  pub any-claim : (result : Bool) (passes : ℕ → Bool) (claims : List Claimed) → AllByRecursion (λ (claim : Claimed). claim.place < 20) claims
      → AnyPlace result passes → ((place : ℕ) → passes place ≡ at_place place claims) → result ≡ anywhere claims
  any-claim true passes claims below any same =
      sym (implies (λ (claim : Claimed). (claim.address == address) && ((claim.place == any.0) && test any.0 claim))
      (λ (claim : Claimed). (claim.address == address) && test claim.place claim) (there any.0) claims (sym (same any.0) ∙ any.2))
  any-claim false passes claims below any same = sym (none-there claims below (λ place few. sym (same place) ∙ any place few))

-- ---- claims that can be read

and-true : (b : Bool) → b ≡ (b && true)
and-true true = refl
and-true false = refl

and-false : (b : Bool) → (b && false) ≡ false
and-false true = refl
and-false false = refl

and-assoc : (a b c : Bool) → ((a && b) && c) ≡ (a && (b && c))
and-assoc true b c = refl
and-assoc false b c = refl

and-swapped : (a b : Bool) → (a && b) ≡ (b && a)
and-swapped true true = refl
and-swapped true false = refl
and-swapped false true = refl
and-swapped false false = refl

any-same : (p q : Claimed → Bool) (claims : List Claimed) → ((claim : Claimed) → p claim ≡ q claim) → list_any p claims ≡ list_any q claims
any-same p q claims same = ap (λ (test : Claimed → Bool). list_any test claims) (fun_ext same)

filter-step : (p q : Claimed → Bool) (claim : Claimed) (claims : List Claimed) (keeps : Bool) → q claim ≡ keeps
    → list_any p (filter q claims) ≡ list_any (λ (claim : Claimed). p claim && q claim) claims
    → list_any p (cond keeps (claim ∷ filter q claims) (filter q claims)) ≡ ((p claim && keeps) || list_any (λ (claim : Claimed). p claim && q claim) claims)
filter-step p q claim claims true is more = λ i. and-true (p claim) i || more i
filter-step p q claim claims false is more = more ∙ ap (λ b. b || list_any (λ (claim : Claimed). p claim && q claim) claims) (sym (and-false (p claim)))

filter-any : (p q : Claimed → Bool) (claims : List Claimed) → list_any p (filter q claims) ≡ list_any (λ (claim : Claimed). p claim && q claim) claims
filter-any p q [] = refl
filter-any p q (claim ∷ claims) = filter-step p q claim claims (q claim) refl (filter-any p q claims)

abbrev kept_at : ClaimedWords → ℕ → ℕ → ClaimedDigit
kept_at words address place = (state_at words.words.items address).slots place

held-slot : (words : ClaimedWords) (claims : List Claimed) → Holds words claims → (address place : ℕ) → kept_at words address place ≡ (after none_claimed claims address).slots place
held-slot words claims holds address place = ap (λ (states : ℕ → WordState). (states address).slots place) holds.states

-- whether a digit is claimed that can be read
abbrev is_known_at : List Claimed → ℕ → ℕ → Bool
is_known_at claims address place = list_any (is_for address place) (known claims)

known-held : (words : ClaimedWords) (claims : List Claimed) → Holds words claims → (address place : ℕ) → is_known (kept_at words address place) ≡ is_known_at claims address place
known-held words claims holds address place =
    ap is_known (held-slot words claims holds address place)
    ∙ all-claims is_known is_octal known-step claims none_claimed address place
    ∙ ap (λ slot. is_known slot || list_any (λ (claim : Claimed). (claim.address == address) && ((claim.place == place) && is_octal claim.digit)) claims) (empty-slot place)
    ∙ sym (filter-any (is_for address place) (λ (claim : Claimed). is_octal claim.digit) claims
    ∙ any-same (λ (claim : Claimed). is_for address place claim && is_octal claim.digit) (λ (claim : Claimed). (claim.address == address) && ((claim.place == place) && is_octal claim.digit)) claims
    (λ claim. and-assoc (claim.address == address) (claim.place == place) (is_octal claim.digit)))

-- a word of which a digit is claimed that can be read
pub given-held : (words : ClaimedWords) (claims : List Claimed) → Holds words claims → (address : ℕ) (result : Bool)
    → AnyPlace result (λ place. is_known (kept_at words address place)) → result ≡ is_given claims address
given-held words claims holds address result any =
    any-claim (λ place claim. is_octal claim.digit) address result (λ place. is_known (kept_at words address place)) claims holds.places any
    (λ place. known-held words claims holds address place
    ∙ (filter-any (is_for address place) (λ (claim : Claimed). is_octal claim.digit) claims
    ∙ any-same (λ (claim : Claimed). is_for address place claim && is_octal claim.digit) (λ (claim : Claimed). (claim.address == address) && ((claim.place == place) && is_octal claim.digit)) claims
    (λ claim. and-assoc (claim.address == address) (claim.place == place) (is_octal claim.digit))))
    ∙ sym (filter-any (λ (claim : Claimed). claim.address == address) (λ (claim : Claimed). is_octal claim.digit) claims)

-- ---- a word that differs

same-where : (words : Words) (address : ℕ) (claim : Claimed) (b : Bool) → (claim.address == address) ≡ b
    → (b && (is_octal claim.digit && is_other (digit_at words address claim.place) claim.digit)) ≡ ((b && not (agrees words claim)) && is_octal claim.digit)
same-where words address claim true is =
    let same : claim.address ≡ address = eqb-true claim.address address is in
    ap (λ n. is_octal claim.digit && is_other (digit_at words n claim.place) claim.digit) (sym same)
    ∙ and-swapped (is_octal claim.digit) (not (agrees words claim))
same-where words address claim false is = refl

pub differs-held : (words : ClaimedWords) (claims : List Claimed) (deck : Words) → Holds words claims → (address : ℕ) (result : Bool)
    → AnyPlace result (λ place. slot_differs (digit_at deck address place) (kept_at words address place)) → result ≡ differs deck claims address
differs-held words claims deck holds address result any =
    any-claim (λ place claim. is_octal claim.digit && is_other (digit_at deck address place) claim.digit) address result
    (λ place. slot_differs (digit_at deck address place) (kept_at words address place)) claims holds.places any
    (λ place.
    ap (slot_differs (digit_at deck address place)) (held-slot words claims holds address place)
    ∙ all-claims (slot_differs (digit_at deck address place)) (λ digit. is_octal digit && is_other (digit_at deck address place) digit)
    (differs-step (digit_at deck address place)) claims none_claimed address place
    ∙ ap (λ slot. slot_differs (digit_at deck address place) slot
    || list_any (λ (claim : Claimed). (claim.address == address) && ((claim.place == place) && (is_octal claim.digit && is_other (digit_at deck address place) claim.digit))) claims)
    (empty-slot place))
    ∙ any-same (λ (claim : Claimed). (claim.address == address) && (is_octal claim.digit && is_other (digit_at deck address claim.place) claim.digit))
    (λ (claim : Claimed). ((claim.address == address) && not (agrees deck claim)) && is_octal claim.digit) claims
    (λ claim. same-where deck address claim (claim.address == address) refl)
    ∙ sym (filter-any (λ (claim : Claimed). (claim.address == address) && not (agrees deck claim)) (λ (claim : Claimed). is_octal claim.digit) claims)

-- one word more
pub count-more : (f : ℕ → ℕ) (low n address : ℕ) → low + n ≡ address → sum_by f (range_with_len low (n + 1)) ≡ sum_by f (range_with_len low n) + f address
count-more f low n address at =
    ap (sum_by f) (sym (map-id (range_with_len low (n + 1)))) ∙ sum_by-map-range_with_len_more f (λ m. m) low n address at
    ∙ ap (λ l. sum_by f l + f address) (map-id (range_with_len low n))

-- a digit that the deck has
pub deck-digit : (deck : Words) (address place : ℕ) (word : Option (Bor (List ℕ))) → IsWordAt deck address word
    → deck_digit word place ≡ digit_at deck address place
deck-digit deck address place None is = ap (λ (w : Option (List ℕ)). option_map_or (λ word. slice_get word place) w None) (sym is)
deck-digit deck address place (Some word) is = ap (λ (w : Option (List ℕ)). option_map_or (λ word. slice_get word place) w None) (sym is)

pub one-few : (b : Bool) → cond b 1 0 ≤ 1
one-few true = omega arith
one-few false = omega arith

pub all-places : range_with_len 0 20 ≡ places
unfolding places
all-places = refl

-- past the end nothing is claimed
pub past-given : (words : ClaimedWords) (claims : List Claimed) → Holds words claims → (address : ℕ) → length words.words.items ≤ address → is_given claims address ≡ false
past-given words claims holds address past =
    sym (given-held words claims holds address false (λ place few.
    ap (λ word. is_known ((state_of word).slots place)) (get_or_past words.words.items address empty_word past) ∙ ap is_known (empty-slot place)))

-- a word's test, told of the claims
pub word-given : (words : ClaimedWords) (claims : List Claimed) → Holds words claims → (address : ℕ) (word : ClaimedWord) (result : Bool)
    → state_of word ≡ state_at words.words.items address → AnyPlace result (λ place. is_known ((state_of word).slots place)) → result ≡ is_given claims address
word-given words claims holds address word result is any =
    given-held words claims holds address result (subst (λ (state : WordState). AnyPlace result (λ place. is_known (state.slots place))) is any)
