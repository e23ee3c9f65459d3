-- What the slots show of the claims.
use Rattle.std.proofs.Common.{◌≡◌, refl, ℕ, ◌<◌, Bool, true, false, not, cond, ◌&&◌, ◌||◌, ◌==◌, Option, Some, List, [], ◌∷◌, ◌++◌, sym, ap, ◌∙◌, arith}
use Rattle.std.specs.List.{AllByRecursion, list_any, find, fold}
use Rattle.std.specs.Option.{option_map_or}
use Rattle.std.proofs.lemmas.Bool.{eq-eqb, eqb-true}
use Rattle.std.proofs.lemmas.List.Sums.{fold_push}
use Rattle.std.proofs.lemmas.Bool.Decides.{nat_tests}
use Rattle.cps_claims.specs.declared.claimed_word.ClaimedDigit.{ClaimedDigit}
use Rattle.cps_claims.specs.Parts.{is_octal}
use Rattle.cps_claims.specs.Claims.{Claimed, known}
use Rattle.cps_claims.specs.Counts.{is_for}
use Rattle.cps_claims.specs.Shown.{first_known, shown_digit, again_digit, first_row, rows_passing, first_of_rows, last_row, again_row, Shows}
use Rattle.cps_claims.specs.Code.Slots.{with_digit, WordState, with_claim_here, with_claim, is_new, is_contrary, none_claimed, after, state_of, state_at}
use Rattle.cps_claims.specs.declared.claimed_word.ClaimedWord.{ClaimedWord}
use Rattle.cps_claims.specs.declared.claimed_words.ClaimedWords.{ClaimedWords}
use Rattle.cps_claims.specs.Code.Held.{Holds}
use Rattle.cps_claims.proofs.SlotLemmas.{with_tests, empty-slot}

slot-case : (b : Bool) (state : WordState) (place digit row other : ℕ)
    → (cond b (with_claim_here state place digit row) state).slots other ≡ cond (b && (place == other)) (with_digit (state.slots other) digit) (state.slots other)
slot-case true state place digit row other = refl
slot-case false state place digit row other = refl

-- the slot of a place after one claim more
slot-after : (states : ℕ → WordState) (claim : Claimed) (address place : ℕ)
    → (with_claim states claim address).slots place ≡ cond (is_for address place claim) (with_digit ((states address).slots place) claim.digit) ((states address).slots place)
slot-after states claim address place = slot-case (claim.address == address) (states address) claim.place claim.digit claim.row place

turned-cond : {X : Type 0} (b : Bool) (x y : X) → cond (not b) x y ≡ cond b y x
turned-cond true x y = refl
turned-cond false x y = refl

-- the first known claim that passes, with one more in front
find-known : (test : Claimed → Bool) (claim : Claimed) (claims : List Claimed) (new : Bool)
    → find test (cond new (claim ∷ known claims) (known claims)) ≡ cond new (cond (test claim) (Some claim) (find test (known claims))) (find test (known claims))
find-known test claim claims true = refl
find-known test claim claims false = refl

-- ---- the digit that is shown

abbrev shown_then : ℕ → Option Claimed → Bool → ℕ
shown_then shown found later = cond (is_octal shown) shown (option_map_or (λ claim. claim.digit) found (cond later 63 shown))

shown-none : (shown : ℕ) (b : Bool) → cond b shown shown ≡ shown
shown-none shown true = refl
shown-none shown false = refl

shown-case : (b new known same again : Bool) (slot : ClaimedDigit) (claim : Claimed) (found : Option Claimed) (later : Bool)
    → is_octal claim.digit ≡ new → is_octal slot.shown ≡ known
    → shown_then (cond b (with_tests new known same again slot claim.digit) slot).shown found later
    ≡ cond known slot.shown (option_map_or (λ claim. claim.digit) (cond new (cond b (Some claim) found) found) (cond (b || later) 63 slot.shown))
shown-case false true known same again slot claim found later hd hs = ap (λ k. cond k slot.shown (option_map_or (λ claim. claim.digit) found (cond later 63 slot.shown))) hs
shown-case false false known same again slot claim found later hd hs = ap (λ k. cond k slot.shown (option_map_or (λ claim. claim.digit) found (cond later 63 slot.shown))) hs
shown-case true true true true again slot claim found later hd hs = ap (λ k. cond k slot.shown (option_map_or (λ claim. claim.digit) found (cond later 63 slot.shown))) hs
shown-case true true true false true slot claim found later hd hs = ap (λ k. cond k slot.shown (option_map_or (λ claim. claim.digit) found (cond later 63 slot.shown))) hs
shown-case true true true false false slot claim found later hd hs = ap (λ k. cond k slot.shown (option_map_or (λ claim. claim.digit) found (cond later 63 slot.shown))) hs
shown-case true true false same again slot claim found later hd hs =
    ap (λ k. cond k claim.digit (option_map_or (λ claim. claim.digit) found (cond later 63 claim.digit))) hd
shown-case true false true same again slot claim found later hd hs = ap (λ k. cond k slot.shown (option_map_or (λ claim. claim.digit) found (cond later 63 slot.shown))) hs
shown-case true false false same again slot claim found later hd hs = ap (option_map_or (λ (claim : Claimed). claim.digit) found) (shown-none 63 later)

shown-all : (claims : List Claimed) (states : ℕ → WordState) (address place : ℕ)
    → ((after states claims address).slots place).shown
    ≡ shown_then ((states address).slots place).shown (first_known claims address place) (list_any (is_for address place) claims)
shown-all [] states address place = sym (shown-none ((states address).slots place).shown (is_octal ((states address).slots place).shown))
shown-all (claim ∷ claims) states address place =
    let slot = (states address).slots place in
    let found = first_known claims address place in
    let later = list_any (is_for address place) claims in
    shown-all claims (with_claim states claim) address place
    ∙ ap (λ (slot : ClaimedDigit). shown_then slot.shown found later) (slot-after states claim address place)
    ∙ shown-case (is_for address place claim) (is_octal claim.digit) (is_octal slot.shown) (claim.digit == slot.shown) (is_octal slot.again) slot claim found later refl refl
    ∙ ap (λ found. cond (is_octal slot.shown) slot.shown (option_map_or (λ claim. claim.digit) found (cond (is_for address place claim || later) 63 slot.shown)))
    (sym (find-known (is_for address place) claim claims (is_octal claim.digit)))

pub shown-held : (claims : List Claimed) (address place : ℕ) → ((after none_claimed claims address).slots place).shown ≡ shown_digit claims address place
shown-held claims address place =
    shown-all claims none_claimed address place
    ∙ ap (λ (slot : ClaimedDigit). shown_then slot.shown (first_known claims address place) (list_any (is_for address place) claims)) (empty-slot place)

-- ---- the digit that is contrary

abbrev other_from : ℕ → ℕ → List Claimed → ℕ → ℕ → ℕ
other_from address place claims none digit =
    option_map_or (λ (claim : Claimed). claim.digit) (find (λ (claim : Claimed). is_for address place claim && not (claim.digit == digit)) (known claims)) none

abbrev again_then : ℕ → ℕ → List Claimed → ClaimedDigit → ℕ
again_then address place claims slot =
    cond (is_octal slot.shown)
    (cond (is_octal slot.again) slot.again (other_from address place claims slot.again slot.shown))
    (option_map_or (λ (first : Claimed). other_from address place claims 32 first.digit) (first_known claims address place) slot.again)

-- a claim for another digit, or a mark, is passed over
other-skips-at : (address place : ℕ) (claim : Claimed) (claims : List Claimed) (digit : ℕ) (new b : Bool) → is_for address place claim ≡ b → is_octal claim.digit ≡ new → (new && b) ≡ false
    → find (λ (claim : Claimed). is_for address place claim && not (claim.digit == digit)) (known (claim ∷ claims))
    ≡ find (λ (claim : Claimed). is_for address place claim && not (claim.digit == digit)) (known claims)
other-skips-at address place claim claims digit true true here hd skip = let no : true ≡ false = skip in cc
other-skips-at address place claim claims digit true false here hd skip =
    let test = λ (claim : Claimed). is_for address place claim && not (claim.digit == digit) in
    ap (λ n. find test (cond n (claim ∷ known claims) (known claims))) hd
    ∙ ap (λ t. cond (t && not (claim.digit == digit)) (Some claim) (find test (known claims))) here
other-skips-at address place claim claims digit false b here hd skip =
    let test = λ (claim : Claimed). is_for address place claim && not (claim.digit == digit) in
    ap (λ n. find test (cond n (claim ∷ known claims) (known claims))) hd

first-skips : (address place : ℕ) (claim : Claimed) (claims : List Claimed) (new b : Bool) → is_for address place claim ≡ b → is_octal claim.digit ≡ new → (new && b) ≡ false
    → first_known (claim ∷ claims) address place ≡ first_known claims address place
first-skips address place claim claims true true here hd skip = let no : true ≡ false = skip in cc
first-skips address place claim claims true false here hd skip =
    ap (λ n. find (is_for address place) (cond n (claim ∷ known claims) (known claims))) hd
    ∙ ap (λ t. cond t (Some claim) (first_known claims address place)) here
first-skips address place claim claims false b here hd skip = ap (λ n. find (is_for address place) (cond n (claim ∷ known claims) (known claims))) hd

again-same : (address place : ℕ) (claim : Claimed) (claims : List Claimed) (slot : ClaimedDigit) (new b : Bool) → is_for address place claim ≡ b → is_octal claim.digit ≡ new → (new && b) ≡ false
    → again_then address place claims slot ≡ again_then address place (claim ∷ claims) slot
again-same address place claim claims slot new b here hd skip =
    let apart = λ (digit : ℕ). sym (other-skips-at address place claim claims digit new b here hd skip) in
    (λ i. cond (is_octal slot.shown)
    (cond (is_octal slot.again) slot.again (option_map_or (λ (claim : Claimed). claim.digit) (apart slot.shown i) slot.again))
    (option_map_or (λ (first : Claimed). option_map_or (λ (claim : Claimed). claim.digit) (apart first.digit i) 32) (first_known claims address place) slot.again))
    ∙ (λ i. cond (is_octal slot.shown)
    (cond (is_octal slot.again) slot.again (other_from address place (claim ∷ claims) slot.again slot.shown))
    (option_map_or (λ (first : Claimed). other_from address place (claim ∷ claims) 32 first.digit) (sym (first-skips address place claim claims new b here hd skip) i) slot.again))

-- the first that can be read
first-here : (address place : ℕ) (claim : Claimed) (claims : List Claimed) → is_for address place claim ≡ true → is_octal claim.digit ≡ true
    → first_known (claim ∷ claims) address place ≡ Some claim
first-here address place claim claims here hd =
    ap (λ n. find (is_for address place) (cond n (claim ∷ known claims) (known claims))) hd
    ∙ ap (λ t. cond t (Some claim) (first_known claims address place)) here

-- a known claim beside a digit
other-here : (address place : ℕ) (claim : Claimed) (claims : List Claimed) (digit : ℕ) (same : Bool) → is_for address place claim ≡ true → is_octal claim.digit ≡ true → (claim.digit == digit) ≡ same
    → find (λ (claim : Claimed). is_for address place claim && not (claim.digit == digit)) (known (claim ∷ claims))
    ≡ cond same (find (λ (claim : Claimed). is_for address place claim && not (claim.digit == digit)) (known claims)) (Some claim)
other-here address place claim claims digit same here hd he =
    let test = λ (claim : Claimed). is_for address place claim && not (claim.digit == digit) in
    ap (λ n. find test (cond n (claim ∷ known claims) (known claims))) hd
    ∙ (λ i. cond (here i && not (he i)) (Some claim) (find test (known claims)))
    ∙ turned-cond same (Some claim) (find test (known claims))

again-case : (address place : ℕ) (claim : Claimed) (claims : List Claimed) (slot : ClaimedDigit) (b new known same again : Bool)
    → is_for address place claim ≡ b → is_octal claim.digit ≡ new → is_octal slot.shown ≡ known → (claim.digit == slot.shown) ≡ same → is_octal slot.again ≡ again
    → again_then address place claims (cond b (with_tests new known same again slot claim.digit) slot) ≡ again_then address place (claim ∷ claims) slot
again-case address place claim claims slot false true known same again here hd hs he ha = again-same address place claim claims slot true false here hd refl
again-case address place claim claims slot false false known same again here hd hs he ha = again-same address place claim claims slot false false here hd refl
-- a mark
again-case address place claim claims slot true false true same again here hd hs he ha = again-same address place claim claims slot false true here hd refl
again-case address place claim claims slot true false false same again here hd hs he ha =
    ap (λ k. cond k (cond (is_octal slot.again) slot.again (other_from address place claims slot.again slot.shown))
    (option_map_or (λ (first : Claimed). other_from address place claims 32 first.digit) (first_known claims address place) slot.again)) (sym hs)
    ∙ again-same address place claim claims slot false true here hd refl
-- the first digit that can be read
again-case address place claim claims slot true true false same again here hd hs he ha =
    let self : (claim.digit == claim.digit) ≡ true = eq-eqb claim.digit claim.digit refl in
    ap (λ k. cond k (other_from address place claims 32 claim.digit)
    (option_map_or (λ (first : Claimed). other_from address place claims 32 first.digit) (first_known claims address place) 32)) hd
    ∙ sym (ap (λ k. cond k (cond (is_octal slot.again) slot.again (other_from address place (claim ∷ claims) slot.again slot.shown))
    (option_map_or (λ (first : Claimed). other_from address place (claim ∷ claims) 32 first.digit) (first_known (claim ∷ claims) address place) slot.again)) hs
    ∙ ap (λ found. option_map_or (λ (first : Claimed). other_from address place (claim ∷ claims) 32 first.digit) found slot.again) (first-here address place claim claims here hd)
    ∙ ap (λ found. option_map_or (λ (claim : Claimed). claim.digit) found 32) (other-here address place claim claims claim.digit true here hd self))
-- the same digit
again-case address place claim claims slot true true true true again here hd hs he ha =
    ap (λ k. cond k (cond (is_octal slot.again) slot.again (other_from address place claims slot.again slot.shown))
    (option_map_or (λ (first : Claimed). other_from address place claims 32 first.digit) (first_known claims address place) slot.again)) hs
    ∙ sym (ap (λ k. cond k (cond (is_octal slot.again) slot.again (other_from address place (claim ∷ claims) slot.again slot.shown))
    (option_map_or (λ (first : Claimed). other_from address place (claim ∷ claims) 32 first.digit) (first_known (claim ∷ claims) address place) slot.again)) hs
    ∙ ap (λ found. cond (is_octal slot.again) slot.again (option_map_or (λ (claim : Claimed). claim.digit) found slot.again)) (other-here address place claim claims slot.shown true here hd he))
-- one more contrary digit
again-case address place claim claims slot true true true false true here hd hs he ha =
    (λ i. cond (hs i) (cond (ha i) slot.again (other_from address place claims slot.again slot.shown))
    (option_map_or (λ (first : Claimed). other_from address place claims 32 first.digit) (first_known claims address place) slot.again))
    ∙ sym (λ i. cond (hs i) (cond (ha i) slot.again (other_from address place (claim ∷ claims) slot.again slot.shown))
    (option_map_or (λ (first : Claimed). other_from address place (claim ∷ claims) 32 first.digit) (first_known (claim ∷ claims) address place) slot.again))
-- the first contrary digit
again-case address place claim claims slot true true true false false here hd hs he ha =
    (λ i. cond (hs i) (cond (hd i) claim.digit (other_from address place claims claim.digit slot.shown))
    (option_map_or (λ (first : Claimed). other_from address place claims 32 first.digit) (first_known claims address place) claim.digit))
    ∙ sym ((λ i. cond (hs i) (cond (ha i) slot.again (other_from address place (claim ∷ claims) slot.again slot.shown))
    (option_map_or (λ (first : Claimed). other_from address place (claim ∷ claims) 32 first.digit) (first_known (claim ∷ claims) address place) slot.again))
    ∙ ap (λ found. option_map_or (λ (claim : Claimed). claim.digit) found slot.again) (other-here address place claim claims slot.shown false here hd he))

again-all : (claims : List Claimed) (states : ℕ → WordState) (address place : ℕ)
    → ((after states claims address).slots place).again ≡ again_then address place claims ((states address).slots place)
again-all [] states address place =
    let slot = (states address).slots place in
    sym (shown-none slot.again (is_octal slot.shown)) ∙ ap (λ n. cond (is_octal slot.shown) n slot.again) (sym (shown-none slot.again (is_octal slot.again)))
again-all (claim ∷ claims) states address place =
    let slot = (states address).slots place in
    again-all claims (with_claim states claim) address place
    ∙ ap (again_then address place claims) (slot-after states claim address place)
    ∙ again-case address place claim claims slot (is_for address place claim) (is_octal claim.digit) (is_octal slot.shown) (claim.digit == slot.shown) (is_octal slot.again) refl refl refl refl refl

pub again-held : (claims : List Claimed) (address place : ℕ) → ((after none_claimed claims address).slots place).again ≡ again_digit claims address place
again-held claims address place = again-all claims none_claimed address place ∙ ap (again_then address place claims) (empty-slot place)

-- ---- the rows

abbrev HaveRows : List Claimed → Type 0
HaveRows claims = AllByRecursion (λ (claim : Claimed). 0 < claim.row) claims

first-more : (first row found : ℕ) (b zero : Bool) → 0 < row → (first == 0) ≡ zero
    → cond ((cond b (cond (first == 0) row first) first) == 0) found (cond b (cond (first == 0) row first) first) ≡ cond (first == 0) (cond b row found) first
first-more first row found true true some is =
    let taken : (row == 0) ≡ false = grind (arith, nat_tests) in
    (λ i. cond (cond (is i) row first == 0) found (cond (is i) row first)) ∙ ap (λ t. cond t found row) taken ∙ sym (ap (λ t. cond t row first) is)
first-more first row found true false some is =
    (λ i. cond (cond (is i) row first == 0) found (cond (is i) row first)) ∙ ap (λ t. cond t found first) is ∙ sym (ap (λ t. cond t row first) is)
first-more first row found false zero some is = refl

none-first : (first : ℕ) (zero : Bool) → (first == 0) ≡ zero → first ≡ cond zero 0 first
none-first first true is = grind (arith, nat_tests)
none-first first false is = refl

first-case : (b : Bool) (state : WordState) (place digit row : ℕ)
    → (cond b (with_claim_here state place digit row) state).first ≡ cond b (cond (state.first == 0) row state.first) state.first
first-case true state place digit row = refl
first-case false state place digit row = refl

found-row : (b : Bool) (claim : Claimed) (found : Option Claimed) → option_map_or (λ (claim : Claimed). claim.row) (cond b (Some claim) found) 0 ≡ cond b claim.row (option_map_or (λ (claim : Claimed). claim.row) found 0)
found-row true claim found = refl
found-row false claim found = refl

first-all : (claims : List Claimed) (states : ℕ → WordState) (address : ℕ) → HaveRows claims
    → (after states claims address).first ≡ cond ((states address).first == 0) (first_row claims address) (states address).first
first-all [] states address rows = none-first (states address).first ((states address).first == 0) refl
first-all (claim ∷ claims) states address rows =
    let first = (states address).first in
    let b = claim.address == address in
    first-all claims (with_claim states claim) address rows.1
    ∙ ap (λ first. cond (first == 0) (first_row claims address) first) (first-case b (states address) claim.place claim.digit claim.row)
    ∙ first-more first claim.row (first_row claims address) b (first == 0) rows.0 refl
    ∙ ap (λ found. cond (first == 0) found first) (sym (found-row b claim (find (λ (claim : Claimed). claim.address == address) claims)))

pub first-held : (claims : List Claimed) (address : ℕ) → HaveRows claims → (after none_claimed claims address).first ≡ first_row claims address
first-held claims address rows = first-all claims none_claimed address rows

-- one claim more
pushed : (before : List Claimed) (claim : Claimed) → with_claim (after none_claimed before) claim ≡ after none_claimed (before ++ claim ∷ [])
pushed before claim = sym (fold_push with_claim none_claimed before claim)

-- a test of what is shown, told of the claims before
module _ (test : ℕ → ℕ → Bool) where
  abbrev beside : List Claimed → Claimed → Bool
  beside before claim = test (shown_digit before claim.address claim.place) claim.digit

  told : (before : List Claimed) (claim : Claimed) (address : ℕ) (b : Bool) → (claim.address == address) ≡ b
      → (b && test ((after none_claimed before address).slots claim.place).shown claim.digit) ≡ (b && beside before claim)
  told before claim address true is =
      let same : claim.address ≡ address = eqb-true claim.address address is in
      ap (λ shown. test shown claim.digit) (shown-held before address claim.place)
      ∙ ap (λ n. test (shown_digit before n claim.place) claim.digit) (sym same)
  told before claim address false is = refl

  last_step : (b : Bool) (state : WordState) (place digit row : ℕ) → ((slot : ClaimedDigit) → is_new slot digit ≡ test slot.shown digit)
      → (cond b (with_claim_here state place digit row) state).last ≡ cond (b && test (state.slots place).shown digit) row state.last
  last_step true state place digit row same = ap (λ t. cond t row state.last) (same (state.slots place))
  last_step false state place digit row same = refl

  last_cons : (b : Bool) (row last : ℕ) (rows : List ℕ) → fold (λ last row. row) (cond b row last) rows ≡ fold (λ last row. row) last (cond b (row ∷ rows) rows)
  last_cons true row last rows = refl
  last_cons false row last rows = refl

  last_all : ((digit : ℕ) → (slot : ClaimedDigit) → is_new slot digit ≡ test slot.shown digit)
      → (claims before : List Claimed) (address : ℕ)
      → (after (after none_claimed before) claims address).last ≡ fold (λ last row. row) (after none_claimed before address).last (rows_passing beside address before claims)
  last_all same [] before address = refl
  last_all same (claim ∷ claims) before address =
      let b = claim.address == address in
      let rest = rows_passing beside address (before ++ claim ∷ []) claims in
      ap (λ (states : ℕ → WordState). (after states claims address).last) (pushed before claim)
      ∙ last_all same claims (before ++ claim ∷ []) address
      ∙ ap (λ (states : ℕ → WordState). fold (λ last row. row) (states address).last rest) (sym (pushed before claim))
      ∙ ap (λ last. fold (λ last row. row) last rest) (last_step b (after none_claimed before address) claim.place claim.digit claim.row (same claim.digit))
      ∙ ap (λ t. fold (λ last row. row) (cond t claim.row (after none_claimed before address).last) rest) (told before claim address b refl)
      ∙ last_cons (b && beside before claim) claim.row (after none_claimed before address).last rest

  again_step : (b : Bool) (state : WordState) (place digit row : ℕ) → ((slot : ClaimedDigit) → is_contrary slot digit ≡ test slot.shown digit)
      → (cond b (with_claim_here state place digit row) state).again ≡ cond (b && test (state.slots place).shown digit) (cond (state.again == 0) row state.again) state.again
  again_step true state place digit row same = ap (λ t. cond t (cond (state.again == 0) row state.again) state.again) (same (state.slots place))
  again_step false state place digit row same = refl

  again_cons : (b : Bool) (row : ℕ) (rows : List ℕ) → first_of_rows (cond b (row ∷ rows) rows) ≡ cond b row (first_of_rows rows)
  again_cons true row rows = refl
  again_cons false row rows = refl

  again_all : ((digit : ℕ) → (slot : ClaimedDigit) → is_contrary slot digit ≡ test slot.shown digit)
      → (claims before : List Claimed) (address : ℕ) → HaveRows claims
      → (after (after none_claimed before) claims address).again
      ≡ cond ((after none_claimed before address).again == 0) (first_of_rows (rows_passing beside address before claims)) (after none_claimed before address).again
  again_all same [] before address rows = none-first (after none_claimed before address).again ((after none_claimed before address).again == 0) refl
  again_all same (claim ∷ claims) before address rows =
      let b = claim.address == address in
      let again = (after none_claimed before address).again in
      let rest = rows_passing beside address (before ++ claim ∷ []) claims in
      ap (λ (states : ℕ → WordState). (after states claims address).again) (pushed before claim)
      ∙ again_all same claims (before ++ claim ∷ []) address rows.1
      ∙ ap (λ (states : ℕ → WordState). cond ((states address).again == 0) (first_of_rows rest) (states address).again) (sym (pushed before claim))
      ∙ ap (λ again. cond (again == 0) (first_of_rows rest) again)
      (again_step b (after none_claimed before address) claim.place claim.digit claim.row (same claim.digit)
      ∙ ap (λ t. cond t (cond (again == 0) claim.row again) again) (told before claim address b refl))
      ∙ first-more again claim.row (first_of_rows rest) (b && beside before claim) (again == 0) rows.0 refl
      ∙ ap (λ found. cond (again == 0) found again) (sym (again_cons (b && beside before claim) claim.row rest))

pub last-held : (claims : List Claimed) (address : ℕ) → (after none_claimed claims address).last ≡ last_row claims address
last-held claims address = last_all (λ shown digit. not (is_octal shown) && (is_octal digit || not (shown == 63))) (λ digit slot. refl) claims [] address

pub again-row-held : (claims : List Claimed) (address : ℕ) → HaveRows claims → (after none_claimed claims address).again ≡ again_row claims address
again-row-held claims address rows = again_all (λ shown digit. is_octal shown && is_octal digit && not (digit == shown)) (λ digit slot. refl) claims [] address rows

-- ---- a word

-- what is kept of a word shows the claims
pub shows : (words : ClaimedWords) (claims : List Claimed) → Holds words claims → (address : ℕ) (word : ClaimedWord) → state_of word ≡ state_at words.words.items address
    → Shows claims address word
shows words claims holds address word is =
    let same : state_of word ≡ after none_claimed claims address = is ∙ ap (λ (states : ℕ → WordState). states address) holds.states in
    record {
      digits = λ place. ap (λ (state : WordState). (state.slots place).shown) same ∙ shown-held claims address place;
      contrary = λ place. ap (λ (state : WordState). (state.slots place).again) same ∙ again-held claims address place;
      first = ap (λ (state : WordState). state.first) same ∙ first-held claims address holds.rows;
      last = ap (λ (state : WordState). state.last) same ∙ last-held claims address;
      again = ap (λ (state : WordState). state.again) same ∙ again-row-held claims address holds.rows;
    }
