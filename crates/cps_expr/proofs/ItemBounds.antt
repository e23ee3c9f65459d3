-- A data item fits its word.
use Rattle.std.proofs.Common.{◌≡◌, ℕ, zero, suc, ◌+◌, ◌-◌, ◌^◌, ◌<◌, ◌≤◌, Bool, true, false, cond, ◌&&◌, List, [], ◌∷◌, ◌++◌, length, replicate, take, ◌==◌, Option, None, Some, refl, ◌∙◌, subst, arith}
use Rattle.std.specs.Prelude.{All, fold, unwrap_or, option_map, nat_lt}
use Rattle.std.specs.Option.{option_or}
use Rattle.std.proofs.lemmas.Bool.Decides.{nat_tests}
use Rattle.std.proofs.lemmas.List.{length-append, length-map, length-replicate}
use Rattle.std.proofs.lemmas.List.Quantifiers.{position-Some}
use Rattle.cps_text.specs.declared.data_item.Side.{Side}
use Rattle.cps_text.specs.declared.data_item.Side.TheVariants.{Left, Right, LeftWithBlanks}
use Rattle.cps_text.specs.DataItem.{ItemParts}
use Rattle.cps_text.specs.Display.{display_characters, display_of}
use Rattle.cps_text.specs.ItemInFront.{item_in_front}
use Rattle.cps_text.specs.Text.{capital}
use Rattle.cps_text.proofs.ItemReading.{begins, few}
use Rattle.cps_expr.specs.declared.machine.Machine.{Machine}
use Rattle.cps_expr.specs.declared.machine.Machine.TheVariants.{Cp, Pp}
use Rattle.cps_expr.specs.declared.radix.Radix.{Radix}
use Rattle.cps_expr.specs.Item.{bits_of, characters_in_word, numeral_of, signed_word, number_item, codes_of, with_code, blank_code, filled, sided, text_word, text_item, item_of}
use Rattle.cps_expr.specs.Number.{base_of, number_in, number_with, number_of, base_named, last}

-- ---- numbers

below : (a b : Bool) (n number limit : ℕ) (test : Bool) → nat_lt n limit ≡ test → cond (a && (b && test)) (Some n) None ≡ Some number → number < limit
below true true n number limit true less is = let same : n ≡ number = cc in grind (arith, nat_tests)
below true true n number limit false less is = absurd (cc)
below true false n number limit test less is = absurd (cc)
below false b n number limit test less is = absurd (cc)

number_in-below : (limit base : ℕ) (digits : List ℕ) (number : ℕ) → number_in limit base digits ≡ Some number → number < limit
number_in-below limit base digits number is = below (nat_lt 0 (length digits)) _ _ number limit _ refl is

number_with-below : (limit : ℕ) (base : Option ℕ) (radix : Radix) (text : List ℕ) (number : ℕ) → number_with limit base radix text ≡ Some number → number < limit
number_with-below limit None radix text number is = number_in-below limit (base_of radix) text number is
number_with-below limit (Some base) radix text number is = number_in-below limit base (take (length text - 1) text) number is

signed-below : (limit number : ℕ) (test : Bool) → number < limit → cond test (limit - 1 - number) number < limit
signed-below limit number true less = omega arith
signed-below limit number false less = less

number-fits : (machine : Machine) (text : List ℕ) (item : ℕ × ℕ) (extent : ℕ) (found : Option ℕ) → ((number : ℕ) → found ≡ Some number → number < 2 ^ bits_of machine)
    → option_map (λ number. (signed_word machine text number, extent)) found ≡ Some item → item.0 < 2 ^ bits_of machine
number-fits machine text item extent None small is = absurd (cc)
number-fits machine text item extent (Some number) small is =
    let same : (signed_word machine text number, extent) ≡ item = cc in
    let P : ℕ × ℕ → Type 0 = λ i. i.0 < 2 ^ bits_of machine in
    subst P same (signed-below (2 ^ bits_of machine) number _ (small number refl))

-- ---- codes

abbrev pub AreBelow : ℕ → List ℕ → Type 0
AreBelow limit [] = Unit {0}
AreBelow limit (n ∷ ns) = (n < limit) × AreBelow limit ns

pub all-below : (limit : ℕ) (ns : List ℕ) → AreBelow limit ns → All (λ n. n < limit) ns
all-below limit [] below k d within = absurd (omega arith)
all-below limit (n ∷ ns) below zero d within = below.0
all-below limit (n ∷ ns) below (suc k) d within = all-below limit ns below.1 k d (omega arith)

abbrev AreCodes : List ℕ → Type 0
AreCodes codes = AreBelow 64 codes

code-small : (character : ℕ) (code : Option ℕ) → display_of character ≡ code → unwrap_or code 0 < 64
unfolding display_characters
code-small character None is = omega arith
code-small character (Some code) is = (position-Some (λ c. c == capital character) display_characters code 0 is).0

codes-small : (characters : List ℕ) → AreCodes (codes_of characters)
codes-small [] = tt
codes-small (c ∷ characters) = (code-small c (display_of c) refl, codes-small characters)

same-small : (n code : ℕ) → code < 64 → AreCodes (replicate n code)
same-small zero code small = tt
same-small (suc n) code small = (small, same-small n code small)

both-small : (front back : List ℕ) → AreCodes front → AreCodes back → AreCodes (front ++ back)
both-small [] back f b = b
both-small (c ∷ front) back f b = (f.0, both-small front back f.1 b)

packed-small : (word n : ℕ) (codes : List ℕ) → word < 64 ^ n → AreCodes codes → fold with_code word codes < 64 ^ (n + length codes)
packed-small word n [] fits small = let same : n + length {A = ℕ} [] ≡ n = omega arith in rw same fits
packed-small word n (code ∷ codes) fits small =
    let next : with_code word code < 64 ^ suc n = let c = small.0 in grind arith in
    let same : n + length (code ∷ codes) ≡ suc n + length codes = omega arith in
    rw same (packed-small (with_code word code) (suc n) codes next small.1)

filled-length : (count code : ℕ) (given : List ℕ) → length given ≤ count → length (filled count code given) ≡ count
filled-length count code given within = omega (arith, length-append given (replicate (count - length given) code), length-replicate (count - length given) code)

filled-small : (count code : ℕ) (given : List ℕ) → code < 64 → AreCodes given → AreCodes (filled count code given)
filled-small count code given small all = both-small given (replicate (count - length given) code) all (same-small (count - length given) code small)

sided-length : (most : ℕ) (side : Side) (given : List ℕ) → length given ≤ most → length (sided most side given) ≡ most
sided-length most Left given within = filled-length most 0 given within
sided-length most LeftWithBlanks given within = filled-length most blank_code given within
sided-length most Right given within = omega (arith, length-append (replicate (most - length given) 0) given, let none : ℕ = 0 in length-replicate (most - length given) none)

sided-small : (most : ℕ) (side : Side) (given : List ℕ) → AreCodes given → AreCodes (sided most side given)
sided-small most Left given all = filled-small most 0 given (omega arith) all
sided-small most LeftWithBlanks given all = filled-small most blank_code given (omega arith) all
sided-small most Right given all = both-small (replicate (most - length given) 0) given (same-small (most - length given) 0 (omega arith)) all

text_word-small : (most : ℕ) (item : ItemParts) → length item.characters ≤ item.count → item.count ≤ most → text_word most item < 64 ^ most
text_word-small most item behind within =
    let codes = codes_of item.characters in
    let many : length codes ≡ length item.characters = length-map item.characters (λ c. unwrap_or (display_of c) 0) in
    let given = filled item.count blank_code codes in
    let count : length given ≡ item.count = filled-length item.count blank_code codes (omega arith) in
    let word = sided most item.side given in
    let size : 0 + length word ≡ most = omega (arith, sided-length most item.side given (omega arith)) in
    rw size at (packed-small 0 0 word (omega arith) (sided-small most item.side given (filled-small item.count blank_code codes (omega arith) (codes-small item.characters))))

word-bits : (machine : Machine) → 64 ^ characters_in_word machine ≡ 2 ^ bits_of machine
word-bits Cp = refl
word-bits Pp = refl

text-fits : (machine : Machine) (text : List ℕ) (item : ℕ × ℕ) (found : Option ItemParts) → item_in_front (characters_in_word machine) text ≡ found
    → option_map (λ parts. (text_word (characters_in_word machine) parts, length text - length parts.rest)) found ≡ Some item → item.0 < 2 ^ bits_of machine
text-fits machine text item None here is = absurd (cc)
text-fits machine text item (Some parts) here is =
    let most = characters_in_word machine in
    let same : (text_word most parts, length text - length parts.rest) ≡ item = cc in
    let facts = few most text parts (begins most text parts here) in
    let P : ℕ × ℕ → Type 0 = λ i. i.0 < 2 ^ bits_of machine in
    subst P same (rw (word-bits machine) at (text_word-small most parts facts.0 facts.1))

-- ---- items

either-fits : (radix : Radix) (machine : Machine) (text : List ℕ) (item : ℕ × ℕ) (number : Option (ℕ × ℕ)) → number_item radix machine text ≡ number
    → option_or number (text_item (characters_in_word machine) text) ≡ Some item → item.0 < 2 ^ bits_of machine
either-fits radix machine text item None here is = text-fits machine text item (item_in_front (characters_in_word machine) text) refl is
either-fits radix machine text item (Some number) here is =
    number-fits machine text item _ (number_of (2 ^ bits_of machine) radix (numeral_of text))
    (λ n found. number_with-below (2 ^ bits_of machine) (base_named (last (numeral_of text))) radix (numeral_of text) n found) (here ∙ is)

pub item-fits : (radix : Radix) (machine : Machine) (text : List ℕ) (item : ℕ × ℕ) → item_of radix machine text ≡ Some item → item.0 < 2 ^ bits_of machine
item-fits radix machine text item is = either-fits radix machine text item (number_item radix machine text) refl is
