-- The item in front of a text is the one that the rule tells.
use Rattle.std.proofs.Common.{◌≡◌, ℕ, zero, suc, ◌+◌, ◌<◌, ◌≤◌, Bool, true, false, cond, not, ◌&&◌, ltb, List, [], ◌∷◌, ◌++◌, length, get_or, take, drop, Option, None, Some, ◌⊎◌, inl, inr, refl, sym, ap, ◌∙◌, subst, arith, ◌==◌}
use Rattle.std.specs.Prelude.{nat_le, option_map, IfSome}
use Rattle.std.specs.List.{list_all, position, position_or_len}
use Rattle.std.specs.Option.{option_or}
use Rattle.std.proofs.Math.Seq.{take-append_seam, drop-append_seam, split_at}
use Rattle.std.proofs.lemmas.Bool.Decides.{nat_tests}
use Rattle.std.proofs.lemmas.List.{length-append, length-take-le, take-append-drop}
use Rattle.std.proofs.lemmas.List.Quantifiers.{position-Some}
use Rattle.cps_text.specs.declared.data_item.Side.{Side}
use Rattle.cps_text.specs.DataItem.{ItemParts, side_named, is_delimiter, IsCounted, IsDelimited, BeginsWithItem}
use Rattle.cps_text.specs.Digits.{digits_number}
use Rattle.cps_text.specs.Display.{has_display}
use Rattle.cps_text.specs.ItemInFront.{is_count, item_with, is_no_digit, digits_len, counted_behind, counted_item, delimited_at, delimited_item, item_in_front}
use Rattle.cps_text.specs.Text.{is_digit, is_lower}

-- ---- counts

pub no_count : (most count : ℕ) (text : List ℕ) → is_count most count ≡ false → None ≡ counted_behind most count text
no_count most count [] is = refl
no_count most count (letter ∷ text) is = rw is refl

and_false : (b : Bool) → (b && false) ≡ false
and_false true = refl
and_false false = refl

pub no_count-above : (most count : ℕ) → most < count → is_count most count ≡ false
no_count-above most count above = let no : nat_le count most ≡ false = grind (arith, nat_tests) in rw no (and_false (nat_le 1 count))

-- ---- places

-- the place of the first character that passes, behind characters that don't
place-more : (p q : ℕ → Bool) (test : Bool) (x n : ℕ) (front text : List ℕ) → ((x : ℕ) → q x ≡ true → p x ≡ false) → q x ≡ test → list_all q (x ∷ front) ≡ true
    → (list_all q front ≡ true → position_or_len p text ≡ n) → position_or_len p (x ∷ text) ≡ 1 + n
place-more p q true x n front text other here none more =
    let others : list_all q front ≡ true = rw here at none in
    rw (other x here) (ap (λ n. 1 + n) (more others))
place-more p q false x n front text other here none more = absurd (let no = rw here at none in cc)

place-behind : (p q : ℕ → Bool) (front : List ℕ) (c : ℕ) (rest : List ℕ) → ((x : ℕ) → q x ≡ true → p x ≡ false) → list_all q front ≡ true → p c ≡ true → position_or_len p (front ++ c ∷ rest) ≡ length front
place-behind p q [] c rest other none is = rw is refl
place-behind p q (x ∷ front) c rest other none is =
    let one : 1 + length front ≡ suc (length front) = omega arith in
    place-more p q (q x) x (length front) front (front ++ c ∷ rest) other refl none (λ others. place-behind p q front c rest other others is) ∙ one

no-digit : (letter : ℕ) → is_digit 10 letter ≡ true → side_named letter ≡ None
no-digit letter is =
    let small : is_lower letter ≡ false = grind (arith, nat_tests) in
    let no_l : (letter == 76) ≡ false = grind (arith, nat_tests) in
    let no_r : (letter == 82) ≡ false = grind (arith, nat_tests) in
    let no_h : (letter == 72) ≡ false = grind (arith, nat_tests) in
    rw (small, no_l, no_r, no_h) refl

letter-ends : (test : Bool) (letter : ℕ) (side : Side) → is_digit 10 letter ≡ test → side_named letter ≡ Some side → is_no_digit letter ≡ true
letter-ends true letter side is named = absurd (let no = sym (no-digit letter is) ∙ named in cc)
letter-ends false letter side is named = rw is refl

digit-goes-on : (x : ℕ) → is_digit 10 x ≡ true → is_no_digit x ≡ false
digit-goes-on x is = rw is refl

-- so many characters, fewer where the text ends
front-cut : (front rest : List ℕ) (n : ℕ) → length front ≤ n → (length front < n → rest ≡ []) → (take n (front ++ rest) ≡ front) × (drop n (front ++ rest) ≡ rest)
front-cut [] rest zero within fewer = (refl, refl)
front-cut [] rest (suc n) within fewer = let none = fewer (omega arith) in (rw none refl, rw none refl)
front-cut (c ∷ front) rest zero within fewer = absurd (omega arith)
front-cut (c ∷ front) rest (suc n) within fewer =
    let more = front-cut front rest n (omega arith) (λ less. fewer (omega arith)) in
    (ap (λ t. c ∷ t) more.0, more.1)

short-front : (n : ℕ) (text : List ℕ) → (length (take n text) ≤ n) × (length (take n text) < n → drop n text ≡ [])
short-front zero text = (omega arith, λ less. absurd (omega arith))
short-front (suc n) [] = (omega arith, λ less. refl)
short-front (suc n) (c ∷ text) = let more = short-front n text in (let within = more.0 in omega arith, λ less. more.1 (omega arith))

-- ---- what the rule tells is found

is_count-true : (most count : ℕ) → 1 ≤ count → count ≤ most → is_count most count ≡ true
is_count-true most count some few = grind (arith, nat_tests)

item-found : (most letter : ℕ) (item : ItemParts) → 1 ≤ item.count → item.count ≤ most → list_all has_display item.characters ≡ true → side_named letter ≡ Some item.side
    → item_with most letter item.count item.characters item.rest ≡ Some item
item-found most letter item some few displayed is = rw (is_count-true most item.count some few, displayed, is) refl

counted-cut : (most : ℕ) (text digits : List ℕ) (letter : ℕ) (behind : List ℕ) → text ≡ digits ++ letter ∷ behind → list_all (is_digit 10) digits ≡ true → is_no_digit letter ≡ true
    → counted_item most text ≡ counted_behind most (digits_number 10 digits) (letter ∷ behind)
counted-cut most text digits letter behind is decimal ends =
    let place : digits_len text ≡ length digits = ap digits_len is ∙ place-behind is_no_digit (is_digit 10) digits letter behind digit-goes-on decimal ends in
    let front : take (digits_len text) text ≡ digits = ap (λ n. take n text) place ∙ ap (take (length digits)) is ∙ take-append_seam digits (letter ∷ behind) in
    let back : drop (digits_len text) text ≡ letter ∷ behind = ap (λ n. drop n text) place ∙ ap (drop (length digits)) is ∙ drop-append_seam digits (letter ∷ behind) in
    ap (λ d. counted_behind most (digits_number 10 d) (drop (digits_len text) text)) front ∙ ap (counted_behind most (digits_number 10 digits)) back

counted-found : (most : ℕ) (text : List ℕ) (item : ItemParts) → IsCounted text item → 1 ≤ item.count → item.count ≤ most → list_all has_display item.characters ≡ true → counted_item most text ≡ Some item
counted-found most text item is some few displayed =
    let behind = item.characters ++ item.rest in
    let cut = front-cut item.characters item.rest item.count is.characters is.fewer in
    counted-cut most text is.digits is.letter behind is.parts is.decimal (letter-ends (is_digit 10 is.letter) is.letter item.side refl is.side)
    ∙ ap (λ n. item_with most is.letter n (take n behind) (drop n behind)) is.count
    ∙ ap (λ front. item_with most is.letter item.count front (drop item.count behind)) cut.0
    ∙ ap (item_with most is.letter item.count item.characters) cut.1
    ∙ item-found most is.letter item some few displayed is.side

not-counted : (most letter : ℕ) (text : List ℕ) → is_no_digit letter ≡ true → counted_item most (letter ∷ text) ≡ None
not-counted most letter text is = counted-cut most (letter ∷ text) [] letter text refl refl is

drop-behind : (front : List ℕ) (c : ℕ) (rest : List ℕ) → drop (length front + 1) (front ++ c ∷ rest) ≡ rest
drop-behind [] c rest = refl
drop-behind (x ∷ front) c rest =
    let one : length (x ∷ front) + 1 ≡ suc (length front + 1) = omega arith in
    ap (λ n. drop n (x ∷ (front ++ c ∷ rest))) one ∙ drop-behind front c rest

no-delimiter : (delimiter x : ℕ) → not (x == delimiter) ≡ true → (x == delimiter) ≡ false
no-delimiter delimiter x is = grind (arith, nat_tests)

same-number : (n : ℕ) → (n == n) ≡ true
same-number n = grind (arith, nat_tests)

place-some : (p : ℕ → Bool) (text : List ℕ) (n : ℕ) → position_or_len p text ≡ n → n < length text → position p text ≡ Some n
place-some p text n is within = let less : ltb n (length text) ≡ true = grind (arith, nat_tests) in rw (is, less) refl

delimiter-place : (delimiter : ℕ) (front rest : List ℕ) → list_all (λ c. not (c == delimiter)) front ≡ true → position (λ c. c == delimiter) (front ++ delimiter ∷ rest) ≡ Some (length front)
delimiter-place delimiter front rest between =
    place-some (λ c. c == delimiter) (front ++ delimiter ∷ rest) (length front)
    (place-behind (λ c. c == delimiter) (λ c. not (c == delimiter)) front delimiter rest (no-delimiter delimiter) between (same-number delimiter))
    (omega (arith, length-append front (delimiter ∷ rest)))

delimited-found : (most : ℕ) (text : List ℕ) (item : ItemParts) → IsDelimited text item → 1 ≤ item.count → item.count ≤ most → list_all has_display item.characters ≡ true → delimited_item most text ≡ Some item
delimited-found most text item is some few displayed =
    let behind = item.characters ++ is.delimiter ∷ item.rest in
    ap (delimited_item most) is.parts
    ∙ rw is.delimits (ap (delimited_at most is.letter behind) (delimiter-place is.delimiter item.characters item.rest is.between)
    ∙ ap (λ front. item_with most is.letter (length item.characters) front (drop (length item.characters + 1) behind)) (take-append_seam item.characters (is.delimiter ∷ item.rest))
    ∙ ap (item_with most is.letter (length item.characters) item.characters) (drop-behind item.characters is.delimiter item.rest)
    ∙ ap (λ n. item_with most is.letter n item.characters item.rest) (sym is.count)
    ∙ item-found most is.letter item some few displayed is.side)

found-by : (most : ℕ) (text : List ℕ) (item : ItemParts) → IsCounted text item ⊎ IsDelimited text item → 1 ≤ item.count → item.count ≤ most → list_all has_display item.characters ≡ true → item_in_front most text ≡ Some item
unfolding item_in_front
found-by most text item (inl is) some few displayed = ap (λ found. option_or found (delimited_item most text)) (counted-found most text item is some few displayed)
found-by most text item (inr is) some few displayed =
    let none : counted_item most text ≡ None =
    ap (counted_item most) is.parts ∙ not-counted most is.letter (is.delimiter ∷ (item.characters ++ is.delimiter ∷ item.rest)) (letter-ends (is_digit 10 is.letter) is.letter item.side refl is.side) in
    ap (λ found. option_or found (delimited_item most text)) none ∙ delimited-found most text item is some few displayed

pub found : (most : ℕ) (text : List ℕ) (item : ItemParts) → BeginsWithItem most text item → item_in_front most text ≡ Some item
found most text item is = found-by most text item is.written is.some is.few is.displayed

-- ---- what is found is what the rule tells

abbrev parts : Side → ℕ → List ℕ → List ℕ → ItemParts
parts side count characters rest = record { side = side; count = count; characters = characters; rest = rest }

-- what an item that was found says of its parts
pub record IsFound (most letter count : ℕ) (characters rest : List ℕ) (item : ItemParts) : Type 0 where
  pub some : 1 ≤ count
  pub few : count ≤ most
  pub displayed : list_all has_display characters ≡ true
  pub side : side_named letter ≡ Some item.side
  pub same : parts item.side count characters rest ≡ item

by-tests : (most letter count : ℕ) (characters rest : List ℕ) (item : ItemParts) (a b c : Bool) (named : Option Side) → nat_le 1 count ≡ a → nat_le count most ≡ b → list_all has_display characters ≡ c → side_named letter ≡ named
    → cond ((a && b) && c) (option_map (λ side. parts side count characters rest) named) None ≡ Some item → IsFound most letter count characters rest item
by-tests most letter count characters rest item true true true (Some side) some few displayed named is =
    let same : parts side count characters rest ≡ item = cc in
    let side_is : side ≡ item.side = ap (λ i. i.side) same in
    record {
      some = grind (arith, nat_tests);
      few = grind (arith, nat_tests);
      displayed = displayed;
      side = named ∙ ap Some side_is;
      same = ap (λ s. parts s count characters rest) (sym side_is) ∙ same;
    }
by-tests most letter count characters rest item true true true None some few displayed named is = absurd (cc)
by-tests most letter count characters rest item true true false named some few displayed is_named is = absurd (cc)
by-tests most letter count characters rest item true false c named some few displayed is_named is = absurd (cc)
by-tests most letter count characters rest item false b c named some few displayed is_named is = absurd (cc)

item-parts : (most letter count : ℕ) (characters rest : List ℕ) (item : ItemParts) → item_with most letter count characters rest ≡ Some item → IsFound most letter count characters rest item
item-parts most letter count characters rest item is =
    by-tests most letter count characters rest item (nat_le 1 count) (nat_le count most) (list_all has_display characters) (side_named letter) refl refl refl refl is

begins-with : (most letter count : ℕ) (text characters rest : List ℕ) (item : ItemParts) → IsFound most letter count characters rest item
    → (side_named letter ≡ Some item.side → IsCounted text (parts item.side count characters rest) ⊎ IsDelimited text (parts item.side count characters rest)) → BeginsWithItem most text item
begins-with most letter count text characters rest item is written =
    let P : ItemParts → Type 0 = λ i. BeginsWithItem most text i in
    subst P is.same (record { written = written is.side; some = is.some; few = is.few; displayed = is.displayed })

digits-more : (test : Bool) (c : ℕ) (text : List ℕ) → is_digit 10 c ≡ test → list_all (is_digit 10) (take (digits_len text) text) ≡ true → list_all (is_digit 10) (take (digits_len (c ∷ text)) (c ∷ text)) ≡ true
digits-more true c text is more = let one : 1 + digits_len text ≡ suc (digits_len text) = omega arith in rw (is, one, is) more
digits-more false c text is more = rw is refl

digits-front : (text : List ℕ) → list_all (is_digit 10) (take (digits_len text) text) ≡ true
digits-front [] = refl
digits-front (c ∷ text) = digits-more (is_digit 10 c) c text refl (digits-front text)

counted-is : (most : ℕ) (text digits behind : List ℕ) (item : ItemParts) → text ≡ digits ++ behind → list_all (is_digit 10) digits ≡ true → counted_behind most (digits_number 10 digits) behind ≡ Some item → BeginsWithItem most text item
counted-is most text digits [] item front decimal is = absurd (cc)
counted-is most text digits (letter ∷ behind) item front decimal is =
    let n = digits_number 10 digits in
    let short = short-front n behind in
    begins-with most letter n text (take n behind) (drop n behind) item (item-parts most letter n (take n behind) (drop n behind) item is)
    (λ side. inl (record {
      digits = digits;
      letter = letter;
      parts = front ∙ ap (λ b. digits ++ letter ∷ b) (sym (take-append-drop n behind));
      decimal = decimal;
      count = refl;
      side = side;
      characters = short.0;
      fewer = short.1;
    }))

none-before : (p : ℕ → Bool) (text : List ℕ) (n : ℕ) → n ≤ length text → ((k : ℕ) → k < n → p (get_or text k 0) ≡ false) → list_all (λ c. not (p c)) (take n text) ≡ true
none-before p text zero within none = refl
none-before p [] (suc n) within none = absurd (omega arith)
none-before p (c ∷ text) (suc n) within none = rw (none 0 (omega arith)) (none-before p text n (omega arith) (λ k less. none (suc k) (omega arith)))

delimited-is : (most letter delimiter : ℕ) (text : List ℕ) (item : ItemParts) (at : Option ℕ) → is_delimiter delimiter ≡ true → position (λ c. c == delimiter) text ≡ at → delimited_at most letter text at ≡ Some item → BeginsWithItem most (letter ∷ delimiter ∷ text) item
delimited-is most letter delimiter text item None delimits place is = absurd (cc)
delimited-is most letter delimiter text item (Some n) delimits place is =
    let found = position-Some (λ c. c == delimiter) text n 0 place in
    let within = found.0 in
    let here : get_or text n 0 ≡ delimiter = let test = found.1 in grind (arith, nat_tests) in
    let next : suc n ≡ n + 1 = omega arith in
    begins-with most letter n (letter ∷ delimiter ∷ text) (take n text) (drop (n + 1) text) item (item-parts most letter n (take n text) (drop (n + 1) text) item is)
    (λ side. inr (record {
      letter = letter;
      delimiter = delimiter;
      parts = ap (λ t. letter ∷ delimiter ∷ t) (split_at text n 0 within ∙ ap (λ c. take n text ++ c ∷ drop (suc n) text) here ∙ ap (λ m. take n text ++ delimiter ∷ drop m text) next);
      side = side;
      delimits = delimits;
      between = none-before (λ c. c == delimiter) text n (omega arith) found.2;
      count = sym (length-take-le n text (omega arith));
    }))

delimited-by : (most letter delimiter : ℕ) (text : List ℕ) (item : ItemParts) (test : Bool) → is_delimiter delimiter ≡ test → cond test (delimited_at most letter text (position (λ c. c == delimiter) text)) None ≡ Some item → BeginsWithItem most (letter ∷ delimiter ∷ text) item
delimited-by most letter delimiter text item true delimits is = delimited-is most letter delimiter text item (position (λ c. c == delimiter) text) delimits refl is
delimited-by most letter delimiter text item false delimits is = absurd (cc)

delimited-item : (most : ℕ) (text : List ℕ) (item : ItemParts) → delimited_item most text ≡ Some item → BeginsWithItem most text item
delimited-item most [] item is = absurd (cc)
delimited-item most (letter ∷ []) item is = absurd (cc)
delimited-item most (letter ∷ delimiter ∷ text) item is = delimited-by most letter delimiter text item (is_delimiter delimiter) refl is

either-item : (most : ℕ) (text : List ℕ) (item : ItemParts) (counted : Option ItemParts) → counted_item most text ≡ counted → option_or counted (delimited_item most text) ≡ Some item → BeginsWithItem most text item
either-item most text item None here is = delimited-item most text item is
either-item most text item (Some other) here is =
    counted-is most text (take (digits_len text) text) (drop (digits_len text) text) item (sym (take-append-drop (digits_len text) text)) (digits-front text) (here ∙ is)

pub begins : (most : ℕ) (text : List ℕ) (item : ItemParts) → item_in_front most text ≡ Some item → BeginsWithItem most text item
unfolding item_in_front
begins most text item is = either-item most text item (counted_item most text) refl is

-- ---- how far it reaches

shorter-by : (text : List ℕ) (item : ItemParts) → IsCounted text item ⊎ IsDelimited text item → (length item.rest < length text) × (length item.characters ≤ item.count)
shorter-by text item (inl is) = (omega (arith, ap length is.parts, length-append is.digits (is.letter ∷ (item.characters ++ item.rest)), length-append item.characters item.rest), is.characters)
shorter-by text item (inr is) = (omega (arith, ap length is.parts, length-append item.characters (is.delimiter ∷ item.rest)), omega (arith, is.count))

pub shorter : (most : ℕ) (text : List ℕ) (item : ItemParts) → BeginsWithItem most text item → (length item.rest < length text) × (length item.characters ≤ item.count)
shorter most text item is = shorter-by text item is.written

-- ---- the item in the code

pub along : {T : Type 0} (value : T → ItemParts) (most : ℕ) (text : List ℕ) (result : Option T) (P : ItemParts → Type 0) → option_map value result ≡ item_in_front most text
    → ((item : ItemParts) → BeginsWithItem most text item → P item) → IfSome result (λ item. P (value item))
along value most text None P is holds = tt
along value most text (Some item) P is holds = holds (value item) (begins most text (value item) (sym is))

pub few : (most : ℕ) (text : List ℕ) (item : ItemParts) → BeginsWithItem most text item → (length item.characters ≤ item.count) × (item.count ≤ most)
few most text item is = ((shorter most text item is).1, is.few)
