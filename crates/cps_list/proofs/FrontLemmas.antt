-- A text written over the blanks of a front.
use Rattle.std.proofs.Common.{◌≡◌, ℕ, zero, suc, ◌+◌, ◌-◌, ◌/◌, ◌%◌, ◌≤◌, refl, sym, ap, ◌∙◌, append_assoc, Bool, true, false, List, [], ◌∷◌, ◌++◌, Option, Some, None, length, take, drop, arith}
use Rattle.std.proofs.lemmas.List.{append-nil, replicate-append-replicate, take-replicate, drop-replicate, length-replicate, length-append, length-drop, length-take-le, take-append-drop}
use Rattle.cps_text.specs.Octal.{octal}
use Rattle.std.proofs.Math.Seq.{take-append-add, drop-append-add, drop-append_seam, take-length}
use Rattle.std.proofs.Math.ListN.{drop_of_length-le}
use Rattle.std.proofs.lemmas.Slice.{take-put_mid, drop-put_mid}
use borrow.Rule.Slice.PartMut.{put_mid}
use Rattle.std.specs.Prelude.{codes}
use Rattle.std.specs.Prelude.{if◌then◌else◌}
use Rattle.cps_list.specs.Columns.{Column, at_left, at_right, blanks, laid_out, with_column}
use Rattle.cps_state.specs.Flags.{letter, letters}
use Rattle.cps_list.specs.Code.Front.{IsFront, IsNarrow, front_columns, with_text}
use Rattle.cps_list.specs.Listing.{address_text, code_text, number_text, row_columns, second_text, text_shown, trimmed}
use Rattle.cps_final.specs.declared.row.Row.{Row}
use Rattle.cps_list.proofs.TextLemmas.{trimmed-blanks}

-- how many digits there are
pub octal-length : (digits number : ℕ) → length (octal digits number) ≡ digits
unfolding octal
octal-length zero number = refl
octal-length (suc digits) number =
    let shorter = octal-length digits (number / 8) in
    let whole = length-append (octal digits (number / 8)) ((48 + number % 8) ∷ []) in
    omega (arith, shorter, whole)

-- how long a part of a front is
pub part-length : (front : List ℕ) (before count : ℕ) → length front ≡ 44 → before + count ≤ 44 → length (take (before + count - before) (drop before front)) ≡ count
part-length front before count full most =
    let rest = length-drop before front in
    length-take-le (before + count - before) (drop before front) (omega (arith, full, most, rest)) ∙ omega arith

-- what blanks fill, cut at a column behind what has begun
pub front-taken : (begun : List ℕ) (before width : ℕ) → length begun ≤ before → before ≤ width → take before (at_left width begun) ≡ at_left before begun
front-taken begun before width within most =
    let m = before - length begun in
    let sum : before ≡ length begun + m = omega (arith, within) in
    let few : m ≤ width - length begun = omega (arith, within, most) in
    ap (λ n. take n (at_left width begun)) sum ∙ take-append-add begun (blanks (width - length begun)) m ∙ ap (λ t. begun ++ t) (take-replicate m (width - length begun) 32 few)

front-dropped : (begun : List ℕ) (before width : ℕ) → length begun ≤ before → drop before (at_left width begun) ≡ blanks (width - before)
front-dropped begun before width within =
    let m = before - length begun in
    let sum : before ≡ length begun + m = omega (arith, within) in
    let rest : width - length begun - m ≡ width - before = omega (arith, within) in
    ap (λ n. drop n (at_left width begun)) sum ∙ drop-append-add begun (blanks (width - length begun)) m
    ∙ drop-replicate m (width - length begun) 32 ∙ ap blanks rest

-- how long a text in so many columns is
pub at_left-length : (begun : List ℕ) (width : ℕ) → length begun ≤ width → length (at_left width begun) ≡ width
at_left-length begun width within =
    let filled = length-replicate {A = ℕ} (width - length begun) 32 in
    let sum = length-append begun (blanks (width - length begun)) in
    omega (arith, within, filled, sum)

-- a text that has its columns is followed by so many more
at_left-more : (begun : List ℕ) (before more : ℕ) → length begun ≤ before → at_left (before + more) begun ≡ at_left before begun ++ blanks more
at_left-more begun before more within =
    let sum : before + more - length begun ≡ (before - length begun) + more = omega (arith, within) in
    ap (λ n. begun ++ blanks n) sum ∙ ap (λ t. begun ++ t) (sym (replicate-append-replicate (before - length begun) more 32)) ∙ sym (append_assoc begun (blanks (before - length begun)) (blanks more))

-- a front where less was said of the columns that are taken
pub front-widened : (front begun : List ℕ) (columns more : ℕ) → IsFront front begun columns → columns ≤ more → IsFront front begun more
front-widened front begun columns more is most = record {
  filled = is.filled;
  within = let within = is.within in omega (arith, within, most);
}

-- the same front of the same text
pub front-same : (front begun same : List ℕ) (columns : ℕ) → IsFront front begun columns → begun ≡ same → IsFront front same columns
front-same front begun same columns is eq = record {
  filled = is.filled ∙ ap (at_left 44) eq;
  within = let within = is.within in let long : length same ≡ length begun = ap length (sym eq) in omega (arith, within, long);
}

-- a text at the right of six columns begins where its own columns do
pub right-column : (begun shown : List ℕ) → length begun ≤ 37 → length shown ≤ 6
    → with_column begun (record { first = 43 - length shown + 1; text = shown }) ≡ with_column begun (record { first = 38; text = at_right 6 shown })
right-column begun shown within few =
    let more = 6 - length shown in
    let before : 43 - length shown + 1 - 1 ≡ 37 + more = omega (arith, few) in
    ap (λ n. at_left n begun ++ shown) before ∙ ap (λ t. t ++ shown) (at_left-more begun 37 more within) ∙ append_assoc (at_left 37 begun) (blanks more) shown

-- what stands there when a text has been written over the columns behind so many
pub front-written : (front begun text new : List ℕ) (before count : ℕ) → IsFront front begun before → before + count ≤ 44 → length text ≡ count
    → take (before + count) new ≡ take before front ++ text → drop (before + count) new ≡ drop (before + count) front
    → IsFront new (with_column begun (record { first = before + 1; text = text })) (before + count)
front-written front begun text new before count is most size taken dropped =
    let end = before + count in
    let early : before ≤ 44 = omega (arith, most) in
    let later : length begun ≤ end = let within = is.within in omega (arith, within) in
    let same : before + 1 - 1 ≡ before = omega arith in
    let row = with_column begun (record { first = before + 1; text = text }) in
    let shaped : row ≡ at_left before begun ++ text = ap (λ n. at_left n begun ++ text) same in
    let sum = length-append (at_left before begun) text in
    let left = at_left-length begun before is.within in
    let long : length row ≡ end = ap length shaped ∙ omega (arith, sum, left, size) in
    let head : take end new ≡ row = taken ∙ ap (λ t. t ++ text) (ap (take before) is.filled ∙ front-taken begun before 44 is.within early) ∙ sym shaped in
    let tail : drop end new ≡ blanks (44 - length row) = dropped ∙ ap (drop end) is.filled ∙ front-dropped begun end 44 later ∙ ap (λ n. blanks (44 - n)) (sym long) in
    record {
      filled = sym (take-append-drop end new) ∙ (λ i. head i ++ tail i);
      within = omega (arith, long);
    }

-- a letter has a column at most
letter-length : (is_there : Bool) (c : ℕ) → length (letter is_there (c ∷ [])) ≤ 1
letter-length true c = omega arith
letter-length false c = omega arith

append-few : (front back : List ℕ) (m n : ℕ) → length front ≤ m → length back ≤ n → length (front ++ back) ≤ m + n
append-few front back m n few more = let sum = length-append front back in omega (arith, few, more, sum)

-- the letters of flags have eight columns at most
pub letters-length : (row : Row) → length (letters row.flags) ≤ 8
letters-length row =
    let two = append-few _ _ 1 1 (letter-length row.flags.operand 65) (letter-length row.flags.twice 68) in
    let three = append-few _ _ 2 1 two (letter-length row.flags.structure 69) in
    let four = append-few _ _ 3 1 three (letter-length row.flags.location 76) in
    let five = append-few _ _ 4 1 four (letter-length row.flags.operation 79) in
    let six = append-few _ _ 5 1 five (letter-length row.flags.cut 84) in
    let seven = append-few _ _ 6 1 six (letter-length row.flags.undefined 85) in
    append-few _ _ 7 1 seven (letter-length row.flags.width 86)

-- blanks at the end of a row are cut
address-length : (location : Option ℕ) → length (address_text location) ≤ 6
address-length None = omega arith
address-length (Some address) = let six = octal-length 6 address in omega (arith, six)

-- a later row ends behind its code
pub later-length : (number : ℕ) (row : Row) → row.is_later ≡ true → length (laid_out (front_columns number row)) ≡ 16 + length (code_text row.code)
later-length number row later =
    let begun = with_text (letters row.flags) 10 (address_text row.location) in
    let eight = letters-length row in
    let nine = at_left-length (letters row.flags) 9 (omega (arith, eight)) in
    let few = append-few (at_left 9 (letters row.flags)) (address_text row.location) 9 6 (omega (arith, nine)) (address-length row.location) in
    rw later (length-append (at_left 16 begun) (code_text row.code) ∙ (λ i. at_left-length begun 16 (omega (arith, few)) i + length (code_text row.code)))

pub trimmed-left : (width : ℕ) (row : List ℕ) → trimmed (at_left width row) ≡ trimmed row
trimmed-left width row = trimmed-blanks (width - length row) row

-- the columns of a narrow row
code-alone : (row : Row) → IsNarrow row → code_text row.code ≡ code_text row.code ++ second_text row.second
code-alone row is = sym (ap (λ s. code_text row.code ++ second_text s) is.alone ∙ append-nil (code_text row.code))

pub front-later : (number : ℕ) (line : List ℕ) (row : Row) → IsNarrow row → row.is_later ≡ true → front_columns number row ≡ row_columns number line row
front-later number line row is later =
    let shown : Column = record { first = 38; text = at_right 6 (number_text row.depth number) } in
    let rest : List Column = record { first = 45; text = text_shown row.depth line row.text } ∷ [] in
    let ends : (if row.is_later then [] else shown ∷ []) ≡ (if row.is_later then [] else shown ∷ rest) =
    ap (λ (b : Bool). if b then [] else shown ∷ []) later ∙ sym (ap (λ (b : Bool). if b then [] else shown ∷ rest) later) in
    (λ i. record { first = 1; text = letters row.flags }
    ∷ record { first = 10; text = address_text row.location }
    ∷ record { first = 17; text = code-alone row is i }
    ∷ ends i)

pub front-first : (number : ℕ) (line : List ℕ) (row : Row) → IsNarrow row → row.is_later ≡ false
    → with_column (laid_out (front_columns number row)) (record { first = 45; text = text_shown row.depth line row.text }) ≡ laid_out (row_columns number line row)
front-first number line row is first =
    let shown : Column = record { first = 38; text = at_right 6 (number_text row.depth number) } in
    let last : Column = record { first = 45; text = text_shown row.depth line row.text } in
    let before : List Column → List Column = (λ columns. record { first = 1; text = letters row.flags } ∷ record { first = 10; text = address_text row.location } ∷ columns) in
    let alone : List Column → List Column = (λ columns. record { first = 17; text = code_text row.code } ∷ columns) in
    let whole : List Column → List Column = (λ columns. record { first = 17; text = code_text row.code ++ second_text row.second } ∷ columns) in
    ap (λ (b : Bool). with_column (laid_out (before (alone (if b then [] else shown ∷ [])))) last) first
    ∙ (λ i. laid_out (before (record { first = 17; text = code-alone row is i } ∷ shown ∷ last ∷ [])))
    ∙ sym (ap (λ (b : Bool). laid_out (before (whole (if b then [] else shown ∷ last ∷ [])))) first)

-- a text whose end was written anew
pub end-written : (size : ℕ) (text front whole before : List ℕ) → whole ≡ text ++ front → length before ≡ length text + length front → size ≡ length before
    → take size (whole ++ drop (length whole) before) ≡ text ++ front
end-written size text front whole before is long whole-size =
    let all : length whole ≡ length before = ap length is ∙ length-append text front ∙ sym long in
    let rest : drop (length whole) before ≡ [] = drop_of_length-le before (omega (arith, all)) in
    ap (λ t. take size (whole ++ t)) rest ∙ ap (take size) (append-nil whole) ∙ ap (λ n. take n whole) (whole-size ∙ sym all) ∙ take-length whole ∙ is

-- what stands behind a text to which a front was added
pub front-filled : (text begun all : List ℕ) (before : ℕ) → all ≡ text ++ at_left 44 begun → before ≡ length text → length begun ≤ 8 → take (length all - before) (drop before all) ≡ at_left 44 begun
front-filled text begun all before is at few =
    let rest : drop before all ≡ at_left 44 begun = ap (drop before) is ∙ ap (λ n. drop n (text ++ at_left 44 begun)) at ∙ drop-append_seam text (at_left 44 begun) in
    let wide = at_left-length begun 44 (omega (arith, few)) in
    let long : length all ≡ length text + 44 = ap length is ∙ length-append text (at_left 44 begun) ∙ ap (λ n. length text + n) wide in
    let size : length all - before ≡ length (at_left 44 begun) = omega (arith, long, at, wide) in
    (λ i. take (size i) (rest i)) ∙ take-length (at_left 44 begun)

-- how long a front is
pub front-long : (front begun : List ℕ) (columns : ℕ) → IsFront front begun columns → columns ≤ 44 → length front ≡ 44
front-long front begun columns is most = ap length is.filled ∙ at_left-length begun 44 (let within = is.within in omega (arith, within, most))

-- the row of a word, over the blanks of which an address is written and then the word
abbrev blank_row : List ℕ
blank_row = codes "                           \n"

pub central-room : (address row : List ℕ) → row ≡ blank_row → length address ≡ 6 → length (take 20 (drop 7 (address ++ drop 6 row))) ≡ 20
central-room address row is six =
    let rest : address ++ drop 6 row ≡ address ++ drop 6 blank_row = ap (λ r. address ++ drop 6 r) is in
    let behind : drop 7 (address ++ drop 6 blank_row) ≡ drop 1 (drop 6 blank_row) =
    ap (λ n. drop (n + 1) (address ++ drop 6 blank_row)) (sym six) ∙ drop-append-add address (drop 6 blank_row) 1 in
    ap (λ r. length (take 20 (drop 7 r))) rest ∙ ap (λ r. length (take 20 r)) behind

pub central-written : (row address word : List ℕ) → row ≡ blank_row → length address ≡ 6 → length word ≡ 20
    → put_mid 7 20 (address ++ drop 6 row) word ≡ address ++ codes " " ++ word ++ codes "\n"
central-written row address word is six twenty =
    let rest = drop 6 blank_row in
    let begun = address ++ rest in
    let long : length begun ≡ 28 = length-append address rest ∙ ap (λ n. n + 22) six in
    let whole = put_mid 7 20 begun word in
    let front : take 27 whole ≡ (address ++ codes " ") ++ word =
    take-put_mid 7 20 begun word 27 (omega (arith, twenty)) (omega (arith, long))
    ∙ ap (λ t. t ++ word) (ap (λ n. take (n + 1) begun) (sym six) ∙ take-append-add address rest 1) in
    let back : drop 27 whole ≡ codes "\n" =
    drop-put_mid 7 20 begun word 27 (omega arith) (omega (arith, long)) (omega (arith, twenty))
    ∙ ap (λ n. drop (n + 21) begun) (sym six) ∙ drop-append-add address rest 21 in
    ap (λ r. put_mid 7 20 (address ++ drop 6 r) word) is
    ∙ sym (take-append-drop 27 whole) ∙ (λ i. front i ++ back i)
