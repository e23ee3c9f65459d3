-- The rows of words, one after another.
use Rattle.std.proofs.Common.{◌≡◌, ℕ, zero, suc, ◌+◌, ◌<◌, ◌≤◌, List, [], ◌∷◌, ◌++◌, refl, sym, ap, ◌∙◌, append-nil, length, Option, Some, None, false, arith}
use Rattle.std.specs.Prelude.{is_some, if◌then◌else◌}
use Rattle.std.specs.List.{flat_map, range_with_len, list_any}
use Rattle.std.proofs.lemmas.Grind.{flat_map-append}
use Rattle.std.proofs.lemmas.List.{get_or_past}
use Rattle.cps_expr.specs.declared.machine.Machine.{Machine}
use Rattle.cps_code.specs.Bits.{word_bits, number_of_bits}
use Rattle.cps_code.specs.Image.{Piece, covers_word, packed_bit, packed_word, word_at, ArePacked}
use Rattle.cps_list.specs.Binary.{word_row, rows_below}

range-more : (from count : ℕ) → range_with_len from (count + 1) ≡ range_with_len from count ++ (from + count) ∷ []
range-more from zero = let same : from + 0 ≡ from = omega arith in rw same refl
range-more from (suc count) =
    let next : suc count + 1 ≡ suc (count + 1) = omega arith in
    let last : from + 1 + count ≡ from + suc count = omega arith in
    rw next (ap (λ range. from ∷ range) (range-more (from + 1) count) ∙ ap (λ n. from ∷ (range_with_len (from + 1) count ++ n ∷ [])) last)

pub rows_below-none : (machine : Machine) (pieces : List Piece) → rows_below 0 machine pieces ≡ []
unfolding rows_below
rows_below-none machine pieces = refl

pub rows_below-more : (address : ℕ) (machine : Machine) (pieces : List Piece)
    → rows_below (address + 1) machine pieces ≡ rows_below address machine pieces ++ word_row machine address (packed_word pieces address)
unfolding rows_below
rows_below-more address machine pieces =
    ap (flat_map (λ a. word_row machine a (packed_word pieces a))) (range-more 0 address)
    ∙ flat_map-append (λ a. word_row machine a (packed_word pieces a)) (range_with_len 0 address) ((0 + address) ∷ [])
    ∙ (let same : 0 + address ≡ address = omega arith in rw (same, append-nil) refl)

-- past the words there is no row
pub packed-past : (pieces : List Piece) (words : List (Option ℕ)) (address : ℕ) → ArePacked pieces words → length words ≤ address → packed_word pieces address ≡ None
packed-past pieces words address packed past =
    let none : word_at words address ≡ None = get_or_past words address None past in
    let no : list_any (covers_word address) pieces ≡ false = sym (packed.stand address) ∙ ap is_some none in
    ap (λ b. if b then Some (number_of_bits (packed_bit pieces address) word_bits) else None) no

pub rows_below-past : (end more : ℕ) (machine : Machine) (pieces : List Piece) → ((address : ℕ) → end ≤ address → address < end + more → packed_word pieces address ≡ None)
    → rows_below (end + more) machine pieces ≡ rows_below end machine pieces
rows_below-past end zero machine pieces none = let same : end + 0 ≡ end = omega arith in ap (λ n. rows_below n machine pieces) same
rows_below-past end (suc more) machine pieces none =
    let next : end + suc more ≡ end + more + 1 = omega arith in
    ap (λ n. rows_below n machine pieces) next
    ∙ rows_below-more (end + more) machine pieces
    ∙ ap (λ word. rows_below (end + more) machine pieces ++ word_row machine (end + more) word) (none (end + more) (omega arith) (omega arith))
    ∙ append-nil (rows_below (end + more) machine pieces)
    ∙ rows_below-past end more machine pieces (λ address from below. none address from (omega (arith, below)))
