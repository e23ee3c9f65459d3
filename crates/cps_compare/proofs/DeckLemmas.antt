-- The pieces of a source, line by line.
use Rattle.std.proofs.Common.{◌≡◌, ℕ, suc, ◌+◌, ◌-◌, ◌<◌, get_or, List, [], ◌∷◌, ◌++◌, length, take, refl, sym, ap, subst, ◌∙◌, arith, append_assoc, append-nil}
use Rattle.std.specs.Prelude.{map, slice_get, is_some, None, Some, Option, false}
use Rattle.std.specs.List.{flat_map}
use Rattle.std.proofs.lemmas.List.{map-append, map_push, take_more}
use Rattle.std.proofs.lemmas.Grind.{flat_map-append}
use Rattle.cps_code.specs.declared.piece.Piece as code
use Rattle.cps_code.specs.Image.{piece_of, Piece, ArePacked}
use Rattle.cps_compare.specs.Code.Deck.{AreMade, IsDeck}
use Rattle.cps_final.specs.Outcome.{Outcome}
use Rattle.cps_list.specs.Assembly.{Assembly}
use Rattle.cps_list.specs.Binary.{pieces_in, pieces_of, pool_pieces}
use Rattle.cps_list.proofs.ViewLemmas.{take-next, number-next}
use Rattle.cps_compare.specs.declared.maker.Maker.{Maker}
use Rattle.cps_compare.specs.declared.maker.Maker.TheVariants.{Line, Literal}
use Rattle.cps_compare.specs.Makers.{Signed, signed_by, signed_from, signed_of}

-- the bits alone
pub pieces-signed : (maker : Maker) (pieces : List Piece) → map (λ (s : Signed). s.piece) (map (signed_by maker) pieces) ≡ pieces
pieces-signed maker [] = refl
pieces-signed maker (piece ∷ pieces) = ap (λ l. piece ∷ l) (pieces-signed maker pieces)

pieces-from : (number : ℕ) (outcomes : List Outcome) → map (λ (s : Signed). s.piece) (signed_from number outcomes) ≡ pieces_in outcomes
pieces-from number [] = refl
pieces-from number (outcome ∷ outcomes) =
    map-append (λ (s : Signed). s.piece) (map (signed_by (Line number)) outcome.pieces) (signed_from (number + 1) outcomes)
    ∙ (λ i. pieces-signed (Line number) outcome.pieces i ++ pieces-from (number + 1) outcomes i)

pub pieces-of : (assembly : Assembly) → map (λ (s : Signed). s.piece) (signed_of assembly) ≡ pieces_of assembly
pieces-of assembly =
    map-append (λ (s : Signed). s.piece) (signed_from 1 assembly.outcomes) (map (signed_by Literal) (pool_pieces assembly.finals))
    ∙ (λ i. pieces-from 1 assembly.outcomes i ++ pieces-signed Literal (pool_pieces assembly.finals) i)

-- one line more
signed-more : (number : ℕ) (outcomes : List Outcome) (outcome : Outcome)
    → signed_from number (outcomes ++ outcome ∷ []) ≡ signed_from number outcomes ++ map (signed_by (Line (number + length outcomes))) outcome.pieces
signed-more number [] outcome =
    let same : number ≡ number + 0 = omega arith in
    append-nil (map (signed_by (Line number)) outcome.pieces) ∙ ap (λ n. map (signed_by (Line n)) outcome.pieces) same
signed-more number (o ∷ outcomes) outcome =
    let same : number + 1 + length outcomes ≡ number + suc (length outcomes) = omega arith in
    ap (λ l. map (signed_by (Line number)) o.pieces ++ l)
    (signed-more (number + 1) outcomes outcome ∙ ap (λ n. signed_from (number + 1) outcomes ++ map (signed_by (Line n)) outcome.pieces) same)
    ∙ sym (append_assoc (map (signed_by (Line number)) o.pieces) (signed_from (number + 1) outcomes) (map (signed_by (Line (number + suc (length outcomes)))) outcome.pieces))

-- the line after the first `i` ones
pub signed-next : (outcomes : List Outcome) (i : ℕ) (outcome : Outcome) → slice_get outcomes (i + 1 - 1) ≡ Some outcome
    → signed_from 1 (take i outcomes) ++ map (signed_by (Line (i + 1))) outcome.pieces ≡ signed_from 1 (take (i + 1) outcomes)
signed-next outcomes i outcome is =
    let here : i + 1 - 1 ≡ i = omega arith in
    let there = ap (slice_get outcomes) (sym here) ∙ is in
    let one : i + 1 ≡ suc i = omega arith in
    let number = number-next outcomes i outcome is in
    let same : i + 1 ≡ 1 + length (take i outcomes) = omega (arith, number) in
    ap (λ n. signed_from 1 (take i outcomes) ++ map (signed_by (Line n)) outcome.pieces) same
    ∙ sym (signed-more 1 (take i outcomes) outcome)
    ∙ ap (signed_from 1) (sym (take-next outcomes i outcome there) ∙ ap (λ n. take n outcomes) (sym one))

-- ---- one piece more

pub signed-push : (maker : Maker) (all : List Signed) (pieces : List code.Piece) (i : ℕ) (piece : code.Piece) → i < length pieces → piece ≡ get_or pieces i piece
    → (all ++ map (signed_by maker) (map piece_of (take i pieces))) ++ signed_by maker (piece_of piece) ∷ [] ≡ all ++ map (signed_by maker) (map piece_of (take (i + 1) pieces))
signed-push maker all pieces i piece within is =
    let front = map (signed_by maker) (map piece_of (take i pieces)) in
    let next = get_or pieces i piece in
    append_assoc all front (signed_by maker (piece_of piece) ∷ [])
    ∙ ap (λ (l : List Signed). all ++ l)
    (ap (λ (p : code.Piece). front ++ signed_by maker (piece_of p) ∷ []) is
    ∙ sym (map_push (signed_by maker) (map piece_of (take i pieces)) (piece_of next))
    ∙ ap (map (signed_by maker)) (sym (map_push piece_of (take i pieces) next))
    ∙ ap (λ (l : List code.Piece). map (signed_by maker) (map piece_of l)) (sym (take_more pieces i piece within)))

pub deck-push : (before : List Signed) (signed : Signed) (words : List (Option ℕ)) (slots : List Maker) → ArePacked (map (λ (s : Signed). s.piece) before ++ signed.piece ∷ []) words
    → AreMade (before ++ signed ∷ []) slots → IsDeck (before ++ signed ∷ []) words slots
deck-push before signed words slots packed made = record {
  packed = subst (λ (l : List Piece). ArePacked l words) (sym (map_push (λ (s : Signed). s.piece) before signed)) packed;
  made = made;
}

-- the literals, and the next
pub pool-next : (f : ℕ → List Piece) (items pool : List ℕ) (i : ℕ) (old new : List Piece) → items ≡ pool → i < length items → old ≡ flat_map f (take i pool)
    → new ≡ old ++ f (get_or items i 0) → new ≡ flat_map f (take (i + 1) pool)
pool-next f items pool i old new same within was is =
    let there : i < length pool = subst (λ (l : List ℕ). i < length l) same within in
    is ∙ (λ j. was j ++ f (get_or (same j) i 0))
    ∙ sym (ap (flat_map f) (take_more pool i 0 there)
    ∙ flat_map-append f (take i pool) (get_or pool i 0 ∷ [])
    ∙ ap (λ (l : List Piece). flat_map f (take i pool) ++ l) (append-nil (f (get_or pool i 0))))

-- no word
pub none-is : (word : Option ℕ) → is_some word ≡ false → word ≡ None
none-is None is = refl
none-is (Some word) is = cc
