-- What is shown of a line, piece by piece.
use Rattle.std.proofs.Common.{◌≡◌, ℕ, ◌+◌, ◌/◌, ◌%◌, ◌<◌, ◌≤◌, Bool, true, false, not, ◌||◌, eqb, List, [], ◌∷◌, ◌++◌, length, drop, flat_map, Option, None, Some, refl, sym, ap, ◌∙◌, arith, append_assoc, append-nil, ⊎_elim}
use Rattle.std.specs.Char.{encode_utf8}
use Rattle.std.specs.Option.{option_map_or}
use Rattle.std.specs.Prelude.{codes}
use Rattle.std.proofs.lemmas.Bool.{cond-true, cond-false, cases_lt, cases_Bool, and_from, le-ltb, lt-ltb, ne_eqb}
use Rattle.std.proofs.lemmas.List.{nil_from_length}
use Rattle.std.proofs.lemmas.List.Folds.{list_all-append}
use Rattle.bstr.specs.Utf8.{Decoded, decoded, pieces}
use Rattle.bstr.proofs.lemmas.PieceLemmas.{piece-bounds, pieces-nil, pieces-step}
use Rattle.cps_input.specs.Shown.{has_no_control, is_control, is_obeyed, shown, shown_character, shown_piece, shown_width}

pub shown-nil : shown [] ≡ []
shown-nil = ap (flat_map shown_piece) pieces-nil

pub shown-step : (line : List ℕ) → 0 < length line → shown line ≡ shown_piece (decoded line) ++ shown (drop (decoded line).size line)
shown-step line some = ap (flat_map shown_piece) (pieces-step line some)

-- a piece has a byte, and no more than there are
pub piece-size : (line : List ℕ) (size : ℕ) → 0 < length line → size ≡ (decoded line).size → (1 ≤ size) × (size ≤ length line)
piece-size line size some is = let bounds = piece-bounds line some in (omega arith, omega arith)

-- a piece is shown behind a text
pub shown-more : (text line : List ℕ) (character : Option ℕ) (size : ℕ) → 0 < length line → character ≡ (decoded line).char → size ≡ (decoded line).size
    → (text ++ option_map_or shown_character character (codes "?")) ++ shown (drop size line) ≡ text ++ shown line
shown-more text line character size some char width =
    ap (λ c. (text ++ option_map_or shown_character c (codes "?")) ++ shown (drop size line)) char
    ∙ ap (λ n. (text ++ shown_piece (decoded line)) ++ shown (drop n line)) width
    ∙ append_assoc text (shown_piece (decoded line)) (shown (drop (decoded line).size line))
    ∙ ap (λ rest. text ++ rest) (sym (shown-step line some))

-- all is shown
pub shown-all : (text line whole : List ℕ) → length line ≡ 0 → text ++ shown line ≡ whole → text ≡ whole
shown-all text line whole none is =
    sym (append-nil text) ∙ ap (λ rest. text ++ rest) (sym shown-nil) ∙ ap (λ rest. text ++ shown rest) (sym (nil_from_length line none)) ∙ is

-- a piece more is counted
pub width-step : (line : List ℕ) → 0 < length line → shown_width line ≡ 1 + shown_width (drop (decoded line).size line)
width-step line some = ap (λ parts. length parts) (pieces-step line some) ∙ omega arith

pub width-none : (line : List ℕ) → length line ≡ 0 → shown_width line ≡ 0
width-none line none = ap shown_width (nil_from_length line none) ∙ ap (λ parts. length parts) pieces-nil

-- ---- no control character is shown

high : (byte : ℕ) → 128 ≤ byte → not (is_control byte) ≡ true
high byte above = rw (le-ltb byte 32 (omega arith), ne_eqb byte 127 (λ e. omega arith)) refl

encoded : (c : ℕ) → is_control c ≡ false → has_no_control (encode_utf8 c) ≡ true
unfolding encode_utf8
encoded c plain =
    ⊎_elim (λ one. rw (lt-ltb c 128 one, plain) refl) (λ wide.
    ⊎_elim (λ two. rw (le-ltb c 128 wide, lt-ltb c 2048 two, high (192 + c / 64) (omega arith), high (128 + c % 64) (omega arith)) refl) (λ wider.
    ⊎_elim
    (λ three. rw (le-ltb c 128 wide, le-ltb c 2048 wider, lt-ltb c 65536 three, high (224 + c / 4096) (omega arith), high (128 + (c / 64) % 64) (omega arith), high (128 + c % 64) (omega arith)) refl)
    (λ four. rw (le-ltb c 128 wide, le-ltb c 2048 wider, le-ltb c 65536 four, high (240 + c / 262144) (omega arith), high (128 + (c / 4096) % 64) (omega arith), high (128 + (c / 64) % 64) (omega arith), high (128 + c % 64) (omega arith)) refl)
    (cases_lt c 65536)) (cases_lt c 2048)) (cases_lt c 128)

first_false : (a b c d e f : Bool) → ((((a || b) || c) || d) || e) || f ≡ false → a ≡ false
first_false true b c d e f none = cc
first_false false b c d e f none = refl

safe_character : (c : ℕ) → has_no_control (shown_character c) ≡ true
safe_character c =
    ⊎_elim (λ tab. ap has_no_control (cond-true _ _ _ tab)) (λ other.
    ap has_no_control (cond-false _ _ _ other)
    ∙ ⊎_elim (λ obeyed. ap has_no_control (cond-true _ _ _ obeyed))
    (λ plain. ap has_no_control (cond-false _ _ _ plain) ∙ encoded c (first_false (is_control c) _ _ _ _ _ plain))
    (cases_Bool (is_obeyed c))) (cases_Bool (eqb c 9))

safe_part : (character : Option ℕ) → has_no_control (option_map_or shown_character character (codes "?")) ≡ true
safe_part None = refl
safe_part (Some c) = safe_character c

safe_pieces : (parts : List Decoded) → has_no_control (flat_map shown_piece parts) ≡ true
safe_pieces [] = refl
safe_pieces (piece ∷ parts) =
    list_all-append (λ byte. not (is_control byte)) (shown_piece piece) (flat_map shown_piece parts)
    ∙ and_from _ _ (safe_part piece.char) (safe_pieces parts)

pub shown-safe : (line : List ℕ) → has_no_control (shown line) ≡ true
shown-safe line = safe_pieces (pieces line)
