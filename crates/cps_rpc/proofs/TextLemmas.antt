-- A text and its lines.
use Rattle.std.proofs.Common.{◌≡◌, ℕ, suc, ◌+◌, ◌-◌, ◌<◌, Bool, true, false, cond, not, eqb, List, [], ◌∷◌, ◌++◌, length, get_or, set, take, flat_map, refl, sym, ap, ◌∙◌, arith, append_assoc, append-nil, length-append, length-set}
use Rattle.std.specs.List.{list_all, slice_split, onto_first}
use Rattle.std.proofs.lemmas.List.{take-append-drop, drop_more, drop_all, set_split}
use Rattle.std.proofs.lemmas.List.Folds.{list_all-append}
use Rattle.std.proofs.lemmas.Grind.{flat_map-append}
use Rattle.cps_input.specs.Lines.{newline, has_no_newline}
use Rattle.cps_input.proofs.SplitLemmas.{both, left_true, right_true}
use Rattle.cps_rpc.specs.Lines.{AreLines, text_lines, text_of}

-- lines that a newline ends
abbrev pub ended : List (List ℕ) → List ℕ
ended lines = flat_map (λ line. line ++ newline ∷ []) lines

-- lines behind a newline
abbrev pub begun : List (List ℕ) → List ℕ
begun lines = flat_map (λ line. newline ∷ line) lines

-- ---- the lines of a text

split-onto : (byte : ℕ) (rest parts : List ℕ) (test : Bool) (others : List (List ℕ)) → not test ≡ true → slice_split (λ b. eqb b newline) rest ≡ parts ∷ others
    → cond test ([] ∷ slice_split (λ b. eqb b newline) rest) (onto_first byte (slice_split (λ b. eqb b newline) rest)) ≡ (byte ∷ parts) ∷ others
split-onto byte rest parts true others is split = cc
split-onto byte rest parts false others is split = ap (λ p. onto_first byte p) split

-- a line in front of a newline
pub split-line : (line rest : List ℕ) → has_no_newline line ≡ true → text_lines (line ++ newline ∷ rest) ≡ line ∷ text_lines rest
split-line [] rest none = refl
split-line (byte ∷ line) rest none =
    split-onto byte (line ++ newline ∷ rest) line (eqb byte newline) (text_lines rest) (left_true _ (has_no_newline line) none)
    (split-line line rest (right_true (not (eqb byte newline)) _ none))

-- the last line
pub split-last : (line : List ℕ) → has_no_newline line ≡ true → text_lines line ≡ line ∷ []
split-last [] none = refl
split-last (byte ∷ line) none =
    split-onto byte line line (eqb byte newline) [] (left_true _ (has_no_newline line) none) (split-last line (right_true (not (eqb byte newline)) _ none))

split-joined : (lines : List (List ℕ)) → 0 < length lines → list_all has_no_newline lines ≡ true → text_lines (text_of lines) ≡ lines
split-joined [] some each = absurd (omega arith)
split-joined (line ∷ []) some each = split-last line (left_true (has_no_newline line) _ each)
split-joined (line ∷ next ∷ lines) some each =
    split-line line (text_of (next ∷ lines)) (left_true (has_no_newline line) _ each)
    ∙ ap (λ l. line ∷ l) (split-joined (next ∷ lines) (omega arith) (right_true (has_no_newline line) _ each))

-- lines are those of their text
pub text_lines-text_of : (lines : List (List ℕ)) → AreLines lines → text_lines (text_of lines) ≡ lines
text_lines-text_of lines are = split-joined lines are.some are.each

-- ---- the text of lines

text_of-cons : (line : List ℕ) (lines : List (List ℕ)) → 0 < length lines → text_of (line ∷ lines) ≡ line ++ newline ∷ text_of lines
text_of-cons line [] some = absurd (omega arith)
text_of-cons line (next ∷ lines) some = refl

-- lines in front
pub text_of-front : (front : List (List ℕ)) (line : List ℕ) (back : List (List ℕ)) → text_of (front ++ line ∷ back) ≡ ended front ++ text_of (line ∷ back)
text_of-front [] line back = refl
text_of-front (first ∷ front) line back =
    text_of-cons first (front ++ line ∷ back) (omega (arith, length-append front (line ∷ back)))
    ∙ ap (λ t. first ++ newline ∷ t) (text_of-front front line back)
    ∙ sym (append_assoc (first ++ newline ∷ []) (ended front) (text_of (line ∷ back)) ∙ append_assoc first (newline ∷ []) (ended front ++ text_of (line ∷ back)))

-- lines behind the first
pub text_of-back : (line : List ℕ) (back : List (List ℕ)) → text_of (line ∷ back) ≡ line ++ begun back
text_of-back line [] = sym (append-nil line)
text_of-back line (next ∷ back) = ap (λ t. line ++ newline ∷ t) (text_of-back next back)

-- lines in the middle
pub text_of-middle : (front : List (List ℕ)) (line : List ℕ) (middle back : List (List ℕ))
    → text_of (front ++ ((line ∷ middle) ++ back)) ≡ ended front ++ (text_of (line ∷ middle) ++ begun back)
text_of-middle front line middle back =
    text_of-front front line (middle ++ back)
    ∙ ap (λ t. ended front ++ t)
    (text_of-back line (middle ++ back)
    ∙ ap (λ t. line ++ t) (flat_map-append (λ (l : List ℕ). newline ∷ l) middle back)
    ∙ sym (append_assoc line (begun middle) (begun back))
    ∙ ap (λ t. t ++ begun back) (sym (text_of-back line middle)))

-- one line more, of which no byte has come
pub text_of-ended : (front : List (List ℕ)) (line : List ℕ) → text_of ((front ++ line ∷ []) ++ [] ∷ []) ≡ text_of (front ++ line ∷ []) ++ newline ∷ []
text_of-ended front line =
    text_of-front (front ++ line ∷ []) [] []
    ∙ append-nil (ended (front ++ line ∷ []))
    ∙ flat_map-append (λ (l : List ℕ). l ++ newline ∷ []) front (line ∷ [])
    ∙ ap (λ t. ended front ++ t) (append-nil (line ++ newline ∷ []))
    ∙ sym (append_assoc (ended front) line (newline ∷ []))
    ∙ ap (λ t. t ++ newline ∷ []) (sym (text_of-front front line []))

-- ---- the last line

-- lines, of which the last one has become another
pub set-last : (lines : List (List ℕ)) (line : List ℕ) → 0 < length lines → set lines (length lines - 1) line ≡ take (length lines - 1) lines ++ line ∷ []
set-last lines line some =
    set_split lines (length lines - 1) line (omega arith) ∙ ap (λ l. take (length lines - 1) lines ++ line ∷ l) (drop_all (suc (length lines - 1)) lines (omega arith))

pub with-last : (lines : List (List ℕ)) → 0 < length lines → lines ≡ take (length lines - 1) lines ++ get_or lines (length lines - 1) [] ∷ []
with-last lines some =
    let last = length lines - 1 in
    sym (take-append-drop last lines)
    ∙ ap (λ l. take last lines ++ l) (drop_more lines last [] (omega arith) ∙ ap (λ l. get_or lines last [] ∷ l) (drop_all (last + 1) lines (omega arith)))

-- bytes were appended to the last line
pub text_of-longer : (lines : List (List ℕ)) (bytes : List ℕ) → 0 < length lines
    → text_of (set lines (length lines - 1) (get_or lines (length lines - 1) [] ++ bytes)) ≡ text_of lines ++ bytes
text_of-longer lines bytes some =
    let front = take (length lines - 1) lines in
    let line = get_or lines (length lines - 1) [] in
    ap text_of (set-last lines (line ++ bytes) some)
    ∙ text_of-front front (line ++ bytes) []
    ∙ sym (append_assoc (ended front) line bytes)
    ∙ ap (λ t. t ++ bytes) (sym (ap text_of (with-last lines some) ∙ text_of-front front line []))

pub all-front : (front back : List (List ℕ)) → list_all has_no_newline (front ++ back) ≡ true → list_all has_no_newline front ≡ true
all-front front back each = left_true (list_all has_no_newline front) (list_all has_no_newline back) (sym (list_all-append has_no_newline front back) ∙ each)

pub all-back : (front back : List (List ℕ)) → list_all has_no_newline (front ++ back) ≡ true → list_all has_no_newline back ≡ true
all-back front back each = right_true (list_all has_no_newline front) (list_all has_no_newline back) (sym (list_all-append has_no_newline front back) ∙ each)

pub all-both : (front back : List (List ℕ)) → list_all has_no_newline front ≡ true → list_all has_no_newline back ≡ true → list_all has_no_newline (front ++ back) ≡ true
all-both front back each other = list_all-append has_no_newline front back ∙ both (list_all has_no_newline front) (list_all has_no_newline back) each other

pub AreLines-longer : (lines : List (List ℕ)) (bytes : List ℕ) → AreLines lines → has_no_newline bytes ≡ true
    → AreLines (set lines (length lines - 1) (get_or lines (length lines - 1) [] ++ bytes))
AreLines-longer lines bytes are none =
    let front = take (length lines - 1) lines in
    let line = get_or lines (length lines - 1) [] in
    let each : list_all has_no_newline (front ++ line ∷ []) ≡ true = ap (λ l. list_all has_no_newline l) (sym (with-last lines are.some)) ∙ are.each in
    let here : has_no_newline (line ++ bytes) ≡ true =
    list_all-append (λ b. not (eqb b newline)) line bytes ∙ both (has_no_newline line) (has_no_newline bytes) (left_true (has_no_newline line) true (all-back front (line ∷ []) each)) none
    in record {
      some = omega (arith, are.some, length-set lines (length lines - 1) (line ++ bytes));
      each =
          ap (λ l. list_all has_no_newline l) (set-last lines (line ++ bytes) are.some)
          ∙ all-both front ((line ++ bytes) ∷ []) (all-front front (line ∷ []) each) (both (has_no_newline (line ++ bytes)) true here refl);
    }

-- one line more, of which no byte has come
pub text_of-newline : (lines : List (List ℕ)) → 0 < length lines → text_of (lines ++ [] ∷ []) ≡ text_of lines ++ newline ∷ []
text_of-newline lines some =
    ap (λ l. text_of (l ++ [] ∷ [])) (with-last lines some)
    ∙ text_of-ended (take (length lines - 1) lines) (get_or lines (length lines - 1) [])
    ∙ ap (λ l. text_of l ++ newline ∷ []) (sym (with-last lines some))
