-- The source that a text stands for.
use Rattle.std.proofs.Common.{◌≡◌, ℕ, zero, suc, ◌+◌, ◌-◌, ◌<◌, ◌≤◌, true, List, [], ◌∷◌, ◌++◌, length, get_or, take, drop, map, refl, sym, ap, subst, ◌∙◌, arith, append_assoc, append-nil, length-append, length-take, length-drop}
use Rattle.std.specs.Prelude.{Option, Some, None, slice_get}
use Rattle.std.specs.List.{list_all, splice}
use Rattle.std.proofs.lemmas.List.{length-map, same_from_push, take-append-drop, drop_more, take_at, drop_at, take_all, drop_all, map-append}
use Rattle.cps_input.specs.Lines.{Splits, HasText, has_no_newline, without_return, last_line}
use Rattle.cps_input.proofs.SplitLemmas.{both, split_of}
use Rattle.cps_rpc.specs.declared.position.Range.{Range}
use Rattle.cps_rpc.specs.declared.replacement.Replacement.{Replacement}
use Rattle.cps_rpc.specs.Changes.{IsReplacement, first_touched, end_touched}
use Rattle.cps_rpc.specs.TextLaws.{IsInSource}
use Rattle.cps_rpc.specs.Lines.{AreLines, text_lines, source_of, source_lines}
use Rattle.cps_rpc.proofs.TextLemmas.{text_of-front, text_lines-text_of, with-last, all-both}

-- ---- the lines of a text, as batch assembly cuts it

split-lines : (lines : List (List ℕ)) (rest : List ℕ) → list_all has_no_newline lines ≡ true → has_no_newline rest ≡ true → AreLines (lines ++ rest ∷ [])
split-lines lines rest each last = record {
  some = omega (arith, length-append lines (rest ∷ []));
  each = all-both lines (rest ∷ []) each (both (has_no_newline rest) true last refl);
}

pub lines-split : (text : List ℕ) (lines : List (List ℕ)) (rest : List ℕ) → Splits text lines rest → text_lines text ≡ lines ++ rest ∷ []
lines-split text lines rest splits =
    ap text_lines (splits.whole ∙ sym (text_of-front lines rest []))
    ∙ text_lines-text_of (lines ++ rest ∷ []) (split-lines lines rest splits.each splits.last)

pub split-from_lines : (text : List ℕ) (lines : List (List ℕ)) (rest : List ℕ) → text_lines text ≡ lines ++ rest ∷ [] → Splits text lines rest
split-from_lines text lines rest cut =
    let split = split_of text in
    let same = same_from_push split.lines lines split.rest rest (sym (lines-split text split.lines split.rest split.splits) ∙ cut) in
    subst (λ r. Splits text lines r) same.1 (subst (λ l. Splits text l split.rest) same.0 split.splits)

-- ---- the source of lines

pub source_of-front : (front : List (List ℕ)) (line : List ℕ) (back : List (List ℕ)) → source_of (front ++ line ∷ back) ≡ map without_return front ++ source_of (line ∷ back)
source_of-front [] line back = refl
source_of-front (first ∷ []) line back = refl
source_of-front (first ∷ next ∷ front) line back = ap (λ l. without_return first ∷ l) (source_of-front (next ∷ front) line back)

-- it is what batch assembly reads
pub source-read : (text : List ℕ) (source : List (List ℕ)) → HasText text source → source ≡ source_lines text
source-read text source read =
    read.all ∙ sym (ap source_of (lines-split text read.lines read.rest read.splits) ∙ source_of-front read.lines read.rest [])

pub source-is_read : (text : List ℕ) (source : List (List ℕ)) → source ≡ source_lines text → HasText text source
source-is_read text source is =
    let split = split_of text in
    record {
      lines = split.lines;
      rest = split.rest;
      splits = split.splits;
      all = is ∙ ap source_of (lines-split text split.lines split.rest split.splits) ∙ source_of-front split.lines split.rest [];
    }

-- ---- how many lines it has, and which

length-source : (lines : List (List ℕ)) → 0 < length lines → length (source_of lines) ≡ length lines - 1 + length (last_line (get_or lines (length lines - 1) []))
length-source lines some =
    let front = take (length lines - 1) lines in
    let last = get_or lines (length lines - 1) [] in
    ap (λ l. length (source_of l)) (with-last lines some)
    ∙ ap length (source_of-front front last [])
    ∙ omega (arith, length-append (map without_return front) (last_line last), length-map front without_return, length-take (length lines - 1) lines)

last_line-length : (line : List ℕ) → 0 < length line → length (last_line line) ≡ 1
last_line-length [] some = absurd (omega arith)
last_line-length (byte ∷ line) some = refl

last_line-none : (line : List ℕ) → length line ≡ 0 → length (last_line line) ≡ 0
last_line-none [] none = refl
last_line-none (byte ∷ line) none = cc

pub length-source_empty : (lines : List (List ℕ)) → 0 < length lines → length (get_or lines (length lines - 1) []) ≡ 0 → length (source_of lines) ≡ length lines - 1
length-source_empty lines some none = omega (arith, length-source lines some, last_line-none (get_or lines (length lines - 1) []) none)

pub length-source_filled : (lines : List (List ℕ)) → 0 < length lines → 0 < length (get_or lines (length lines - 1) []) → length (source_of lines) ≡ length lines
length-source_filled lines some filled = omega (arith, length-source lines some, last_line-length (get_or lines (length lines - 1) []) filled)

pub source_of-get : (lines : List (List ℕ)) (at : ℕ) → at < length (source_of lines) → slice_get (source_of lines) at ≡ Some (without_return (get_or lines at []))
source_of-get [] at within = absurd (omega arith)
source_of-get ([] ∷ []) at within = absurd (omega arith)
source_of-get ((byte ∷ line) ∷ []) zero within = refl
source_of-get ((byte ∷ line) ∷ []) (suc at) within = absurd (omega arith)
source_of-get (line ∷ next ∷ lines) zero within = refl
source_of-get (line ∷ next ∷ lines) (suc at) within = source_of-get (next ∷ lines) at (omega arith)

pub length-source-le : (lines : List (List ℕ)) → length (source_of lines) ≤ length lines
length-source-le [] = omega arith
length-source-le ([] ∷ []) = omega arith
length-source-le ((byte ∷ line) ∷ []) = omega arith
length-source-le (line ∷ next ∷ lines) = omega (arith, length-source-le (next ∷ lines))

-- ---- lines in the place of others

source-at : (lines : List (List ℕ)) (at : ℕ) → at < length lines → source_of lines ≡ map without_return (take at lines) ++ source_of (drop at lines)
source-at lines at within =
    let first = get_or lines at [] in
    let behind : drop at lines ≡ first ∷ drop (at + 1) lines = drop_more lines at [] within in
    ap source_of (sym (take-append-drop at lines) ∙ ap (λ l. take at lines ++ l) behind)
    ∙ source_of-front (take at lines) first (drop (at + 1) lines)
    ∙ ap (λ l. map without_return (take at lines) ++ source_of l) (sym behind)

length-front : (lines : List (List ℕ)) (at : ℕ) → at ≤ length lines → length (map without_return (take at lines)) ≡ at
length-front lines at within = omega (arith, length-map (take at lines) without_return, length-take at lines)

take-source : (lines : List (List ℕ)) (at : ℕ) → at < length lines → take at (source_of lines) ≡ map without_return (take at lines)
take-source lines at within =
    ap (λ l. take at l) (source-at lines at within) ∙ take_at (map without_return (take at lines)) (source_of (drop at lines)) at (length-front lines at (omega arith))

drop-source : (lines : List (List ℕ)) (at : ℕ) → at < length lines → drop at (source_of lines) ≡ source_of (drop at lines)
drop-source lines at within =
    ap (λ l. drop at l) (source-at lines at within) ∙ drop_at (map without_return (take at lines)) (source_of (drop at lines)) at (length-front lines at (omega arith))

-- a list whose middle is known
spliced-by : {X : Type 0} (old now front middle back : List X) (first end count : ℕ) → now ≡ front ++ (middle ++ back) → length front ≡ first
    → take first old ≡ front → drop end old ≡ back → take count (middle ++ back) ≡ middle → now ≡ splice old first end (take count (drop first now))
spliced-by old now front middle back first end count is len before behind within =
    let cards : take count (drop first now) ≡ middle = ap (λ l. take count (drop first l)) is ∙ ap (λ l. take count l) (drop_at front (middle ++ back) first len) ∙ within in
    is ∙ ap (λ l. l ++ (middle ++ back)) (sym before) ∙ ap (λ l. take first old ++ (middle ++ l)) (sym behind) ∙ ap (λ l. take first old ++ (l ++ drop end old)) (sym cards)

-- no line stands behind the new ones, or some do
source-spliced : (lines news back : List (List ℕ)) (first end : ℕ) → first < end → end ≤ length lines → 0 < length news → drop end lines ≡ back
    → source_of (splice lines first end news) ≡ splice (source_of lines) first end (take (length news) (drop first (source_of (splice lines first end news))))
source-spliced lines [] back first end before within some behind = absurd (omega arith)
source-spliced lines (line ∷ news) [] first end before within some behind =
    let front = take first lines in
    let last : length lines ≤ end = omega (arith, length-drop end lines, ap length behind) in
    spliced-by (source_of lines) (source_of (splice lines first end (line ∷ news))) (map without_return front) (source_of (line ∷ news)) [] first end (length (line ∷ news))
    (ap (λ l. source_of (front ++ ((line ∷ news) ++ l))) behind
    ∙ ap (λ l. source_of (front ++ l)) (append-nil (line ∷ news))
    ∙ source_of-front front line news
    ∙ ap (λ l. map without_return front ++ l) (sym (append-nil (source_of (line ∷ news)))))
    (length-front lines first (omega arith)) (take-source lines first (omega arith)) (drop_all end (source_of lines) (omega (arith, length-source-le lines, last)))
    (ap (λ l. take (length (line ∷ news)) l) (append-nil (source_of (line ∷ news))) ∙ take_all (length (line ∷ news)) (source_of (line ∷ news)) (length-source-le (line ∷ news)))
source-spliced lines (line ∷ news) (next ∷ back) first end before within some behind =
    let front = take first lines in
    let middle = line ∷ news in
    let inner : end < length lines = omega (arith, length-drop end lines, ap length behind) in
    spliced-by (source_of lines) (source_of (splice lines first end middle)) (map without_return front) (map without_return middle) (source_of (next ∷ back)) first end (length middle)
    (ap (λ l. source_of (front ++ (middle ++ l))) behind
    ∙ ap source_of (sym (append_assoc front middle (next ∷ back)))
    ∙ source_of-front (front ++ middle) next back
    ∙ ap (λ l. l ++ source_of (next ∷ back)) (map-append without_return front middle)
    ∙ append_assoc (map without_return front) (map without_return middle) (source_of (next ∷ back)))
    (length-front lines first (omega arith)) (take-source lines first (omega arith)) (drop-source lines end inner ∙ ap source_of behind)
    (take_at (map without_return middle) (source_of (next ∷ back)) (length middle) (length-map middle without_return))

-- the lines that a range touches are some, and no more than there are
pub touched : (lines : List (List ℕ)) (range : Option Range) → 0 < length lines
    → (first_touched lines range < end_touched lines range) × (end_touched lines range ≤ length lines)
touched lines None some = (some, omega arith)
touched lines (Some range) some = (omega arith, omega arith)

-- a text has a line
pub some-line : (text : List ℕ) → 0 < length (text_lines text)
some-line text =
    let split = split_of text in
    omega (arith, ap length (lines-split text split.lines split.rest split.splits), length-append split.lines (split.rest ∷ []))

in-source : (lines : List (List ℕ)) (at : ℕ) → at < length lines → at ≤ length (source_of lines)
in-source lines at within = omega (arith, length-source lines (omega arith))

length-spliced : (lines news : List (List ℕ)) (first end : ℕ) → first ≤ length lines → 0 < length news → first < length (splice lines first end news)
length-spliced lines news first end within some =
    omega (arith, length-append (take first lines) (news ++ drop end lines), length-append news (drop end lines), length-take first lines)

pub source-replaced : (old new : List ℕ) (range : Option Range) (replacement : Replacement) → IsReplacement old range new replacement → IsInSource old new replacement
source-replaced old new range replacement is =
    let lines = text_lines old in
    let within = touched lines range (some-line old) in
    let within0 = within.0 in let within1 = within.1 in
    let ordered : replacement.first < replacement.end = omega (arith, is.first, is.end, within0) in
    let ended : replacement.end ≤ length lines = omega (arith, is.end, within1) in
    record {
      in_old = in-source lines replacement.first (omega arith);
      in_new = in-source (text_lines new) replacement.first (rw is.lines (length-spliced lines is.news replacement.first replacement.end (omega arith) is.some));
      lines =
          let made = source-spliced lines is.news (drop replacement.end lines) replacement.first replacement.end ordered ended is.some refl in
          rw (is.count, is.lines) made;
    }
