-- The marks of a text, from those of its lines, and the first of them.
use Rattle.std.proofs.Common.{◌≡◌, ℕ, zero, suc, ◌+◌, ◌-◌, ◌<◌, ◌≤◌, min, List, [], ◌∷◌, ◌++◌, length, take, map, refl, sym, ap, subst, ◌∙◌, append-nil, arith, length-take, length-take-le}
use Rattle.std.specs.Prelude.{true, nat_eq}
use Rattle.std.proofs.lemmas.List.{length-append, length-map, map_push, take-map, take_all, take_min}
use Rattle.std.proofs.lemmas.Option.{slice_get_within}
use Rattle.cps_text.specs.declared.limits.TheConstants.{MOST_LINES}
use Rattle.cps_final.specs.Outcome.{Outcome}
use Rattle.cps_list.proofs.ViewLemmas.{take-next}
use Rattle.cps_edit.specs.Assembly.{outcomes_of}
use Rattle.cps_edit.specs.Limits.{most_lines}
use Rattle.cps_input.specs.Card.{card_of}
use Rattle.cps_rpc.specs.Lines.{source_lines}
use Rattle.cps_server.specs.Document.{source_of_text}
use Rattle.cps_server.proofs.SourceLemmas.{length-cards}
use Rattle.cps_server.specs.declared.mark.Mark as made
use Rattle.cps_server.specs.declared.first_marks.FirstMarks.{FirstMarks}
use Rattle.cps_server.specs.declared.line_mark.LineMark.{LineMark}
use Rattle.cps_server.specs.declared.line_marks.LineMarks.{LineMarks}
use Rattle.cps_server.specs.Code.Adding.{Adds, excess_of, mark_at}
use Rattle.cps_server.specs.Code.Keeping.{KeepsLine, in_line, shown_of}
use Rattle.cps_server.specs.Code.Listing.{Lists, ListsEnd, ListsLines, ListsMarks, ListsMore}
use Rattle.cps_server.specs.Diagnostics.{most_told}
use Rattle.cps_server.specs.Marks.{Mark, MarksLine, MarksLines, place_of}
use Rattle.cps_server.proofs.LineLemmas.{empty, length-outcomes}
use Rattle.cps_server.proofs.MarkLemmas.{MarksLines-all, MarksLines-next}
use Rattle.cps_server.proofs.ShownLemmas.{MarksLine-of, map-both}

-- ---- marks that are listed

take-both : {X : Type 0} (n : ℕ) (xs ys : List X) → take n (xs ++ ys) ≡ take n xs ++ take (n - length xs) ys
take-both zero xs ys = let none : 0 ≡ 0 - length xs = omega arith in ap (λ k. take k ys) none
take-both (suc n) [] ys = let same : suc n ≡ suc n - 0 = omega arith in ap (λ k. take k ys) same
take-both (suc n) (x ∷ xs) ys =
    let same : n - length xs ≡ suc n - suc (length xs) = omega arith in
    ap (λ zs. x ∷ zs) (take-both n xs ys ∙ ap (λ k. take n xs ++ take k ys) same)

take-one : (n : ℕ) (mark : Mark) → take (suc n) (mark ∷ []) ≡ mark ∷ []
take-one zero mark = refl
take-one (suc n) mark = refl

length-first : (marks : List Mark) (list : FirstMarks) → Lists marks list → length list.first.items ≡ min (most_told + 1) (length marks)
length-first marks list lists = sym (length-map list.first.items place_of) ∙ ap length lists.first ∙ length-take (most_told + 1) marks

pub Lists-none : (list : FirstMarks) → list.first.items ≡ [] → list.count ≡ 0 → Lists [] list
Lists-none list none zero_is = record { first = ap (map place_of) none; count = zero_is }

-- those of a line, of which as many are added as there is room for
pub Lists-line : (number : ℕ) (given : List LineMark) (few : ℕ) (old new : FirstMarks) → few ≡ min (most_told + 1 - length old.first.items) (length given)
    → Adds (map (mark_at number) (take few given)) old.first.items new.first.items → new.count ≡ old.count + length given
    → ListsMore (map (mark_at number) given) old new
Lists-line number given few old new room added counted marks lists =
    let places = map (mark_at number) given in
    let had = length-first marks old lists in
    let left : most_told + 1 - length old.first.items ≡ most_told + 1 - length marks = omega (arith, had) in
    record {
      first = added
          ∙ ap (λ (ms : List Mark). ms ++ map (mark_at number) (take few given)) lists.first
          ∙ ap (λ (ms : List Mark). take (most_told + 1) marks ++ ms)
          (ap (λ n. map (mark_at number) (take n given)) room ∙ ap (map (mark_at number)) (take_min (most_told + 1 - length old.first.items) given)
          ∙ ap (λ n. map (mark_at number) (take n given)) left ∙ sym (take-map (mark_at number) (most_told + 1 - length marks) given))
          ∙ sym (take-both (most_told + 1) marks places);
      count = counted ∙ (λ i. lists.count i + sym (length-map given (mark_at number)) i) ∙ sym (length-append marks places);
    }

-- a mark for which there is room
pub Lists-mark : (mark : made.Mark) (old new : FirstMarks) → length old.first.items ≤ most_told → new.first.items ≡ old.first.items ++ mark ∷ []
    → new.count ≡ old.count + 1 → ListsMore (place_of mark ∷ []) old new
Lists-mark mark old new room pushed counted marks lists =
    let had = length-first marks old lists in
    let left : most_told + 1 - length marks ≡ suc (most_told - length marks) = omega (arith, had, room) in
    record {
      first = ap (map place_of) pushed ∙ map_push place_of old.first.items mark ∙ ap (λ (ms : List Mark). ms ++ place_of mark ∷ []) lists.first
          ∙ sym (take-both (most_told + 1) marks (place_of mark ∷ []) ∙ ap (λ n. take (most_told + 1) marks ++ take n (place_of mark ∷ [])) left
          ∙ ap (λ (ms : List Mark). take (most_told + 1) marks ++ ms) (take-one (most_told - length marks) (place_of mark)));
      count = counted ∙ ap (λ n. n + 1) lists.count ∙ sym (length-append marks (place_of mark ∷ []));
    }

-- one for which there is none
pub Lists-past : (mark : made.Mark) (old new : FirstMarks) → most_told < length old.first.items → new.first.items ≡ old.first.items
    → new.count ≡ old.count + 1 → ListsMore (place_of mark ∷ []) old new
Lists-past mark old new full same counted marks lists =
    let had = length-first marks old lists in
    let left : most_told + 1 - length marks ≡ 0 = omega (arith, had, full) in
    record {
      first = ap (map place_of) same ∙ lists.first
          ∙ sym (take-both (most_told + 1) marks (place_of mark ∷ []) ∙ ap (λ n. take (most_told + 1) marks ++ take n (place_of mark ∷ [])) left
          ∙ append-nil (take (most_told + 1) marks));
      count = counted ∙ ap (λ n. n + 1) lists.count ∙ sym (length-append marks (place_of mark ∷ []));
    }

-- none is added
pub Lists-same : (list : FirstMarks) → ListsMore [] list list
Lists-same list marks lists = subst (λ (ms : List Mark). Lists ms list) (sym (append-nil marks)) lists

-- those of a line without one
pub Lists-empty : (number : ℕ) (given : List LineMark) (list : FirstMarks) → nat_eq (length given) 0 ≡ true → ListsMore (map (mark_at number) given) list list
Lists-empty number given list none =
    subst (λ (ms : List LineMark). ListsMore (map (mark_at number) ms) list list) (sym (empty given none)) (Lists-same list)

-- those of a line where there is no room
pub Lists-full : (number : ℕ) (given : List LineMark) (old new : FirstMarks) → most_told < length old.first.items → new.first.items ≡ old.first.items
    → new.count ≡ old.count + length given → ListsMore (map (mark_at number) given) old new
Lists-full number given old new full same counted =
    let none : 0 ≡ min (most_told + 1 - length old.first.items) (length given) = omega (arith, full) in
    Lists-line number given 0 old new none (ap (map place_of) same ∙ sym (append-nil (map place_of old.first.items))) counted

-- ---- the marks of the lines of a text

pub ListsLines-none : (text : List ℕ) (list : FirstMarks) → Lists [] list → ListsLines text 0 list
ListsLines-none text list lists = record { marks = []; each = refl; lists = lists }

-- one line more
pub ListsLines-next : (text : List ℕ) (number : ℕ) (kept : LineMarks) (old new : FirstMarks) → ListsLines text number old → KeepsLine text number kept
    → ListsMore (map (mark_at number) kept.marks.items) old new → ListsLines text (number + 1) new
ListsLines-next text number kept old new before here more =
    let lines = source_lines text in
    let outcomes = outcomes_of (source_of_text text) in
    let places = map (mark_at number) kept.marks.items in
    let next : number + 1 ≡ suc number = omega arith in
    let in_lines = slice_get_within lines number here.line here.line_is in
    let in_outcomes = slice_get_within outcomes number here.outcome here.outcome_is in
    let front : length (take number lines) ≡ number = length-take-le number lines (omega (arith, in_lines)) in
    let made_front : length (take number outcomes) ≡ number = length-take-le number outcomes (omega (arith, in_outcomes)) in
    let lines_are : take (number + 1) lines ≡ take number lines ++ here.line ∷ [] =
    ap (λ n. take n lines) next ∙ take-next lines number here.line here.line_is in
    let outcomes_are : take (number + 1) outcomes ≡ take number outcomes ++ here.outcome ∷ [] =
    ap (λ n. take n outcomes) next ∙ take-next outcomes number here.outcome here.outcome_is in
    let marked : MarksLine number here.line here.outcome places =
    subst (λ (ms : List Mark). MarksLine number here.line here.outcome ms) (map-both (in_line number) shown_of kept.marks.items)
    (MarksLine-of number here.line here.outcome (map shown_of kept.marks.items) here.shows) in
    let all = before.marks ++ places in
    record {
      marks = all;
      each =
          subst (λ (ls : List (List ℕ)). MarksLines 0 ls (take (number + 1) outcomes) all) (sym lines_are)
          (subst (λ (os : List Outcome). MarksLines 0 (take number lines ++ here.line ∷ []) os all) (sym outcomes_are)
          (MarksLines-next 0 number (take number lines) here.line (take number outcomes) here.outcome before.marks places (front ∙ sym made_front)
          (omega (arith, front)) before.each marked));
      lists = more before.marks before.lists;
    }

-- all lines, and the first that is too many
all-lines : (text : List ℕ) (marks : List Mark)
    → MarksLines 0 (take (length (source_of_text text)) (source_lines text)) (take (length (source_of_text text)) (outcomes_of (source_of_text text))) marks
    → MarksLines 0 (source_lines text) (outcomes_of (source_of_text text)) (marks ++ excess_of (length (source_lines text)))
all-lines text marks told =
    let lines = source_lines text in
    let source = source_of_text text in
    let count = length source in
    let outcomes = outcomes_of source in
    let long : length outcomes ≡ count = length-outcomes source in
    let lines_are : take count lines ≡ take MOST_LINES lines = ap (λ n. take n lines) (length-cards lines) ∙ take_min MOST_LINES lines in
    let outcomes_are : take count outcomes ≡ outcomes = take_all count outcomes (omega (arith, long)) in
    let same : length (take most_lines lines) ≡ length outcomes = sym (length-map (take MOST_LINES lines) card_of) ∙ sym long in
    MarksLines-all lines outcomes marks same
    (subst (λ (ls : List (List ℕ)). MarksLines 0 ls outcomes marks) lines_are
    (subst (λ (os : List Outcome). MarksLines 0 (take count lines) os marks) outcomes_are told))

pub whole : (text : List ℕ) (count : ℕ) (l0 l1 l2 : FirstMarks) → count ≡ length (source_lines text) → ListsLines text (length (source_of_text text)) l0
    → ListsMore (excess_of count) l0 l1 → ListsEnd (source_of_text text) l1 l2 → ListsMarks text l2
whole text count l0 l1 l2 count_is told excess ended =
    let of_lines = told.marks ++ excess_of (length (source_lines text)) in
    let both : Lists of_lines l1 = subst (λ (n : ℕ). Lists (told.marks ++ excess_of n) l1) count_is (excess told.marks told.lists) in (
      of_lines ++ ended.0,
      record { of_lines = of_lines; of_end = ended.0; all = refl; each = all-lines text told.marks told.each; end = ended.1 },
      ended.2 of_lines both,
    )
