-- Marks to which more are added, and the marks of lines one after another.
use Rattle.std.proofs.Common.{◌≡◌, ℕ, suc, ◌+◌, ◌-◌, ◌<◌, ◌≤◌, true, false, List, [], ◌∷◌, ◌++◌, length, get_or, take, drop, map, refl, sym, ap, subst, ◌∙◌, arith, append_assoc, append-nil, length-take-le, length-drop}
use Rattle.std.specs.Prelude.{nat_lt}
use Rattle.std.proofs.lemmas.Bool.{cond-true, cond-false}
use Rattle.std.proofs.lemmas.Bool.Decides.{nat_tests}
use Rattle.std.proofs.lemmas.List.{map_more, map_push, take-append-drop}
use Rattle.cps_edit.specs.Limits.{most_lines}
use Rattle.cps_final.specs.Outcome.{Outcome}
use Rattle.cps_server.specs.declared.mark.Mark as made
use Rattle.cps_server.specs.Code.Adding.{Adds, excess_of}
use Rattle.cps_server.specs.Marks.{Mark, MarksLine, MarksLines, excess_mark, place_of}

-- ---- marks to which more are added

pub Adds-none : (marks : List made.Mark) → Adds [] marks marks
Adds-none marks = sym (append-nil (map place_of marks))

pub Adds-append : (places others : List Mark) (a b c : List made.Mark) → Adds places a b → Adds others b c → Adds (places ++ others) a c
Adds-append places others a b c here back = back ∙ ap (λ (ms : List Mark). ms ++ others) here ∙ append_assoc (map place_of a) places others

pub Adds-one : (mark : made.Mark) (place : Mark) (old new : List made.Mark) → new ≡ old ++ mark ∷ [] → place_of mark ≡ place → Adds (place ∷ []) old new
Adds-one mark place old new is same =
    ap (map place_of) is ∙ map_push place_of old mark ∙ ap (λ (p : Mark). map place_of old ++ p ∷ []) same

-- one more of some
pub Adds-next : {X : Type 0} (mark : X → Mark) (xs : List X) (at : ℕ) (d : X) (a b c : List made.Mark) → at < length xs → Adds (map mark (take at xs)) a b
    → Adds (mark (get_or xs at d) ∷ []) b c → Adds (map mark (take (at + 1) xs)) a c
Adds-next mark xs at d a b c within before here =
    subst (λ (marks : List Mark). Adds marks a c) (sym (map_more mark xs at d within))
    (Adds-append (map mark (take at xs)) (mark (get_or xs at d) ∷ []) a b c before here)

-- ---- the marks of lines one after another

MarksLines-append : (number : ℕ) (lines more : List (List ℕ)) (outcomes others : List Outcome) (here back : List Mark) → length lines ≡ length outcomes
    → MarksLines number lines outcomes here → MarksLines (number + length lines) more others back
    → MarksLines number (lines ++ more) (outcomes ++ others) (here ++ back)
MarksLines-append number [] more [] others here back same none last =
    let at : number + 0 ≡ number = omega arith in
    subst (MarksLines number more others) (ap (λ (m : List Mark). m ++ back) (sym none)) (subst (λ n. MarksLines n more others back) at last)
MarksLines-append number [] more (o ∷ outcomes) others here back same none last = absurd (omega arith)
MarksLines-append number (line ∷ lines) more [] others here back same told last = absurd (omega arith)
MarksLines-append number (line ∷ lines) more (o ∷ outcomes) others here back same (first, rest, is, told, others_told) last =
    let fewer : length lines ≡ length outcomes = omega arith in
    let at : number + suc (length lines) ≡ number + 1 + length lines = omega arith in (
      first,
      rest ++ back,
      ap (λ (m : List Mark). m ++ back) is ∙ append_assoc first rest back,
      told,
      MarksLines-append (number + 1) lines more outcomes others rest back fewer others_told (subst (λ n. MarksLines n more others back) at last),
    )

-- one line more
pub MarksLines-next : (number at : ℕ) (lines : List (List ℕ)) (line : List ℕ) (outcomes : List Outcome) (outcome : Outcome) (here back : List Mark)
    → length lines ≡ length outcomes → at ≡ number + length lines → MarksLines number lines outcomes here → MarksLine at line outcome back
    → MarksLines number (lines ++ line ∷ []) (outcomes ++ outcome ∷ []) (here ++ back)
MarksLines-next number at lines line outcomes outcome here back same is told next =
    MarksLines-append number lines (line ∷ []) outcomes (outcome ∷ []) here back same told
    (back, [], sym (append-nil back), subst (λ n. MarksLine n line outcome back) is next, refl)

-- ---- lines for which no card stands

excess-marked : (most : ℕ) (lines rest : List (List ℕ)) (outcomes : List Outcome) (marks excess : List Mark) → drop most lines ≡ rest
    → (nat_lt most (length lines) ≡ false → excess ≡ []) → (nat_lt most (length lines) ≡ true → excess ≡ excess_mark most ∷ [])
    → length (take most lines) ≡ length outcomes → MarksLines 0 (take most lines) outcomes marks
    → MarksLines 0 (take most lines ++ rest) outcomes (marks ++ excess)
excess-marked most lines [] outcomes marks excess is none some same told =
    let length_is : length lines - most ≡ 0 = sym (length-drop most lines) ∙ ap length is in
    let test : nat_lt most (length lines) ≡ false = grind (arith, nat_tests) in
    let all : marks ++ excess ≡ marks = ap (λ (m : List Mark). marks ++ m) (none test) ∙ append-nil marks in
    subst (λ (m : List Mark). MarksLines 0 (take most lines ++ []) outcomes m) (sym all)
    (subst (λ (ls : List (List ℕ)). MarksLines 0 ls outcomes marks) (sym (append-nil (take most lines))) told)
excess-marked most lines (line ∷ rest) outcomes marks excess is none some same told =
    let length_is : length lines - most ≡ suc (length rest) = sym (length-drop most lines) ∙ ap length is in
    let test : nat_lt most (length lines) ≡ true = grind (arith, nat_tests) in
    let within : most ≤ length lines = omega arith in
    let at : 0 + length (take most lines) ≡ most = let front = length-take-le most lines within in omega arith in
    let last : MarksLines (0 + length (take most lines)) (line ∷ rest) [] excess = some test ∙ ap (λ n. excess_mark n ∷ []) (sym at) in
    subst (λ (o : List Outcome). MarksLines 0 (take most lines ++ line ∷ rest) o (marks ++ excess)) (append-nil outcomes)
    (MarksLines-append 0 (take most lines) (line ∷ rest) outcomes [] marks excess same told last)

-- the first line too many is marked
pub MarksLines-all : (lines : List (List ℕ)) (outcomes : List Outcome) (marks : List Mark) → length (take most_lines lines) ≡ length outcomes
    → MarksLines 0 (take most_lines lines) outcomes marks → MarksLines 0 lines outcomes (marks ++ excess_of (length lines))
MarksLines-all lines outcomes marks same told =
    let excess = excess_of (length lines) in
    subst (λ (ls : List (List ℕ)). MarksLines 0 ls outcomes (marks ++ excess)) (take-append-drop most_lines lines)
    (excess-marked most_lines lines (drop most_lines lines) outcomes marks excess refl (cond-false _ _ _) (cond-true _ _ _) same told)
