-- What is told of lines, one after another.
use Rattle.std.proofs.Common.{◌≡◌, ℕ, suc, ◌+◌, ◌-◌, ◌≤◌, true, false, List, [], ◌∷◌, ◌++◌, length, take, drop, refl, sym, ap, subst, ◌∙◌, arith, append_assoc, append-nil, length-take-le, length-drop}
use Rattle.std.specs.Prelude.{nat_lt}
use Rattle.std.proofs.lemmas.Bool.{cond-true, cond-false}
use Rattle.std.proofs.lemmas.Bool.Decides.{nat_tests}
use Rattle.std.proofs.lemmas.List.{take-append-drop}
use Rattle.cps_edit.specs.Limits.{most_lines}
use Rattle.cps_final.specs.Outcome.{Outcome}
use Rattle.cps_check.specs.Code.Adding.{excess_of}
use Rattle.cps_check.specs.Reports.{Report, ReportsLine, ReportsLines, excess_report}

pub ReportsLines-append : (number : ℕ) (lines more : List (List ℕ)) (outcomes others : List Outcome) (here back : List Report) → length lines ≡ length outcomes
    → ReportsLines number lines outcomes here → ReportsLines (number + length lines) more others back
    → ReportsLines number (lines ++ more) (outcomes ++ others) (here ++ back)
ReportsLines-append number [] more [] others here back same none last =
    let at : number + 0 ≡ number = omega arith in
    subst (ReportsLines number more others) (ap (λ (r : List Report). r ++ back) (sym none)) (subst (λ n. ReportsLines n more others back) at last)
ReportsLines-append number [] more (o ∷ outcomes) others here back same none last = absurd (omega arith)
ReportsLines-append number (line ∷ lines) more [] others here back same told last = absurd (omega arith)
ReportsLines-append number (line ∷ lines) more (o ∷ outcomes) others here back same (first, rest, is, told, others_told) last =
    let fewer : length lines ≡ length outcomes = omega arith in
    let at : number + suc (length lines) ≡ number + 1 + length lines = omega arith in (
      first,
      rest ++ back,
      ap (λ (r : List Report). r ++ back) is ∙ append_assoc first rest back,
      told,
      ReportsLines-append (number + 1) lines more outcomes others rest back fewer others_told (subst (λ n. ReportsLines n more others back) at last),
    )

-- one line more
pub ReportsLines-next : (number at : ℕ) (lines : List (List ℕ)) (line : List ℕ) (outcomes : List Outcome) (outcome : Outcome) (here back : List Report)
    → length lines ≡ length outcomes → at ≡ number + length lines → ReportsLines number lines outcomes here → ReportsLine at line outcome back
    → ReportsLines number (lines ++ line ∷ []) (outcomes ++ outcome ∷ []) (here ++ back)
ReportsLines-next number at lines line outcomes outcome here back same is told next =
    ReportsLines-append number lines (line ∷ []) outcomes (outcome ∷ []) here back same told
    (back, [], sym (append-nil back), subst (λ n. ReportsLine n line outcome back) is next, refl)

-- ---- lines for which no card stands

excess-told : (most : ℕ) (lines rest : List (List ℕ)) (outcomes : List Outcome) (reports excess : List Report) → drop most lines ≡ rest
    → (nat_lt most (length lines) ≡ false → excess ≡ []) → (nat_lt most (length lines) ≡ true → excess ≡ excess_report (most + 1) ∷ [])
    → length (take most lines) ≡ length outcomes → ReportsLines 1 (take most lines) outcomes reports
    → ReportsLines 1 (take most lines ++ rest) outcomes (reports ++ excess)
excess-told most lines [] outcomes reports excess is none some same told =
    let length_is : length lines - most ≡ 0 = sym (length-drop most lines) ∙ ap length is in
    let test : nat_lt most (length lines) ≡ false = grind (arith, nat_tests) in
    let all : reports ++ excess ≡ reports = ap (λ (r : List Report). reports ++ r) (none test) ∙ append-nil reports in
    subst (λ (r : List Report). ReportsLines 1 (take most lines ++ []) outcomes r) (sym all)
    (subst (λ (ls : List (List ℕ)). ReportsLines 1 ls outcomes reports) (sym (append-nil (take most lines))) told)
excess-told most lines (line ∷ rest) outcomes reports excess is none some same told =
    let length_is : length lines - most ≡ suc (length rest) = sym (length-drop most lines) ∙ ap length is in
    let test : nat_lt most (length lines) ≡ true = grind (arith, nat_tests) in
    let within : most ≤ length lines = omega arith in
    let at : 1 + length (take most lines) ≡ most + 1 = let front = length-take-le most lines within in omega arith in
    let last : ReportsLines (1 + length (take most lines)) (line ∷ rest) [] excess = some test ∙ ap (λ n. excess_report n ∷ []) (sym at) in
    subst (λ (o : List Outcome). ReportsLines 1 (take most lines ++ line ∷ rest) o (reports ++ excess)) (append-nil outcomes)
    (ReportsLines-append 1 (take most lines) (line ∷ rest) outcomes [] reports excess same told last)

-- the first line too many is told
pub ReportsLines-all : (lines : List (List ℕ)) (outcomes : List Outcome) (reports : List Report) → length (take most_lines lines) ≡ length outcomes
    → ReportsLines 1 (take most_lines lines) outcomes reports → ReportsLines 1 lines outcomes (reports ++ excess_of (length lines))
ReportsLines-all lines outcomes reports same told =
    let excess = excess_of (length lines) in
    subst (λ (ls : List (List ℕ)). ReportsLines 1 ls outcomes (reports ++ excess)) (take-append-drop most_lines lines)
    (excess-told most_lines lines (drop most_lines lines) outcomes reports excess refl (cond-false _ _ _) (cond-true _ _ _) same told)
