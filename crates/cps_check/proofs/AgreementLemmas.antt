-- No error is told of a source exactly where a source may have its lines and none is flagged.
use Rattle.std.proofs.Common.{◌≡◌, ℕ, suc, ◌+◌, ◌≤◌, Bool, true, false, List, [], ◌∷◌, ◌++◌, length, map, take, refl, sym, ap, subst, ◌∙◌, arith, length-take}
use Rattle.std.specs.Prelude.{All}
use Rattle.std.proofs.lemmas.List.{length-map, take_all}
use Rattle.std.proofs.lemmas.List.Elements.{All-nil, All-cons, All-head, All-tail}
use Rattle.cps_text.specs.Line.{IsLine}
use Rattle.cps_state.specs.Keys.{first_state}
use Rattle.cps_state.specs.Flags.{has_flag}
use Rattle.cps_final.specs.Finals.{finals_of, final_value}
use Rattle.cps_final.specs.Outcome.{Outcome, flags_of, outcome_of}
use Rattle.cps_cause.specs.declared.diagnostic.Diagnostic.{Diagnostic}
use Rattle.cps_input.specs.Sources.{IsSource}
use Rattle.cps_input.specs.Card.{card_of, cards_of}
use Rattle.cps_input.proofs.CardLemmas.{card_of-line}
use Rattle.cps_list.specs.Flagged.{count_if, flagged_in}
use Rattle.cps_edit.proofs.SpliceLemmas.{length-traces_from}
use Rattle.cps_edit.specs.Limits.{most_lines}
use Rattle.cps_edit.specs.Assembly.{ends_open, outcomes_of, traces_of}
use Rattle.cps_edit.specs.Flagged.{flagged_lines}
use Rattle.cps_check.specs.Agreement.{Agrees}
use Rattle.cps_check.specs.Reports.{Report, ReportsLine, ReportsLines, ReportsEnd, Reports, flag_report, has_errors}
use Rattle.cps_check.proofs.ErrorLemmas.{no-flags, none-back, none-both, none-front, with-notes}
use Rattle.cps_check.proofs.FlagLemmas.{no-flag, none-told, true-false}

-- ---- counts

-- a flag that isn't counted
uncounted : (flag : Bool) (more : ℕ) → count_if flag + more ≡ 0 → (flag ≡ false) × (more ≡ 0)
uncounted false more is = (refl, omega arith)
uncounted true more is = absurd (omega arith)

uncounted_end : (flag : Bool) (before : ℕ) → before + count_if flag ≡ 0 → (flag ≡ false) × (before ≡ 0)
uncounted_end false before is = (refl, omega arith)
uncounted_end true before is = absurd (omega arith)

-- ---- lines

-- of lines no error is told: each is a line without a flag
pub record AreClean (lines : List (List ℕ)) (outcomes : List Outcome) : Type 0 where
  pub each : All IsLine lines
  pub same : length lines ≡ length outcomes
  pub none : flagged_in outcomes ≡ 0

line-clean : (number : ℕ) (line : List ℕ) (outcome : Outcome) (reports : List Report) → ReportsLine number line outcome reports → has_errors reports ≡ false
    → IsLine line × (has_flag (flags_of outcome.rows) ≡ false)
line-clean number line outcome reports told is =
    let is_line = told.some is in
    let causes = told.flags is_line in
    let flags = map (flag_report number line) causes.told in
    let none : has_errors flags ≡ false = sym (with-notes flags number line causes.notes) ∙ ap has_errors (sym causes.all) ∙ is in
    (is_line, no-flag outcome.rows causes.told causes.explains.letters (no-flags number line causes.told none))

lines-clean : (number : ℕ) (lines : List (List ℕ)) (outcomes : List Outcome) (reports : List Report) → ReportsLines number lines outcomes reports
    → has_errors reports ≡ false → length outcomes ≤ length lines → AreClean lines outcomes
lines-clean number [] [] reports told is few = record { each = All-nil IsLine; same = refl; none = refl }
lines-clean number [] (o ∷ outcomes) reports told is few = absurd (omega arith)
lines-clean number (line ∷ lines) [] reports told is few = absurd (true-false (ap has_errors (sym told) ∙ is))
lines-clean number (line ∷ lines) (o ∷ outcomes) reports (here, back, whole, told, others) is few =
    let none : has_errors (here ++ back) ≡ false = ap has_errors (sym whole) ∙ is in
    let this = line-clean number line o here told (none-front here back none) in
    let rest = lines-clean (number + 1) lines outcomes back others (none-back here back none) (omega arith) in
    let uncounted_here : count_if (has_flag (flags_of o.rows)) ≡ 0 = ap count_if this.1 in
    record {
      each = All-cons IsLine line lines this.0 rest.each;
      same = ap suc rest.same;
      none = let others_none = rest.none in omega arith;
    }

line-silent : (number : ℕ) (line : List ℕ) (outcome : Outcome) (reports : List Report) → ReportsLine number line outcome reports → IsLine line
    → has_flag (flags_of outcome.rows) ≡ false → has_errors reports ≡ false
line-silent number line outcome reports told is_line unflagged =
    let causes = told.flags is_line in
    let empty : causes.told ≡ [] = none-told outcome.rows causes.told causes.explains.letters unflagged in
    ap has_errors causes.all
    ∙ with-notes (map (flag_report number line) causes.told) number line causes.notes
    ∙ ap (λ (told : List Diagnostic). has_errors (map (flag_report number line) told)) empty

lines-silent : (number : ℕ) (lines : List (List ℕ)) (outcomes : List Outcome) (reports : List Report) → ReportsLines number lines outcomes reports
    → All IsLine lines → length lines ≡ length outcomes → flagged_in outcomes ≡ 0 → has_errors reports ≡ false
lines-silent number [] outcomes reports told each same none = ap has_errors told
lines-silent number (line ∷ lines) [] reports told each same none = absurd (let e : suc (length lines) ≡ 0 = same in omega arith)
lines-silent number (line ∷ lines) (o ∷ outcomes) reports (here, back, whole, told, others) each same none =
    let is_line = All-head IsLine line lines each in
    let unflagged = uncounted (has_flag (flags_of o.rows)) (flagged_in outcomes) none in
    let this = line-silent number line o here told is_line unflagged.0 in
    let rest = lines-silent (number + 1) lines outcomes back others (All-tail IsLine line lines each) (omega arith) unflagged.1 in
    ap has_errors whole ∙ none-both here back this rest

-- ---- cards

cards-same : (lines : List (List ℕ)) → All IsLine lines → map card_of lines ≡ lines
cards-same [] each = refl
cards-same (line ∷ lines) each =
    ap (λ (l : List ℕ). l ∷ map card_of lines) (card_of-line line (All-head IsLine line lines each))
    ∙ ap (λ (ls : List (List ℕ)). line ∷ ls) (cards-same lines (All-tail IsLine line lines each))

cards_of-source : (lines : List (List ℕ)) → IsSource lines → cards_of lines ≡ lines
cards_of-source lines source = ap (map card_of) (take_all most_lines lines source.few) ∙ cards-same lines source.each

length-outcomes : (cards : List (List ℕ)) → length (outcomes_of cards) ≡ length cards
length-outcomes cards =
    length-map (traces_of cards) (outcome_of (final_value (finals_of (traces_of cards)))) ∙ length-traces_from first_state cards

length-cards : (lines : List (List ℕ)) → length (outcomes_of (cards_of lines)) ≡ length (take most_lines lines)
length-cards lines = length-outcomes (cards_of lines) ∙ length-map (take most_lines lines) card_of

-- ---- the end

end-clean : (is_open : Bool) (cards : List (List ℕ)) (reports : List Report) → ReportsEnd is_open cards reports → has_errors reports ≡ false → is_open ≡ false
end-clean false cards reports told is = refl
end-clean true cards reports (report, one, told) is =
    let error : has_errors (report ∷ []) ≡ true = ap (λ (r : Report). has_errors (r ∷ [])) told.all in absurd (true-false (sym error ∙ ap has_errors (sym one) ∙ is))

end-silent : (is_open : Bool) (cards : List (List ℕ)) (reports : List Report) → ReportsEnd is_open cards reports → is_open ≡ false → has_errors reports ≡ false
end-silent is_open cards reports told closed = ap has_errors (subst (λ b. ReportsEnd b cards reports) closed told)

-- ---- a source

clean : (lines : List (List ℕ)) (reports : List Report) → Reports lines reports → has_errors reports ≡ false → IsSource lines × (flagged_lines lines ≡ 0)
clean lines reports told is =
    let nothing : has_errors (told.of_lines ++ told.of_end) ≡ false = ap has_errors (sym told.all) ∙ is in
    let few : length (take most_lines lines) ≤ length lines = let e = length-take most_lines lines in omega arith in
    let some = length-cards lines in
    let short : length (outcomes_of (cards_of lines)) ≤ length lines = omega arith in
    let all = lines-clean 1 lines (outcomes_of (cards_of lines)) told.of_lines told.each (none-front told.of_lines told.of_end nothing) short in
    let source : IsSource lines = record { each = all.each; few = let e = length-take most_lines lines in let s = all.same in omega arith } in
    let closed = end-clean (ends_open (cards_of lines)) (cards_of lines) told.of_end told.end (none-back told.of_lines told.of_end nothing) in
    let none : flagged_lines (cards_of lines) ≡ 0 = ap (λ b. flagged_in (outcomes_of (cards_of lines)) + count_if b) closed ∙ ap (λ n. n + 0) all.none in
    (source, subst (λ (ls : List (List ℕ)). flagged_lines ls ≡ 0) (cards_of-source lines source) none)

silent : (lines : List (List ℕ)) (reports : List Report) → Reports lines reports → IsSource lines × (flagged_lines lines ≡ 0) → has_errors reports ≡ false
silent lines reports told (source, none) =
    let same = cards_of-source lines source in
    let none_here : flagged_lines (cards_of lines) ≡ 0 = subst (λ (ls : List (List ℕ)). flagged_lines ls ≡ 0) (sym same) none in
    let both = uncounted_end (ends_open (cards_of lines)) (flagged_in (outcomes_of (cards_of lines))) none_here in
    let long : length lines ≡ length (outcomes_of (cards_of lines)) = ap length (sym same) ∙ sym (length-outcomes (cards_of lines)) in
    let front = lines-silent 1 lines (outcomes_of (cards_of lines)) told.of_lines told.each source.each long both.1 in
    let back = end-silent (ends_open (cards_of lines)) (cards_of lines) told.of_end told.end both.0 in
    ap has_errors told.all ∙ none-both told.of_lines told.of_end front back

pub agrees : Agrees
agrees lines reports told = (clean lines reports told, silent lines reports told)
