-- What is told of a source as a whole.
use Rattle.std.proofs.Common.{◌≡◌, ℕ, ◌+◌, Bool, List, [], ◌++◌, length, take, refl, sym, ap, subst, ◌∙◌}
use Rattle.std.specs.Prelude.{◌||◌, nat_lt}
use Rattle.std.proofs.lemmas.List.{length-map}
use Rattle.cps_state.specs.Keys.{first_state}
use Rattle.cps_state.specs.Course.{Trace}
use Rattle.cps_final.specs.Finals.{Finals, finals_of, final_value}
use Rattle.cps_final.specs.Outcome.{Outcome, outcome_of}
use Rattle.cps_input.specs.Card.{card_of, cards_of}
use Rattle.cps_edit.proofs.SpliceLemmas.{length-traces_from}
use Rattle.cps_edit.specs.Limits.{most_lines}
use Rattle.cps_edit.specs.Assembly.{ends_open, outcomes_of, outcomes_under, traces_of}
use Rattle.cps_check.specs.Code.Adding.{Adds, AddsLines, AddsEnd, TellsSource, excess_of}
use Rattle.cps_check.specs.Reports.{ReportsEnd, ReportsLines, has_errors}
use Rattle.cps_check.specs.Texts.{Tells}
use Rattle.cps_check.proofs.ErrorLemmas.{asked-both, asked-excess, both-wrong, excess-wrong}
use Rattle.cps_check.proofs.TextLemmas.{Adds-append}
use Rattle.cps_check.proofs.ReportLemmas.{ReportsLines-all}

pub whole : (errors_only : Bool) (name : List ℕ) (lines cards : List (List ℕ)) (traces : List Trace) (finals : Finals) (count : ℕ) (is_wrong is_open : Bool)
    (t0 t1 t2 t3 : List ℕ)
    → cards ≡ cards_of lines → traces ≡ traces_of cards → finals ≡ finals_of traces → count ≡ length lines → t0 ≡ []
    → AddsLines errors_only name (take most_lines lines) (outcomes_under finals traces) is_wrong t0 t1 → Adds name (excess_of count) t1 t2
    → AddsEnd errors_only name cards is_open t2 t3 → TellsSource errors_only name lines t3 ((is_wrong || nat_lt most_lines count) || is_open)
whole errors_only name lines cards traces finals count is_wrong is_open t0 t1 t2 t3 cards_is traces_are finals_are count_is empty told excess ended =
    let all : traces ≡ traces_of (cards_of lines) = traces_are ∙ ap traces_of cards_is in
    let last : finals ≡ finals_of (traces_of (cards_of lines)) = finals_are ∙ ap finals_of all in
    let outcomes : outcomes_under finals traces ≡ outcomes_of (cards_of lines) =
    ap (λ (f : Finals). outcomes_under f traces) last ∙ ap (outcomes_under (finals_of (traces_of (cards_of lines)))) all in
    let long : length (take most_lines lines) ≡ length (outcomes_of (cards_of lines)) =
    sym (length-map (traces_of (cards_of lines)) (outcome_of (final_value (finals_of (traces_of (cards_of lines)))))
    ∙ length-traces_from first_state (cards_of lines) ∙ length-map (take most_lines lines) card_of) in
    let front : ReportsLines 1 (take most_lines lines) (outcomes_of (cards_of lines)) told.reports =
    subst (λ (os : List Outcome). ReportsLines 1 (take most_lines lines) os told.reports) outcomes told.told in
    let of_lines = told.reports ++ excess_of (length lines) in
    let more : Adds name (excess_of (length lines)) t1 t2 = subst (λ (n : ℕ). Adds name (excess_of n) t1 t2) count_is excess in
    let both : Adds name of_lines t0 t2 = Adds-append name told.reports (excess_of (length lines)) t0 t1 t2 told.added more in
    let added : Adds name (of_lines ++ ended.reports) t0 t3 = Adds-append name of_lines ended.reports t0 t2 t3 both ended.added in
    let text : t3 ≡ added.piece = added.added ∙ ap (λ (t : List ℕ). t ++ added.piece) empty in
    let long_wrong : nat_lt most_lines count ≡ has_errors (excess_of (length lines)) =
    excess-wrong (nat_lt most_lines count) (most_lines + 1) ∙ ap (λ n. has_errors (excess_of n)) count_is in
    let lines_wrong = both-wrong is_wrong (nat_lt most_lines count) told.reports (excess_of (length lines)) told.wrong long_wrong in
    record {
      reports = of_lines ++ ended.reports;
      all = record {
        of_lines = of_lines;
        of_end = ended.reports;
        all = refl;
        each = ReportsLines-all lines (outcomes_of (cards_of lines)) told.reports long front;
        end = subst (λ (cs : List (List ℕ)). ReportsEnd (ends_open cs) cs ended.reports) cards_is ended.told;
      };
      asked =
          asked-both errors_only of_lines ended.reports (asked-both errors_only told.reports (excess_of (length lines)) told.asked
          (asked-excess errors_only (nat_lt most_lines (length lines)) (most_lines + 1))) ended.asked;
      tells = subst (λ (t : List ℕ). Tells name (of_lines ++ ended.reports) t) (sym text) added.tells;
      wrong = both-wrong (is_wrong || nat_lt most_lines count) is_open of_lines ended.reports lines_wrong ended.wrong;
    }
