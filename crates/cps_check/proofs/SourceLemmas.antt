-- What is told of a line, and of one line after another.
use Rattle.std.proofs.Common.{◌≡◌, ℕ, ◌+◌, ◌<◌, ◌≤◌, min, true, false, List, [], ◌∷◌, ◌++◌, length, get_or, take, map, refl, sym, ap, subst, ◌∙◌, arith, length-take, length-take-le}
use Rattle.std.specs.Prelude.{◌↔◌, ◌||◌, Bool, nat_eq, not}
use Rattle.std.specs.Borrow.{Bor}
use Rattle.std.proofs.lemmas.Bool.Decides.{nat_tests}
use Rattle.std.proofs.lemmas.List.{length-map, get_or-map, get_or-take, get_or_default, map_more, nil_from_length, take_all, take_min, take_more}
use Rattle.cps_text.specs.declared.limits.TheConstants.{MOST_LINES}
use Rattle.cps_text.specs.Line.{IsLine}
use Rattle.cps_state.specs.Course.{Trace}
use Rattle.cps_final.specs.Finals.{Finals, final_value}
use Rattle.cps_final.specs.Outcome.{Outcome, outcome_of}
use Rattle.cps_cause.specs.declared.diagnostic.Diagnostic.{Diagnostic}
use Rattle.cps_cause.specs.Explaining.{Explains}
use Rattle.cps_input.specs.declared.character_fault.CharacterFault.{CharacterFault}
use Rattle.cps_input.specs.Card.{card_of, cards_of}
use Rattle.cps_input.specs.Faults.{AreFaults}
use Rattle.cps_input.proofs.CardLemmas.{card_of-line}
use Rattle.cps_state.specs.Keys.{first_state}
use Rattle.cps_edit.proofs.SpliceLemmas.{length-traces_from}
use Rattle.cps_edit.specs.Assembly.{outcomes_under, traces_of}
use Rattle.cps_check.specs.Code.Adding.{Adds, AddsLine, AddsLines}
use Rattle.cps_check.specs.declared.notes.Note.{Note}
use Rattle.cps_check.specs.Reports.{ReportsLine, ReportsLines, flag_report, fault_report, note_report}
use Rattle.cps_check.proofs.TextLemmas.{Adds-append, Adds-none}
use Rattle.cps_check.proofs.ReportLemmas.{ReportsLines-next}
use Rattle.cps_check.proofs.ErrorLemmas.{asked-both, asked-faults, asked-flags, asked-notes, both-wrong, faults-wrong, flags-wrong, no-faults, with-notes}
use Rattle.cps_check.proofs.FlagLemmas.{true-false}

-- ---- one line

-- a line that no source may have
pub ReportsLine-faults : (number : ℕ) (line : List ℕ) (outcome : Outcome) (faults : List CharacterFault) → AreFaults number line faults
    → (faults ≡ []) ↔ IsLine line → (faults ≡ [] → ⊥) → ReportsLine number line outcome (map (fault_report number line) faults)
ReportsLine-faults number line outcome faults are none some = record {
  flags = λ is. absurd (some (none.1 is));
  faults = λ _. (faults, are, refl);
  some = λ is. none.0 (no-faults number line faults is);
}

-- a line that a source may have
pub ReportsLine-flags : (number : ℕ) (line card : List ℕ) (outcome : Outcome) (told : List Diagnostic) (notes : List Note) → IsLine line → card ≡ card_of line
    → Explains card outcome.rows told → ReportsLine number line outcome (map (flag_report number line) told ++ map (note_report number line) notes)
ReportsLine-flags number line card outcome told notes is same explains = record {
  flags = λ _. record {
    told = told;
    notes = notes;
    explains = subst (λ (l : List ℕ). Explains l outcome.rows told) (same ∙ card_of-line line is) explains;
    all = refl;
  };
  faults = λ other. absurd (other is);
  some = λ _. is;
}

filled : {X : Type 0} (xs : List X) → nat_eq (length xs) 0 ≡ false → xs ≡ [] → ⊥
filled xs some is = let none : length xs ≡ 0 = ap length is in true-false (sym (ap (λ n. nat_eq n 0) none) ∙ some)

empty : {X : Type 0} (xs : List X) → nat_eq (length xs) 0 ≡ true → xs ≡ []
empty xs none = nil_from_length xs (grind (arith, nat_tests))

-- a line with faults is told
pub AddsLine-faults : (errors_only : Bool) (name : List ℕ) (number : ℕ) (line : List ℕ) (outcome : Outcome) (faults told : List CharacterFault) (old new : List ℕ)
    → AreFaults number line faults → (faults ≡ []) ↔ IsLine line → nat_eq (length faults) 0 ≡ false → told ≡ faults
    → Adds name (map (fault_report number line) told) old new → AddsLine errors_only name number line outcome true old new
AddsLine-faults errors_only name number line outcome faults told old new are none some is added = record {
  reports = map (fault_report number line) faults;
  told = ReportsLine-faults number line outcome faults are none (filled faults some);
  asked = asked-faults errors_only number line faults;
  wrong = faults-wrong number line faults (filled faults some);
  added = subst (λ (fs : List CharacterFault). Adds name (map (fault_report number line) fs) old new) is added;
}

-- a line without
pub AddsLine-flags : (errors_only : Bool) (name : List ℕ) (number : ℕ) (line card : List ℕ) (outcome : Outcome) (faults : List CharacterFault) (causes told : List Diagnostic)
    (notes : List Note) (is_silent : Bool) (old noted new : List ℕ) → (faults ≡ []) ↔ IsLine line → nat_eq (length faults) 0 ≡ true → card ≡ card_of line
    → Explains card outcome.rows causes → told ≡ causes → is_silent ≡ nat_eq (length causes) 0 → Adds name (map (flag_report number line) told) old noted
    → Adds name (map (note_report number line) notes) noted new → (errors_only ≡ true → notes ≡ [])
    → AddsLine errors_only name number line outcome (not is_silent) old new
AddsLine-flags errors_only name number line card outcome faults causes told notes is_silent old noted new none nothing same explains is silent added more asked =
    let flags = map (flag_report number line) causes in
    let flagged : Adds name flags old noted = subst (λ (ds : List Diagnostic). Adds name (map (flag_report number line) ds) old noted) is added in
    record {
      reports = flags ++ map (note_report number line) notes;
      told = ReportsLine-flags number line card outcome causes notes (none.0 (empty faults nothing)) same explains;
      asked =
          asked-both errors_only flags (map (note_report number line) notes) (asked-flags errors_only number line causes)
          (asked-notes errors_only number line notes asked);
      wrong = flags-wrong number line causes is_silent silent ∙ sym (with-notes flags number line notes);
      added = Adds-append name flags (map (note_report number line) notes) old noted new flagged more;
    }

-- ---- lines and their cards

abbrev pub texts_of : List (Bor (List ℕ)) → List (List ℕ)
texts_of lines = map (λ line. line.now) lines

-- a card stands for a line that is looked at
pub card-within : (lines : List (Bor (List ℕ))) (cards : List (List ℕ)) (at : ℕ) → cards ≡ cards_of (texts_of lines) → at < length cards
    → (at < length lines) × (at < MOST_LINES)
card-within lines cards at is within =
    let count : length cards ≡ min MOST_LINES (length lines) =
    ap length is ∙ length-map (take MOST_LINES (texts_of lines)) card_of ∙ length-take MOST_LINES (texts_of lines)
    ∙ ap (min MOST_LINES) (length-map lines (λ (line : Bor (List ℕ)). line.now)) in
    (omega arith, omega arith)

pub card-at : (lines : List (Bor (List ℕ))) (cards : List (List ℕ)) (at : ℕ) (line : Bor (List ℕ)) (card : List ℕ) → cards ≡ cards_of (texts_of lines)
    → at < length cards → line ≡ get_or lines at line → card ≡ get_or cards at card → card ≡ card_of line.now
card-at lines cards at line card is within line_is card_is =
    let inside = card-within lines cards at is within in
    let front = take MOST_LINES (texts_of lines) in
    let count : length cards ≡ length front = ap length is ∙ length-map front card_of in
    let here : at < length front = omega arith in
    card_is ∙ ap (λ (cs : List (List ℕ)). get_or cs at card) is
    ∙ get_or-map card_of front at [] card here
    ∙ ap card_of (get_or-take MOST_LINES (texts_of lines) at [] inside.1 ∙ get_or-map (λ (l : Bor (List ℕ)). l.now) lines at line [] inside.0
    ∙ ap (λ (l : Bor (List ℕ)). l.now) (sym line_is))

-- the same of a line that is looked up
pub card-of : (lines : List (Bor (List ℕ))) (cards : List (List ℕ)) (at : ℕ) (d : Bor (List ℕ)) (card : List ℕ) → cards ≡ cards_of (texts_of lines)
    → at < length cards → card ≡ get_or cards at card → card ≡ card_of (get_or lines at d).now
card-of lines cards at d card is within card_is =
    let line = get_or lines at d in
    card-at lines cards at line card is within (get_or_default lines at d line (card-within lines cards at is within).0) card_is

-- what a card does stands for a line that is looked at
pub trace-within : (lines : List (Bor (List ℕ))) (cards : List (List ℕ)) (traces : List Trace) (at : ℕ) → cards ≡ cards_of (texts_of lines)
    → traces ≡ traces_of cards → at < length traces → (at < length cards) × (at < length lines) × (at < MOST_LINES)
trace-within lines cards traces at is traces_is within =
    let count : length traces ≡ length cards = ap length traces_is ∙ length-traces_from first_state cards in
    let here : at < length cards = omega arith in
    let inside = card-within lines cards at is here in
    (here, inside.0, inside.1)

-- ---- one line after another

pub AddsLines-none : (errors_only : Bool) (name : List ℕ) (finals : Finals) (lines : List (Bor (List ℕ))) (traces : List Trace) (text : List ℕ)
    → AddsLines errors_only name (take 0 (texts_of lines)) (outcomes_under finals (take 0 traces)) false text text
AddsLines-none errors_only name finals lines traces text = record { reports = []; told = refl; asked = λ _. refl; wrong = refl; added = Adds-none name text }

-- all lines that are looked at
pub AddsLines-all : (errors_only : Bool) (name : List ℕ) (finals : Finals) (lines : List (Bor (List ℕ))) (cards : List (List ℕ)) (traces : List Trace) (at : ℕ) (is_wrong : Bool)
    (old new : List ℕ) → cards ≡ cards_of (texts_of lines) → traces ≡ traces_of cards → length traces ≤ at → at ≤ length traces
    → AddsLines errors_only name (take at (texts_of lines)) (outcomes_under finals (take at traces)) is_wrong old new
    → AddsLines errors_only name (take MOST_LINES (texts_of lines)) (outcomes_under finals traces) is_wrong old new
AddsLines-all errors_only name finals lines cards traces at is_wrong old new is traces_is past within added =
    let front = take MOST_LINES (texts_of lines) in
    let count : length traces ≡ length front = ap length traces_is ∙ length-traces_from first_state cards ∙ ap length is ∙ length-map front card_of in
    let some : min MOST_LINES (length (texts_of lines)) ≡ length front = sym (length-take MOST_LINES (texts_of lines)) in
    let at_is : at ≡ min MOST_LINES (length (texts_of lines)) = omega arith in
    let lines_is : take at (texts_of lines) ≡ front = ap (λ (n : ℕ). take n (texts_of lines)) at_is ∙ take_min MOST_LINES (texts_of lines) in
    subst (λ (ls : List (List ℕ)). AddsLines errors_only name ls (outcomes_under finals traces) is_wrong old new) lines_is
    (subst (λ (ts : List Trace). AddsLines errors_only name (take at (texts_of lines)) (outcomes_under finals ts) is_wrong old new) (take_all at traces past) added)

-- ---- one line more

pub AddsLines-next : (errors_only : Bool) (name : List ℕ) (finals : Finals) (lines : List (Bor (List ℕ))) (traces : List Trace) (at : ℕ) (line : Bor (List ℕ)) (trace : Trace)
    (is_wrong is_wrong_here : Bool) (old text new : List ℕ) → at < length lines → at < length traces → line ≡ get_or lines at line → trace ≡ get_or traces at trace
    → AddsLines errors_only name (take at (texts_of lines)) (outcomes_under finals (take at traces)) is_wrong old text
    → AddsLine errors_only name (at + 1) line.now (outcome_of (final_value finals) trace) is_wrong_here text new
    → AddsLines errors_only name (take (at + 1) (texts_of lines)) (outcomes_under finals (take (at + 1) traces)) (is_wrong || is_wrong_here) old new
AddsLines-next errors_only name finals lines traces at line trace is_wrong is_wrong_here old text new in_lines in_traces line_is trace_is before here =
    let texts = texts_of lines in
    let long : at < length texts = let e = length-map lines (λ (l : Bor (List ℕ)). l.now) in omega arith in
    let front : length (take at texts) ≡ at = length-take-le at texts (omega arith) in
    let same : length (take at texts) ≡ length (outcomes_under finals (take at traces)) =
    front ∙ sym (length-map (take at traces) (outcome_of (final_value finals)) ∙ length-take-le at traces (omega arith)) in
    let text_is : take (at + 1) texts ≡ take at texts ++ line.now ∷ [] =
    take_more texts at [] long
    ∙ ap (λ (l : List ℕ). take at texts ++ l ∷ []) (get_or-map (λ (l : Bor (List ℕ)). l.now) lines at line [] in_lines ∙ ap (λ (l : Bor (List ℕ)). l.now) (sym line_is)) in
    let outcome_is : outcomes_under finals (take (at + 1) traces) ≡ outcomes_under finals (take at traces) ++ outcome_of (final_value finals) trace ∷ [] =
    map_more (outcome_of (final_value finals)) traces at trace in_traces
    ∙ ap (λ (t : Trace). outcomes_under finals (take at traces) ++ outcome_of (final_value finals) t ∷ []) (sym trace_is) in
    record {
      reports = before.reports ++ here.reports;
      told =
          subst (λ (ls : List (List ℕ)). ReportsLines 1 ls (outcomes_under finals (take (at + 1) traces)) (before.reports ++ here.reports)) (sym text_is)
          (subst (λ (os : List Outcome). ReportsLines 1 (take at texts ++ line.now ∷ []) os (before.reports ++ here.reports)) (sym outcome_is)
          (ReportsLines-next 1 (at + 1) (take at texts) line.now (outcomes_under finals (take at traces)) (outcome_of (final_value finals) trace)
          before.reports here.reports same (omega arith) before.told here.told));
      asked = asked-both errors_only before.reports here.reports before.asked here.asked;
      wrong = both-wrong is_wrong is_wrong_here before.reports here.reports before.wrong here.wrong;
      added = Adds-append name before.reports here.reports old text new before.added here.added;
    }

-- the same of a line that is looked up
pub AddsLines-more : (errors_only : Bool) (name : List ℕ) (finals : Finals) (lines : List (Bor (List ℕ))) (traces : List Trace) (at : ℕ) (d : Bor (List ℕ)) (trace : Trace)
    (is_wrong is_wrong_here : Bool) (old text new : List ℕ) → at < length lines → at < length traces → trace ≡ get_or traces at trace
    → AddsLines errors_only name (take at (texts_of lines)) (outcomes_under finals (take at traces)) is_wrong old text
    → AddsLine errors_only name (at + 1) (get_or lines at d).now (outcome_of (final_value finals) trace) is_wrong_here text new
    → AddsLines errors_only name (take (at + 1) (texts_of lines)) (outcomes_under finals (take (at + 1) traces)) (is_wrong || is_wrong_here) old new
AddsLines-more errors_only name finals lines traces at d trace is_wrong is_wrong_here old text new in_lines in_traces trace_is before here =
    let line = get_or lines at d in
    AddsLines-next errors_only name finals lines traces at line trace is_wrong is_wrong_here old text new in_lines in_traces (get_or_default lines at d line in_lines) trace_is before here
