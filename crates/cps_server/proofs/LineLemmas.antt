-- The marks of one line.
use Rattle.std.proofs.Common.{◌≡◌, ℕ, ◌+◌, ◌-◌, ◌<◌, true, false, List, [], ◌++◌, length, get_or, take, map, refl, sym, ap, subst, ◌∙◌, arith}
use Rattle.std.specs.Prelude.{◌↔◌, Some, nat_eq, slice_get}
use Rattle.std.specs.Option.{option_map}
use Rattle.std.proofs.lemmas.Bool.Decides.{nat_tests}
use Rattle.std.proofs.lemmas.List.{length-map, get_or-map, get_or-take, nil_from_length}
use Rattle.std.proofs.lemmas.List.Elements.{All-nil}
use Rattle.std.proofs.lemmas.Option.{get_or_from_slice_get, slice_get-get_or, slice_get-map, slice_get_read}
use Rattle.cps_text.specs.declared.limits.TheConstants.{MOST_LINES}
use Rattle.cps_text.specs.Line.{IsLine}
use Rattle.cps_state.specs.Course.{Trace}
use Rattle.cps_state.specs.Flags.{has_flag}
use Rattle.cps_state.specs.Keys.{first_state}
use Rattle.cps_final.specs.Finals.{Finals, finals_of, final_value}
use Rattle.cps_final.specs.Outcome.{Outcome, flags_of, outcome_of}
use Rattle.cps_edit.specs.Assembly.{outcomes_of, traces_of}
use Rattle.cps_edit.proofs.SpliceLemmas.{length-traces_from}
use Rattle.cps_cause.specs.declared.diagnostic.Diagnostic.{Diagnostic}
use Rattle.cps_cause.specs.Range.{IsRange}
use Rattle.cps_cause.specs.Explaining.{Explains}
use Rattle.cps_input.specs.declared.character_fault.CharacterFault.{CharacterFault}
use Rattle.cps_input.specs.Card.{card_of}
use Rattle.cps_input.specs.Faults.{AreFaults}
use Rattle.cps_input.proofs.CardLemmas.{card_of-line}
use Rattle.cps_rpc.specs.Lines.{source_lines}
use Rattle.cps_server.specs.Document.{source_of_text}
use Rattle.cps_server.proofs.SourceLemmas.{length-cards}
use Rattle.cps_server.specs.declared.line_mark.LineMark.{LineMark}
use Rattle.cps_server.specs.Code.Keeping.{HasShown, Shown, Shows, ShowsFlags, ShowsLine, ShowsMarks, fault_shown, flag_shown, shown_of}
use Rattle.cps_server.proofs.FlagLemmas.{none-there, true-false}
use Rattle.cps_server.proofs.ShownLemmas.{Shows-none}

-- ---- what marks show of a line

pub no-shown : {X Y : Type 0} (shown : X → Y) (xs : List X) → map shown xs ≡ [] → xs ≡ []
no-shown shown xs is = nil_from_length xs (sym (length-map xs shown) ∙ ap length is)

ShowsLine-faults : (number : ℕ) (line : List ℕ) (outcome : Outcome) (faults : List CharacterFault) → AreFaults number line faults
    → (faults ≡ []) ↔ IsLine line → (faults ≡ [] → ⊥) → ShowsLine line outcome (map fault_shown faults)
ShowsLine-faults number line outcome faults are none some = record {
  flags = λ is. absurd (some (none.1 is));
  faults = λ _. (number, faults, are, refl);
  some = λ is. none.0 (no-shown fault_shown faults is);
}

ShowsLine-flags : (line card : List ℕ) (outcome : Outcome) (told : List Diagnostic) → IsLine line → card ≡ card_of line
    → Explains card outcome.rows told → ShowsLine line outcome (map flag_shown told)
ShowsLine-flags line card outcome told is same explains = record {
  flags = λ _. (told, subst (λ (l : List ℕ). Explains l outcome.rows told) (same ∙ card_of-line line is) explains, refl);
  faults = λ other. absurd (other is);
  some = λ _. is;
}

filled : {X : Type 0} (xs : List X) → nat_eq (length xs) 0 ≡ false → xs ≡ [] → ⊥
filled xs some is = let none : length xs ≡ 0 = ap length is in true-false (sym (ap (λ n. nat_eq n 0) none) ∙ some)

pub empty : {X : Type 0} (xs : List X) → nat_eq (length xs) 0 ≡ true → xs ≡ []
empty xs none = nil_from_length xs (grind (arith, nat_tests))

-- ---- places

-- what stands at a place, from 0, that is looked up by its number from 1
pub there : {X : Type 0} (xs : List X) (number : ℕ) (x : X) → slice_get xs (number + 1 - 1) ≡ Some x → slice_get xs number ≡ Some x
there xs number x is = let same : number + 1 - 1 ≡ number = omega arith in ap (slice_get xs) (sym same) ∙ is

pub length-traces : (source : List (List ℕ)) → length (traces_of source) ≡ length source
length-traces source = length-traces_from first_state source

pub length-outcomes : (source : List (List ℕ)) → length (outcomes_of source) ≡ length source
length-outcomes source = length-map (traces_of source) (outcome_of (final_value (finals_of (traces_of source)))) ∙ length-traces source

-- a line that has a card
pub card-within : (text : List ℕ) (number : ℕ) → number < length (source_of_text text) → (number < length (source_lines text)) × (number < MOST_LINES)
card-within text number within =
    let count = length-cards (source_lines text) in
    (omega (arith, within, count), omega (arith, within, count))

card-at : (text : List ℕ) (number : ℕ) (line card : List ℕ) → number < length (source_of_text text) → slice_get (source_lines text) number ≡ Some line
    → slice_get (source_of_text text) number ≡ Some card → card ≡ card_of line
card-at text number line card within line_is card_is =
    let front = take MOST_LINES (source_lines text) in
    let here : number < length front = omega (arith, within, length-map front card_of) in
    sym (get_or_from_slice_get (source_of_text text) number card [] card_is)
    ∙ get_or-map card_of front number [] [] here
    ∙ ap card_of (get_or-take MOST_LINES (source_lines text) number [] (card-within text number within).1
    ∙ get_or_from_slice_get (source_lines text) number line [] line_is)

no_outcome : Outcome
no_outcome = record { rows = []; pieces = []; defined = []; read = [] }

outcome-there : (source : List (List ℕ)) (number : ℕ) → number < length source → (outcome : Outcome) × (slice_get (outcomes_of source) number ≡ Some outcome)
outcome-there source number within =
    let outcomes = outcomes_of source in
    (get_or outcomes number no_outcome, slice_get-get_or outcomes number no_outcome (omega (arith, within, length-outcomes source)))

-- ---- a line whose marks are added

pub ShowsMarks-faults : (text : List ℕ) (number told_number : ℕ) (line : List ℕ) (faults told : List CharacterFault) (old new : List LineMark)
    → number < length (source_of_text text) → slice_get (source_lines text) number ≡ Some line → AreFaults told_number line faults
    → (faults ≡ []) ↔ IsLine line → nat_eq (length faults) 0 ≡ false → told ≡ faults → Shows (map fault_shown told) old new
    → ShowsMarks text number old new
ShowsMarks-faults text number told_number line faults told old new within line_is are none some is added =
    let outcome = outcome-there (source_of_text text) number within in
    record {
      shown = map fault_shown faults;
      has = record {
        line = line;
        outcome = outcome.0;
        line_is = line_is;
        outcome_is = outcome.1;
        shows = ShowsLine-faults told_number line outcome.0 faults are none (filled faults some);
      };
      added = subst (λ (fs : List CharacterFault). Shows (map fault_shown fs) old new) is added;
    }

pub ShowsMarks-flags : (text : List ℕ) (number : ℕ) (line : List ℕ) (faults : List CharacterFault) (old new : List LineMark)
    → number < length (source_of_text text) → slice_get (source_lines text) number ≡ Some line → (faults ≡ []) ↔ IsLine line
    → nat_eq (length faults) 0 ≡ true → ShowsFlags text number old new → ShowsMarks text number old new
ShowsMarks-flags text number line faults old new within line_is none nothing flags =
    let is : IsLine line = none.0 (empty faults nothing) in
    record {
      shown = map flag_shown flags.told;
      has = record {
        line = line;
        outcome = flags.outcome;
        line_is = line_is;
        outcome_is = flags.outcome_is;
        shows = ShowsLine-flags line flags.card flags.outcome flags.told is (card-at text number line flags.card within line_is flags.card_is) flags.explains;
      };
      added = flags.added;
    }

-- to no marks
pub ShowsMarks-all : (text : List ℕ) (number : ℕ) (old new : List LineMark) → old ≡ [] → ShowsMarks text number old new → HasShown text number (map shown_of new)
ShowsMarks-all text number old new none marks =
    subst (λ (shown : List Shown). HasShown text number shown) (sym (marks.added ∙ ap (λ (ms : List LineMark). map shown_of ms ++ marks.shown) none)) marks.has

-- a line without a flag
pub ShowsFlags-none : (text : List ℕ) (number : ℕ) (source : List (List ℕ)) (card : List ℕ) (outcome : Outcome) (marks : List LineMark)
    → source ≡ source_of_text text → slice_get source (number + 1 - 1) ≡ Some card → slice_get (outcomes_of source) (number + 1 - 1) ≡ Some outcome
    → has_flag (flags_of outcome.rows) ≡ false → ShowsFlags text number marks marks
ShowsFlags-none text number source card outcome marks same card_is outcome_is silent = record {
  card = card;
  outcome = outcome;
  told = [];
  card_is = subst (λ (s : List (List ℕ)). slice_get s number ≡ Some card) same (there source number card card_is);
  outcome_is = subst (λ (s : List (List ℕ)). slice_get (outcomes_of s) number ≡ Some outcome) same (there (outcomes_of source) number outcome outcome_is);
  explains = record {
    letters = sym (none-there (flags_of outcome.rows) silent);
    columns = All-nil (λ (d : Diagnostic). IsRange (length card) d.columns);
  };
  added = Shows-none marks;
}

-- a line with some
pub ShowsFlags-some : (text : List ℕ) (number : ℕ) (source : List (List ℕ)) (card : List ℕ) (traces : List Trace) (trace : Trace) (finals : Finals)
    (told given : List Diagnostic) (old new : List LineMark) → source ≡ source_of_text text → number < length (source_of_text text)
    → slice_get source (number + 1 - 1) ≡ Some card → traces ≡ traces_of source → trace ≡ get_or traces number trace → finals ≡ finals_of (traces_of source)
    → Explains card (outcome_of (final_value finals) trace).rows told → given ≡ told → Shows (map flag_shown given) old new
    → ShowsFlags text number old new
ShowsFlags-some text number source card traces trace finals told given old new same within card_is traces_are trace_is finals_are explains is added =
    let lines = source_of_text text in
    let last : finals ≡ finals_of (traces_of lines) = finals_are ∙ ap (λ (s : List (List ℕ)). finals_of (traces_of s)) same in
    let all : traces ≡ traces_of lines = traces_are ∙ ap traces_of same in
    let outcome : Trace → Outcome = outcome_of (final_value (finals_of (traces_of lines))) in
    let short : number < length (traces_of lines) = omega (arith, within, length-traces lines) in
    let read : slice_get (traces_of lines) number ≡ Some trace =
    slice_get_read (traces_of lines) (length (traces_of lines)) number trace refl short (trace_is ∙ ap (λ (ts : List Trace). get_or ts number trace) all) in
    record {
      card = card;
      outcome = outcome trace;
      told = told;
      card_is = subst (λ (s : List (List ℕ)). slice_get s number ≡ Some card) same (there source number card card_is);
      outcome_is = slice_get-map outcome (traces_of lines) number ∙ ap (option_map outcome) read;
      explains = subst (λ (f : Finals). Explains card (outcome_of (final_value f) trace).rows told) last explains;
      added = subst (λ (ds : List Diagnostic). Shows (map flag_shown ds) old new) is added;
    }
