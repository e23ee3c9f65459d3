-- What is shown at a position, from the rows of its line.
use Rattle.std.proofs.Common.{◌≡◌, refl, sym, ap, ◌∙◌, ℕ, ◌+◌, ◌-◌, ◌≤◌, List, [], ◌++◌, length, Some, None, rules, true, false, Bool, subst, ◌∷◌, ◌<◌, arith, inl, inr}
use Rattle.std.proofs.lemmas.List.{length-map}
use Rattle.std.proofs.lemmas.Option.{slice_get_cases, slice_get_past}
use Rattle.cps_final.specs.Finals.{finals_of, final_value, Finals}
use Rattle.cps_final.specs.Outcome.{outcome_of, flags_of, Outcome}
use Rattle.cps_final.specs.declared.row.Row.{Row}
use Rattle.cps_edit.specs.Assembly.{outcomes_of, traces_of, assembly_of}
use Rattle.cps_edit.proofs.SpliceLemmas.{length-traces_from}
use Rattle.cps_state.specs.Keys.{first_state}
use Rattle.std.specs.Option.{option_map_or}
use Rattle.cps_state.specs.Flags.{has_flag}
use Rattle.std.specs.Prelude.{◌⊎◌, get_or, option_and_then, option_map, slice_get, unwrap_or, Result, Ok, Err, IfOk}
use Rattle.cps_list.specs.Assembly.{Assembly}
use Rattle.cps_server.specs.Document.{source_of_text}
use Rattle.cps_list.specs.Listing.{line_rows}
use Rattle.cps_server.specs.Rows.{IsWhy, ShowsBehind, first_rows, line_listing, rows_in, rows_of, shown_rows}
use Rattle.cps_text.specs.declared.name.Name.{Name}
use Rattle.cps_list.specs.declared.mention.Mention.{Mention}
use Rattle.cps_list.specs.Symbols.{row_of}
use Rattle.cps_server.specs.Symbols.{row_under}

abbrev is_yes : Bool → Type 0
is_yes true = Unit {0}
is_yes false = ⊥

pub true-false : {A : Type 0} → true ≡ false → A
true-false is = absurd (subst is_yes is tt)

pub length-outcomes : (source : List (List ℕ)) → length (outcomes_of source) ≡ length source
length-outcomes source = length-map (traces_of source) (outcome_of (final_value (finals_of (traces_of source)))) ∙ length-traces_from first_state source

-- no line has a number past the last
pub rows-none : (assembly : Assembly) (number : ℕ) → length assembly.lines ≤ number → rows_in assembly number ≡ None
rows-none assembly number past =
    ap (λ found. option_and_then (λ line. option_map (λ (o : Outcome). first_rows (number + 1) line o.rows) (slice_get assembly.outcomes number)) found)
    (slice_get_past assembly.lines number past)

pub rows-there : (assembly : Assembly) (number : ℕ) (line : List ℕ) (outcome : Outcome) → slice_get assembly.lines number ≡ Some line
    → slice_get assembly.outcomes number ≡ Some outcome → rows_in assembly number ≡ Some (first_rows (number + 1) line outcome.rows)
rows-there assembly number line outcome line_is outcome_is =
    λ i. option_and_then (λ (l : List ℕ). option_map (λ (o : Outcome). first_rows (number + 1) l o.rows) (outcome_is i)) (line_is i)

-- what holds of any result holds of one that is there
pub if-ok : {T E : Type 0} {P : T → Type 0} (r : Result T E) → ((t : T) → P t) → IfOk r P
if-ok (Ok t) all = all t
if-ok (Err e) all = tt

pub flagged : (text : List ℕ) (number : ℕ) (outcome : Outcome) (why : List ℕ) → slice_get (assembly_of (source_of_text text)).outcomes number ≡ Some outcome
    → has_flag (flags_of outcome.rows) ≡ true → IsWhy text number why
flagged text number outcome why there has =
    λ unflagged. true-false (sym (ap (λ found. option_map_or (λ (o : Outcome). has_flag (flags_of o.rows)) found false) there ∙ has) ∙ unflagged)

pub shows-behind : (text : List ℕ) (number : ℕ) (front rows why shown : List ℕ) → rows_in (assembly_of (source_of_text text)) number ≡ Some rows
    → IsWhy text number why → shown ≡ (front ++ rows) ++ why → ShowsBehind text number front (Some shown)
shows-behind text number front rows why shown there is all =
    (why, is, ap Some all ∙ sym (ap (λ found. option_map (λ rows. (front ++ rows) ++ why) found) there))

pub shows-none : (text : List ℕ) (number : ℕ) (front : List ℕ) → rows_in (assembly_of (source_of_text text)) number ≡ None → ShowsBehind text number front None
shows-none text number front none = ([], (λ unflagged. refl), sym (ap (λ found. option_map (λ rows. (front ++ rows) ++ []) found) none))

-- ---- what is shown of a line

pub shown-past : (text : List ℕ) (number : ℕ) → (number < length (source_of_text text) → ⊥) → shown_rows text number ≡ []
shown-past text number past = at (slice_get_cases (source_of_text text) number).1
  where
    at : ((line : List ℕ) × (number < length (source_of_text text)) × (slice_get (source_of_text text) number ≡ Some line)
        × (get_or (source_of_text text) number line ≡ line))
        ⊎ ((length (source_of_text text) ≤ number) × (slice_get (source_of_text text) number ≡ None))
        → shown_rows text number ≡ []
    at (inl found) = absurd (past found.1)
    at (inr none) = ap (λ found. unwrap_or found []) (rows-none (assembly_of (source_of_text text)) number none.0)

pub shown-pushed : (text : List ℕ) (number : ℕ) (line bytes : List ℕ) (outcome : Outcome) (rows : List Row) (old new : List ℕ) → bytes ≡ line
    → rows ≡ outcome.rows → slice_get (source_of_text text) number ≡ Some line → slice_get (outcomes_of (source_of_text text)) number ≡ Some outcome
    → new ≡ old ++ first_rows (number + 1) bytes rows → new ≡ old ++ shown_rows text number
shown-pushed text number line bytes outcome rows old new same_line same_rows line_is outcome_is pushed =
    pushed ∙ (λ i. old ++ first_rows (number + 1) (same_line i) (same_rows i))
    ∙ ap (λ t. old ++ t) (sym (ap (λ found. unwrap_or found []) (rows-there (assembly_of (source_of_text text)) number line outcome line_is outcome_is)))

-- a line that is assembled has rows
pub shown-there : (text : List ℕ) (number : ℕ) → number < length (source_of_text text)
    → rows_in (assembly_of (source_of_text text)) number ≡ Some (shown_rows text number)
shown-there text number within = at (slice_get_cases (source_of_text text) number).1
  where
    long : length (outcomes_of (source_of_text text)) ≡ length (source_of_text text)
    long = length-outcomes (source_of_text text)

    shown : (rows : List ℕ) → rows_in (assembly_of (source_of_text text)) number ≡ Some rows
        → rows_in (assembly_of (source_of_text text)) number ≡ Some (shown_rows text number)
    shown rows there = there ∙ ap Some (sym (ap (λ found. unwrap_or found []) there))

    next : (line : List ℕ) → slice_get (source_of_text text) number ≡ Some line
        → ((outcome : Outcome) × (number < length (outcomes_of (source_of_text text))) × (slice_get (outcomes_of (source_of_text text)) number ≡ Some outcome)
        × (get_or (outcomes_of (source_of_text text)) number outcome ≡ outcome))
        ⊎ ((length (outcomes_of (source_of_text text)) ≤ number) × (slice_get (outcomes_of (source_of_text text)) number ≡ None))
        → rows_in (assembly_of (source_of_text text)) number ≡ Some (shown_rows text number)
    next line line_is (inl found) =
        shown (first_rows (number + 1) line found.0.rows) (rows-there (assembly_of (source_of_text text)) number line found.0 line_is found.2)
    next line line_is (inr none) = let past = none.0 in absurd (omega (arith, within, long, past))

    at : ((line : List ℕ) × (number < length (source_of_text text)) × (slice_get (source_of_text text) number ≡ Some line)
        × (get_or (source_of_text text) number line ≡ line))
        ⊎ ((length (source_of_text text) ≤ number) × (slice_get (source_of_text text) number ≡ None))
        → rows_in (assembly_of (source_of_text text)) number ≡ Some (shown_rows text number)
    at (inl found) = next found.0 found.2 (slice_get_cases (outcomes_of (source_of_text text)) number).1
    at (inr none) = let past = none.0 in absurd (omega (arith, within, past))

-- ---- the listing of a line

-- no line has a number past the last
pub listing-past : (text : List ℕ) (number : ℕ) → (number < length (source_of_text text) → ⊥) → line_listing text number ≡ []
listing-past text number past = at (slice_get_cases (source_of_text text) number).1
  where
    at : ((line : List ℕ) × (number < length (source_of_text text)) × (slice_get (source_of_text text) number ≡ Some line)
        × (get_or (source_of_text text) number line ≡ line))
        ⊎ ((length (source_of_text text) ≤ number) × (slice_get (source_of_text text) number ≡ None))
        → line_listing text number ≡ []
    at (inl found) = absurd (past found.1)
    at (inr none) = ap (λ found. rows_of number found (slice_get (outcomes_of (source_of_text text)) number)) none.1

pub listing-pushed : (text : List ℕ) (number : ℕ) (line bytes : List ℕ) (outcome : Outcome) (rows : List Row) (old new : List ℕ) → 1 ≤ number
    → bytes ≡ line → rows ≡ outcome.rows → slice_get (source_of_text text) (number - 1) ≡ Some line
    → slice_get (outcomes_of (source_of_text text)) (number - 1) ≡ Some outcome → new ≡ old ++ line_rows number bytes rows
    → new ≡ old ++ line_listing text (number - 1)
listing-pushed text number line bytes outcome rows old new counts same_line same_rows line_is outcome_is pushed =
    let back : number ≡ number - 1 + 1 = omega (arith, counts) in
    pushed ∙ (λ i. old ++ line_rows (back i) (same_line i) (same_rows i)) ∙ ap (λ listing. old ++ listing) (sym (λ i. rows_of (number - 1) (line_is i) (outcome_is i)))

-- ---- the row of a symbol

pub row-filled : (finals : Finals) (name : Name) (mentions : List Mention) → 0 < length mentions → row_under finals (Some name) mentions ≡ row_of finals name mentions
row-filled finals name [] some = absurd (search (rules, arith))
row-filled finals name (mention ∷ mentions) some = refl
