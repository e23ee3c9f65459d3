-- What is told beside lines, and what follows of a result.
use Rattle.std.proofs.Common.{◌≡◌, sym, ap, ◌∙◌, ℕ, suc, ◌+◌, ◌-◌, ◌<◌, ◌≤◌, List, [], ◌∷◌, ◌++◌, length, map, append_assoc, inl, inr, arith, Option, Some, None}
use Rattle.std.specs.Prelude.{◌⊎◌, flat_map, slice_get, get_or, option_and_then, Result, Ok, Err, IfOk}
use Rattle.std.specs.List.{range_with_len}
use Rattle.std.proofs.lemmas.Option.{slice_get_cases}
use Rattle.serde_json.specs.Data.{Data}
use Rattle.cps_expr.specs.declared.value.Value.{Value}
use Rattle.cps_text.specs.declared.name.Name.{Name}
use Rattle.cps_final.specs.Finals.{Finals}
use Rattle.cps_final.specs.declared.row.Row.{Row}
use Rattle.cps_final.specs.Outcome.{Outcome}
use Rattle.cps_list.specs.Symbols.{value_of}
use Rattle.cps_edit.specs.Assembly.{outcomes_of}
use Rattle.cps_server.specs.Document.{source_of_text}
use Rattle.cps_server.specs.Rows.{hint_of}
use Rattle.cps_server.specs.Results.{text_beside}

-- what follows of what holds of a result
pub if-ok-as : {T E : Type 0} {P Q : T → Type 0} (r : Result T E) → ((t : T) → P t → Q t) → IfOk r P → IfOk r Q
if-ok-as (Ok t) follows holds = follows t holds
if-ok-as (Err e) follows holds = tt

pub none-beside : (text : List ℕ) (number : ℕ) → (number < length (outcomes_of (source_of_text text)) → ⊥) → text_beside text number ≡ None
none-beside text number past = at (slice_get_cases (outcomes_of (source_of_text text)) number).1
  where
    at : ((x : Outcome) × (number < length (outcomes_of (source_of_text text))) × (slice_get (outcomes_of (source_of_text text)) number ≡ Some x)
        × (get_or (outcomes_of (source_of_text text)) number x ≡ x))
        ⊎ ((length (outcomes_of (source_of_text text)) ≤ number) × (slice_get (outcomes_of (source_of_text text)) number ≡ None))
        → text_beside text number ≡ None
    at (inl found) = absurd (past found.1)
    at (inr none) = ap (λ found. option_and_then (λ (outcome : Outcome). hint_of outcome.rows) found) none.1

pub beside-is : (text : List ℕ) (number : ℕ) (rows : List Row) (outcome : Outcome) (hint : Option (List ℕ)) → slice_get (outcomes_of (source_of_text text)) number ≡ Some outcome
    → rows ≡ outcome.rows → hint ≡ hint_of rows → hint ≡ text_beside text number
beside-is text number rows outcome hint there same is =
    is ∙ ap hint_of same ∙ sym (ap (λ found. option_and_then (λ (outcome : Outcome). hint_of outcome.rows) found) there)

-- one line more
pub next-hint : (hint : ℕ → List Data) (told next all : List Data) (number end : ℕ) → number < end → next ≡ told ++ hint (number + 1 - 1)
    → told ++ flat_map hint (range_with_len number (end - number)) ≡ all → next ++ flat_map hint (range_with_len (number + 1) (end - (number + 1))) ≡ all
next-hint hint told next all number end within added rest =
    let back : number + 1 - 1 ≡ number = omega arith in
    let one_less : end - number ≡ suc (end - (number + 1)) = omega (arith, within) in
    let behind = flat_map hint (range_with_len (number + 1) (end - (number + 1))) in
    (λ i. added i ++ behind) ∙ append_assoc told (hint (number + 1 - 1)) behind ∙ (λ i. told ++ (hint (back i) ++ behind))
    ∙ ap (λ count. told ++ flat_map hint (range_with_len number count)) (sym one_less) ∙ rest

-- one line more, of which one value is told
pub next-listing : (listing : ℕ → Data) (told next all : List Data) (number end : ℕ) → number < end → next ≡ told ++ listing (number + 1 - 1) ∷ []
    → told ++ map listing (range_with_len number (end - number)) ≡ all → next ++ map listing (range_with_len (number + 1) (end - (number + 1))) ≡ all
next-listing listing told next all number end within added rest =
    let back : number + 1 - 1 ≡ number = omega arith in
    let one_less : end - number ≡ suc (end - (number + 1)) = omega (arith, within) in
    let behind = map listing (range_with_len (number + 1) (end - (number + 1))) in
    (λ i. added i ++ behind) ∙ append_assoc told (listing (number + 1 - 1) ∷ []) behind ∙ (λ i. told ++ (listing (back i) ∷ behind))
    ∙ ap (λ count. told ++ map listing (range_with_len number count)) (sym one_less) ∙ rest

-- the value of a symbol, by values that are the same
pub valued : (value : Option Value) (given finals : Finals) (name : Name) → value ≡ value_of given name → given ≡ finals → value ≡ value_of finals name
valued value given finals name is same = is ∙ ap (λ f. value_of f name) same
