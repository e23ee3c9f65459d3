-- Which reports tell errors.
use Rattle.std.proofs.Common.{◌≡◌, ℕ, Bool, true, false, List, [], ◌∷◌, ◌++◌, length, map, refl, sym, ap, ◌∙◌, arith}
use Rattle.std.specs.Prelude.{◌||◌, not, nat_eq, if◌then◌else◌}
use Rattle.std.proofs.lemmas.Bool.Decides.{nat_tests}
use Rattle.std.proofs.lemmas.List.Folds.{list_any-append}
use Rattle.cps_cause.specs.declared.diagnostic.Diagnostic.{Diagnostic}
use Rattle.cps_input.specs.declared.character_fault.CharacterFault.{CharacterFault}
use Rattle.cps_check.specs.declared.notes.Note.{Note}
use Rattle.cps_check.specs.Reports.{AreAsked, Report, excess_report, fault_report, flag_report, has_errors, has_notes, is_error, note_report}
use Rattle.cps_check.proofs.FlagLemmas.{true-false}

-- ---- reports one behind the other

pub errors-append : (reports others : List Report) → has_errors (reports ++ others) ≡ (has_errors reports || has_errors others)
errors-append reports others = list_any-append (λ (report : Report). is_error report.kind) reports others

pub both-wrong : (a b : Bool) (reports others : List Report) → a ≡ has_errors reports → b ≡ has_errors others → (a || b) ≡ has_errors (reports ++ others)
both-wrong a b reports others here back =
    ap (λ (x : Bool). x || b) here ∙ ap (λ (x : Bool). has_errors reports || x) back ∙ sym (errors-append reports others)

none-left : (a b : Bool) → (a || b) ≡ false → a ≡ false
none-left false b is = refl
none-left true b is = is

none-right : (a b : Bool) → (a || b) ≡ false → b ≡ false
none-right false b is = is
none-right true b is = absurd (true-false is)

pub none-front : (reports others : List Report) → has_errors (reports ++ others) ≡ false → has_errors reports ≡ false
none-front reports others is = none-left (has_errors reports) (has_errors others) (sym (errors-append reports others) ∙ is)

pub none-back : (reports others : List Report) → has_errors (reports ++ others) ≡ false → has_errors others ≡ false
none-back reports others is = none-right (has_errors reports) (has_errors others) (sym (errors-append reports others) ∙ is)

pub none-both : (reports others : List Report) → has_errors reports ≡ false → has_errors others ≡ false → has_errors (reports ++ others) ≡ false
none-both reports others here back = sym (both-wrong false false reports others (sym here) (sym back))

-- ---- notes

pub with-notes : (reports : List Report) (number : ℕ) (line : List ℕ) (notes : List Note)
    → has_errors (reports ++ map (note_report number line) notes) ≡ has_errors reports
with-notes [] number line [] = refl
with-notes [] number line (note ∷ notes) = with-notes [] number line notes
with-notes (report ∷ reports) number line notes = ap (λ (b : Bool). is_error report.kind || b) (with-notes reports number line notes)

-- ---- flags, and what no source may have

pub no-flags : (number : ℕ) (line : List ℕ) (told : List Diagnostic) → has_errors (map (flag_report number line) told) ≡ false → told ≡ []
no-flags number line [] is = refl
no-flags number line (d ∷ told) is = absurd (true-false is)

pub no-faults : (number : ℕ) (line : List ℕ) (faults : List CharacterFault) → has_errors (map (fault_report number line) faults) ≡ false → faults ≡ []
no-faults number line [] is = refl
no-faults number line (fault ∷ faults) is = absurd (true-false is)

pub flags-wrong : (number : ℕ) (line : List ℕ) (told : List Diagnostic) (none : Bool) → none ≡ nat_eq (length told) 0
    → not none ≡ has_errors (map (flag_report number line) told)
flags-wrong number line [] none is = ap not is
flags-wrong number line (d ∷ told) none is =
    let test : nat_eq (length (d ∷ told)) 0 ≡ false = grind (arith, nat_tests) in ap not (is ∙ test)

pub faults-wrong : (number : ℕ) (line : List ℕ) (faults : List CharacterFault) → (faults ≡ [] → ⊥) → true ≡ has_errors (map (fault_report number line) faults)
faults-wrong number line [] some = absurd (some refl)
faults-wrong number line (fault ∷ faults) some = refl

pub excess-wrong : (test : Bool) (number : ℕ) → test ≡ has_errors (if test then excess_report number ∷ [] else [])
excess-wrong true number = refl
excess-wrong false number = refl

-- ---- reports without notes

pub notes-append : (reports others : List Report) → has_notes (reports ++ others) ≡ (has_notes reports || has_notes others)
notes-append reports others = list_any-append (λ (report : Report). not (is_error report.kind)) reports others

pub asked-both : (errors_only : Bool) (reports others : List Report) → AreAsked errors_only reports → AreAsked errors_only others
    → AreAsked errors_only (reports ++ others)
asked-both errors_only reports others here back =
    λ only. notes-append reports others ∙ ap (λ (x : Bool). x || has_notes others) (here only) ∙ back only

no-notes-flags : (number : ℕ) (line : List ℕ) (told : List Diagnostic) → has_notes (map (flag_report number line) told) ≡ false
no-notes-flags number line [] = refl
no-notes-flags number line (d ∷ told) = no-notes-flags number line told

pub asked-flags : (errors_only : Bool) (number : ℕ) (line : List ℕ) (told : List Diagnostic) → AreAsked errors_only (map (flag_report number line) told)
asked-flags errors_only number line told = λ _. no-notes-flags number line told

no-notes-faults : (number : ℕ) (line : List ℕ) (faults : List CharacterFault) → has_notes (map (fault_report number line) faults) ≡ false
no-notes-faults number line [] = refl
no-notes-faults number line (fault ∷ faults) = no-notes-faults number line faults

pub asked-faults : (errors_only : Bool) (number : ℕ) (line : List ℕ) (faults : List CharacterFault)
    → AreAsked errors_only (map (fault_report number line) faults)
asked-faults errors_only number line faults = λ _. no-notes-faults number line faults

-- notes that are none where errors alone are asked for
pub asked-notes : (errors_only : Bool) (number : ℕ) (line : List ℕ) (notes : List Note) → (errors_only ≡ true → notes ≡ [])
    → AreAsked errors_only (map (note_report number line) notes)
asked-notes errors_only number line notes none = λ only. ap (λ (found : List Note). has_notes (map (note_report number line) found)) (none only)

pub asked-excess : (errors_only test : Bool) (number : ℕ) → AreAsked errors_only (if test then excess_report number ∷ [] else [])
asked-excess errors_only true number = λ _. refl
asked-excess errors_only false number = λ _. refl
