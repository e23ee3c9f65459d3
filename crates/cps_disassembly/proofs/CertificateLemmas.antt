-- Lines that are read from a text, and words of which none is wrong.
use Rattle.std.proofs.Common.{◌≡◌, ℕ, zero, suc, ◌+◌, ◌<◌, ◌≤◌, ◌&&◌, Bool, true, false, inl, inr, refl, sym, ap, subst, ◌∙◌, arith, eqb, cond, List, [], ◌∷◌, ◌++◌}
use Rattle.std.specs.Prelude.{filter, is_some, length}
use Rattle.std.specs.List.{range_with_len}
use Rattle.std.proofs.lemmas.Bool.{cases_eq, cases_lt, eqb-true}
use Rattle.cps_input.specs.Lines.{HasText}
use Rattle.cps_input.specs.Sources.{IsSource}
use Rattle.cps_expr.specs.declared.machine.Machine.{Machine}
use Rattle.cps_expr.specs.declared.machine.Machine.TheVariants.{Cp, Pp}
use Rattle.cps_code.specs.Image.{Piece}
use Rattle.cps_state.specs.Machines.{limit}
use Rattle.cps_claims.specs.declared.claimed_words.ClaimedWords.{ClaimedWords}
use Rattle.cps_claims.specs.Claims.{Claimed}
use Rattle.cps_claims.specs.Counts.{is_given}
use Rattle.cps_claims.specs.Code.Held.{Holds}
use Rattle.cps_claims.proofs.SlotLemmas.{past-given}
use Rattle.cps_claims.proofs.ListedLemmas.{places-more}
use Rattle.cps_final.specs.Finals.{machine_of}
use Rattle.cps_list.specs.Binary.{pieces_of}
use Rattle.cps_edit.specs.Assembly.{assembly_of}
use Rattle.cps_edit.specs.Flagged.{flagged_lines}
use Rattle.cps_compare.specs.Differences.{deck_of, digits_in}
use Rattle.cps_disassembly.specs.declared.selection.Selection.{Selection}
use Rattle.cps_disassembly.specs.Makes.{Makes, claims_of, is_within, is_wanted, is_wrong}
use Rattle.cps_disassembly.specs.Certificate.{addresses_below, wrong_in}

-- the lines of a text
pub text-cut : (text : List ℕ) (cut lines : List (List ℕ)) → HasText text cut → lines ≡ cut → HasText text lines
text-cut text cut lines has same = subst (λ (l : List (List ℕ)). HasText text l) (sym same) has

-- ---- no word is wrong

none-kept : (test : Bool) (at : ℕ) (rest : List ℕ) → cond test (at ∷ rest) rest ≡ [] → (test ≡ false) × (rest ≡ [])
none-kept true at rest none = cc
none-kept false at rest none = (refl, none)

none-found : (test : ℕ → Bool) (from n at : ℕ) → from ≤ at → at < from + n → filter test (range_with_len from n) ≡ [] → test at ≡ false
none-found test from zero at low below none = absurd (omega arith)
none-found test from (suc n) at low below none =
    let parts = none-kept (test from) from (filter test (range_with_len (from + 1) n)) none in
    elim (cases_eq at from) [
      | inl same ↦ ap test same ∙ parts.0
      | inr apart ↦ none-found test (from + 1) n at (omega arith) (omega arith) parts.1
    ]

-- the same of all addresses below one, whose list is opened here alone
pub none-below : (test : ℕ → Bool) (count at : ℕ) → at < count → filter test (addresses_below count) ≡ [] → test at ≡ false
unfolding addresses_below
none-below test count at below none = none-found test 0 count at (omega arith) (omega arith) none

pub none-yet : (test : ℕ → Bool) → [] ≡ filter test (addresses_below 0)
unfolding addresses_below
none-yet test = refl

pub below-more : (test : ℕ → Bool) (at : ℕ)
    → filter test (addresses_below (at + 1)) ≡ filter test (addresses_below at) ++ cond (test at) (at ∷ []) []
unfolding addresses_below
below-more test at = places-more test at

below-limit : (machine : Machine) → limit machine ≤ 262144
below-limit Cp = omega arith
below-limit Pp = omega arith

-- no word of a machine stands past its limit
no-word : (machine : Machine) (pieces : List Piece) (address : ℕ) → limit machine ≤ address → is_some (digits_in machine pieces address) ≡ false
no-word machine pieces address past = grind (arith)

pub and-false : (b : Bool) → (b && false) ≡ false
and-false true = refl
and-false false = refl

-- nor is one wanted
pub not-wanted : (selection : Selection) (words : ClaimedWords) (given : List Claimed) → Holds words given → (address : ℕ) → 262144 ≤ address
    → is_wanted selection given address ≡ false
not-wanted selection words given holds address past =
    let few = words.few in
    let none : is_given given address ≡ false = past-given words given holds address (omega (arith, few)) in
    ap (λ b. is_within selection address && b) none ∙ and-false (is_within selection address)

pub right-past : (wanted differing stands : Bool) → wanted ≡ false → stands ≡ false → cond wanted differing stands ≡ false
right-past wanted differing stands unwanted none = ap (λ b. cond b differing stands) unwanted ∙ none

pub all-right : (selection : Selection) (words : ClaimedWords) (given : List Claimed) (pieces : List Piece) (wrong : List ℕ) → Holds words given
    → wrong ≡ wrong_in selection given (digits_in selection.machine pieces) → wrong ≡ []
    → (address : ℕ) → is_wrong selection given (digits_in selection.machine pieces) address ≡ false
all-right selection words given pieces wrong holds are none address =
    let machine = selection.machine in
    let below = below-limit machine in
    elim (cases_lt address 262144) [
      | inl within ↦ none-below (is_wrong selection given (digits_in machine pieces)) 262144 address within (sym are ∙ none)
      | inr past ↦
          right-past (is_wanted selection given address) _ _ (not-wanted selection words given holds address past)
          (no-word machine pieces address (omega arith))
    ]

-- the words of lines that are a source for a machine
pub wrong-words : (selection : Selection) (given : List Claimed) (lines : List (List ℕ)) (wrong : List ℕ)
    → machine_of (assembly_of lines).finals ≡ selection.machine
    → wrong ≡ wrong_in selection given (digits_in selection.machine (pieces_of (assembly_of lines)))
    → wrong ≡ wrong_in selection given (deck_of (assembly_of lines))
wrong-words selection given lines wrong machine are =
    are ∙ ap (λ (m : Machine). wrong_in selection given (digits_in m (pieces_of (assembly_of lines)))) (sym machine)

-- a source of which no line is flagged and no word is wrong
pub made : (selection : Selection) (octal text : List ℕ) (lines : List (List ℕ)) (claims : ClaimedWords) (wrong : List ℕ) → HasText text lines → IsSource lines
    → machine_of (assembly_of lines).finals ≡ selection.machine → flagged_lines lines ≡ 0 → Holds claims (claims_of selection octal)
    → wrong ≡ wrong_in selection (claims_of selection octal) (deck_of (assembly_of lines)) → wrong ≡ [] → Makes selection octal text
made selection octal text lines claims wrong cut source machine clean holds are none =
    let given = claims_of selection octal in
    let pieces = pieces_of (assembly_of lines) in
    let same : wrong ≡ wrong_in selection given (digits_in selection.machine pieces) =
    are ∙ ap (λ (m : Machine). wrong_in selection given (digits_in m pieces)) machine in
    record {
      lines = lines;
      cut = cut;
      source = source;
      machine = machine;
      clean = clean;
      right = λ address. subst (λ (m : Machine). is_wrong selection given (digits_in m pieces) address ≡ false) (sym machine)
          (all-right selection claims given pieces wrong holds same none address);
    }

-- a list of no element
pub empty-none : {X : Type 0} (xs : List X) → eqb (length xs) 0 ≡ true → xs ≡ []
empty-none [] is = refl
empty-none (x ∷ xs) is = let none = eqb-true (length (x ∷ xs)) 0 is in absurd (omega arith)
