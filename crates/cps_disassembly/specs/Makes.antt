-- When a source makes the words of an octal text. Our own.
use Rattle.std.specs.Prelude.{◌≡◌, ℕ, ◌<◌, Bool, true, false, ◌==◌, ◌&&◌, nat_le, List, length, slice_index, Some, unwrap_or, is_some, if◌then◌else◌}
use Rattle.std.specs.List.{list_any}
use Rattle.std.specs.Option.{option_map_or}
use Rattle.cps_claims.specs.declared.layout.OctalLayout.{OctalLayout}
use Rattle.cps_claims.specs.declared.layout.WordOffset.TheVariants.{Up}
use Rattle.cps_claims.specs.Words.{size_of}
use Rattle.cps_claims.specs.Claims.{Claimed, Words, known, claims_in, differs}
use Rattle.cps_claims.specs.Counts.{is_for, is_given}
use Rattle.cps_input.specs.Lines.{HasText}
use Rattle.cps_input.specs.Sources.{IsSource}
use Rattle.cps_final.specs.Finals.{machine_of}
use Rattle.cps_edit.specs.Assembly.{assembly_of}
use Rattle.cps_edit.specs.Flagged.{flagged_lines}
use Rattle.cps_compare.specs.Comparison.{form_of}
use Rattle.cps_compare.specs.Differences.{deck_of}
use Rattle.cps_disassembly.specs.declared.selection.Selection.{Selection}

-- ---- what is wanted

abbrev pub layout_of : Selection → OctalLayout
layout_of selection = record {
  format = selection.format;
  form = form_of selection.machine;
  columns = selection.columns;
  offset = Up 0;
}

-- the digits that an octal text claims
abbrev pub claims_of : Selection → List ℕ → List Claimed
claims_of selection octal = claims_in (layout_of selection) octal

-- from the first address to the last, both counted
abbrev pub is_within : Selection → ℕ → Bool
is_within selection address =
    nat_le (unwrap_or selection.from 0) address && option_map_or (λ last. nat_le address last) selection.to true

-- a word is wanted where a digit of it is claimed that can be read
abbrev pub is_wanted : Selection → List Claimed → ℕ → Bool
is_wanted selection claims address = is_within selection address && is_given claims address

-- ---- what is made

-- A source's word is wrong where a digit that is wanted isn't its own, or where no word is wanted.
abbrev pub is_wrong : Selection → List Claimed → Words → ℕ → Bool
is_wrong selection claims words address =
    if is_wanted selection claims address then differs words claims address else is_some (words address)

-- The lines of a text are a source for the machine, none is flagged, and at no address at all stands a wrong word.
pub record Makes (selection : Selection) (octal text : List ℕ) : Type 0 where
  pub lines : List (List ℕ)
  pub cut : HasText text lines
  pub source : IsSource lines
  pub machine : machine_of (assembly_of lines).finals ≡ selection.machine
  pub clean : flagged_lines lines ≡ 0
  pub right : (address : ℕ) → is_wrong selection (claims_of selection octal) (deck_of (assembly_of lines)) address ≡ false

-- ---- laws

-- each digit of a word is claimed
pub record IsWhole (claims : List Claimed) (address size : ℕ) (digits : List ℕ) : Type 0 where
  pub long : length digits ≡ size
  pub each : (place : ℕ) → place < size
      → list_any (λ claim. is_for address place claim && (claim.digit == slice_index digits place)) (known claims) ≡ true

-- a word that is claimed whole stands exactly so
abbrev pub AWholeWordStandsExactly : Type 0
AWholeWordStandsExactly =
    (selection : Selection) (octal text : List ℕ) (made : Makes selection octal text) (address : ℕ) (digits : List ℕ)
    → is_within selection address ≡ true
    → IsWhole (claims_of selection octal) address (size_of (form_of selection.machine)) digits
    → deck_of (assembly_of made.lines) address ≡ Some digits

-- where no word is wanted none stands
abbrev pub WhereNoWordIsWantedNoneStands : Type 0
WhereNoWordIsWantedNoneStands =
    (selection : Selection) (octal text : List ℕ) (made : Makes selection octal text) (address : ℕ)
    → is_wanted selection (claims_of selection octal) address ≡ false
    → is_some (deck_of (assembly_of made.lines) address) ≡ false
