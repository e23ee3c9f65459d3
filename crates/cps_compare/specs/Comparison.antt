-- A source compared with an octal text. Our own.
use Rattle.std.specs.Prelude.{◌≡◌, ◌<◌, ◌≤◌, ℕ, Bool, true, false, List, All, Option, None, Some, Result, Ok, Err, ⊤, MatchOption, slice_get}
use Rattle.std.specs.List.{count_by}
use Rattle.std.specs.Bool.{MatchBool}
use Rattle.cps_expr.specs.declared.machine.Machine.{Machine}
use Rattle.cps_expr.specs.declared.machine.Machine.TheVariants.{Cp, Pp}
use Rattle.cps_final.specs.Finals.{machine_of}
use Rattle.cps_list.specs.Assembly.{Assembly}
use Rattle.cps_claims.specs.declared.layout.OctalLayout.{OctalLayout}
use Rattle.cps_claims.specs.declared.layout.WordForm.{WordForm}
use Rattle.cps_claims.specs.declared.layout.WordForm.TheVariants.{Central, Peripheral}
use Rattle.cps_claims.specs.declared.reading.UnreadRow.{UnreadRow}
use Rattle.cps_claims.specs.Rows.{rows_in}
use Rattle.cps_claims.specs.Claims.{Claimed, known, agrees, claims_in}
use Rattle.cps_claims.specs.declared.layout.OctalFormat.{OctalFormat}
use Rattle.cps_claims.specs.declared.listed_digit.ListedDigit.{ListedDigit}
use Rattle.cps_claims.specs.Listed.{own_rows, codes_from, listed_at}
use Rattle.cps_claims.specs.ListedPlaces.{can_be_read, lists_digit}
use Rattle.cps_claims.specs.Reading.{is_read, unread_from}
use Rattle.cps_drift.specs.Drift.{IsDriftText}
use Rattle.cps_compare.specs.declared.compare_options.CompareOptions.{CompareOptions}
use Rattle.cps_compare.specs.declared.comparison.Comparison.{Comparison}
use Rattle.cps_compare.specs.declared.compare_fault.CompareFault.{CompareFault}
use Rattle.cps_compare.specs.declared.compare_fault.CompareFault.TheVariants as faults
use Rattle.cps_compare.specs.Makers.{signed_of, maker_of}
use Rattle.cps_compare.specs.Statements.{statements_of}
use Rattle.cps_compare.specs.Differences.{deck_of}
use Rattle.cps_compare.specs.declared.compare_format.CompareFormat.{CompareFormat}
use Rattle.cps_compare.specs.declared.compare_format.CompareFormat.TheVariants.{Words, Own}
use Rattle.cps_compare.specs.Findings.{Findings}
use Rattle.cps_compare.specs.Told.{Sides, findings_of}
use Rattle.cps_compare.specs.ListedSides.{ListedSides, line_codes, listed_findings}
use Rattle.cps_compare.specs.Summary.{told_text, count_differing}

-- ---- what is compared

abbrev pub form_of : Machine → WordForm
form_of Cp = Central
form_of Pp = Peripheral

-- how the octal text is laid out
abbrev pub layout_of : CompareOptions → OctalFormat → Assembly → OctalLayout
layout_of options format assembly = record {
  form = form_of (machine_of assembly.finals);
  format = format;
  columns = options.columns;
  offset = options.offset;
}

-- the octal text as it is read, and the source
abbrev pub sides_of : CompareOptions → OctalFormat → List ℕ → Assembly → Sides
sides_of options format octal assembly = record {
  rows = rows_in (layout_of options format assembly) octal;
  claims = claims_in (layout_of options format assembly) octal;
  words = deck_of assembly;
  maker = maker_of (signed_of assembly);
  lines = assembly.lines;
  statements = statements_of assembly.outcomes;
  whole = options.whole;
}

-- this program's own listing, and that of the source
abbrev pub listed_sides : CompareOptions → List ℕ → Assembly → ListedSides
listed_sides options octal assembly = record {
  rows = own_rows options.offset octal;
  text = listed_at (codes_from 1 (own_rows options.offset octal));
  deck = listed_at (line_codes 1 assembly.outcomes);
  lines = assembly.lines;
  statements = statements_of assembly.outcomes;
  whole = options.whole;
}

-- what is found, as the text is laid out
abbrev pub found_as : CompareFormat → CompareOptions → List ℕ → Assembly → Findings
found_as (Words format) options octal assembly = findings_of (sides_of options format octal assembly)
found_as Own options octal assembly = listed_findings (listed_sides options octal assembly)

abbrev pub findings_in : CompareOptions → List ℕ → Assembly → Findings
findings_in options octal assembly = found_as options.format options octal assembly

-- ---- the addresses

pub record IsFirst (test : ℕ → Bool) (address : ℕ) : Type 0 where
  pub here : test address ≡ true
  pub before : (other : ℕ) → other < address → test other ≡ false

pub record IsLast (test : ℕ → Bool) (address : ℕ) : Type 0 where
  pub here : test address ≡ true
  pub behind : (other : ℕ) → address < other → test other ≡ false

-- from the address that was asked for, else the first that is compared; to the one that was asked for, else the last
pub record AreLimits (options : CompareOptions) (found : Findings) (low high : ℕ) : Type 0 where
  pub is_low : MatchOption options.from (IsFirst found.is_compared low) (λ address. low ≡ address)
  pub is_high : MatchOption options.to (IsLast found.is_compared high) (λ address. high ≡ address)

-- whether the text has a digit that can be read between two addresses, both counted
abbrev pub SomeGiven : Findings → ℕ → ℕ → Bool → Type 0
SomeGiven found low high result = MatchBool result
    ((address : ℕ) × (low ≤ address) × (address ≤ high) × (found.is_given address ≡ true))
    ((address : ℕ) → low ≤ address → address ≤ high → found.is_given address ≡ false)

abbrev pub NoneGiven : Findings → Type 0
NoneGiven found = (address : ℕ) → found.is_given address ≡ false

-- ---- what is answered

-- The text tells the differences between two addresses, where a digit that can be read is claimed for one of their words. What it tells of
-- code that moved is some rows of their own kind.
pub record Tells (options : CompareOptions) (found : Findings) (comparison : Comparison) : Type 0 where
  pub low : ℕ
  pub high : ℕ
  pub limits : AreLimits options found low high
  pub some : SomeGiven found low high true
  pub drift : List ℕ
  pub is_drift : IsDriftText drift
  pub text : comparison.text.items ≡ told_text found options.all drift low high
  pub count : comparison.differing ≡ count_differing found low high

-- no digit that can be read is claimed between two addresses
pub record ComparesNothing (options : CompareOptions) (found : Findings) (low high : ℕ) : Type 0 where
  pub limits : AreLimits options found low high
  pub none : SomeGiven found low high false

-- no row of a text is read; the first that isn't, and isn't blank or of other text, is this
pub record ReadsNoRow (found : Findings) (first : Option UnreadRow) : Type 0 where
  pub none : count_by is_read found.rows ≡ 0
  pub unread : first ≡ slice_get (unread_from 1 found.rows) 0

-- rows are read, and no digit of them can be
pub record ReadsNoDigit (found : Findings) : Type 0 where
  pub some : 0 < count_by is_read found.rows
  pub none : NoneGiven found

-- What a comparison answers: what differs; or that no row is read, that no digit can be, or that nothing is compared; or nothing is said,
-- where there was no memory.
abbrev pub Compares : CompareOptions → Findings → Result Comparison CompareFault → Type 0
Compares options found (Ok comparison) = Tells options found comparison
Compares options found (Err faults.NoRow) = ReadsNoRow found None
Compares options found (Err (faults.Unread number reason)) = ReadsNoRow found (Some (record { number = number; reason = reason }))
Compares options found (Err faults.NoDigit) = ReadsNoDigit found
Compares options found (Err (faults.Nothing low high)) = ComparesNothing options found low high
Compares options found (Err faults.Memory) = ⊤

-- ---- laws

-- where no word between two addresses differs, each digit that can be read and is claimed there is the source's
abbrev pub NoWordDiffersSoEachDigitAgrees : Type 0
NoWordDiffersSoEachDigitAgrees =
    (sides : Sides) → (low high : ℕ) → count_differing (findings_of sides) low high ≡ 0
    → All (λ (claim : Claimed). low ≤ claim.address → claim.address ≤ high → agrees sides.words claim ≡ true) (known sides.claims)

-- and where no codes between two addresses differ, each digit of the text that can be read stands there in the source's own listing
abbrev pub NoCodeDiffersSoEachDigitIsListed : Type 0
NoCodeDiffersSoEachDigitIsListed =
    (sides : ListedSides) → (low high : ℕ) → count_differing (listed_findings sides) low high ≡ 0
    → (address place : ℕ) (listed : ListedDigit) → low ≤ address → address ≤ high → slice_get (sides.text address) place ≡ Some listed
    → can_be_read listed ≡ true → lists_digit (sides.deck address) place listed.digit ≡ true
