-- For the walk over addresses, not part of what a reader believes: an octal text and a source as they are kept, and words that are counted.
use Rattle.std.specs.Prelude.{◌≡◌, ℕ, Bool, List, length, Option, None, Some}
use Rattle.cps_code.specs.Image.{Piece, ArePacked}
use Rattle.cps_list.specs.Assembly.{Assembly}
use Rattle.cps_claims.specs.declared.claimed_word.ClaimedWord.{ClaimedWord}
use Rattle.cps_claims.specs.Reading.{IsReading}
use Rattle.cps_claims.specs.Code.Held.{Holds}
use Rattle.cps_drift.specs.Drift.{IsDriftText}
use Rattle.cps_compare.specs.declared.given_word.GivenCounts.{GivenCounts}
use Rattle.cps_claims.specs.Listed.{ListedCode, listed_at}
use Rattle.cps_claims.specs.Code.Listed.{Lists}
use Rattle.cps_compare.specs.declared.word_sides.WordSides.{WordSides}
use Rattle.cps_compare.specs.declared.listed_sides.ListedSides as code
use Rattle.cps_compare.specs.declared.sides.Sides.TheVariants as both
use Rattle.cps_compare.specs.declared.sides.Sides as kept
use Rattle.cps_compare.specs.Findings.{Findings}
use Rattle.cps_compare.specs.ListedSides.{ListedSides, listed_findings}
use Rattle.cps_compare.specs.Given.{Given, shown_word, known_in, unknown_in, denied_in}
use Rattle.cps_compare.specs.Differences.{digits_in}
use Rattle.cps_compare.specs.Statements.{statements_of}
use Rattle.cps_compare.specs.Told.{Sides, GivenRows, findings_of}
use Rattle.cps_claims.specs.declared.reading.UnreadRow.{UnreadRow}
use Rattle.cps_compare.specs.declared.comparison.Comparison.{Comparison}
use Rattle.cps_compare.specs.declared.compare_fault.CompareFault.{CompareFault}
use Rattle.cps_compare.specs.declared.compare_fault.CompareFault.TheVariants.{NoRow, Unread}
use Rattle.cps_compare.specs.Summary.{told_text, count_differing}
use Rattle.cps_compare.specs.Code.Deck.{maker_at}

-- the rows that have the digits of a word
abbrev pub kept_rows : ClaimedWord → GivenRows
kept_rows word = record { first = word.first_row; last = word.last_row; again = word.again_row }

-- the statements of expansions at an address, by line
abbrev pub statements_at : Assembly → ℕ → ℕ → List (List ℕ)
statements_at assembly address number = statements_of assembly.outcomes number address

-- what is given of a word is counted
pub record CountsGiven (given : Given) (counts : GivenCounts) : Type 0 where
  pub shown : counts.shown ≡ length (shown_word given)
  pub known : counts.known ≡ known_in given
  pub unknown : counts.unknown ≡ unknown_in given
  pub denied : counts.denied ≡ denied_in given

-- both sides are kept, beside an assembled source
pub record AreWords (kept : WordSides) (assembly : Assembly) (sides : Sides) : Type 0 where
  pub rows : IsReading sides.rows kept.reading.rows
  pub claims : Holds kept.reading.words sides.claims
  pub pieces : List Piece
  pub packed : ArePacked pieces kept.deck.words
  pub words : sides.words ≡ digits_in kept.machine pieces
  pub maker : sides.maker ≡ maker_at kept.deck.makers
  pub lines : sides.lines ≡ assembly.lines
  pub statements : sides.statements ≡ statements_of assembly.outcomes
  pub whole : sides.whole ≡ kept.whole

-- both listings are kept, beside an assembled source
pub record AreListed (kept : code.ListedSides) (assembly : Assembly) (sides : ListedSides) : Type 0 where
  pub rows : IsReading sides.rows kept.reading.rows
  pub text_codes : List ListedCode
  pub text_kept : Lists kept.reading.words text_codes
  pub text : sides.text ≡ listed_at text_codes
  pub deck_codes : List ListedCode
  pub deck_kept : Lists kept.deck deck_codes
  pub deck : sides.deck ≡ listed_at deck_codes
  pub lines : sides.lines ≡ assembly.lines
  pub statements : sides.statements ≡ statements_of assembly.outcomes
  pub whole : sides.whole ≡ kept.whole

-- what is found of two sides is kept
abbrev pub AreKept : kept.Sides → Assembly → Findings → Type 0
AreKept (both.Words kept) assembly found = (sides : Sides) × AreWords kept assembly sides × (found ≡ findings_of sides)
AreKept (both.Listed kept) assembly found = (sides : ListedSides) × AreListed kept assembly sides × (found ≡ listed_findings sides)

-- what is told, and how many words differ
pub record IsToldOf (found : Findings) (all : Bool) (low high : ℕ) (comparison : Comparison) : Type 0 where
  pub drift : List ℕ
  pub is_drift : IsDriftText drift
  pub text : comparison.text.items ≡ told_text found all drift low high
  pub count : comparison.differing ≡ count_differing found low high

-- why no row is read, by the first that isn't
abbrev pub why_unread : Option UnreadRow → CompareFault
why_unread None = NoRow
why_unread (Some row) = Unread row.number row.reason
