-- For the walk over the lines of a source, not part of what a reader believes: what is made of the texts line by line.
use Rattle.std.specs.Prelude.{◌≡◌, ℕ, ◌+◌, Bool, true, false, List, [], ◌∷◌, ◌++◌, length, Option, Result, OnOk, if◌then◌else◌}
use Rattle.cps_code.specs.Image.{Piece, ArePacked}
use Rattle.cps_state.specs.Machines.{limit}
use Rattle.cps_final.specs.declared.row.Row.{Row}
use Rattle.cps_final.specs.Finals.{Finals, machine_of}
use Rattle.cps_final.specs.Outcome.{Outcome}
use Rattle.cps_list.specs.declared.mention.Mention.{Mention}
use Rattle.cps_list.specs.declared.part.Part.{Part}
use Rattle.cps_list.specs.declared.part.Part.TheVariants as part
use Rattle.cps_list.specs.ListingText.{listing_from}
use Rattle.cps_list.specs.Binary.{pieces_in, pool_pieces, first_row, rows_below}
use Rattle.cps_list.specs.Flagged.{flag_rows_from, flagged_in, flagged_with}
use Rattle.cps_list.specs.Symbols.{mentions_from}
use Rattle.cps_list.specs.Texts.{text_of}

-- these pieces were added to the words, whatever made the words before
abbrev pub Adds : List Piece → List (Option ℕ) → List (Option ℕ) → Type 0
Adds added old new = (pieces : List Piece) → ArePacked pieces old → ArePacked (pieces ++ added) new

-- where nothing failed, a text has these rows of the words more, whatever made the words
abbrev pub AddsRows : {T E : Type 0} → Result T E → List ℕ → List ℕ → List (Option ℕ) → (List Piece → List ℕ) → Type 0
AddsRows result old new words rows = (pieces : List Piece) → ArePacked pieces words → OnOk result (new ≡ old ++ rows pieces)

-- the binary text of what lines make, with the pool over it
abbrev pub binary_of : Finals → List Piece → List ℕ
binary_of finals pieces = first_row finals.program ++ rows_below (limit (machine_of finals)) (machine_of finals) (pieces ++ pool_pieces finals)

-- ---- which texts a part shows

abbrev pub shows_listing : Part → Bool
shows_listing part.Listing = true
shows_listing part.All = true
shows_listing _ = false

abbrev pub shows_binary : Part → Bool
shows_binary part.Binary = true
shows_binary part.All = true
shows_binary _ = false

abbrev pub shows_symbols : Part → Bool
shows_symbols part.Symbols = true
shows_symbols part.All = true
shows_symbols _ = false

abbrev pub shows_flags : Part → Bool
shows_flags part.Flags = true
shows_flags part.All = true
shows_flags _ = false

-- nothing, where it is not shown
abbrev pub shown : {T : Type 0} → Bool → List T → List T
shown is_shown items = if is_shown then items else []

-- ---- what is made of some lines

pub record Printout : Type 0 where
  pub part : Part
  pub listing : List ℕ
  pub words : List (Option ℕ)
  pub flags : List ℕ
  pub flagged : ℕ

pub record IsPrintoutOf (lines : List (List ℕ)) (outcomes : List Outcome) (printout : Printout) : Type 0 where
  pub each : length outcomes ≡ length lines
  pub listing : printout.listing ≡ shown (shows_listing printout.part) (listing_from 1 lines outcomes)
  pub words : ArePacked (shown (shows_binary printout.part) (pieces_in outcomes)) printout.words
  pub flags : printout.flags ≡ shown (shows_flags printout.part) (flag_rows_from 1 outcomes)
  pub flagged : printout.flagged ≡ flagged_in outcomes

-- a printout has a line more, which stands behind all others
abbrev pub AddsLine : ℕ → List ℕ → List Row → List Piece → Printout → Printout → Type 0
AddsLine number line rows pieces old new =
    (lines : List (List ℕ)) (outcomes : List Outcome) (outcome : Outcome) → IsPrintoutOf lines outcomes old
    → number ≡ length lines + 1 → rows ≡ outcome.rows → pieces ≡ outcome.pieces → IsPrintoutOf (lines ++ line ∷ []) (outcomes ++ outcome ∷ []) new

-- the text of a printout's part, and its number of flagged lines, where these are the symbols of its lines
abbrev pub Finishes : Printout → Finals → Bool → List Mention → List ℕ → ℕ → Type 0
Finishes printout finals is_open mentions text flagged =
    (lines : List (List ℕ)) (outcomes : List Outcome) → IsPrintoutOf lines outcomes printout
    → mentions ≡ shown (shows_symbols printout.part) (mentions_from 1 outcomes)
    → (text ≡ text_of printout.part (record { lines = lines; outcomes = outcomes; finals = finals; is_open = is_open }))
    × (flagged ≡ flagged_with is_open outcomes)

-- the words of a printout's binary text, and its number of flagged lines
abbrev pub FinishesWords : Printout → Finals → Bool → List (Option ℕ) → ℕ → Type 0
FinishesWords printout finals is_open words flagged =
    (lines : List (List ℕ)) (outcomes : List Outcome) → IsPrintoutOf lines outcomes printout
    → ArePacked (pieces_in outcomes ++ pool_pieces finals) words × (flagged ≡ flagged_with is_open outcomes)
