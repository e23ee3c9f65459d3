-- What a disassembly of an octal text answers. Our own.
use Rattle.std.specs.Prelude.{◌≡◌, ℕ, ◌<◌, ◌≤◌, true, false, List, filter, count_by, slice_get, Option, None, Some, Result, Ok, Err, ⊤}
use Rattle.std.specs.declared.vec.Vec.{Vec}
use Rattle.cps_text.specs.declared.limits.TheConstants.{MOST_LINES}
use Rattle.cps_state.specs.Machines.{limit}
use Rattle.cps_claims.specs.declared.reading.UnreadRow.{UnreadRow}
use Rattle.cps_claims.specs.Words.{most_words}
use Rattle.cps_claims.specs.Rows.{Row, rows_in}
use Rattle.cps_claims.specs.Reading.{is_read, unread_from}
use Rattle.cps_claims.specs.Claims.{Claimed}
use Rattle.cps_claims.specs.Shown.{again_row}
use Rattle.cps_disassembly.specs.declared.selection.Selection.{Selection}
use Rattle.cps_disassembly.specs.declared.disassembly_fault.DisassemblyFault.{DisassemblyFault}
use Rattle.cps_disassembly.specs.declared.disassembly_fault.DisassemblyFault.TheVariants as faults
use Rattle.cps_disassembly.specs.Certificate.{addresses_below}
use Rattle.cps_disassembly.specs.Makes.{Makes, layout_of, claims_of, is_wanted}

-- the addresses of the words that are wanted
abbrev pub wanted_in : Selection → List Claimed → List ℕ
wanted_in selection claims = filter (is_wanted selection claims) (addresses_below most_words)

-- no row of a text is read; the first that isn't, and isn't blank or of other text, is this
pub record ReadsNoRow (rows : List Row) (first : Option UnreadRow) : Type 0 where
  pub none : count_by is_read rows ≡ 0
  pub unread : first ≡ slice_get (unread_from 1 rows) 0

-- a word is wanted at an address at which no program of the machine has one
pub record IsPast (selection : Selection) (claims : List Claimed) (address : ℕ) : Type 0 where
  pub past : limit selection.machine ≤ address
  pub wanted : is_wanted selection claims address ≡ true

-- a word is wanted, and this row has another digit of it than the rows before
pub record IsTwice (selection : Selection) (claims : List Claimed) (address row : ℕ) : Type 0 where
  pub wanted : is_wanted selection claims address ≡ true
  pub again : row ≡ again_row claims address
  pub some : 0 < row

-- Why nothing is made of these rows and their claims. That no source was found, or that there was no memory, says nothing of them.
abbrev pub Refuses : Selection → List Row → List Claimed → DisassemblyFault → Type 0
Refuses selection rows claims faults.NoRow = ReadsNoRow rows None
Refuses selection rows claims (faults.Unread number reason) = ReadsNoRow rows (Some (record { number = number; reason = reason }))
Refuses selection rows claims faults.NoDigit = (address : ℕ) → is_wanted selection claims address ≡ false
Refuses selection rows claims (faults.Past address) = IsPast selection claims address
Refuses selection rows claims (faults.Twice address row) = IsTwice selection claims address row
Refuses selection rows claims (faults.TooManyLines count) = MOST_LINES < count
Refuses selection rows claims faults.NotMade = ⊤
Refuses selection rows claims faults.Memory = ⊤

-- a text that makes the words that are wanted, or why none is answered
abbrev pub Disassembles : {Z : Type 0} → Selection → List ℕ → Result (Vec ℕ Z) DisassemblyFault → Type 0
Disassembles selection octal (Ok text) = Makes selection octal text.items
Disassembles selection octal (Err fault) = Refuses selection (rows_in (layout_of selection) octal) (claims_of selection octal) fault
