-- For the drafts, not part of what a reader believes: the words that are wanted as they are kept, and what comes of a draft.
use Rattle.std.specs.Prelude.{◌≡◌, ◌⊎◌, ◌<◌, ◌≤◌, ℕ, Bool, false, List, map, Option, None, Some, ⊤}
use Rattle.cps_draft.specs.declared.hints.GivenWord.{GivenWord}
use Rattle.cps_claims.specs.declared.reading.UnreadRow.{UnreadRow}
use Rattle.cps_claims.specs.Claims.{Claimed}
use Rattle.cps_claims.specs.Code.Held.{Holds}
use Rattle.cps_disassembly.specs.declared.selection.Selection.{Selection}
use Rattle.cps_disassembly.specs.declared.span.Span.{Span}
use Rattle.cps_disassembly.specs.declared.wanted.Wanted.{Wanted}
use Rattle.cps_disassembly.specs.declared.ladder.Attempt.{Attempt}
use Rattle.cps_disassembly.specs.declared.ladder.Attempt.TheVariants.{Made, Failed, Unfit}
use Rattle.cps_disassembly.specs.declared.disassembly_fault.DisassemblyFault.{DisassemblyFault}
use Rattle.cps_disassembly.specs.declared.disassembly_fault.DisassemblyFault.TheVariants as faults
use Rattle.cps_disassembly.specs.Makes.{Makes}
use Rattle.cps_disassembly.specs.Disassembly.{wanted_in}

abbrev pub address_in : GivenWord → ℕ
address_in word = word.address

-- an address isn't among some
abbrev pub IsOutside : Span → ℕ → Type 0
IsOutside span address = (address < span.first) ⊎ (span.end ≤ address)

-- no other address passes a test
abbrev pub IsNoneOutside : Span → (ℕ → Bool) → Type 0
IsNoneOutside span test = (address : ℕ) → IsOutside span address → test address ≡ false

-- these claims and the words of them that are wanted are kept
pub record IsWanted (selection : Selection) (given : List Claimed) (wanted : Wanted) : Type 0 where
  pub same : wanted.selection ≡ selection
  pub claims : Holds wanted.claims given
  pub words : map address_in wanted.words.items ≡ wanted_in selection given

-- a text that is made makes the words that are wanted
abbrev pub Attempts : Selection → List ℕ → Attempt → Type 0
Attempts selection octal (Made text) = Makes selection octal text.items
Attempts selection octal (Failed words) = ⊤
Attempts selection octal (Unfit lines) = ⊤

-- why no row of a text is read, by the first that isn't
abbrev pub why_unread : Option UnreadRow → DisassemblyFault
why_unread None = faults.NoRow
why_unread (Some row) = faults.Unread row.number row.reason
