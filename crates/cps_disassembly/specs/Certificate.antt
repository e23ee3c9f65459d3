-- What is found of a text that should make the words of an octal text. Our own.
use Rattle.std.specs.Prelude.{◌≡◌, ℕ, List, filter, ⊤}
use Rattle.std.specs.List.{range_with_len}
use Rattle.cps_claims.specs.Words.{most_words}
use Rattle.cps_claims.specs.Claims.{Claimed, Words}
use Rattle.cps_input.specs.Lines.{HasText}
use Rattle.cps_edit.specs.Assembly.{assembly_of}
use Rattle.cps_compare.specs.Differences.{deck_of}
use Rattle.cps_disassembly.specs.declared.selection.Selection.{Selection}
use Rattle.cps_disassembly.specs.declared.certificate.Certificate.{Certificate}
use Rattle.cps_disassembly.specs.declared.certificate.Certificate.TheVariants.{Made, Failed, Unfit}
use Rattle.cps_disassembly.specs.Makes.{Makes, claims_of, is_wrong}

-- the addresses from 0 on below one
unfoldable pub addresses_below : ℕ → List ℕ
addresses_below count = range_with_len 0 count

-- the addresses of the words that are wrong
abbrev pub wrong_in : Selection → List Claimed → Words → List ℕ
wrong_in selection claims words = filter (is_wrong selection claims words) (addresses_below most_words)

-- a text makes the words that are wanted; or it has these lines, and words at these addresses are wrong; or nothing is said
abbrev pub Certifies : Selection → List ℕ → List ℕ → Certificate → Type 0
Certifies selection octal text Made = Makes selection octal text
Certifies selection octal text (Failed failures) =
    (lines : List (List ℕ)) × HasText text lines
    × (failures.words.items ≡ wrong_in selection (claims_of selection octal) (deck_of (assembly_of lines)))
Certifies selection octal text Unfit = ⊤
