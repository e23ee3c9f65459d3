-- For those that need no text, not part of what a reader believes: the words that a source assembles to.
use Rattle.std.specs.Prelude.{◌≡◌, ℕ, List}
use Rattle.cps_code.specs.Image.{ArePacked}
use Rattle.cps_final.specs.Finals.{machine_of}
use Rattle.cps_list.specs.Binary.{pieces_of}
use Rattle.cps_edit.specs.Assembly.{assembly_of}
use Rattle.cps_edit.specs.Flagged.{flagged_lines}
use Rattle.cps_batch.specs.declared.source_words.SourceWords.{SourceWords}

-- the words of these lines, with the literals over them, their machine, and how many of them are flagged
pub record AreWordsOf (lines : List (List ℕ)) (made : SourceWords) : Type 0 where
  pub words : ArePacked (pieces_of (assembly_of lines)) made.words
  pub machine : made.machine ≡ machine_of (assembly_of lines).finals
  pub flagged : made.flagged ≡ flagged_lines lines
