-- For writing texts one after another, not part of what a reader believes: the texts from the last one on, and what a step tells.
use Rattle.std.specs.Prelude.{◌≡◌, ℕ, List, [], ◌∷◌, ◌++◌, ⊤}
use Rattle.cps_list.specs.declared.part.Part.TheVariants as part
use Rattle.cps_list.specs.Assembly.{Assembly}
use Rattle.cps_list.specs.Texts.{text_of}
use Rattle.cps_words.specs.declared.fault.OutputFault.{OutputFault}
use Rattle.cps_words.specs.declared.fault.OutputFault.TheVariants.{Memory, Uncreated, Unwritten, Unplaced}
use Rattle.std.specs.Borrow.{Bor}
use Rattle.cps_words.specs.declared.outputs.FileOutput.{FileOutput}
use Rattle.cps_words.specs.declared.outputs.FileText.{FileText}
use Rattle.cps_words.specs.declared.outputs.FileText.TheVariants as texts
use Rattle.cps_words.specs.declared.outputs.Outputs.{Outputs}
use Rattle.cps_words.specs.Outputs.{file_of, name_of}
use Rattle.cps_words.specs.Placing.{Placed}

-- the page and the four texts, the last one first
abbrev pub last_first : Bor (List ℕ) → Outputs → List FileOutput
last_first page outputs =
    record { text = texts.Page page; name = outputs.page }
    ∷ record { text = texts.Part part.Flags; name = outputs.flags }
    ∷ record { text = texts.Part part.Symbols; name = outputs.symbols }
    ∷ record { text = texts.Part part.Binary; name = outputs.binary }
    ∷ record { text = texts.Part part.Listing; name = outputs.listing }
    ∷ []

-- what goes into a file
abbrev pub bytes_of : Assembly → FileText → List ℕ
bytes_of assembly (texts.Part part) = text_of part assembly
bytes_of assembly (texts.Page page) = page.now

-- the files of texts of which the last is placed first
abbrev pub files_from : Assembly → List FileOutput → List Placed
files_from assembly [] = []
files_from assembly (output ∷ rest) = files_from assembly rest ++ file_of (bytes_of assembly output.text) (name_of output.name)

-- the text of the file of that name isn't written
abbrev pub IsUnwritten : List ℕ → OutputFault → Type 0
IsUnwritten name Memory = ⊤
IsUnwritten name (Uncreated told error) = told.now ≡ name
IsUnwritten name (Unwritten told error) = told.now ≡ name
IsUnwritten name (Unplaced told error) = ⊥

-- the file of that name isn't placed
abbrev pub IsUnplaced : List ℕ → OutputFault → Type 0
IsUnplaced name Memory = ⊥
IsUnplaced name (Uncreated told error) = ⊥
IsUnplaced name (Unwritten told error) = ⊥
IsUnplaced name (Unplaced told error) = told.now ≡ name
