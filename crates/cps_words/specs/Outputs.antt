-- Which files the texts of a source go into, and what becomes of these. Our own.
use Rattle.std.specs.Prelude.{◌≡◌, ℕ, List, [], ◌∷◌, ◌++◌, Option, None, Some, Result, Ok, Err, option_map}
use Rattle.std.specs.Borrow.{Bor}
use Rattle.cps_list.specs.declared.part.Part.TheVariants as part
use Rattle.cps_list.specs.Assembly.{Assembly}
use Rattle.cps_list.specs.Texts.{text_of}
use Rattle.cps_words.specs.declared.fault.OutputFault.{OutputFault}
use Rattle.cps_words.specs.declared.fault.OutputFault.TheVariants.{Memory, Uncreated, Unwritten, Unplaced}
use Rattle.cps_words.specs.declared.outputs.Outputs.{Outputs}
use Rattle.cps_words.specs.Placing.{Placed, with_files}

-- the names of the files that texts, and the page, are wanted in, None where one isn't wanted
pub record Names : Type 0 where
  pub listing : Option (List ℕ)
  pub binary : Option (List ℕ)
  pub symbols : Option (List ℕ)
  pub flags : Option (List ℕ)
  pub page : Option (List ℕ)

abbrev pub name_of : Option (Bor (List ℕ)) → Option (List ℕ)
name_of output = option_map (λ (name : Bor (List ℕ)). name.now) output

-- the names that outputs of the code have
abbrev pub names_of : Outputs → Names
names_of outputs = record {
  listing = name_of outputs.listing;
  binary = name_of outputs.binary;
  symbols = name_of outputs.symbols;
  flags = name_of outputs.flags;
  page = name_of outputs.page;
}

-- the file of a text, if it is wanted
abbrev pub file_of : List ℕ → Option (List ℕ) → List Placed
file_of text None = []
file_of text (Some name) = record { name = name; bytes = text } ∷ []

-- the files of the texts that are wanted, and of this page if one is, in the order in which they are placed
abbrev pub files_of : Assembly → List ℕ → Names → List Placed
files_of assembly page names =
    file_of (text_of part.Listing assembly) names.listing
    ++ file_of (text_of part.Binary assembly) names.binary
    ++ file_of (text_of part.Symbols assembly) names.symbols
    ++ file_of (text_of part.Flags assembly) names.flags
    ++ file_of page names.page

-- right behind these files one of that name goes
abbrev pub IsNext : List Placed → List ℕ → List Placed → Type 0
IsNext front name files = (file : Placed) × (back : List Placed) × (files ≡ front ++ file ∷ back) × (file.name ≡ name)

-- What becomes of files, from one moment to another. All are placed. Or none is, where there is no memory for a text, or where the file whose name is
-- told can't be made or written. Or those are that go before that file, where it can't be placed.
abbrev pub Places : Result (Unit {0}) OutputFault → Option (List Placed) → Option (List Placed) → List Placed → Type 0
Places (Ok done) old new files = new ≡ with_files files old
Places (Err Memory) old new files = new ≡ old
Places (Err (Uncreated name error)) old new files = (front : List Placed) × IsNext front name.now files × (new ≡ old)
Places (Err (Unwritten name error)) old new files = (front : List Placed) × IsNext front name.now files × (new ≡ old)
Places (Err (Unplaced name error)) old new files = (front : List Placed) × IsNext front name.now files × (new ≡ with_files front old)
