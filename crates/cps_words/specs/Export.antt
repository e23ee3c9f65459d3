-- What is made of a source: files with texts, and a part that is written. Our own.
use Rattle.std.specs.Prelude.{◌≡◌, ℕ, List, ◌++◌, Option, None, Some, Result, Ok, Err, IfSome, option_map}
use Rattle.std.specs.Io.KnownBytes.{Appends}
use Rattle.cps_text.specs.declared.counted.Counted.{Counted}
use Rattle.cps_text.specs.Counted.{inner_of, failures_of, FailsOnce}
use Rattle.cps_input.specs.declared.input_fault.InputFault.TheVariants as inputs
use Rattle.cps_input.specs.Reads.{IsCutShort}
use Rattle.cps_input.specs.Sources.{IsSource, Refuses, IsReadWhole}
use Rattle.cps_edit.specs.Assembly.{assembly_of}
use Rattle.cps_edit.specs.Flagged.{flagged_lines}
use Rattle.cps_list.specs.declared.part.Part.{Part}
use Rattle.cps_list.specs.Texts.{text_of}
use Rattle.cps_page.specs.Page.{IsPageOf}
use Rattle.cps_words.specs.declared.export.Export.{Export}
use Rattle.cps_words.specs.declared.export_fault.ExportFault.{ExportFault}
use Rattle.cps_words.specs.declared.export_fault.ExportFault.TheVariants as faults
use Rattle.cps_words.specs.declared.fault.OutputFault.{OutputFault}
use Rattle.cps_words.specs.Outputs.{Names, Places, files_of, names_of}
use Rattle.cps_words.specs.Placing.{Placed, with_files}

-- what is wanted of a source: texts in files, and a part that is written, None where none is
pub record Wanted : Type 0 where
  pub names : Names
  pub part : Option Part

-- what an export of the code wants
abbrev pub wanted_of : Export → Wanted
wanted_of export = record { names = names_of export.outputs; part = export.part }

-- the text of the wanted part, None where none is wanted
abbrev pub part_text : Option Part → List (List ℕ) → Option (List ℕ)
part_text part lines = option_map (λ part. text_of part (assembly_of lines)) part

-- the whole text was written, where there is one
abbrev pub WritesAll : {W : Type 0} → (W → Option (List ℕ)) → Option (List ℕ) → Counted W → Counted W → Type 0
WritesAll contents None old new = new ≡ old
WritesAll contents (Some text) old new = Appends (contents (inner_of old)) (contents (inner_of new)) text × (failures_of new ≡ failures_of old)

-- a front of the text was written, and then a write failed
abbrev pub WritesFront : {W : Type 0} → (W → Option (List ℕ)) → Option (List ℕ) → Counted W → Counted W → Type 0
WritesFront contents None old new = ⊥
WritesFront contents (Some text) old new =
    ((front back : List ℕ) × (text ≡ front ++ back) × Appends (contents (inner_of old)) (contents (inner_of new)) front) × FailsOnce old new

-- this is a page of the source, if one is wanted
abbrev pub IsPageFor : Names → List (List ℕ) → List ℕ → Type 0
IsPageFor names lines page = IfSome names.page (λ _. IsPageOf (assembly_of lines) page)

-- all files of the wanted texts were placed, and that of a page
abbrev pub PlacesAll : Names → List (List ℕ) → Option (List Placed) → Option (List Placed) → Type 0
PlacesAll names lines known known' =
    (page : List ℕ) × IsPageFor names lines page × (known' ≡ with_files (files_of (assembly_of lines) page names) known)

-- not all were
abbrev pub PlacesSome : OutputFault → Names → List (List ℕ) → Option (List Placed) → Option (List Placed) → Type 0
PlacesSome fault names lines known known' =
    (page : List ℕ) × IsPageFor names lines page × Places (Err fault) known known' (files_of (assembly_of lines) page names)

-- What is done with the lines of an input, by the result: the files are placed, and then the part is written, and flagged lines are counted; or not
-- all files are placed, and nothing is written; or nothing is done.
abbrev pub Makes : {W : Type 0} → (W → Option (List ℕ)) → Wanted → Result ℕ ExportFault → List (List ℕ)
    → Option (List Placed) → Option (List Placed) → Counted W → Counted W → Type 0
Makes contents wanted (Ok count) lines known known' old new =
    IsSource lines × (count ≡ flagged_lines lines) × PlacesAll wanted.names lines known known' × WritesAll contents (part_text wanted.part lines) old new
Makes contents wanted (Err faults.WriteFault) lines known known' old new =
    IsSource lines × PlacesAll wanted.names lines known known' × WritesFront contents (part_text wanted.part lines) old new
Makes contents wanted (Err (faults.Output fault)) lines known known' old new =
    IsSource lines × PlacesSome fault wanted.names lines known known' × (new ≡ old)
Makes contents wanted (Err faults.Memory) lines known known' old new = IsSource lines × (known' ≡ known) × (new ≡ old)
Makes contents wanted (Err (faults.Source fault)) lines known known' old new = Refuses fault lines × (known' ≡ known) × (new ≡ old)

-- What an export does, by its result. The input is read to its end, and then its lines decide. Where it can't be read to its end nothing is done.
abbrev pub Exports : {T R W : Type 0} → (T → Option (List Placed)) → (R → Option (List ℕ)) → (W → Option (List ℕ)) → Wanted → Result ℕ ExportFault
    → T → T → Counted R → Counted R → Counted W → Counted W → Type 0
Exports placed remaining contents wanted (Err (faults.Source inputs.ReadFault)) targets targets' reader reader' writer writer' =
    IsCutShort remaining reader reader' × (placed targets' ≡ placed targets) × (writer' ≡ writer)
Exports placed remaining contents wanted result targets targets' reader reader' writer writer' =
    (lines : List (List ℕ)) × IsReadWhole remaining reader reader' lines
    × Makes contents wanted result lines (placed targets) (placed targets') writer writer'
