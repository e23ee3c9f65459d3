-- For the code of a comparison, not part of what a reader believes: the files that were opened for it.
use Rattle.std.specs.Prelude.{◌≡◌, ℕ, List, Option, Some, None, Result}
use Rattle.clap.specs.Words.{Text}
use Rattle.cps_text.specs.declared.counted.Counted.{Counted}
use Rattle.cps_compare.specs.declared.compare_options.CompareOptions.{CompareOptions}
use Rattle.cps_compare.specs.declared.octal_fault.OctalFault.{OctalFault}
use Rattle.cps_compare.specs.Octal.{RunsComparison}
use Rattle.cps_tool.specs.declared.comparing.Files.{Files}
use Rattle.cps_tool.specs.declared.comparing.Files.TheVariants.{Octal, Source, Both}
use Rattle.cps_tool.specs.CommandLine.{IsOpened}

-- the files of these names
abbrev pub AreFiles : {F : Type 0} → (List ℕ → Option (List ℕ)) → (F → Option (List ℕ)) → Option Text → Option Text → Files F → Type 0
AreFiles holds opened (Some octal) (Some source) (Both file deck) = IsOpened (holds octal) opened file × IsOpened (holds source) opened deck
AreFiles holds opened (Some octal) None (Octal file) = IsOpened (holds octal) opened file
AreFiles holds opened None (Some source) (Source deck) = IsOpened (holds source) opened deck
AreFiles holds opened octal source files = ⊥

-- these files were compared, or one of them with standard input
abbrev pub ComparesFiles : {F R W : Type 0} → (F → Option (List ℕ)) → (R → Option (List ℕ)) → (W → Option (List ℕ)) → CompareOptions → Result ℕ OctalFault
    → Files F → Counted R → Counted R → Counted W → Counted W → Type 0
ComparesFiles {F} opened remaining contents options result (Octal file) reader reader' writer writer' =
    (file' : Counted F) × RunsComparison opened remaining contents options result file file' reader reader' writer writer'
ComparesFiles {F} opened remaining contents options result (Source deck) reader reader' writer writer' =
    (deck' : Counted F) × RunsComparison remaining opened contents options result reader reader' deck deck' writer writer'
ComparesFiles {F} opened remaining contents options result (Both file deck) reader reader' writer writer' =
    (reader' ≡ reader) × ((file' deck' : Counted F) × RunsComparison opened opened contents options result file file' deck deck' writer writer')
