-- What becomes of files, where more files are wanted.
use Rattle.std.proofs.Common.{◌≡◌, ap, ◌∙◌, ℕ, List, [], ◌∷◌, ◌++◌, append_assoc, arith, ◌-◌, length, take, drop}
use Rattle.std.proofs.lemmas.List.{take_all, length-drop}
use Rattle.std.specs.Prelude.{Option, Err}
use Rattle.cps_list.specs.Assembly.{Assembly}
use Rattle.cps_words.specs.declared.fault.OutputFault.{OutputFault}
use Rattle.cps_words.specs.declared.fault.OutputFault.TheVariants.{Memory, Uncreated, Unwritten, Unplaced}
use Rattle.cps_words.specs.declared.outputs.FileOutput.{FileOutput}
use Rattle.cps_words.specs.Outputs.{file_of, name_of, IsNext, Places}
use Rattle.cps_words.specs.Placing.{Placed}
use Rattle.cps_words.specs.Code.Steps.{bytes_of, files_from}

pub next-more : (front files more : List Placed) (name : List ℕ) → IsNext front name files → IsNext front name (files ++ more)
next-more front files more name (file, back, is, named) = (file, back ++ more, ap (λ (fs : List Placed). fs ++ more) is ∙ append_assoc front (file ∷ back) more, named)

pub places-more : (fault : OutputFault) (old new : Option (List Placed)) (files more : List Placed) → Places (Err fault) old new files → Places (Err fault) old new (files ++ more)
places-more Memory old new files more is = is
places-more (Uncreated name error) old new files more (front, next, is) = (front, next-more front files more name.now next, is)
places-more (Unwritten name error) old new files more (front, next, is) = (front, next-more front files more name.now next, is)
places-more (Unplaced name error) old new files more (front, next, is) = (front, next-more front files more name.now next, is)

-- the fault of the texts behind the first one
pub places-rest : (assembly : Assembly) (outputs : List FileOutput) (fault : OutputFault) (old new : Option (List Placed))
    → Places (Err fault) old new (files_from assembly (drop 1 outputs)) → Places (Err fault) old new (files_from assembly outputs)
places-rest assembly [] fault old new is = is
places-rest assembly (output ∷ rest) fault old new is = places-more fault old new (files_from assembly rest) (file_of (bytes_of assembly output.text) (name_of output.name)) is

pub all-of-rest : (outputs : List FileOutput) → take (length outputs - 1) (drop 1 outputs) ≡ drop 1 outputs
all-of-rest outputs = take_all (length outputs - 1) (drop 1 outputs) (omega (arith, length-drop 1 outputs))
