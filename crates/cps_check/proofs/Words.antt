-- What is told of an instruction, by the sentences of its forms.
use Rattle.std.proofs.Common.{◌≡◌, ℕ, List, ◌++◌, Option, Some, sym, ap, ◌∙◌, append_assoc}
use Rattle.cps_code.specs.Rows.{Named}
use Rattle.cps_code.specs.Table.{instruction_named}
use Rattle.cps_check.specs.Central.{central_head, central_text, named_text, rows_text}
use Rattle.cps_check.specs.Manual.{instruction_text, TellsInstruction}
use Rattle.cps_check.specs.Names.{row_name}
use Rattle.cps_check.specs.Sentences.{Sentences}

pub told : (central peripheral : Sentences) (word text : List ℕ) → text ≡ instruction_text central peripheral word → TellsInstruction word text
told central peripheral word text whole = record { central = central; peripheral = peripheral; whole = whole }

-- what is told of an operation: the head, and its rows
pub central_told : (sentences : Sentences) (name old head all : List ℕ) (o : Named) → instruction_named name ≡ Some o → head ≡ old ++ central_head
    → all ≡ head ++ rows_text (row_name name) o.digits.f sentences o.forms → all ≡ old ++ central_text sentences name
central_told sentences name old head all o is begins goes =
    let rows = rows_text (row_name name) o.digits.f sentences o.forms in
    goes ∙ ap (λ (text : List ℕ). text ++ rows) begins ∙ append_assoc old central_head rows
    ∙ ap (λ (found : Option Named). old ++ named_text sentences name found) (sym is)
