-- Which words are told, and what is told of instructions. Our own.
use Rattle.std.specs.Prelude.{◌≡◌, ℕ, Bool, false, ◌||◌, List, [], ◌∷◌, ◌++◌, codes, is_some, MatchBool}
use Rattle.cps_text.specs.Text.{among, capital}
use Rattle.cps_expr.specs.Operation.{operation_named}
use Rattle.cps_code.specs.Table.{is_operation}
use Rattle.cps_code.specs.PeripheralTable.{is_operation as is_peripheral_operation}
use Rattle.cps_cause.specs.LeftOut.{is_left_out}
use Rattle.cps_check.specs.Names.{full_name}
use Rattle.cps_check.specs.Central.{central_text}
use Rattle.cps_check.specs.Codes.{is_code, code_text}
use Rattle.cps_check.specs.Peripheral.{peripheral_text}
use Rattle.cps_check.specs.Sentences.{Sentences}

-- the letters of flags
abbrev pub is_flag_letter : ℕ → Bool
is_flag_letter = among (codes "ADELOTUV")

abbrev pub is_flag : List ℕ → Bool
is_flag [] = false
is_flag (letter ∷ []) = is_flag_letter (capital letter)
is_flag (letter ∷ more ∷ word) = false

-- the letter of a flag, or a statement
abbrev pub is_flag_or_statement : List ℕ → Bool
is_flag_or_statement word = is_flag word || is_some (operation_named word)

-- one of these, or an operation of COMPASS that is left out: of them sentences are told
abbrev pub is_told_by_sentences : List ℕ → Bool
is_told_by_sentences word = is_flag_or_statement word || is_left_out word

-- an instruction of either machine; the digit of a register may lack
abbrev pub is_instruction : List ℕ → Bool
is_instruction word = is_operation (full_name word) || is_peripheral_operation word

abbrev pub is_told : List ℕ → Bool
is_told word = is_told_by_sentences word || is_code word || is_instruction word

-- the rows of both tables that have the name, with words on what each form does
abbrev pub instruction_text : Sentences → Sentences → List ℕ → List ℕ
instruction_text central peripheral word = central_text central (full_name word) ++ peripheral_text peripheral word

pub record TellsInstruction (word text : List ℕ) : Type 0 where
  pub central : Sentences
  pub peripheral : Sentences
  pub whole : text ≡ instruction_text central peripheral word

-- of a code the forms that have it, of another word those that it names
abbrev pub TellsForms : List ℕ → List ℕ → Type 0
TellsForms word text = MatchBool (is_code word) (text ≡ code_text word) (TellsInstruction word text)
