-- A line of a macro's body in a call, each of its characters with what wrote it. Our own.
use Rattle.std.specs.Prelude.{◌≡◌, ℕ, ◌+◌, ◌≤◌, not, List, [], ◌∷◌, ◌++◌, length, map, filter, slice_get, Option, None, Some, option_map, option_and_then, unwrap_or, if◌then◌else◌}
use Rattle.std.specs.List.{find}
use Rattle.cps_text.specs.declared.name.Name.{Name}
use Rattle.cps_text.specs.Card.{card, is_comment}
use Rattle.cps_text.specs.Insertion.{Pairs, inserted, is_mark, is_of_run}
use Rattle.cps_text.specs.Line.{longest_line}
use Rattle.cps_text.specs.Name.{is_one, name_of}
use Rattle.cps_text.specs.Runs.{runs}
use Rattle.cps_mention.specs.declared.macro_names.MacroName.{MacroName}
use Rattle.cps_mention.specs.declared.stretch.Stretch.{Stretch}

-- characters, each with what wrote it: its own column, or all of the local name for which a generated name stands
abbrev pub Written : Type 0
Written = List (ℕ × Stretch)

abbrev pub text_of : Written → List ℕ
text_of written = map (λ c. c.0) written

abbrev pub origins_of : Written → List Stretch
origins_of written = map (λ c. c.1) written

-- so many columns of a line behind so many others
abbrev pub columns : ℕ → ℕ → ℕ → Stretch
columns line before count = record { line = line; first = before + 1; end = before + 1 + count }

-- a part of a line of the source, behind so many columns, writes itself
abbrev pub written_on : ℕ → ℕ → List ℕ → Written
written_on line before [] = []
written_on line before (character ∷ text) = (character, columns line before 1) ∷ written_on line (before + 1) text

-- it has no more characters than a line
abbrev pub IsShort : List ℕ → Type 0
IsShort text = length text ≤ longest_line

-- ---- what stands for a name of a body

pub data Substitute : Type 0 where
  argument : Written → Substitute
  generated : List ℕ → Substitute

abbrev pub Substitutes : Type 0
Substitutes = List (Name × Substitute)

abbrev pub standing_for : Substitutes → Name → Option Substitute
standing_for named name = option_map (λ pair. pair.1) (find (λ pair. is_one pair.0 name) named)

-- ---- a line of a body in a call

abbrev pub without_marks : Written → Written
without_marks written = filter (λ c. not (is_mark c.0)) written

-- in the place of columns; all of a generated name is written by all of them
abbrev pub put_for : Stretch → Substitute → Written
put_for run (argument written) = written
put_for run (generated text) = map (λ character. (character, run)) text

abbrev pub put_or_kept : Stretch → Written → Option Substitute → Written
put_or_kept run kept None = without_marks kept
put_or_kept run kept (Some substitute) = put_for run substitute

-- a run behind so many columns
abbrev pub put_run : Substitutes → ℕ → ℕ → List ℕ → Written
put_run named line before run =
    put_or_kept (columns line before (length run)) (written_on line before run) (option_and_then (standing_for named) (name_of run))

abbrev pub put_runs : Substitutes → ℕ → ℕ → List (List ℕ) → Written
put_runs named line before [] = []
put_runs named line before (run ∷ later) = put_run named line before run ++ put_runs named line (before + length run) later

-- a comment stays as it is
abbrev pub put_in : Substitutes → ℕ → List ℕ → Written
put_in named line body = if is_comment (card body) then written_on line 0 body else put_runs named line 0 (runs is_of_run body)

-- ---- law: what is put into a body with its places is what the assembler puts in

abbrev pub substitute_text : Substitute → List ℕ
substitute_text (argument written) = text_of written
substitute_text (generated text) = text

abbrev pub pairs_of : Substitutes → Pairs
pairs_of named = map (λ pair. (pair.0, substitute_text pair.1)) named

abbrev pub WhatIsPutIsInserted : Type 0
WhatIsPutIsInserted = (named : Substitutes) (line : ℕ) (body : List ℕ) → text_of (put_in named line body) ≡ inserted (pairs_of named) body

-- ---- the names of a macro in a call

-- how many characters a generated name has
abbrev pub generated_len : ℕ
generated_len = 8

-- for a parameter stands the argument of its number, for a local name one that is generated
abbrev pub substitute_at : List Written → (Name → List ℕ) → ℕ → MacroName → Substitute
substitute_at written made at name = if name.is_local then generated (made name.name) else argument (unwrap_or (slice_get written at) [])

abbrev pub substitutes_from : List Written → (Name → List ℕ) → ℕ → List MacroName → Substitutes
substitutes_from written made at [] = []
substitutes_from written made at (name ∷ names) = (name.name, substitute_at written made at name) ∷ substitutes_from written made (at + 1) names

-- what wrote each character of a line of the body, where this wrote those of the call's arguments
abbrev pub ArePut : List MacroName → List (List Stretch) → ℕ → List ℕ → List Stretch → Type 0
ArePut names arguments line body origins =
    (written : List Written) (made : Name → List ℕ) → map origins_of written ≡ arguments → ((name : Name) → length (made name) ≡ generated_len)
    → origins ≡ origins_of (put_in (substitutes_from written made 0 names) line body)
