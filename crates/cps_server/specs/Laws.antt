-- A text is marked where batch assembly finds something wrong in it. Our own.
use Rattle.std.specs.Prelude.{◌≡◌, ◌↔◌, ℕ, List, []}
use Rattle.cps_input.specs.Lines.{HasText}
use Rattle.cps_input.specs.Sources.{IsSource}
use Rattle.cps_edit.specs.Flagged.{flagged_lines}
use Rattle.cps_server.specs.Marks.{Mark, Marks}

-- a text is marked nowhere exactly where a source may have the lines that batch assembly reads of it, and none is flagged
abbrev pub AgreesWithBatch : Type 0
AgreesWithBatch =
    (text : List ℕ) (lines : List (List ℕ)) (marks : List Mark) → HasText text lines → Marks text marks
    → (marks ≡ []) ↔ (IsSource lines × (flagged_lines lines ≡ 0))
