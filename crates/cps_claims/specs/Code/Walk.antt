-- For the loops that read rows, not part of what a reader believes: what is left of a row.
use Rattle.std.specs.Prelude.{List, [], ◌∷◌, Option, None, Some}
use Rattle.cps_claims.specs.declared.part.RowPart.{RowPart}
use Rattle.cps_claims.specs.declared.part.RowRest.{RowRest}
use Rattle.cps_claims.specs.Parts.{Part, parts_from}

abbrev pub part_shown : RowPart → Part
part_shown part = record { column = part.column; text = part.text.now }

-- the parts of what is left of a row
abbrev pub parts_left : RowRest → List Part
parts_left rest = parts_from rest.column [] rest.bytes.now

-- the next part, and those of what is left behind it
abbrev pub parts_found : Option (RowPart × RowRest) → List Part
parts_found None = []
parts_found (Some found) = part_shown found.0 ∷ parts_left found.1
