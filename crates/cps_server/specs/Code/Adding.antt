-- For the code, not part of what a reader believes: marks to which more are added.
use Rattle.std.specs.Prelude.{◌≡◌, ℕ, nat_lt, List, [], ◌∷◌, ◌++◌, map, if◌then◌else◌}
use Rattle.cps_edit.specs.Limits.{most_lines}
use Rattle.cps_server.specs.declared.line_mark.LineMark.{LineMark}
use Rattle.cps_server.specs.declared.mark.Mark as made
use Rattle.cps_server.specs.Marks.{Mark, excess_mark, place_of}

-- a mark of the line of a number
abbrev pub mark_at : ℕ → LineMark → Mark
mark_at number mark = record { line = number; first = mark.columns.first; last = mark.columns.last; kind = mark.kind }

-- marks at these places are added to others
abbrev pub Adds : List Mark → List made.Mark → List made.Mark → Type 0
Adds marks old new = map place_of new ≡ map place_of old ++ marks

-- the marks of so many lines beside those of each
abbrev pub excess_of : ℕ → List Mark
excess_of count = if nat_lt most_lines count then excess_mark most_lines ∷ [] else []
