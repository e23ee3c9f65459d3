-- For batch assembly, not part of what a reader believes: the statements of lines, kept for pass two.
use Rattle.std.specs.Prelude.{◌≡◌, List, [], ◌∷◌, ◌++◌, length, flat_map}
use Rattle.cps_state.specs.declared.item.Item.{Item}
use Rattle.cps_state.specs.Code.Scratch.{Scratch, statements_on}
use Rattle.cps_input.specs.Code.Parts.{RisesTo, parts_at}
use Rattle.cps_batch.specs.declared.kept_lines.KeptStatements.{KeptStatements}

-- the statements of each line, of lines that are kept in groups
abbrev pub statements_in : List (List (List Item)) → List (List Item)
statements_in groups = flat_map (λ (group : List (List Item)). group) groups

-- the statements of each line are kept, where these stand on a scratch
pub record AreKept (kept : KeptStatements) (items : List Item) (statements : List (List Item)) : Type 0 where
  pub rise : RisesTo 0 kept.ends.items (length items)
  pub are : statements_in kept.groups.items ++ parts_at 0 kept.ends.items items ≡ statements

-- behind the statements that were kept come those of the line on a scratch
abbrev pub EndsLine : KeptStatements → KeptStatements → Scratch → Scratch → Type 0
EndsLine kept kept' old new = (statements : List (List Item)) → AreKept kept old.before statements → AreKept kept' (statements_on new) (statements ++ old.line.items ∷ [])
