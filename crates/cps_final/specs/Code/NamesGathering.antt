-- For the code that gathers what a run names, not part of what a reader believes.
use Rattle.std.specs.Prelude.{List, [], ◌∷◌, flat_map, if◌then◌else◌}
use Rattle.std.specs.List.{list_any}
use Rattle.cps_text.specs.declared.name.Name.{Name}
use Rattle.cps_expr.specs.Value.{same_name}
use Rattle.cps_code.specs.declared.hole.Hole.{Hole}
use Rattle.cps_code.specs.Operand.{operand_names}
use Rattle.cps_state.specs.declared.made.Content.{Content}
use Rattle.cps_state.specs.declared.made.SetValue.{SetValue}
use Rattle.cps_state.specs.Made.{holes_of}

-- a symbol that stands for its label, or none where SET had given it a value
abbrev pub label_of : List SetValue → Name → List Name
label_of held name = if list_any (λ set. same_name set.name name) held then [] else name ∷ []

-- those that the operand of a hole reads, and those of contents
abbrev pub hole_labels : List SetValue → Hole → List Name
hole_labels held hole = flat_map (label_of held) (operand_names hole.operand)

abbrev pub contents_labels : List SetValue → List Content → List Name
contents_labels held contents = flat_map (λ content. flat_map (hole_labels held) (holes_of content)) contents
