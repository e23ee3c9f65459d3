-- For the code that tests what statements name, not part of what a reader believes: a test of what contents name, hole by hole.
use Rattle.std.specs.Prelude.{Bool, ◌||◌, List}
use Rattle.std.specs.List.{list_all, list_any}
use Rattle.cps_text.specs.declared.name.Name.{Name}
use Rattle.cps_expr.specs.Expression.{names_of}
use Rattle.cps_expr.specs.Value.{same_name}
use Rattle.cps_code.specs.declared.hole.Hole.{Hole}
use Rattle.cps_code.specs.declared.hole.Operand.{Operand}
use Rattle.cps_code.specs.declared.hole.Operand.TheVariants.{Expression, Literal}
use Rattle.cps_state.specs.declared.made.Content.{Content}
use Rattle.cps_state.specs.declared.made.SetValue.{SetValue}
use Rattle.cps_state.specs.Made.{holes_of}
use Rattle.cps_final.specs.Finals.{Named, label, literal}

-- a symbol passes where its label does, and where SET had given it a value
abbrev pub name_passes : (Named → Bool) → List SetValue → Name → Bool
name_passes test held name = list_any (λ set. same_name set.name name) held || test (label name)

abbrev pub operand_passes : (Named → Bool) → List SetValue → Operand → Bool
operand_passes test held (Expression terms) = list_all (name_passes test held) (names_of terms)
operand_passes test held (Literal word) = test (literal word)

abbrev pub hole_passes : (Named → Bool) → List SetValue → Hole → Bool
hole_passes test held hole = operand_passes test held hole.operand

abbrev pub contents_pass : (Named → Bool) → List SetValue → List Content → Bool
contents_pass test held contents = list_all (λ content. list_all (hole_passes test held) (holes_of content)) contents
