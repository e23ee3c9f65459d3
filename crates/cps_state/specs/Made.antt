-- What a statement made in pass one, for pass two. Our own.
use Rattle.std.specs.Prelude.{ℕ, ◌*◌, ◌%◌, ◌^◌, ◌<◌, ◌≤◌, Bool, false, List, [], ◌∷◌, flat_map, All, Option, None}
use Rattle.cps_text.specs.declared.name.Name.{Name}
use Rattle.cps_expr.specs.declared.machine.Machine.{Machine}
use Rattle.cps_expr.specs.declared.machine.Machine.TheVariants.{Cp}
use Rattle.cps_expr.specs.Expression.{Expression}
use Rattle.cps_expr.specs.Item.{bits_of}
use Rattle.cps_expr.specs.Value.{IsInRange}
use Rattle.cps_code.specs.declared.hole.Hole.{Hole}
use Rattle.cps_code.specs.declared.hole.HoleKind.TheVariants as kind
use Rattle.cps_code.specs.declared.hole.Operand.TheVariants as operand
use Rattle.cps_code.specs.Image.{Piece}
use Rattle.cps_code.specs.Operand.{operand_names, operand_literals}
use Rattle.cps_state.specs.declared.flags.Flags.{Flags}
use Rattle.cps_state.specs.declared.made.Content.{Content}
use Rattle.cps_state.specs.declared.made.Content.TheVariants.{Instruction, Value, Number, Unsized}
use Rattle.cps_state.specs.declared.made.SetValue.{SetValue}
use Rattle.cps_state.specs.declared.made.Shown.{Shown}
use Rattle.cps_state.specs.declared.made.Shown.TheVariants.{Nothing}
use Rattle.cps_state.specs.Machines.{limit, behind}

-- The flags of pass one; the program's name where the statement gives it; the machine, and what fills the bits that were skipped; the bits before the
-- statement in its block, and its contents from there on, one after another; so many words of zeros from there on; what else its row shows. With `only_flags`, of a statement that makes nothing, the contents are no bits: they only give flags. `held` are the symbols that its
-- contents read and to which SET had given a value by then, in their order; all others stand for their labels in pass two.
pub record Made : Type 0 where
  pub flags : Flags
  pub program : Option Name
  pub machine : Machine
  pub filling : List Piece
  pub start : ℕ
  pub contents : List Content
  pub zeros : ℕ
  pub only_flags : Bool
  pub shown : Shown
  pub held : List SetValue

-- a statement that does nothing but have flags
abbrev pub nothing_made : Flags → Made
nothing_made flags = record {
  flags = flags;
  program = None;
  machine = Cp;
  filling = [];
  start = 0;
  contents = [];
  zeros = 0;
  only_flags = false;
  shown = Nothing;
  held = [];
}

abbrev pub no_flags : Flags
no_flags = record { operand = false; twice = false; structure = false; location = false; operation = false; cut = false; undefined = false; width = false }

-- how many bits a content has; a value whose width is none has no bits
abbrev pub width_of : Content → ℕ
width_of (Instruction form) = form.bits
width_of (Value hole) = hole.width
width_of (Number width number) = width
width_of (Unsized hole) = 0

-- the place after contents that stand one after another
abbrev pub end_of : Machine → ℕ → List Content → ℕ
end_of machine at [] = at
end_of machine at (content ∷ contents) = end_of machine (behind machine at (width_of content)) contents

-- ---- what contents name

-- a hole of so many bits for the value of an expression, by itself
abbrev pub field_hole : ℕ → Expression → Hole
field_hole width value = record { first = 0; width = width; kind = kind.Value; operand = operand.Expression value }

-- the holes that a content fills under the final values, in their order
abbrev pub holes_of : Content → List Hole
holes_of (Instruction form) = form.holes
holes_of (Value hole) = hole ∷ []
holes_of (Number width number) = []
holes_of (Unsized hole) = hole ∷ []

-- the symbols that the expressions of a content read
abbrev pub content_names : Content → List Name
content_names content = flat_map (λ hole. operand_names hole.operand) (holes_of content)

-- the words of the literals that it names
abbrev pub content_literals : Content → List ℕ
content_literals content = flat_map (λ hole. operand_literals hole.operand) (holes_of content)

-- ---- what each statement keeps

-- values and numbers have 60 bits at most, and a number fits its bits
abbrev pub IsContent : Content → Type 0
IsContent (Value hole) = (0 < hole.width) × (hole.width ≤ 60)
IsContent (Number width number) = (0 < width) × (width ≤ 60) × (number < 2 ^ width)
IsContent _ = Unit {0}

-- a value that is held is in the range of expressions
abbrev pub IsHeld : SetValue → Type 0
IsHeld held = IsInRange held.value

-- contents that are bits stand in words of the machine
pub record HaveRoom (machine : Machine) (start : ℕ) (contents : List Content) : Type 0 where
  pub in_word : start % 60 < bits_of machine
  pub some : All (λ content. 0 < width_of content) contents
  pub within : end_of machine start contents ≤ 60 * limit machine
