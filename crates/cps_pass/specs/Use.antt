-- USE: another block. From the manual's description of this statement; that it forces, how many blocks there may be, and how many of those that were
-- left are kept, are our profile's.
use Rattle.std.specs.Prelude.{ℕ, ◌+◌, Bool, true, false, ◌||◌, nat_lt, take, List, [], ◌∷◌, Option, None, Some, if◌then◌else◌}
use Rattle.cps_text.specs.declared.limits.TheConstants.{MOST_BLOCKS}
use Rattle.cps_text.specs.declared.name.Name.{Name}
use Rattle.cps_expr.specs.declared.pseudo.Block.{Block}
use Rattle.cps_expr.specs.declared.pseudo.Block.TheVariants.{Nominal, Previous, Named}
use Rattle.cps_code.specs.declared.place.Place.{Place}
use Rattle.cps_state.specs.declared.key.Key.TheVariants as key
use Rattle.cps_state.specs.declared.key.Answer.{Answer}
use Rattle.cps_state.specs.declared.key.Answer.TheVariants as answer
use Rattle.cps_state.specs.declared.key.Control.{Control}
use Rattle.cps_state.specs.Course.{Part, nothing, ◌before◌, asking, putting, fill}
use Rattle.cps_state.specs.Keys.{most_uses, same_block, is_place, uses_of, count_of}
use Rattle.cps_pass.specs.declared.reading.Location.{Location}
use Rattle.cps_pass.specs.Leaving.{left, using}
use Rattle.cps_pass.specs.Making.{unmatched, unread}
use Rattle.cps_pass.specs.Places.{place_left, going_on, asking_place}

-- how many named blocks there may be
abbrev pub most_blocks : ℕ
most_blocks = MOST_BLOCKS

-- ---- the blocks that USE left, the last in front: a USE puts the one that it leaves on top, `USE *` takes the top away

abbrev pub left_behind : Option Name → List (Option Name) → List (Option Name)
left_behind block uses = take most_uses (block ∷ uses)

-- the nominal block where none was left
abbrev pub previous : List (Option Name) → Option Name
previous [] = None
previous (block ∷ uses) = block

abbrev pub before_previous : List (Option Name) → List (Option Name)
before_previous [] = []
before_previous (block ∷ uses) = uses

-- ---- what USE does

-- a named block that begins is at word 0, and is the last of so many; None: the block has begun before
abbrev pub beginning_block : Option Name → Option ℕ → Part
beginning_block block None = nothing
beginning_block block (Some count) = going_on block 0 false before putting key.Blocks (answer.Count count)

-- the word that was begun is left, these blocks may be gone back to from now on, and another block is in use
abbrev pub going_to : Control → Location → Place → List (Option Name) → Option ℕ → Option Name → Part
going_to control location place uses count block =
    going_on control.block (place_left place) false before putting key.Uses (answer.Uses uses) before beginning_block block count before using control block
    before fill (left control location place)

-- a block that has not begun: E where it would be one too many
abbrev pub going_to_new : Control → Location → Place → List (Option Name) → Name → ℕ → Part
going_to_new control location place uses name count =
    if nat_lt count most_blocks then going_to control location place (left_behind control.block uses) (Some (count + 1)) (Some name)
    else unmatched location

-- a block has begun where it is in use, or its counter stands; in use it stands at word 0 where no counter does
abbrev pub has_begun : Option Name → Name → Option Answer → Bool
has_begun present name a = same_block present (Some name) || is_place a

abbrev pub going_to_named : Control → Location → Place → List (Option Name) → Name → Option Answer → Part
going_to_named control location place uses name a =
    if has_begun control.block name a then going_to control location place (left_behind control.block uses) None (Some name)
    else asking key.Blocks (λ b. going_to_new control location place uses name (count_of b))

-- `USE *` goes back, and the block that it leaves isn't kept; every other USE may be gone back from
abbrev pub leaving : Control → Location → Place → List (Option Name) → Block → Part
leaving control location place uses Nominal = going_to control location place (left_behind control.block uses) None None
leaving control location place uses Previous = going_to control location place (before_previous uses) None (previous uses)
leaving control location place uses (Named name) =
    asking (key.Counter (Some name)) (λ a. going_to_named control location place uses name a)

abbrev pub use_block : Control → Location → Block → Part
use_block control location block =
    asking_place control (λ place. asking key.Uses (λ b. leaving control location place (uses_of b) block))

-- USE with an unreadable operand
abbrev pub unread_use : Control → Location → Part
unread_use control location = asking_place control (λ place. asking key.Uses (λ b. unread location))
