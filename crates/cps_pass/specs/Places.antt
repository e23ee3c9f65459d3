-- Places of a block: what is skipped between two of them, and what `*` stands for. From the manual's sections on forcing upper and on the location counter.
use Rattle.std.specs.Prelude.{ℕ, ◌+◌, ◌*◌, ◌/◌, ◌%◌, Bool, true, List, [], ◌∷◌, pos, Option, None, Some}
use Rattle.cps_text.specs.declared.name.Name.{Name}
use Rattle.cps_expr.specs.declared.machine.Machine.{Machine}
use Rattle.cps_expr.specs.declared.machine.Machine.TheVariants.{Cp, Pp}
use Rattle.cps_expr.specs.declared.value.Value.{Value as AValue}
use Rattle.cps_code.specs.declared.place.Filling.{Filling}
use Rattle.cps_code.specs.declared.place.Place.{Place}
use Rattle.cps_code.specs.Image.{Piece}
use Rattle.cps_code.specs.Place.{position, place_at, start_of, skipped}
use Rattle.cps_state.specs.declared.key.Control.{Control}
use Rattle.cps_state.specs.declared.key.Key.TheVariants as key
use Rattle.cps_state.specs.declared.key.Answer.TheVariants as answer
use Rattle.cps_state.specs.declared.key.Put.{Put}
use Rattle.cps_state.specs.Course.{Part, ◌before◌, asking, put, stand}
use Rattle.cps_state.specs.Keys.{place_of}

-- `width` bits of a number behind so many bits
abbrev pub piece_at : ℕ → ℕ → ℕ → Piece
piece_at at width number = record { address = at / 60; first = at % 60; width = width; number = number; times = 1 }

abbrev pub filling_at : ℕ → Option Filling → List Piece
filling_at from None = []
filling_at from (Some f) = piece_at from f.width f.number ∷ []

-- what fills the bits from one place to another
abbrev pub filling_between : ℕ → ℕ → List Piece
filling_between from to = filling_at from (skipped from to)

-- where a place stands once its word is left: the next word's beginning, or the place itself where its word has no bit yet
abbrev pub place_left : Place → ℕ
place_left place = start_of (position place) 0 true

-- where a block goes on after bits: a peripheral processor's word that was begun is left
abbrev pub rounded_up : Machine → ℕ → ℕ
rounded_up Cp at = at
rounded_up Pp at = 60 * ((at + 59) / 60)

-- `*` is the address of the word in which a place is
abbrev pub here_at : Option Name → ℕ → AValue
here_at block at = record { block = block; offset = pos (at / 60) }

-- asking where the block in use stands: the statement has its place there
abbrev pub asking_place : Control → (Place → Part) → Part
asking_place control next = asking (key.Counter control.block) (λ a. stand control.block before next (place_of control.machine a))

-- a block goes on after so many bits
abbrev pub place_put : Option Name → ℕ → Bool → Put
place_put block at is_pending = record { key = key.Counter block; answer = answer.Counter (place_at at is_pending) }

abbrev pub going_on : Option Name → ℕ → Bool → Part
going_on block at is_pending = put (place_put block at is_pending)
