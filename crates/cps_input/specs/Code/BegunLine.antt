-- For the loops over bytes, not part of what a reader believes: a line of which some bytes have come.
use Rattle.std.specs.Prelude.{◌≡◌, ◌<◌, ℕ, List, [], ◌∷◌, Option, MatchOption, length, take, drop, if◌then◌else◌, ◌==◌}
use Rattle.std.specs.Borrow.{Bor}
use Rattle.cps_text.specs.declared.limits.TheConstants.{MOST_COMMAND_BYTES}
use Rattle.cps_input.specs.declared.begun_line.BegunLine.{BegunLine}
use Rattle.cps_input.specs.declared.begun_line.Overrun.{Overrun}
use Rattle.cps_input.specs.declared.begun_line.Overrun.TheVariants.{Nothing, Return, More}
use Rattle.cps_input.specs.Lines.{carriage_return}

-- the most bytes that are kept of a line
abbrev pub longest_kept : ℕ
longest_kept = MOST_COMMAND_BYTES

-- what stands past the room of a line
abbrev pub past_of : List ℕ → Overrun
past_of [] = Nothing
past_of (b ∷ []) = if b == carriage_return then Return else More
past_of (b ∷ c ∷ bytes) = More

-- what stands past the room, and one byte more
abbrev pub more_past : Overrun → ℕ → Overrun
more_past Nothing byte = if byte == carriage_return then Return else More
more_past Return byte = More
more_past More byte = More

-- these bytes have come
pub record IsBegun (line : BegunLine) (begun : List ℕ) : Type 0 where
  pub kept : line.bytes.items ≡ take longest_kept begun
  pub past : line.past ≡ past_of (drop longest_kept begun)

-- what is given of a line that came: all of it, None where it has more bytes than are kept
abbrev pub IsGiven : Option (Bor (List ℕ)) → List ℕ → Type 0
IsGiven text line = MatchOption text (longest_kept < length line) (λ text. text.now ≡ line)
