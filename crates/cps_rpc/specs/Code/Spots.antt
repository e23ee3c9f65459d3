-- For the code, not part of what a reader believes: places among lines.
use Rattle.std.specs.Prelude.{◌≡◌, ℕ, ◌+◌, ◌<◌, ◌≤◌, max, List, [], ◌∷◌, ◌++◌, length, take, drop, slice_index_or}
use Rattle.std.specs.List.{flat_map}
use Rattle.cps_input.specs.Lines.{newline}
use Rattle.cps_rpc.specs.declared.encoding.Encoding.{Encoding}
use Rattle.cps_rpc.specs.declared.position.Position.{Position}
use Rattle.cps_rpc.specs.declared.spot.Spot.{Spot}
use Rattle.cps_rpc.specs.Positions.{place_of, line_of}

-- the place of a line's byte in the text
abbrev pub text_place : List (List ℕ) → Spot → ℕ
text_place lines spot = length (flat_map (λ line. line ++ newline ∷ []) (take spot.line lines)) + spot.byte

-- a place among lines: between two bytes of one, or at its ends
pub record IsSpot (lines : List (List ℕ)) (spot : Spot) : Type 0 where
  pub line : spot.line < length lines
  pub byte : spot.byte ≤ length (slice_index_or lines spot.line [])

-- where a position stands
pub record IsSpotOf (encoding : Encoding) (lines : List (List ℕ)) (position : Position) (spot : Spot) : Type 0 where
  pub is_spot : IsSpot lines spot
  pub line : spot.line ≡ line_of lines position
  pub place : text_place lines spot ≡ place_of encoding lines position

-- one of two places, and no other stands behind it
pub record IsBehindBoth (lines : List (List ℕ)) (one other last : Spot) : Type 0 where
  pub is_spot : IsSpot lines last
  pub line : last.line ≡ max one.line other.line
  pub place : text_place lines last ≡ max (text_place lines one) (text_place lines other)

-- what stands on the line of one place before it, new text, and what stands on the line of another behind it
abbrev pub between : List (List ℕ) → Spot → List ℕ → Spot → List ℕ
between lines start new end =
    take start.byte (slice_index_or lines start.line []) ++ (new ++ drop end.byte (slice_index_or lines end.line []))
