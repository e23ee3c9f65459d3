-- Places among lines.
use Rattle.std.proofs.Common.{◌≡◌, ℕ, zero, suc, ◌+◌, ◌-◌, ◌<◌, ◌≤◌, Bool, true, false, cond, ◌&&◌, eqb, ltb, List, [], ◌∷◌, ◌++◌, length, get_or, take, sym, ap, ◌∙◌, arith, length-append, length-take}
use Rattle.cps_input.specs.Lines.{newline, without_return}
use Rattle.cps_rpc.specs.declared.encoding.Encoding.{Encoding}
use Rattle.cps_rpc.specs.declared.position.Position.{Position}
use Rattle.cps_rpc.specs.declared.spot.Spot.{Spot}
use Rattle.cps_rpc.specs.Positions.{place_in, place_among}
use Rattle.cps_rpc.specs.Code.Spots.{IsSpot, IsSpotOf, IsBehindBoth, text_place}
use Rattle.cps_rpc.proofs.TextLemmas.{ended}

-- ---- the place of a position

length-ended : (line : List ℕ) (lines : List (List ℕ)) → length (ended (line ∷ lines)) ≡ length line + 1 + length (ended lines)
length-ended line lines = length-append (line ++ newline ∷ []) (ended lines) ∙ ap (λ n. n + length (ended lines)) (length-append line (newline ∷ []))

place_among-within : (encoding : Encoding) (lines : List (List ℕ)) (number left : ℕ) → number < length lines
    → place_among encoding lines number left ≡ length (ended (take number lines)) + place_in encoding (without_return (get_or lines number [])) left
place_among-within encoding [] number left within = absurd (omega arith)
place_among-within encoding (line ∷ lines) zero left within = omega arith
place_among-within encoding (line ∷ []) (suc number) left within = absurd (omega arith)
place_among-within encoding (line ∷ next ∷ lines) (suc number) left within =
    let later = place_among-within encoding (next ∷ lines) number left (omega arith) in
    omega (arith, later, length-ended line (take number (next ∷ lines)))

place_among-past : (encoding : Encoding) (lines : List (List ℕ)) (number left : ℕ) → 0 < length lines → length lines ≤ number
    → place_among encoding lines number left ≡ length (ended (take (length lines - 1) lines)) + length (get_or lines (length lines - 1) [])
place_among-past encoding [] number left some past = absurd (omega arith)
place_among-past encoding (line ∷ lines) zero left some past = absurd (omega arith)
place_among-past encoding (line ∷ []) (suc number) left some past = omega arith
place_among-past encoding (line ∷ next ∷ lines) (suc number) left some past =
    let later = place_among-past encoding (next ∷ lines) number left (omega arith) (omega arith) in
    let last : suc (suc (length lines)) - 1 ≡ suc (suc (length lines) - 1) = omega arith in
    rw last (omega (arith, later, length-ended line (take (suc (length lines) - 1) (next ∷ lines))))

cut-le : (test : Bool) (n : ℕ) (line : List ℕ) → length (cond test (take n line) line) ≤ length line
cut-le true n line = omega (arith, length-take n line)
cut-le false n line = omega arith

without_return-le : (line : List ℕ) → length (without_return line) ≤ length line
without_return-le line = cut-le (ltb 0 (length line) && eqb (get_or line (length line - 1) 0) 13) (length line - 1) line

-- a position on a line
pub spot-within : (encoding : Encoding) (lines : List (List ℕ)) (position : Position) (line : List ℕ) (byte : ℕ) → position.line < length lines
    → line ≡ get_or lines position.line [] → byte ≡ place_in encoding (without_return line) position.character → byte ≤ length (without_return line)
    → IsSpotOf encoding lines position (record { line = position.line; byte = byte })
spot-within encoding lines position line byte within is place short = record {
  is_spot = record { line = within; byte = omega (arith, short, without_return-le line, ap length is) };
  line = omega arith;
  place = ap (λ b. length (ended (take position.line lines)) + b) (place ∙ ap (λ l. place_in encoding (without_return l) position.character) is)
      ∙ sym (place_among-within encoding lines position.line position.character within);
}

-- a position behind the last line
pub spot-past : (encoding : Encoding) (lines : List (List ℕ)) (position : Position) (last byte : ℕ) → 0 < length lines → length lines ≤ position.line
    → last ≡ length lines - 1 → byte ≡ length (get_or lines (length lines - 1) []) → IsSpotOf encoding lines position (record { line = last; byte = byte })
spot-past encoding lines position last byte some past is place = record {
  is_spot = record { line = omega arith; byte = rw (is, place) (omega arith) };
  line = omega arith;
  place = rw (is, place) (sym (place_among-past encoding lines position.line position.character some past));
}

-- ---- two places

length-ended-lt : (lines : List (List ℕ)) (i j : ℕ) → i < j → j ≤ length lines
    → length (ended (take i lines)) + length (get_or lines i []) < length (ended (take j lines))
length-ended-lt [] i j before within = absurd (omega arith)
length-ended-lt (line ∷ lines) i zero before within = absurd (omega arith)
length-ended-lt (line ∷ lines) zero (suc j) before within = omega (arith, length-ended line (take j lines))
length-ended-lt (line ∷ lines) (suc i) (suc j) before within =
    let later = length-ended-lt lines i j (omega arith) (omega arith) in
    omega (arith, later, length-ended line (take i lines), length-ended line (take j lines))

-- a place on an earlier line stands in front
text_place-lt : (lines : List (List ℕ)) (one other : Spot) → IsSpot lines one → IsSpot lines other → one.line < other.line → text_place lines one < text_place lines other
text_place-lt lines one other is are before =
    omega (arith, length-ended-lt lines one.line other.line before (omega (arith, are.line)), is.byte)

pub max-other : (lines : List (List ℕ)) (one other : Spot) → IsSpot lines one → IsSpot lines other → one.line < other.line → IsBehindBoth lines one other other
max-other lines one other is are before = record {
  is_spot = are;
  line = omega arith;
  place = omega (arith, text_place-lt lines one other is are before);
}

pub max-one : (lines : List (List ℕ)) (one other : Spot) → IsSpot lines one → IsSpot lines other → other.line < one.line → IsBehindBoth lines one other one
max-one lines one other is are before = record {
  is_spot = is;
  line = omega arith;
  place = omega (arith, text_place-lt lines other one are is before);
}
