-- Places in a line, and the units before them.
use Rattle.std.proofs.Common.{◌≡◌, ℕ, zero, suc, ◌+◌, ◌-◌, ◌<◌, ◌≤◌, Bool, true, false, cond, ltb, List, [], ◌∷◌, length, get_or, take, refl, ap, ◌∙◌, arith}
use Rattle.std.proofs.lemmas.List.Sums.{sum_by-cons}
use Rattle.std.proofs.lemmas.Bool.Decides.{nat_tests}
use Rattle.cps_rpc.specs.declared.encoding.Encoding.{Encoding}
use Rattle.cps_rpc.specs.declared.encoding.Encoding.TheVariants.{Utf8, Utf16}
use Rattle.cps_rpc.specs.Positions.{is_continuation, units, units_before, place_in}

some-bytes : (two three four : Bool) → 0 < cond two 1 (cond three 2 (cond four 3 4))
some-bytes true three four = omega arith
some-bytes false true four = omega arith
some-bytes false false true = omega arith
some-bytes false false false = omega arith

some-units : (few : Bool) → 0 < cond few 1 2
some-units true = omega arith
some-units false = omega arith

-- a character has a unit
units-some : (encoding : Encoding) (byte : ℕ) → is_continuation byte ≡ false → 0 < units encoding byte
units-some Utf8 byte begins = rw begins (some-bytes (ltb byte 192) (ltb byte 224) (ltb byte 240))
units-some Utf16 byte begins = rw begins (some-units (ltb byte 240))

here : (encoding : Encoding) (byte : ℕ) (line : List ℕ) → 0 < units encoding byte → place_in encoding (byte ∷ line) 0 ≡ 0
here encoding byte line some =
    let test : ltb 0 (units encoding byte) ≡ true = grind (arith, nat_tests) in
    rw test refl

later : (encoding : Encoding) (byte : ℕ) (line : List ℕ) (left place : ℕ) → place_in encoding line left ≡ place → place_in encoding (byte ∷ line) (units encoding byte + left) ≡ suc place
later encoding byte line left place is =
    let test : ltb (units encoding byte + left) (units encoding byte) ≡ false = grind (arith, nat_tests) in
    let rest : units encoding byte + left - units encoding byte ≡ left = omega arith in
    rw (test, rest) (ap suc is)

pub place_in-units_before : (encoding : Encoding) (line : List ℕ) (place : ℕ) → place ≤ length line → is_continuation (get_or line place 0) ≡ false
    → place_in encoding line (units_before encoding line place) ≡ place
place_in-units_before encoding [] place within begins = omega arith
place_in-units_before encoding (byte ∷ line) zero within begins = here encoding byte line (units-some encoding byte begins)
place_in-units_before encoding (byte ∷ line) (suc place) within begins =
    ap (λ n. place_in encoding (byte ∷ line) n) (sum_by-cons (units encoding) byte (take place line))
    ∙ later encoding byte line (units_before encoding line place) place (place_in-units_before encoding line place (omega arith) begins)
