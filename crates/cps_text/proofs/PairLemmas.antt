-- The table of pairs of octal digits, and what writing a pair from it leaves.
use Rattle.std.proofs.Common.{◌≡◌, ℕ, zero, suc, ◌+◌, ◌*◌, ◌/◌, ◌%◌, ◌<◌, ◌≤◌, Bool, true, ◌&&◌, T, List, ◌∷◌, length, drop, set, get_or, eqb, eqb→eq, refl, ap, ◌∙◌, arith, inl, inr}
use Rattle.std.proofs.lemmas.List.{set_comm, drop-set, length-set}
use Rattle.std.proofs.lemmas.Bool.{cases_eq}
use lib.Ieee.Fits.{and_l, and_r}
use Rattle.cps_text.specs.declared.octal.TheConstants.{PAIRS}

-- the table has the two digits of a number at its place
abbrev is_pair : ℕ → Bool
is_pair pair = eqb (get_or PAIRS (pair * 2) 0) (48 + pair / 8) && eqb (get_or PAIRS (pair * 2 + 1) 0) (48 + pair % 8)

-- it has those of the first numbers, so many
abbrev are_pairs : ℕ → Bool
are_pairs zero = true
are_pairs (suc pair) = is_pair pair && are_pairs pair

pair-below : (most pair : ℕ) → T (are_pairs most) → pair < most → (get_or PAIRS (pair * 2) 0 ≡ 48 + pair / 8) × (get_or PAIRS (pair * 2 + 1) 0 ≡ 48 + pair % 8)
pair-below zero pair are below = absurd (omega arith)
pair-below (suc most) pair are below =
    elim (cases_eq pair most) [
      | inl same ↦ let both = and_l (is_pair most) (are_pairs most) are in rw same (eqb→eq _ _ (and_l _ _ both), eqb→eq _ _ (and_r _ _ both))
      | inr other ↦ pair-below most pair (and_r (is_pair most) (are_pairs most) are) (omega arith)
    ]

-- the table has the two digits of each number below 64 at its place
pub pair-at : (pair : ℕ) → pair < 64 → (get_or PAIRS (pair * 2) 0 ≡ 48 + pair / 8) × (get_or PAIRS (pair * 2 + 1) 0 ≡ 48 + pair % 8)
pair-at pair below = pair-below 64 pair tt below

-- two digits are written, the first in front
pub drop-pair : (digits : List ℕ) (place first second : ℕ) → place + 2 ≤ length digits → drop place (set (set digits place first) (place + 1) second) ≡ first ∷ second ∷ drop (place + 2) digits
drop-pair digits place first second within =
    let long : place + 1 < length digits = omega arith in
    let next : place + 1 + 1 ≡ place + 2 = omega arith in
    rw (set_comm digits place (place + 1) first second (omega arith))
    (drop-set (set digits (place + 1) second) place first (rw (length-set digits (place + 1) second) (omega arith))
    ∙ ap (λ left. first ∷ left) (rw (drop-set digits (place + 1) second long, next) refl))
