-- Worked divisions of lines with which a source begins. The lengths were worked out by hand.
use Rattle.std.proofs.Common.{◌≡◌, refl, [], ◌∷◌}
use Rattle.cps_live.specs.Entering.{full_chunks}

no-line : full_chunks 0 ≡ []
no-line = refl

one-line : full_chunks 1 ≡ 1 ∷ []
one-line = refl

short-of-full : full_chunks 63 ≡ 63 ∷ []
short-of-full = refl

just-full : full_chunks 64 ≡ 64 ∷ []
just-full = refl

one-behind : full_chunks 65 ≡ 64 ∷ 1 ∷ []
one-behind = refl

two-full : full_chunks 128 ≡ 64 ∷ 64 ∷ []
two-full = refl

some-behind : full_chunks 130 ≡ 64 ∷ 64 ∷ 2 ∷ []
some-behind = refl
