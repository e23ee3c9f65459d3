-- The chunk that a line stands in.
use Rattle.std.proofs.Common.{◌≡◌, ℕ, zero, suc, ◌-◌, ◌<◌, ◌≤◌, refl, ap, List, [], ◌∷◌, length, get_or, drop, arith}
use Rattle.std.specs.Prelude.{if◌then◌else◌}
use Rattle.std.proofs.lemmas.Bool.{lt-ltb, le-ltb}
use Rattle.cps_chunk.specs.Division.{chunk_of}

-- it is behind a chunk that ends before it
pub past-chunk : (at i : ℕ) (ns : List ℕ) → suc i < length ns → get_or ns i 0 < at → chunk_of at (drop i ns) ≡ suc (chunk_of (at - get_or ns i 0) (drop (suc i) ns))
past-chunk at zero [] lt behind = absurd (omega (arith, lt))
past-chunk at zero (n ∷ []) lt behind = absurd (omega (arith, lt))
past-chunk at zero (n ∷ m ∷ ms) lt behind = ap (λ b. if b then suc (chunk_of (at - n) (m ∷ ms)) else 0) (lt-ltb n at behind)
past-chunk at (suc i) [] lt behind = absurd (omega (arith, lt))
past-chunk at (suc i) (n ∷ ns) lt behind = past-chunk at i ns (omega (arith, lt)) behind

-- it is in one that doesn't
pub in-chunk : (at i : ℕ) (ns : List ℕ) → suc i < length ns → at ≤ get_or ns i 0 → chunk_of at (drop i ns) ≡ 0
in-chunk at zero [] lt within = absurd (omega (arith, lt))
in-chunk at zero (n ∷ []) lt within = absurd (omega (arith, lt))
in-chunk at zero (n ∷ m ∷ ms) lt within = ap (λ b. if b then suc (chunk_of (at - n) (m ∷ ms)) else 0) (le-ltb n at within)
in-chunk at (suc i) [] lt within = absurd (omega (arith, lt))
in-chunk at (suc i) (n ∷ ns) lt within = in-chunk at i ns (omega (arith, lt)) within

-- or in the last
pub last-chunk : (at i : ℕ) (ns : List ℕ) → suc i ≡ length ns → chunk_of at (drop i ns) ≡ 0
last-chunk at zero [] last = absurd (omega (arith, last))
last-chunk at zero (n ∷ []) last = refl
last-chunk at zero (n ∷ m ∷ ms) last = absurd (omega (arith, last))
last-chunk at (suc i) [] last = absurd (omega (arith, last))
last-chunk at (suc i) (n ∷ ns) last = last-chunk at i ns (omega (arith, last))
