-- Lines in full chunks, and one more of them.
use Rattle.std.proofs.Common.{arith, ◌≡◌, ◌*◌, ℕ, zero, suc, ◌+◌, ◌-◌, ◌/◌, ◌%◌, ◌<◌, refl, sym, ap, subst, ◌∙◌, Bool, true, false, List, [], ◌∷◌, ◌++◌, append-nil, length, replicate, div-add-mod'}
use Rattle.std.specs.Prelude.{if◌then◌else◌, nat_lt, sum}
use Rattle.std.proofs.lemmas.Bool.{lt-ltb, ltb-true, ltb-false}
use Rattle.std.proofs.lemmas.Nat.{div-mul-add, mod-mul-add, mod_below}
use Rattle.std.proofs.lemmas.List.{replicate_more}
use Rattle.std.proofs.lemmas.List.Sums.{sum_by-cons}
use Rattle.cps_chunk.specs.Division.{full, joined, IsApart, AreChunks, IsDivision, grown, inserted_at}
use Rattle.cps_live.specs.Entering.{full_chunks}

-- ---- full chunks, and one of what is left, if there is some

abbrev last : ℕ → List ℕ
last zero = []
last (suc r) = suc r ∷ []

joined-last : (r : ℕ) → joined r [] ≡ last r
joined-last zero = refl
joined-last (suc r) = ap (λ b. if b then suc r ∷ [] else []) (lt-ltb 0 (suc r) (omega arith))

abbrev filled : ℕ → ℕ → List ℕ
filled k r = replicate k full ++ last r

apart : (k r : ℕ) → IsApart full (filled k r)
apart zero zero = tt
apart zero (suc r) = omega arith
apart (suc k) r = omega arith

chunks : (k r : ℕ) → r < full → AreChunks (filled k r)
chunks zero zero within = tt
chunks zero (suc r) within = (omega arith, omega (arith, within), tt, tt)
chunks (suc k) r within = (omega arith, omega arith, apart k r, chunks k r within)

total : (k r : ℕ) → sum (filled k r) ≡ k * full + r
total zero zero = refl
total zero (suc r) = omega (arith, sum_by-cons (λ n. n) (suc r) [])
total (suc k) r = omega (arith, sum_by-cons (λ n. n) full (filled k r), total k r)

-- a line more goes behind a full chunk
behind-full : (after : ℕ) (rest : List ℕ) → 0 < length rest → full < after → inserted_at after (full ∷ rest) ≡ full ∷ inserted_at (after - full) rest
behind-full after [] some past = absurd (omega (arith, some))
behind-full after (n ∷ rest) some past = ap (λ b. if b then full ∷ inserted_at (after - full) (n ∷ rest) else grown full (n ∷ rest)) (lt-ltb full after past)

one-more : (k r after : ℕ) → r < full → after ≡ k * full + r → inserted_at after (filled k r) ≡ replicate k full ++ (r + 1) ∷ []
one-more zero zero after within is = refl
one-more zero (suc r) after within is = ap (λ b. if b then (suc r + 1) ∷ [] else full ∷ joined 1 []) (lt-ltb (suc r) full within)
one-more (suc zero) zero after within is = refl
one-more (suc zero) (suc r) after within is =
    behind-full after (suc r ∷ []) (omega arith) (omega (arith, is)) ∙ ap (λ ns. full ∷ ns) (one-more zero (suc r) (after - full) within (omega (arith, is)))
one-more (suc (suc k)) r after within is =
    behind-full after (filled (suc k) r) (omega arith) (omega (arith, is)) ∙ ap (λ ns. full ∷ ns) (one-more (suc k) r (after - full) within (omega (arith, is)))

-- ---- so many lines

full_chunks-at : (k r count : ℕ) → r < full → count ≡ k * full + r → full_chunks count ≡ filled k r
full_chunks-at k r count within is =
    let quotient : count / full ≡ k = ap (λ n. n / full) is ∙ div-mul-add k full r within in
    let rest : count % full ≡ r = ap (λ n. n % full) is ∙ mod-mul-add k full r within in
    (λ i. replicate (quotient i) full ++ joined (rest i) []) ∙ ap (λ ns. replicate k full ++ ns) (joined-last r)

split : (count : ℕ) → count ≡ count / full * full + count % full
split count = sym (div-add-mod' count full)

left : (count : ℕ) → count % full < full
left count = mod_below count full (omega arith)

here : (count : ℕ) → full_chunks count ≡ filled (count / full) (count % full)
here count = full_chunks-at (count / full) (count % full) count (left count) (split count)

-- they divide so many lines
pub divides : (count : ℕ) → IsDivision count (full_chunks count)
divides count = record {
  chunks = subst AreChunks (sym (here count)) (chunks (count / full) (count % full) (left count));
  total = ap sum (here count) ∙ total (count / full) (count % full) ∙ sym (split count);
}

more : (k r count : ℕ) → r < full → count ≡ k * full + r → replicate k full ++ (r + 1) ∷ [] ≡ full_chunks (count + 1)
more k r count within is = at (nat_lt (r + 1) full) refl
  where
    at : (b : Bool) → nat_lt (r + 1) full ≡ b → replicate k full ++ (r + 1) ∷ [] ≡ full_chunks (count + 1)
    at true short =
        let lt : r + 1 < full = ltb-true (r + 1) full short in
        let next : suc r ≡ r + 1 = omega arith in
        ap (λ n. replicate k full ++ n ∷ []) (sym next) ∙ sym (full_chunks-at k (suc r) (count + 1) (omega (arith, lt)) (omega (arith, is)))
    at false long =
        let all : r + 1 ≡ full = omega (arith, within, ltb-false (r + 1) full long) in
        ap (λ n. replicate k full ++ n ∷ []) all ∙ replicate_more k full ∙ sym (append-nil (replicate (k + 1) full))
        ∙ sym (full_chunks-at (k + 1) 0 (count + 1) (omega arith) (omega (arith, is, all)))

-- and with a line more behind the last they are those of one line more
pub appended : (count : ℕ) → inserted_at count (full_chunks count) ≡ full_chunks (count + 1)
appended count =
    let k = count / full in
    let r = count % full in
    ap (inserted_at count) (here count) ∙ one-more k r count (left count) (split count) ∙ more k r count (left count) (split count)
