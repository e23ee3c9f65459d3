-- A text, piece by piece.
use Rattle.std.proofs.Common.{◌≡◌, ℕ, ◌<◌, ◌≤◌, Bool, List, ◌++◌, filter, ap, ◌∙◌, arith, append_assoc}
use Rattle.std.specs.Prelude.{All}
use Rattle.std.specs.List.{range_with_len}
use Rattle.std.proofs.lemmas.List.Elements.{All-filter, All-from_get_or}
use Rattle.std.proofs.lemmas.List.FromFn.{length-range_with_len, get_or-range_with_len}

pub five-pieces : (t a b c d e r1 r2 r3 r4 r5 : List ℕ) → r1 ≡ t ++ a → r2 ≡ r1 ++ b → r3 ≡ r2 ++ c → r4 ≡ r3 ++ d → r5 ≡ r4 ++ e → r5 ≡ t ++ (a ++ b ++ c ++ d ++ e)
five-pieces t a b c d e r1 r2 r3 r4 r5 e1 e2 e3 e4 e5 =
    e5 ∙ ap (λ (l : List ℕ). l ++ e) (e4 ∙ ap (λ (l : List ℕ). l ++ d) (e3 ∙ ap (λ (l : List ℕ). l ++ c) (e2 ∙ ap (λ (l : List ℕ). l ++ b) e1))) ∙ simp append_assoc

pub six-pieces : (t a b c d e f r1 r2 r3 r4 r5 r6 : List ℕ) → r1 ≡ t ++ a → r2 ≡ r1 ++ b → r3 ≡ r2 ++ c → r4 ≡ r3 ++ d → r5 ≡ r4 ++ e → r6 ≡ r5 ++ f
    → r6 ≡ t ++ (a ++ b ++ c ++ d ++ e ++ f)
six-pieces t a b c d e f r1 r2 r3 r4 r5 r6 e1 e2 e3 e4 e5 e6 =
    e6 ∙ ap (λ (l : List ℕ). l ++ f) (five-pieces t a b c d e r1 r2 r3 r4 r5 e1 e2 e3 e4 e5) ∙ simp append_assoc

pub seven-pieces : (t a b c d e f g r1 r2 r3 r4 r5 r6 r7 : List ℕ) → r1 ≡ t ++ a → r2 ≡ r1 ++ b → r3 ≡ r2 ++ c → r4 ≡ r3 ++ d → r5 ≡ r4 ++ e
    → r6 ≡ r5 ++ f → r7 ≡ r6 ++ g → r7 ≡ t ++ (a ++ b ++ c ++ d ++ e ++ f ++ g)
seven-pieces t a b c d e f g r1 r2 r3 r4 r5 r6 r7 e1 e2 e3 e4 e5 e6 e7 =
    e7 ∙ ap (λ (l : List ℕ). l ++ g) (six-pieces t a b c d e f r1 r2 r3 r4 r5 r6 e1 e2 e3 e4 e5 e6) ∙ simp append_assoc

pub eight-pieces : (t a b c d e f g h r1 r2 r3 r4 r5 r6 r7 r8 : List ℕ) → r1 ≡ t ++ a → r2 ≡ r1 ++ b → r3 ≡ r2 ++ c → r4 ≡ r3 ++ d → r5 ≡ r4 ++ e
    → r6 ≡ r5 ++ f → r7 ≡ r6 ++ g → r8 ≡ r7 ++ h → r8 ≡ t ++ (a ++ b ++ c ++ d ++ e ++ f ++ g ++ h)
eight-pieces t a b c d e f g h r1 r2 r3 r4 r5 r6 r7 r8 e1 e2 e3 e4 e5 e6 e7 e8 =
    e8 ∙ ap (λ (l : List ℕ). l ++ h) (seven-pieces t a b c d e f g r1 r2 r3 r4 r5 r6 r7 e1 e2 e3 e4 e5 e6 e7) ∙ simp append_assoc

-- places of a word
pub places-below : (test : ℕ → Bool) (count n : ℕ) → count ≤ n → All (λ place. place < n) (filter test (range_with_len 0 count))
places-below test count n few =
    All-filter test (λ place. place < n) (range_with_len 0 count)
    (All-from_get_or (λ place. place < n) (range_with_len 0 count) 0
    (λ i within.
    let long = length-range_with_len 0 count in
    let here : i < count = omega (arith, long) in
    let at = get_or-range_with_len 0 count i 0 here in
    omega (arith, at)))
