-- What a run of lines has of each chunk, from the last on.
use Rattle.std.proofs.Common.{◌≡◌, ℕ, zero, suc, ◌+◌, ◌-◌, ◌<◌, ◌≤◌, refl, sym, ap, subst, ◌∙◌, List, [], ◌∷◌, ◌++◌, length, get_or, take, drop, true, false, Bool, arith}
use Rattle.std.specs.Prelude.{if◌then◌else◌, nat_lt, sum}
use Rattle.std.proofs.lemmas.List.{drop_all}
use Rattle.std.proofs.lemmas.List.Sums.{sum_by_more, sum_by-cons}
use Rattle.std.proofs.lemmas.Bool.{lt-ltb, le-ltb}
use Rattle.cps_chunk.specs.Division.{AreChunks}
use Rattle.cps_edit.specs.Exchange.{exchange_at}
use Rattle.cps_chunk.specs.Exchange.{front_of, behind_of, part_of, rejoined, exchanged_at}
use Rattle.cps_chunk.specs.Code.Pieces.{cut_to}
use Rattle.cps_chunk.proofs.DivisionLemmas.{lt-true, lt-false}
use Rattle.cps_chunk.proofs.ExchangeLemmas.{chunks-drop, rejoined-append}

abbrev AreSome : List ℕ → Type 0
AreSome [] = Unit {0}
AreSome (n ∷ ns) = (1 ≤ n) × AreSome ns

chunks-some : (ns : List ℕ) → AreChunks ns → AreSome ns
chunks-some [] d = tt
chunks-some (n ∷ ns) d = (d.0, chunks-some ns d.3)

front-some : (k : ℕ) (ns : List ℕ) → AreSome ns → AreSome (front_of k ns)
front-some k [] s = tt
front-some k (n ∷ ns) s = at (front-some (k - n) ns s.1) (nat_lt k n) (nat_lt 0 k) refl
  where
    at : AreSome (front_of (k - n) ns) → (less : Bool) → (some : Bool) → nat_lt 0 k ≡ some → AreSome (if less then (if some then k ∷ [] else []) else n ∷ front_of (k - n) ns)
    at rest true true f = (omega (arith, lt-true 0 k f), tt)
    at rest true false f = tt
    at rest false some f = (s.0, rest)

front-none : (ns : List ℕ) → AreSome ns → front_of 0 ns ≡ []
front-none [] s = refl
front-none (n ∷ ns) s = ap (λ b. if b then [] else n ∷ front_of (0 - n) ns) (lt-ltb 0 n (omega (arith, s.0)))

behind-none : (ns : List ℕ) → AreSome ns → behind_of 0 ns ≡ ns
behind-none [] s = refl
behind-none (n ∷ ns) s =
    let same : n - 0 ≡ n = omega arith in
    ap (λ b. if b then (n - 0) ∷ ns else behind_of (0 - n) ns) (lt-ltb 0 n (omega (arith, s.0))) ∙ ap (λ k. k ∷ ns) same

-- what the lines have of the first chunk, and of those behind it
part-next : (a b n : ℕ) (ns : List ℕ) → AreSome (n ∷ ns)
    → part_of a b (n ∷ ns) ≡ (if nat_lt a (cut_to b n) then (cut_to b n - a) ∷ [] else []) ++ part_of (a - n) (b - n) ns
part-next a b n ns s = at (nat_lt b n) refl (nat_lt 0 b) refl (nat_lt a b) refl (nat_lt a n) refl
  where
    at : (short : Bool) → nat_lt b n ≡ short → (some : Bool) → nat_lt 0 b ≡ some → (before : Bool) → nat_lt a b ≡ before → (less : Bool) → nat_lt a n ≡ less
        → behind_of a (if short then (if some then b ∷ [] else []) else n ∷ front_of (b - n) ns)
        ≡ (if nat_lt a (if short then b else n) then ((if short then b else n) - a) ∷ [] else []) ++ behind_of (a - n) (front_of (b - n) ns)
    at true e true f before g less h =
        let none : b - n ≡ 0 = omega (arith, lt-true b n e) in
        let rest : front_of (b - n) ns ≡ [] = ap (λ k. front_of k ns) none ∙ front-none ns s.1 in
        ap (λ c. if c then (b - a) ∷ [] else []) g ∙ one before ∙ ap (λ xs. (if before then (b - a) ∷ [] else []) ++ behind_of (a - n) xs) (sym rest) ∙ ap (λ c. (if c then (b - a) ∷ [] else []) ++ behind_of (a - n) (front_of (b - n) ns)) (sym g)
      where
        one : (c : Bool) → (if c then (b - a) ∷ [] else []) ≡ (if c then (b - a) ∷ [] else []) ++ []
        one true = refl
        one false = refl
    at true e false f before g less h =
        let none : b - n ≡ 0 = omega (arith, lt-true b n e) in
        let rest : front_of (b - n) ns ≡ [] = ap (λ k. front_of k ns) none ∙ front-none ns s.1 in
        ap (λ xs. behind_of (a - n) xs) (sym rest)
        ∙ ap (λ c. (if c then (b - a) ∷ [] else []) ++ behind_of (a - n) (front_of (b - n) ns)) (sym (le-ltb a b (omega (arith, lt-false 0 b f))))
    at false e some f before g true h =
        let none : a - n ≡ 0 = omega (arith, lt-true a n h) in
        let rest : behind_of (a - n) (front_of (b - n) ns) ≡ front_of (b - n) ns = ap (λ k. behind_of k (front_of (b - n) ns)) none ∙ behind-none (front_of (b - n) ns) (front-some (b - n) ns s.1) in
        ap (λ c. if c then (n - a) ∷ front_of (b - n) ns else behind_of (a - n) (front_of (b - n) ns)) h
        ∙ ap (λ xs. (n - a) ∷ xs) (sym rest)
        ∙ ap (λ c. (if c then (n - a) ∷ [] else []) ++ behind_of (a - n) (front_of (b - n) ns)) (sym h)
    at false e some f before g false h =
        ap (λ c. if c then (n - a) ∷ front_of (b - n) ns else behind_of (a - n) (front_of (b - n) ns)) h
        ∙ ap (λ c. (if c then (n - a) ∷ [] else []) ++ behind_of (a - n) (front_of (b - n) ns)) (sym h)

drop-first : (i : ℕ) (ns : List ℕ) → i < length ns → drop i ns ≡ get_or ns i 0 ∷ drop (i + 1) ns
drop-first i [] lt = absurd (omega (arith, lt))
drop-first zero (n ∷ ns) lt = refl
drop-first (suc i) (n ∷ ns) lt =
    let next : suc (i + 1) ≡ suc i + 1 = omega arith in
    drop-first i ns (omega (arith, lt)) ∙ ap (λ k. get_or ns i 0 ∷ drop k (n ∷ ns)) next

-- one chunk more, from the end on
pub run-step : (ns : List ℕ) → AreChunks ns → (a b i n start end : ℕ) (old now new : List ℕ) → i < length ns → n ≡ get_or ns i 0 → start ≡ sum (take i ns) → end ≡ sum (take (i + 1) ns)
    → now ≡ rejoined (part_of (a - end) (b - end) (drop (i + 1) ns)) old
    → new ≡ rejoined (if nat_lt (a - start) (cut_to (b - start) n) then (cut_to (b - start) n - (a - start)) ∷ [] else []) now
    → new ≡ rejoined (part_of (a - start) (b - start) (drop i ns)) old
run-step ns d a b i n start end old now new lt first s e before made =
    let count : end ≡ start + n = omega (arith, s, e, first, sum_by_more (λ x. x) ns i 0 lt) in
    let behind = drop (i + 1) ns in
    let all : drop i ns ≡ n ∷ behind = drop-first i ns lt ∙ ap (λ k. k ∷ behind) (sym first) in
    let some : AreSome (n ∷ behind) = subst AreSome all (chunks-some (drop i ns) (chunks-drop i ns d)) in
    let aa : a - end ≡ a - start - n = omega (arith, count) in
    let bb : b - end ≡ b - start - n = omega (arith, count) in
    let piece : List ℕ = if nat_lt (a - start) (cut_to (b - start) n) then (cut_to (b - start) n - (a - start)) ∷ [] else [] in
    made ∙ ap (rejoined piece) (before ∙ (λ k. rejoined (part_of (aa k) (bb k) behind) old))
    ∙ sym (rejoined-append piece (part_of (a - start - n) (b - start - n) behind) old)
    ∙ ap (λ xs. rejoined xs old) (sym (part-next (a - start) (b - start) n behind some))
    ∙ ap (λ xs. rejoined (part_of (a - start) (b - start) xs) old) (sym all)

-- no chunk yet
pub run-none : (ns : List ℕ) (a b i : ℕ) (old : List ℕ) → length ns ≤ i → old ≡ rejoined (part_of a b (drop i ns)) old
run-none ns a b i old past = ap (λ xs. rejoined (part_of a b xs) old) (sym (drop_all i ns past))

-- ---- four runs

front-all : (ns : List ℕ) → AreSome ns → (k : ℕ) → k ≡ sum ns → front_of k ns ≡ ns
front-all [] s k e = refl
front-all (n ∷ ns) s k e =
    let all = sum_by-cons (λ x. x) n ns in
    ap (λ b. if b then (if nat_lt 0 k then k ∷ [] else []) else n ∷ front_of (k - n) ns) (le-ltb k n (omega (arith, all, e)))
    ∙ ap (λ xs. n ∷ xs) (front-all ns s.1 (k - n) (omega (arith, all, e)))

pub four-runs : (ns : List ℕ) → AreChunks ns → (keep mid from all : ℕ) (none one two three four : List ℕ) → all ≡ sum ns → none ≡ []
    → one ≡ rejoined (part_of from all ns) none → two ≡ rejoined (part_of keep mid ns) one → three ≡ rejoined (part_of mid from ns) two → four ≡ rejoined (part_of 0 keep ns) three
    → four ≡ exchanged_at (exchange_at keep mid from) ns
four-runs ns d keep mid from all none one two three four count empty p q r s =
    let some = chunks-some ns d in
    let last : part_of from all ns ≡ behind_of from ns = ap (behind_of from) (front-all ns some all count) in
    let first : part_of 0 keep ns ≡ front_of keep ns = behind-none (front_of keep ns) (front-some keep ns some) in
    s ∙ ap (λ xs. rejoined xs three) first
    ∙ ap (rejoined (front_of keep ns)) (r ∙ ap (rejoined (part_of mid from ns)) (q ∙ ap (rejoined (part_of keep mid ns)) (p ∙ (λ i. rejoined (last i) (empty i)))))
