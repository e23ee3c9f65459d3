-- Which old chunks pieces are.
use Rattle.std.proofs.Common.{◌≡◌, ◌⊎◌, inl, inr, ℕ, zero, suc, ◌+◌, ◌-◌, ◌<◌, ◌≤◌, refl, sym, ap, subst, ◌∙◌, List, [], ◌∷◌, ◌++◌, append-nil, append_assoc, length, get_or, take, drop, reverse, true, false, Bool, Option, None, Some, arith}
use Rattle.std.specs.Prelude.{if◌then◌else◌, nat_lt, sum, Result, Ok, Err, OnOk}
use Rattle.std.proofs.lemmas.Bool.{cases_lt, lt-ltb, le-ltb}
use Rattle.std.proofs.lemmas.List.{length-append, reverse-append}
use Rattle.cps_chunk.specs.Division.{AreChunks}
use Rattle.cps_edit.specs.Numbers.{numbers}
use Rattle.cps_chunk.specs.Exchange.{BeginsWithPart}
use Rattle.cps_chunk.specs.declared.exchange.RecutChunk.{RecutChunk}
use Rattle.cps_chunk.specs.Code.Pieces.{cut_to, AreOfNone, AreNamed, ArePieces, MayStandBefore, GoesNotOn, part_numbers}
use Rattle.cps_chunk.proofs.DivisionLemmas.{lt-true}
use Rattle.cps_chunk.proofs.PieceLemmas.{length-numbers, numbers-more, part-new}

-- ---- a list's front and the rest

take-over : (xs ys : List ℕ) (n k : ℕ) → n ≡ length xs → take (n + k) (xs ++ ys) ≡ xs ++ take k ys
take-over [] ys n k e =
    let same : n + k ≡ k = omega (arith, e) in
    ap (λ j. take j ys) same
take-over (x ∷ xs) ys n k e =
    let next : n + k ≡ suc (length xs + k) = omega (arith, e) in
    ap (λ j. take j (x ∷ (xs ++ ys))) next ∙ ap (λ zs. x ∷ zs) (take-over xs ys (length xs) k refl)

drop-over : (xs ys : List ℕ) (n k : ℕ) → n ≡ length xs → drop (n + k) (xs ++ ys) ≡ drop k ys
drop-over [] ys n k e =
    let same : n + k ≡ k = omega (arith, e) in
    ap (λ j. drop j ys) same
drop-over (x ∷ xs) ys n k e =
    let next : n + k ≡ suc (length xs + k) = omega (arith, e) in
    ap (λ j. drop j (x ∷ (xs ++ ys))) next ∙ drop-over xs ys (length xs) k refl

head-take : (k : ℕ) (xs : List ℕ) → 1 ≤ k → get_or (take k xs) 0 0 ≡ get_or xs 0 0
head-take zero xs le = absurd (omega (arith, le))
head-take (suc k) [] le = refl
head-take (suc k) (x ∷ xs) le = refl

some-take : (k : ℕ) (xs : List ℕ) → 1 ≤ k → k ≤ length xs → 0 < length (take k xs)
some-take zero xs le within = absurd (omega (arith, le))
some-take (suc k) [] le within = absurd (omega (arith, within))
some-take (suc k) (x ∷ xs) le within = omega arith

-- ---- a piece before others

piece-with : (ns ms more : List ℕ) (lines : ℕ) (old : Option ℕ) (q r : RecutChunk) (ps : List RecutChunk) → r.lines ≡ lines + q.lines → r.old ≡ None → MayStandBefore ns lines old ms more
    → ArePieces ns (q ∷ ps) more → ArePieces ns (r ∷ ps) (ms ++ more)
piece-with ns ms more lines old q r ps both none may are =
    let new : AreOfNone ns (ms ++ take q.lines more) = may.longer (take q.lines more) (some-take q.lines more are.0 are.1) (head-take q.lines more are.0) in
    let front : take r.lines (ms ++ more) ≡ ms ++ take q.lines more = ap (λ k. take k (ms ++ more)) both ∙ take-over ms more lines q.lines (sym may.count) in
    let behind : drop r.lines (ms ++ more) ≡ drop q.lines more = ap (λ k. drop k (ms ++ more)) both ∙ drop-over ms more lines q.lines (sym may.count) in (
      omega (arith, both, are.0),
      omega (arith, both, are.1, may.count, length-append ms more),
      subst (λ o. AreNamed ns o (take r.lines (ms ++ more))) (sym none) (subst (AreOfNone ns) (sym front) new),
      subst (ArePieces ns ps) (sym behind) are.3,
    )

reverse-push : (ps : List RecutChunk) (p : RecutChunk) → reverse (ps ++ p ∷ []) ≡ p ∷ reverse ps
reverse-push ps p = reverse-append ps (p ∷ [])

-- it stays apart, or both are one
pub set-one : (ns ms more : List ℕ) (olds left news : List RecutChunk) (q r : RecutChunk) (lines : ℕ) (old : Option ℕ) → olds ≡ left ++ q ∷ [] → news ≡ left ++ r ∷ [] → r.lines ≡ lines + q.lines → r.old ≡ None
    → ArePieces ns (reverse olds) more → MayStandBefore ns lines old ms more → ArePieces ns (reverse news) (ms ++ more)
set-one ns ms more olds left news q r lines old was made both none are may =
    subst (λ ps. ArePieces ns ps (ms ++ more)) (sym (ap reverse made ∙ reverse-push left r))
    (piece-with ns ms more lines old q r (reverse left) both none may (subst (λ ps. ArePieces ns ps more) (ap reverse was ∙ reverse-push left q) are))

-- ---- a part of a chunk

pub cut-less : (b n : ℕ) → cut_to b n ≤ n
cut-less b n = at (nat_lt b n) refl
  where
    at : (less : Bool) → nat_lt b n ≡ less → (if less then b else n) ≤ n
    at true e = omega (arith, lt-true b n e)
    at false e = omega arith

goes-on : (at : ℕ) (others more : List ℕ) → 0 < at → GoesNotOn at more → get_or others 0 0 ≡ get_or more 0 0 → get_or others 0 0 ≡ at → ⊥
goes-on at others [] some not same is = omega (arith, some, same, is)
goes-on at others (m ∷ more) some not same is = not (omega arith) (sym same ∙ is)

pub part-may : (ns : List ℕ) → AreChunks ns → (i from end n lines : ℕ) (old : Option ℕ) (more : List ℕ) → i < length ns → n ≡ get_or ns i 0 → from < end → end ≤ n → lines ≡ end - from
    → (end < n → GoesNotOn (sum (take i ns) + end) more) → ((end - from ≡ n) × (old ≡ Some i)) ⊎ ((end - from < n) × (old ≡ None))
    → MayStandBefore ns lines old (part_numbers ns i from end) more
part-may ns d i from end n lines old more lt is some ends count seam cases = record {
  count = length-numbers (at + from) (end - from) ∙ sym count;
  named = named cases;
  longer = λ others many same j within eq.
      part-new ns d i (at + from) (at + end) others (part others (λ none. absurd (omega (arith, many, ap length none, empty))) (λ one less. goes-on (at + end) others more (omega (arith, some)) (seam (omega (arith, less, is))) same)) j within
      (ap (λ k. numbers (at + from) k ++ others) left ∙ eq);
}
  where
    at : ℕ
    at = sum (take i ns)

    empty : length {A = ℕ} [] ≡ 0
    empty = refl

    left : (sum (take i ns) + end) - (sum (take i ns) + from) ≡ end - from
    left = omega arith

    part : (others : List ℕ) → (others ≡ [] → (sum (take i ns) + end) - (sum (take i ns) + from) < get_or ns i 0)
        → (0 < length others → sum (take i ns) + end < sum (take i ns) + get_or ns i 0 → get_or others 0 0 ≡ sum (take i ns) + end → ⊥)
        → BeginsWithPart ns i (sum (take i ns) + from) (sum (take i ns) + end) others
    part others alone goes = record { within = lt; begins = omega arith; some = omega (arith, some); ends = omega (arith, ends, is); alone = alone; seam = goes }

    named : ((end - from ≡ n) × (old ≡ Some i)) ⊎ ((end - from < n) × (old ≡ None)) → AreNamed ns old (part_numbers ns i from end)
    named (inl whole) =
        let first : sum (take i ns) + from ≡ sum (take i ns) = omega (arith, whole.0, ends) in
        subst (λ o. AreNamed ns o (part_numbers ns i from end)) (sym whole.1) (lt, (λ k. numbers (first k) ((whole.0 ∙ is) k)))
    named (inr short) =
        subst (λ o. AreNamed ns o (part_numbers ns i from end)) (sym short.1)
        (λ j within eq. part-new ns d i (sum (take i ns) + from) (sum (take i ns) + end) [] (part [] (λ none. omega (arith, left, short.0, is)) (λ one less goes. omega (arith, one, empty))) j within
        (ap (λ k. numbers (sum (take i ns) + from) k ++ []) left ∙ append-nil (numbers (sum (take i ns) + from) (end - from)) ∙ eq))

pub on-ok : {X E : Type 0} (r : Result X E) (P Q : Type 0) → (P → Q) → OnOk r P → OnOk r Q
on-ok (Ok x) P Q next is = next is
on-ok (Err e) P Q next is = tt

pub cut-is : (to n : ℕ) → (to < n → cut_to to n ≡ to) × (n ≤ to → cut_to to n ≡ n)
cut-is to n = ((λ lt. ap (λ b. if b then to else n) (lt-ltb to n lt)), (λ le. ap (λ b. if b then to else n) (le-ltb to n le)))

-- ---- chunk by chunk, from the last on

numbers-none : (at k : ℕ) → k ≡ 0 → numbers at k ≡ []
numbers-none at k e = ap (numbers at) e

pub run-numbers : (ns : List ℕ) (a b i n s e : ℕ) (more : List ℕ) → s ≡ sum (take i ns) → e ≡ s + n → a ≤ b
    → part_numbers ns i (a - s) (cut_to (b - s) n) ++ (numbers (e + (a - e)) (b - (e + (a - e))) ++ more) ≡ numbers (s + (a - s)) (b - (s + (a - s))) ++ more
run-numbers ns a b i n s e more is ends ordered =
    let first = part_numbers ns i (a - s) (cut_to (b - s) n) in
    sym (append_assoc first (numbers (e + (a - e)) (b - (e + (a - e)))) more)
    ∙ ap (λ xs. xs ++ more) (
    ap (λ k. numbers (k + (a - s)) (cut_to (b - s) n - (a - s)) ++ numbers (e + (a - e)) (b - (e + (a - e)))) (sym is)
    ∙ elim (cases_lt (b - s) n) [
      | inl less ↦
          let cut = (cut-is (b - s) n).0 less in
          let none : b - (e + (a - e)) ≡ 0 = omega (arith, less, ends) in
          let count : cut_to (b - s) n - (a - s) ≡ b - (s + (a - s)) = omega (arith, cut) in
          (λ k. numbers (s + (a - s)) (count k) ++ numbers-none (e + (a - e)) (b - (e + (a - e))) none k) ∙ append-nil (numbers (s + (a - s)) (b - (s + (a - s))))
      | inr over ↦
          let cut = (cut-is (b - s) n).1 over in
          elim (cases_lt (a - s) n) [
            | inl within ↦
                let here : e + (a - e) ≡ s + (a - s) + (n - (a - s)) = omega (arith, within, ends) in
                let count : cut_to (b - s) n - (a - s) ≡ n - (a - s) = omega (arith, cut) in
                let left : b - (e + (a - e)) ≡ b - e = omega (arith, within, ends) in
                let both : n - (a - s) + (b - e) ≡ b - (s + (a - s)) = omega (arith, within, ends, over) in
                (λ k. numbers (s + (a - s)) (count k) ++ numbers (here k) (left k)) ∙ sym (numbers-more (s + (a - s)) (n - (a - s)) (b - e)) ∙ ap (numbers (s + (a - s))) both
            | inr past ↦
                let none : cut_to (b - s) n - (a - s) ≡ 0 = omega (arith, cut, past) in
                let here : e + (a - e) ≡ s + (a - s) = omega (arith, past, ends) in
                (λ k. numbers-none (s + (a - s)) (cut_to (b - s) n - (a - s)) none k ++ numbers (here k) (b - here k))
          ]
    ]
    )

pub run-seam : (ns : List ℕ) (a b i n s e : ℕ) (more : List ℕ) → s ≡ sum (take i ns) → e ≡ s + n → GoesNotOn b more → a - s < cut_to (b - s) n → cut_to (b - s) n < n
    → GoesNotOn (sum (take i ns) + cut_to (b - s) n) (numbers (e + (a - e)) (b - (e + (a - e))) ++ more)
run-seam ns a b i n s e more is ends goes some less =
    elim (cases_lt (b - s) n) [
      | inl short ↦
          let cut = (cut-is (b - s) n).0 short in
          let none : b - (e + (a - e)) ≡ 0 = omega (arith, short, ends) in
          let here : b ≡ sum (take i ns) + cut_to (b - s) n = omega (arith, cut, some, is) in
          subst (λ k. GoesNotOn k (numbers (e + (a - e)) (b - (e + (a - e))) ++ more)) here
          (subst (λ xs. GoesNotOn b (xs ++ more)) (sym (numbers-none (e + (a - e)) (b - (e + (a - e))) none)) goes)
      | inr over ↦ absurd (omega (arith, (cut-is (b - s) n).1 over, less))
    ]

-- before any chunk, and behind all
pub begin-pieces : (ns : List ℕ) (ps : List RecutChunk) (a b s : ℕ) (more : List ℕ) → b ≤ s → ArePieces ns (reverse ps) more → ArePieces ns (reverse ps) (numbers (s + (a - s)) (b - (s + (a - s))) ++ more)
begin-pieces ns ps a b s more past are =
    let none : b - (s + (a - s)) ≡ 0 = omega (arith, past) in
    subst (λ xs. ArePieces ns (reverse ps) (xs ++ more)) (sym (numbers-none (s + (a - s)) (b - (s + (a - s))) none)) are

pub end-pieces : (ns : List ℕ) (ps : List RecutChunk) (a b s : ℕ) (more : List ℕ) → s ≡ 0 → ArePieces ns (reverse ps) (numbers (s + (a - s)) (b - (s + (a - s))) ++ more) → ArePieces ns (reverse ps) (numbers a (b - a) ++ more)
end-pieces ns ps a b s more none are =
    let here : s + (a - s) ≡ a = omega (arith, none) in
    subst (λ k. ArePieces ns (reverse ps) (numbers k (b - k) ++ more)) here are

pub head-goes : (f k at : ℕ) (more : List ℕ) → (f ≡ at → ⊥) → GoesNotOn at more → GoesNotOn at (numbers f k ++ more)
head-goes f zero at more other goes = goes
head-goes f (suc k) at more other goes = λ some is. other is

pub head-some : (f k at : ℕ) (more : List ℕ) → 0 < k → (f ≡ at → ⊥) → GoesNotOn at (numbers f k ++ more)
head-some f zero at more lt other = absurd (omega (arith, lt))
head-some f (suc k) at more lt other = λ some is. other is
