-- Chunks of a division give way to others: those of them that stay at either end are taken off.
use Rattle.std.proofs.Common.{◌≡◌, ℕ, ◌+◌, ◌-◌, ◌≤◌, refl, sym, ap, subst, ◌∙◌, List, [], ◌∷◌, ◌++◌, append_assoc, length, take, drop, reverse, arith}
use Rattle.std.specs.List.{between}
use Rattle.std.specs.Prelude.{sum}
use Rattle.std.proofs.Math.Seq.{take-add}
use Rattle.std.proofs.lemmas.List.{reverse-append, reverse-reverse, length-reverse, length-take-le, length-drop, take-take, take_at, drop-drop, drop-append-le, take-append-drop}
use Rattle.std.proofs.lemmas.List.Edits.{split_between, length-between}
use Rattle.std.proofs.lemmas.List.Sums.{sum_by-append, sum_by-take-drop}
use Rattle.std.proofs.lemmas.Slice.{between_is}
use Rattle.cps_chunk.specs.Recut.{recut}
use Rattle.cps_chunk.specs.Staying.{same_front, IsTight}
use Rattle.cps_chunk.proofs.StayingLemmas.{AreSome, some-append, some-first, some-second, front-past, front-within, front-same, front-olds, front-news, front-lines}

-- an edit that keeps the first `keep` lines and those after the first `from`, and what comes in the place of the chunks from `start` up to `end`
pub record IsEdit (keep from start end : ℕ) (news ns : List ℕ) : Type 0 where
  pub some : AreSome ns
  pub ordered : start ≤ end
  pub within : end ≤ length ns
  pub begins : sum (take start ns) ≤ keep
  pub order : keep ≤ from
  pub ends : from ≤ sum (take end ns)
  pub lines : keep + (sum ns - from) ≤ sum (recut start end news ns)

-- ---- from the end

reverse-next : (x : ℕ) (xs : List ℕ) → reverse (x ∷ xs) ≡ reverse xs ++ x ∷ []
reverse-next x xs = reverse-append (x ∷ []) xs

sum-append : (xs ys : List ℕ) → sum (xs ++ ys) ≡ sum xs + sum ys
sum-append xs ys = sum_by-append (λ x. x) xs ys

pub sum-split : (i : ℕ) (ns : List ℕ) → sum (take i ns) + sum (drop i ns) ≡ sum ns
sum-split i ns = sum_by-take-drop (λ x. x) ns i

sum-reverse : (ns : List ℕ) → sum (reverse ns) ≡ sum ns
sum-reverse [] = refl
sum-reverse (n ∷ ns) =
    let one = sum-append (n ∷ []) ns in
    omega (arith, ap sum (reverse-next n ns), sum-append (reverse ns) (n ∷ []), sum-reverse ns, one)

some-reverse : (ns : List ℕ) → AreSome ns → AreSome (reverse ns)
some-reverse [] some = tt
some-reverse (n ∷ ns) some = subst AreSome (sym (reverse-next n ns)) (some-append (reverse ns) (n ∷ []) (some-reverse ns some.1) (some.0, tt))

reverse-three : (xs ys zs : List ℕ) → reverse (xs ++ (ys ++ zs)) ≡ reverse zs ++ (reverse ys ++ reverse xs)
reverse-three xs ys zs = reverse-append xs (ys ++ zs) ∙ ap (λ l. l ++ reverse xs) (reverse-append ys zs) ∙ append_assoc (reverse zs) (reverse ys) (reverse xs)

-- the last ones
last-ones : (k : ℕ) (xs : List ℕ) → k ≤ length xs → take k (reverse xs) ≡ reverse (drop (length xs - k) xs)
last-ones k xs le =
    let front = take (length xs - k) xs in
    let back = drop (length xs - k) xs in
    let len : length (reverse back) ≡ k = omega (arith, length-reverse back, length-drop (length xs - k) xs, le) in
    ap (λ l. take k (reverse l)) (sym (take-append-drop (length xs - k) xs)) ∙ ap (take k) (reverse-append front back) ∙ take_at (reverse back) (reverse front) k len

-- ---- the parts

sum-parts : (start end : ℕ) (ns : List ℕ) → start ≤ end → sum ns ≡ sum (take start ns) + (sum (between start end ns) + sum (drop end ns))
sum-parts start end ns ordered =
    ap sum (split_between ns start end ordered) ∙ sum-append (take start ns) (between start end ns ++ drop end ns)
    ∙ ap (λ k. sum (take start ns) + k) (sum-append (between start end ns) (drop end ns))

sum-recut : (start end : ℕ) (news ns : List ℕ) → sum (recut start end news ns) ≡ sum (take start ns) + (sum news + sum (drop end ns))
sum-recut start end news ns = sum-append (take start ns) (news ++ drop end ns) ∙ ap (λ k. sum (take start ns) + k) (sum-append news (drop end ns))

from-start : (start end : ℕ) (ns : List ℕ) → start ≤ end → drop start ns ≡ between start end ns ++ drop end ns
from-start start end ns ordered =
    let all : start + (end - start) ≡ end = omega (arith, ordered) in
    sym (take-append-drop (end - start) (drop start ns)) ∙ ap (λ xs. between start end ns ++ xs) (drop-drop (end - start) start ns ∙ ap (λ k. drop k ns) all)

pub between-later : (k start end : ℕ) (ns : List ℕ) → between (start + k) end ns ≡ drop k (between start end ns)
between-later k start end ns = between_is ns (start + k) end ∙ sym (drop-drop k start (take end ns)) ∙ ap (drop k) (sym (between_is ns start end))

take-later : (k start end : ℕ) (ns : List ℕ) → k ≤ end - start → take (start + k) ns ≡ take start ns ++ take k (between start end ns)
take-later k start end ns le = take-add start k ns ∙ ap (λ xs. take start ns ++ xs) (sym (take-take k (end - start) (drop start ns) le))

drop-sooner : (k start end : ℕ) (ns : List ℕ) → start ≤ end → end ≤ length ns → k ≤ end - start
    → drop (end - k) ns ≡ drop (length (between start end ns) - k) (between start end ns) ++ drop end ns
drop-sooner k start end ns ordered within le =
    let part = between start end ns in
    let len = length-between ns start end within in
    let at : end - k ≡ start + (length part - k) = omega (arith, len, le, ordered) in
    ap (λ i. drop i ns) at ∙ sym (drop-drop (length part - k) start ns) ∙ ap (drop (length part - k)) (from-start start end ns ordered)
    ∙ drop-append-le (length part - k) part (drop end ns) (omega arith)

-- ---- in front

-- how many of them stay there
pub front-tight : (keep from start end front : ℕ) (news ns : List ℕ) → IsEdit keep from start end news ns → front ≡ same_front (keep - sum (take start ns)) (between start end ns) news
    → start + front ≡ same_front keep ns (recut start end news ns)
front-tight keep from start end front news ns e counted =
    let first = take start ns in
    let part = between start end ns in
    let last = drop end ns in
    let parts = split_between ns start end e.ordered in
    let some : AreSome (part ++ last) = some-second first (part ++ last) (subst AreSome parts e.some) in
    let len : length first ≡ start = length-take-le start ns (omega (arith, e.ordered, e.within)) in
    let olds : keep - sum first ≤ sum part = omega (arith, sum-parts start end ns e.ordered, sum-split end ns, e.order, e.ends) in
    let made : keep - sum first ≤ sum news = omega (arith, sum-recut start end news ns, sum-split end ns, e.lines, e.ends) in
    let there = ap (λ xs. same_front keep xs (recut start end news ns)) parts in
    let past = front-past keep first (part ++ last) (news ++ last) e.begins in
    let here = front-within (keep - sum first) part news last some olds made in
    omega (arith, there, past, here, len, counted)

front-part : (keep from start end front : ℕ) (news ns : List ℕ) → IsEdit keep from start end news ns → front ≡ same_front (keep - sum (take start ns)) (between start end ns) news → front ≤ end - start
front-part keep from start end front news ns e counted =
    omega (arith, counted, front-olds (keep - sum (take start ns)) (between start end ns) news, length-between ns start end e.within)

-- the others in their place
pub front-recut : (keep from start end front : ℕ) (news ns : List ℕ) → IsEdit keep from start end news ns → front ≡ same_front (keep - sum (take start ns)) (between start end ns) news
    → recut (start + front) end (drop front news) ns ≡ recut start end news ns
front-recut keep from start end front news ns e counted =
    let first = take start ns in
    let part = between start end ns in
    let last = drop end ns in
    let same : take front part ≡ take front news =
    ap (λ k. take k part) counted ∙ front-same (keep - sum first) part news ∙ ap (λ k. take k news) (sym counted) in
    ap (λ xs. xs ++ (drop front news ++ last)) (take-later front start end ns (front-part keep from start end front news ns e counted) ∙ ap (λ xs. first ++ xs) same)
    ∙ append_assoc first (take front news) (drop front news ++ last)
    ∙ ap (λ xs. first ++ xs) (sym (append_assoc (take front news) (drop front news) last))
    ∙ ap (λ xs. first ++ (xs ++ last)) (take-append-drop front news)

pub front-edit : (keep from start end front : ℕ) (news ns : List ℕ) → IsEdit keep from start end news ns → front ≡ same_front (keep - sum (take start ns)) (between start end ns) news
    → IsEdit keep from (start + front) end (drop front news) ns
front-edit keep from start end front news ns e counted =
    let first = take start ns in
    let part = between start end ns in
    let within = front-part keep from start end front news ns e counted in
    let taken : sum (take front part) ≤ keep - sum first = subst (λ k. sum (take k part) ≤ keep - sum first) (sym counted) (front-lines (keep - sum first) part news) in
    let all = ap sum (take-later front start end ns within) ∙ sum-append first (take front part) in
    let same = ap sum (front-recut keep from start end front news ns e counted) in
    record {
      some = e.some;
      ordered = omega (arith, within, e.ordered);
      within = e.within;
      begins = omega (arith, all, taken, e.begins);
      order = e.order;
      ends = e.ends;
      lines = omega (arith, same, e.lines);
    }

-- ---- behind

pub back-tight : (keep from start end back : ℕ) (news ns : List ℕ) → IsEdit keep from start end news ns
    → back ≡ same_front (sum (take end ns) - from) (reverse (between start end ns)) (reverse news)
    → length ns - end + back ≡ same_front (sum ns - from) (reverse ns) (reverse (recut start end news ns))
back-tight keep from start end back news ns e counted =
    let first = take start ns in
    let part = between start end ns in
    let last = drop end ns in
    let lines = sum ns - from in
    let parts = split_between ns start end e.ordered in
    let some : AreSome (reverse part ++ reverse first) = some-append (reverse part) (reverse first)
    (some-reverse part (some-first part last (some-second first (part ++ last) (subst AreSome parts e.some))))
    (some-reverse first (some-first first (part ++ last) (subst AreSome parts e.some))) in
    let behind = sum-reverse last in
    let whole = sum-split end ns in
    let ends : sum (reverse last) ≤ lines = omega (arith, behind, whole, e.ends) in
    let left : lines - sum (reverse last) ≡ sum (take end ns) - from = omega (arith, behind, whole, e.ends) in
    let olds : lines - sum (reverse last) ≤ sum (reverse part) = omega (arith, behind, sum-reverse part, sum-parts start end ns e.ordered, e.order, e.begins) in
    let made : lines - sum (reverse last) ≤ sum (reverse news) = omega (arith, behind, sum-reverse news, sum-recut start end news ns, e.lines, e.begins) in
    let there : same_front lines (reverse ns) (reverse (recut start end news ns))
    ≡ same_front lines (reverse last ++ (reverse part ++ reverse first)) (reverse last ++ (reverse news ++ reverse first)) =
    λ i. same_front lines ((ap reverse parts ∙ reverse-three first part last) i) (reverse-three first news last i) in
    let past = front-past lines (reverse last) (reverse part ++ reverse first) (reverse news ++ reverse first) ends in
    let here = front-within (lines - sum (reverse last)) (reverse part) (reverse news) (reverse first) some olds made in
    let same = ap (λ k. same_front k (reverse part) (reverse news)) left in
    omega (arith, there, past, here, same, length-reverse last, length-drop end ns, counted)

back-part : (keep from start end back : ℕ) (news ns : List ℕ) → IsEdit keep from start end news ns
    → back ≡ same_front (sum (take end ns) - from) (reverse (between start end ns)) (reverse news) → back ≤ end - start
back-part keep from start end back news ns e counted =
    omega (arith, counted, front-olds (sum (take end ns) - from) (reverse (between start end ns)) (reverse news), length-reverse (between start end ns), length-between ns start end e.within)

back-same : (keep from start end back : ℕ) (news ns : List ℕ) → IsEdit keep from start end news ns
    → back ≡ same_front (sum (take end ns) - from) (reverse (between start end ns)) (reverse news)
    → drop (length (between start end ns) - back) (between start end ns) ≡ drop (length news - back) news
back-same keep from start end back news ns e counted =
    let part = between start end ns in
    let lines = sum (take end ns) - from in
    let olds : back ≤ length part = omega (arith, counted, front-olds lines (reverse part) (reverse news), length-reverse part) in
    let made : back ≤ length news = omega (arith, counted, front-news lines (reverse part) (reverse news), length-reverse news) in
    let same : take back (reverse part) ≡ take back (reverse news) =
    ap (λ k. take k (reverse part)) counted ∙ front-same lines (reverse part) (reverse news) ∙ ap (λ k. take k (reverse news)) (sym counted) in
    sym (reverse-reverse (drop (length part - back) part))
    ∙ ap reverse (sym (last-ones back part olds) ∙ same ∙ last-ones back news made)
    ∙ reverse-reverse (drop (length news - back) news)

pub back-recut : (keep from start end back : ℕ) (news ns : List ℕ) → IsEdit keep from start end news ns
    → back ≡ same_front (sum (take end ns) - from) (reverse (between start end ns)) (reverse news)
    → recut start (end - back) (take (length news - back) news) ns ≡ recut start end news ns
back-recut keep from start end back news ns e counted =
    let first = take start ns in
    let last = drop end ns in
    let front = take (length news - back) news in
    let within = back-part keep from start end back news ns e counted in
    ap (λ xs. first ++ (front ++ xs)) (drop-sooner back start end ns e.ordered e.within within ∙ ap (λ xs. xs ++ last) (back-same keep from start end back news ns e counted))
    ∙ ap (λ xs. first ++ xs) (sym (append_assoc front (drop (length news - back) news) last))
    ∙ ap (λ xs. first ++ (xs ++ last)) (take-append-drop (length news - back) news)

pub back-edit : (keep from start end back : ℕ) (news ns : List ℕ) → IsEdit keep from start end news ns
    → back ≡ same_front (sum (take end ns) - from) (reverse (between start end ns)) (reverse news)
    → IsEdit keep from start (end - back) (take (length news - back) news) ns
back-edit keep from start end back news ns e counted =
    let part = between start end ns in
    let lines = sum (take end ns) - from in
    let within = back-part keep from start end back news ns e counted in
    let len = length-between ns start end e.within in
    let gone : sum (drop (length part - back) part) ≤ lines =
    subst (λ k. k ≤ lines)
    (ap (λ k. sum (take k (reverse part))) (sym counted) ∙ ap sum (last-ones back part (omega (arith, within, len))) ∙ sum-reverse (drop (length part - back) part))
    (front-lines lines (reverse part) (reverse news)) in
    let behind = ap sum (drop-sooner back start end ns e.ordered e.within within) ∙ sum-append (drop (length part - back) part) (drop end ns) in
    let same = ap sum (back-recut keep from start end back news ns e counted) in
    record {
      some = e.some;
      ordered = omega (arith, within, e.ordered);
      within = omega (arith, e.within);
      begins = e.begins;
      order = e.order;
      ends = omega (arith, behind, gone, sum-split end ns, sum-split (end - back) ns, e.ends);
      lines = omega (arith, same, e.lines);
    }

-- ---- both

-- the chunks that give way once those that stay are taken off, and what comes in their place
pub record IsTrimmed (keep from start end : ℕ) (news olds ns : List ℕ) : Type 0 where
  pub same : recut start end news ns ≡ olds
  pub edit : IsEdit keep from start end news ns
  pub tight : IsTight keep (sum ns - from) start end news ns

pub trimmed : (keep from start end front back : ℕ) (news ns : List ℕ) → IsEdit keep from start end news ns
    → front ≡ same_front (keep - sum (take start ns)) (between start end ns) news
    → back ≡ same_front (sum (take end ns) - from) (reverse (drop front (between start end ns))) (reverse (drop front news))
    → IsTrimmed keep from (start + front) (end - back) (take (length (drop front news) - back) (drop front news)) (recut start end news ns) ns
trimmed keep from start end front back news ns e first second =
    let left = drop front news in
    let f = front-edit keep from start end front news ns e first in
    let counted : back ≡ same_front (sum (take end ns) - from) (reverse (between (start + front) end ns)) (reverse left) =
    second ∙ ap (λ xs. same_front (sum (take end ns) - from) (reverse xs) (reverse left)) (sym (between-later front start end ns)) in
    let here = back-recut keep from (start + front) end back left ns f counted in
    let there = front-recut keep from start end front news ns e first in
    let after = back-tight keep from (start + front) end back left ns f counted in
    let short = back-part keep from (start + front) end back left ns f counted in
    let past : length ns - (end - back) ≡ length ns - end + back = omega (arith, short, e.within) in
    record {
      same = here ∙ there;
      edit = back-edit keep from (start + front) end back left ns f counted;
      tight = record {
        front = front-tight keep from start end front news ns e first ∙ ap (λ xs. same_front keep ns xs) (sym (here ∙ there));
        back = past ∙ after ∙ ap (λ xs. same_front (sum ns - from) (reverse ns) (reverse xs)) (sym here);
      };
    }
