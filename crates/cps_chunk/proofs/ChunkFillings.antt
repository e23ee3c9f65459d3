-- Lines that come into a division one behind the other: what stands behind the next one.
use Rattle.std.proofs.Common.{◌≡◌, ◌⊎◌, inl, inr, ℕ, zero, suc, ◌+◌, ◌-◌, ◌<◌, ◌≤◌, refl, sym, ap, subst, ◌∙◌, List, [], ◌∷◌, ◌++◌, append_assoc, append-nil, length, take, drop, true, false, Bool, arith}
use Rattle.std.specs.Prelude.{if◌then◌else◌, nat_lt}
use Rattle.std.proofs.lemmas.Bool.{lt-ltb, le-ltb}
use Rattle.std.proofs.lemmas.List.{drop-drop, drop_all, take-append-drop}
use Rattle.cps_chunk.specs.Division.{full, AreChunks, joined, grown, inserted_at, chunk_of}
use Rattle.cps_chunk.specs.Put.{inserted_each}
use Rattle.cps_chunk.proofs.ChunkEnds.{total, total-append, lt-true, lt-false}

-- ---- what stands behind the chunk that the next line comes into

-- from an old chunk on, of which none was changed but by lines before its first: so many of them
pub record IsGrown (olds post : List ℕ) (i more : ℕ) : Type 0 where
  pub o : ℕ
  pub rest : List ℕ
  pub there : drop i olds ≡ o ∷ rest
  pub here : post ≡ (o + more) ∷ rest
  pub fits : o + more ≤ full

-- the chunk is the next one behind `at`, or the one after that, which more lines fill
abbrev pub IsNear : ℕ → ℕ → ℕ → ℕ → Type 0
IsNear at left i lines = (i ≡ at + 1) ⊎ ((i ≡ at + 2) × (full ≤ left + lines))

-- so many lines of the chunk of the next line stand behind that one
pub data Behind (olds : List ℕ) (at left : ℕ) (post : List ℕ) : Type 0 where
  no_more : post ≡ [] → drop (at + 3) olds ≡ [] → Behind olds at left post
  last : (h : ℕ) → post ≡ h ∷ [] → h + left ≤ full → drop (at + 3) olds ≡ [] → Behind olds at left post
  grew : (i more : ℕ) (g : IsGrown olds post i more) → IsNear at left i (g.o + more) → Behind olds at left post
  split : (h i more : ℕ) (whole : List ℕ) (g : IsGrown olds whole i more) → post ≡ h ∷ whole → g.o + more ≡ full → h + left ≤ full → (i ≡ at + 1) ⊎ (i ≡ at + 2) → Behind olds at left post

pub record IsFilled (olds : List ℕ) (at next : ℕ) (news : List ℕ) : Type 0 where
  pub between : List ℕ
  pub lines : ℕ
  pub left : ℕ
  pub post : List ℕ
  pub is : news ≡ (take at olds ++ between) ++ lines ∷ post
  pub begins : (total (take at olds ++ between) < next) ⊎ (take at olds ++ between ≡ [])
  pub ends : next + left ≡ total (take at olds ++ between) + lines
  pub fits : lines ≤ full
  pub behind : Behind olds at left post

-- ---- a line before chunks

joined-fits : (n m : ℕ) (ms : List ℕ) → n + m ≤ full → joined n (m ∷ ms) ≡ (n + m) ∷ ms
joined-fits n m ms le = ap (λ b. if b then n ∷ m ∷ ms else (n + m) ∷ ms) (le-ltb full (n + m) le)

joined-over : (n m : ℕ) (ms : List ℕ) → full < n + m → joined n (m ∷ ms) ≡ n ∷ m ∷ ms
joined-over n m ms lt = ap (λ b. if b then n ∷ m ∷ ms else (n + m) ∷ ms) (lt-ltb full (n + m) lt)

apart-at : (i o : ℕ) (ns rest : List ℕ) → AreChunks ns → drop i ns ≡ o ∷ rest → AreChunks (o ∷ rest)
apart-at zero o ns rest d is = subst AreChunks is d
apart-at (suc i) o [] rest d is = absurd (omega (arith, ap length is))
apart-at (suc i) o (n ∷ ns) rest d is = apart-at i o ns rest d.3 is

pub next-drop : (i o : ℕ) (ns rest : List ℕ) → drop i ns ≡ o ∷ rest → drop (i + 1) ns ≡ rest
next-drop i o ns rest is = sym (drop-drop 1 i ns) ∙ ap (drop 1) is

none-later : (i j : ℕ) (ns : List ℕ) → i ≤ j → drop i ns ≡ [] → drop j ns ≡ []
none-later i j ns le is =
    let all : i + (j - i) ≡ j = omega (arith, le) in
    ap (λ k. drop k ns) (sym all) ∙ sym (drop-drop (j - i) i ns) ∙ ap (drop (j - i)) is ∙ drop_all (j - i) [] (omega arith)

-- the last line of the chunk is handed on
pub handed : (olds : List ℕ) (at left : ℕ) (post : List ℕ) → left + 1 ≤ full → Behind olds at (left + 1) post → Behind olds at left (joined 1 post)
handed olds at left post le (no_more is end) = last 1 (ap (joined 1) is) (omega (arith, le)) end
handed olds at left post le (last h is few end) =
    let fits : 1 + h ≤ full = omega (arith, few) in
    last (1 + h) (ap (joined 1) is ∙ joined-fits 1 h [] fits) (omega (arith, few)) end
handed olds at left post le (grew i more g near) = by (nat_lt (g.o + more) full) refl
  where
    by : (b : Bool) → nat_lt (g.o + more) full ≡ b → Behind olds at left (joined 1 post)
    by true e =
        let lt = lt-true (g.o + more) full e in
        let same : 1 + (g.o + more) ≡ g.o + (more + 1) = omega arith in
        let g2 : IsGrown olds (joined 1 post) i (more + 1) =
        record {
          o = g.o;
          rest = g.rest;
          there = g.there;
          here = ap (joined 1) g.here ∙ joined-fits 1 (g.o + more) g.rest (omega (arith, lt)) ∙ ap (λ k. k ∷ g.rest) same;
          fits = omega (arith, lt);
        } in
        grew i (more + 1) g2 (elim near [ inl one ↦ inl one | inr two ↦ inr (two.0, omega (arith, two.1)) ])
    by false e =
        let full-now : g.o + more ≡ full = omega (arith, lt-false (g.o + more) full e, g.fits) in
        split 1 i more post g (ap (joined 1) g.here ∙ joined-over 1 (g.o + more) g.rest (omega (arith, full-now)) ∙ ap (λ xs. 1 ∷ xs) (sym g.here)) full-now (omega (arith, le))
        (elim near [ inl one ↦ inl one | inr two ↦ inr two.0 ])
handed olds at left post le (split h i more whole g is full-now few near) =
    let fits : 1 + h ≤ full = omega (arith, few) in
    split (1 + h) i more whole g (ap (joined 1) is ∙ joined-fits 1 h whole fits) full-now (omega (arith, few)) near

-- where nothing is left to hand on, the line comes into the next chunk
pub record IsNext (olds : List ℕ) (at : ℕ) (post : List ℕ) : Type 0 where
  pub left : ℕ
  pub later : List ℕ
  pub is : joined 1 post ≡ (1 + left) ∷ later
  pub fits : 1 + left ≤ full
  pub behind : Behind olds at left later

entered-chunk : (olds : List ℕ) (at i o : ℕ) (rest later : List ℕ) → AreChunks olds → drop i olds ≡ o ∷ rest → later ≡ rest → (more : ℕ) → IsNear at 0 i (o + more) → o + more < full
    → Behind olds at (o + more) later
entered-chunk olds at i o [] later d is e more near lt =
    no_more e (none-later (i + 1) (at + 3) olds (elim near [ inl one ↦ omega (arith, one) | inr two ↦ omega (arith, two.0) ]) (next-drop i o olds [] is))
entered-chunk olds at i o (p ∷ ps) later d is e more near lt =
    let chunks = apart-at i o olds (p ∷ ps) d is in
    let same : p ≡ p + 0 = omega arith in
    let g : IsGrown olds later (i + 1) 0 =
    record { o = p; rest = ps; there = next-drop i o olds (p ∷ ps) is; here = e ∙ ap (λ k. k ∷ ps) same; fits = omega (arith, chunks.3.1) } in
    grew (i + 1) 0 g (elim near [
      | inl one ↦ inr (omega (arith, one), omega (arith, chunks.2))
      | inr two ↦ absurd (omega (arith, two.1, lt))
    ])

pub entered : (olds : List ℕ) (at : ℕ) (post : List ℕ) → AreChunks olds → Behind olds at 0 post → IsNext olds at post
entered olds at post d (no_more is end) = record { left = 0; later = []; is = ap (joined 1) is; fits = omega arith; behind = no_more refl end }
entered olds at post d (last h is few end) = by (nat_lt full (1 + h)) refl
  where
    by : (b : Bool) → nat_lt full (1 + h) ≡ b → IsNext olds at post
    by true e = record {
      left = 0;
      later = h ∷ [];
      is = ap (joined 1) is ∙ joined-over 1 h [] (lt-true full (1 + h) e);
      fits = omega arith;
      behind = last h refl (omega (arith, few)) end;
    }
    by false e =
        let fits = lt-false full (1 + h) e in
        record { left = h; later = []; is = ap (joined 1) is ∙ joined-fits 1 h [] fits; fits = fits; behind = no_more refl end }
entered olds at post d (grew i more g near) = by (nat_lt (g.o + more) full) refl
  where
    by : (b : Bool) → nat_lt (g.o + more) full ≡ b → IsNext olds at post
    by true e =
        let lt = lt-true (g.o + more) full e in
        let fits : 1 + (g.o + more) ≤ full = omega (arith, lt) in
        record {
          left = g.o + more;
          later = g.rest;
          is = ap (joined 1) g.here ∙ joined-fits 1 (g.o + more) g.rest fits;
          fits = fits;
          behind = entered-chunk olds at i g.o g.rest g.rest d g.there refl more near lt;
        }
    by false e =
        let over : full < 1 + (g.o + more) = omega (arith, lt-false (g.o + more) full e) in
        let here : IsGrown olds ((g.o + more) ∷ g.rest) i more = record { o = g.o; rest = g.rest; there = g.there; here = refl; fits = g.fits } in
        record {
          left = 0;
          later = (g.o + more) ∷ g.rest;
          is = ap (joined 1) g.here ∙ joined-over 1 (g.o + more) g.rest over;
          fits = omega arith;
          behind = grew i more here near;
        }
entered olds at post d (split h i more whole g is full-now few near) = by (nat_lt full (1 + h)) refl
  where
    by : (b : Bool) → nat_lt full (1 + h) ≡ b → IsNext olds at post
    by true e = record {
      left = 0;
      later = h ∷ whole;
      is = ap (joined 1) is ∙ joined-over 1 h whole (lt-true full (1 + h) e);
      fits = omega arith;
      behind = split h i more whole g refl full-now (omega (arith, few)) near;
    }
    by false e =
        let fits = lt-false full (1 + h) e in
        let later : IsNear at h i (g.o + more) = elim near [ inl one ↦ inl one | inr two ↦ inr (two, omega (arith, full-now)) ] in
        record { left = h; later = whole; is = ap (joined 1) is ∙ joined-fits 1 h whole fits; fits = fits; behind = grew i more g later }

-- ---- a line more

inserted-in : (a x : ℕ) (pre post : List ℕ) → (total pre < a) ⊎ (pre ≡ []) → a ≤ total pre + x → inserted_at a (pre ++ x ∷ post) ≡ pre ++ grown x post
inserted-in a x [] [] begins le = refl
inserted-in a x [] (m ∷ ms) begins le = ap (λ b. if b then x ∷ inserted_at (a - x) (m ∷ ms) else grown x (m ∷ ms)) (le-ltb x a (omega (arith, le)))
inserted-in a x (p ∷ []) post (inr none) le = absurd (omega (arith, ap length none))
inserted-in a x (p ∷ []) post (inl lt) le =
    ap (λ b. if b then p ∷ inserted_at (a - p) (x ∷ post) else grown p (x ∷ post)) (lt-ltb p a (omega (arith, lt)))
    ∙ ap (λ xs. p ∷ xs) (inserted-in (a - p) x [] post (inr refl) (omega (arith, le, lt)))
inserted-in a x (p ∷ q ∷ qs) post (inr none) le = absurd (omega (arith, ap length none))
inserted-in a x (p ∷ q ∷ qs) post (inl lt) le =
    ap (λ b. if b then p ∷ inserted_at (a - p) (q ∷ (qs ++ x ∷ post)) else grown p (q ∷ (qs ++ x ∷ post))) (lt-ltb p a (omega (arith, lt)))
    ∙ ap (λ xs. p ∷ xs) (inserted-in (a - p) x (q ∷ qs) post (inl (omega (arith, lt))) (omega (arith, le, lt)))

stepped : (olds : List ℕ) (at next : ℕ) (news : List ℕ) → AreChunks olds → IsFilled olds at next news → IsFilled olds at (next + 1) (inserted_at next news)
stepped olds at next news d f = by (nat_lt f.lines full) refl
  where
    pre : List ℕ
    pre = take at olds ++ f.between

    begins : total pre < next + 1
    begins = elim f.begins [ inl lt ↦ omega (arith, lt) | inr none ↦ omega (arith, ap total none) ]

    there : inserted_at next news ≡ pre ++ grown f.lines f.post
    there = ap (inserted_at next) f.is ∙ inserted-in next f.lines pre f.post f.begins (omega (arith, f.ends))

    handing : full ≤ f.lines → (left : ℕ) → f.left ≡ left + 1 → IsFilled olds at (next + 1) (inserted_at next news)
    handing le left e = record {
      between = f.between;
      lines = full;
      left = left;
      post = joined 1 f.post;
      is = there ∙ ap (λ b. pre ++ (if b then (f.lines + 1) ∷ f.post else full ∷ joined 1 f.post)) (le-ltb f.lines full le);
      begins = inl begins;
      ends = omega (arith, f.ends, e, le, f.fits);
      fits = omega arith;
      behind = handed olds at left f.post (omega (arith, f.ends, e, begins, f.fits)) (subst (λ k. Behind olds at k f.post) e f.behind);
    }

    entering : full ≤ f.lines → f.left ≡ 0 → IsFilled olds at (next + 1) (inserted_at next news)
    entering le e =
        let n = entered olds at f.post d (subst (λ k. Behind olds at k f.post) e f.behind) in
        let more = f.between ++ full ∷ [] in
        let front : pre ++ full ∷ [] ≡ take at olds ++ more = append_assoc (take at olds) f.between (full ∷ []) in
        let count : total (take at olds ++ more) ≡ total pre + full = omega (arith, ap total (sym front), total-append pre (full ∷ [])) in
        record {
          between = more;
          lines = 1 + n.left;
          left = n.left;
          post = n.later;
          is = there ∙ ap (λ b. pre ++ (if b then (f.lines + 1) ∷ f.post else full ∷ joined 1 f.post)) (le-ltb f.lines full le)
              ∙ ap (λ xs. pre ++ full ∷ xs) n.is ∙ sym (append_assoc pre (full ∷ []) ((1 + n.left) ∷ n.later)) ∙ ap (λ xs. xs ++ (1 + n.left) ∷ n.later) front;
          begins = inl (omega (arith, count, f.ends, e, le, f.fits));
          ends = omega (arith, count, f.ends, e, le, f.fits);
          fits = n.fits;
          behind = n.behind;
        }

    passed : full ≤ f.lines → (left : ℕ) → f.left ≡ left → IsFilled olds at (next + 1) (inserted_at next news)
    passed le zero e = entering le e
    passed le (suc left) e = handing le left (omega (arith, e))

    by : (b : Bool) → nat_lt f.lines full ≡ b → IsFilled olds at (next + 1) (inserted_at next news)
    by true e = record {
      between = f.between;
      lines = f.lines + 1;
      left = f.left;
      post = f.post;
      is = there ∙ ap (λ b. pre ++ (if b then (f.lines + 1) ∷ f.post else full ∷ joined 1 f.post)) e;
      begins = inl begins;
      ends = omega (arith, f.ends);
      fits = omega (arith, lt-true f.lines full e);
      behind = f.behind;
    }
    by false e = passed (lt-false f.lines full e) f.left refl

pub filled-on : (k : ℕ) (olds : List ℕ) (at next : ℕ) (news : List ℕ) → AreChunks olds → IsFilled olds at next news → IsFilled olds at (next + k) (inserted_each next k news)
filled-on zero olds at next news d f = subst (λ n. IsFilled olds at n news) (omega arith) f
filled-on (suc k) olds at next news d f =
    let all : next + 1 + k ≡ next + suc k = omega arith in
    subst (λ n. IsFilled olds at n (inserted_each (next + 1) k (inserted_at next news))) all
    (filled-on k olds at (next + 1) (inserted_at next news) d (stepped olds at next news d f))

-- ---- where the first line comes

pub record IsPlace (next : ℕ) (olds : List ℕ) (at : ℕ) : Type 0 where
  pub lines : ℕ
  pub post : List ℕ
  pub there : drop at olds ≡ lines ∷ post
  pub begins : (total (take at olds) < next) ⊎ (take at olds ≡ [])
  pub ends : next ≤ total (take at olds) + lines

placed : (next n : ℕ) (ns : List ℕ) → next ≤ n + total ns → IsPlace next (n ∷ ns) (chunk_of next (n ∷ ns))
placed next n [] le = record { lines = n; post = []; there = refl; begins = inr refl; ends = omega (arith, le) }
placed next n (m ∷ ms) le = by (placed (next - n) m ms) (nat_lt n next) refl
  where
    by : (next - n ≤ m + total ms → IsPlace (next - n) (m ∷ ms) (chunk_of (next - n) (m ∷ ms))) → (b : Bool) → nat_lt n next ≡ b
        → IsPlace next (n ∷ m ∷ ms) (if b then suc (chunk_of (next - n) (m ∷ ms)) else 0)
    by rest true e =
        let lt = lt-true n next e in
        let r = rest (omega (arith, le)) in
        record {
          lines = r.lines;
          post = r.post;
          there = r.there;
          begins = inl (elim r.begins [ inl less ↦ omega (arith, less) | inr none ↦ omega (arith, ap total none, lt) ]);
          ends = omega (arith, r.ends, lt);
        }
    by rest false e = record { lines = n; post = m ∷ ms; there = refl; begins = inr refl; ends = omega (arith, lt-false n next e) }

pub begun : (next : ℕ) (olds : List ℕ) → AreChunks olds → 0 < length olds → next ≤ total olds → IsFilled olds (chunk_of next olds) next olds
begun next [] d some le = absurd (omega (arith, some))
begun next (n ∷ ns) d some le = record {
  between = [];
  lines = p.lines;
  left = total (take at olds) + p.lines - next;
  post = p.post;
  is = sym (take-append-drop at olds) ∙ ap (λ xs. take at olds ++ xs) p.there ∙ ap (λ xs. xs ++ p.lines ∷ p.post) (sym none);
  begins = elim p.begins [ inl lt ↦ inl (omega (arith, lt, ap total none)) | inr empty ↦ inr (none ∙ empty) ];
  ends = omega (arith, p.ends, ap total none);
  fits = chunks.1;
  behind = by p.post refl;
}
  where
    olds : List ℕ
    olds = n ∷ ns

    at : ℕ
    at = chunk_of next olds

    p : IsPlace next olds at
    p = placed next n ns le

    none : take at olds ++ [] ≡ take at olds
    none = append-nil (take at olds)

    chunks : AreChunks (p.lines ∷ p.post)
    chunks = apart-at at p.lines olds p.post d p.there

    by : (post : List ℕ) → p.post ≡ post → Behind olds at (total (take at olds) + p.lines - next) p.post
    by [] e = no_more e (none-later (at + 1) (at + 3) olds (omega arith) (next-drop at p.lines olds p.post p.there ∙ e))
    by (o ∷ rest) e =
        let same : o ≡ o + 0 = omega arith in
        let later = subst (λ xs. AreChunks (p.lines ∷ xs)) e chunks in
        let g : IsGrown olds p.post (at + 1) 0 =
        record { o = o; rest = rest; there = next-drop at p.lines olds p.post p.there ∙ e; here = e ∙ ap (λ k. k ∷ rest) same; fits = omega (arith, later.3.1) } in
        grew (at + 1) 0 g (inl refl)

-- of a source without a line
pub begun-none : (k next : ℕ) (olds : List ℕ) → olds ≡ [] → next ≡ 0 → IsFilled olds 0 (next + suc k) (inserted_each next (suc k) olds)
begun-none k next olds empty first =
    let all : next + 1 + k ≡ next + suc k = omega arith in
    let d : AreChunks olds = subst AreChunks (sym empty) tt in
    let one : IsFilled olds 0 (next + 1) (inserted_at next olds) = record {
      between = [];
      lines = 1;
      left = 0;
      post = [];
      is = ap (inserted_at next) empty;
      begins = inr refl;
      ends = omega (arith, first);
      fits = omega arith;
      behind = no_more refl (ap (drop 3) empty);
    } in
    subst (λ n. IsFilled olds 0 n (inserted_each (next + 1) k (inserted_at next olds))) all (filled-on k olds 0 (next + 1) (inserted_at next olds) d one)
