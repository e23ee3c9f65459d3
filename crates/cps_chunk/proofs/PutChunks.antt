-- Lines that come in the place of others: the chunks in front that stay, and where chunks behind end as before.
use Rattle.std.proofs.Common.{◌≡◌, ◌⊎◌, inl, inr, ℕ, zero, suc, ◌+◌, ◌-◌, ◌<◌, ◌≤◌, refl, sym, ap, subst, ◌∙◌, List, [], ◌∷◌, ◌++◌, append_assoc, length, take, drop, true, false, Bool, arith}
use Rattle.std.specs.Prelude.{if◌then◌else◌, nat_lt, sum}
use Rattle.std.proofs.lemmas.Bool.{lt-ltb, le-ltb}
use Rattle.std.proofs.lemmas.List.{drop-drop, drop_all, take-append-drop}
use Rattle.cps_chunk.specs.Division.{full, AreChunks, IsDivision, chunk_of, inserted_at, deleted_at, Insertions, Deletions}
use Rattle.cps_chunk.specs.Put.{inserted_each, put_at, Puts}
use Rattle.cps_chunk.proofs.StayingLemmas.{AreSome, chunks-some}
use Rattle.cps_chunk.proofs.ChunkEnds.{total, total-sum, total-drop, lt-true, lt-false, IsEnd, ends-meet, end-next, end-of-end, KeepsFront, MeetsBehind, front-less, inserted-front, deleted-front, deleted-end, ends-meet-behind}
use Rattle.cps_chunk.specs.ChunkLaws.{PutsStay, PutsAreEdits}
use Rattle.cps_chunk.proofs.ChunkFillings.{IsFilled, IsGrown, Behind, no_more, last, grew, split, next-drop, filled-on, begun, begun-none}

-- ---- behind lines that come one behind the other

nothing : (k x : ℕ) (qs : List ℕ) → drop k [] ≡ x ∷ qs → ⊥
nothing k x qs is = omega (arith, ap length (sym (drop_all k [] (omega arith)) ∙ is))

-- a chunk that lies wholly behind the next line stands behind the chunk that it comes into
in-post : (j x next behind lines : ℕ) (pre post qs : List ℕ) → drop j (pre ++ lines ∷ post) ≡ x ∷ qs → x + total qs ≤ behind
    → next + behind ≡ total (pre ++ lines ∷ post) → total pre < next → (k : ℕ) × (drop k post ≡ x ∷ qs)
in-post zero x next behind lines [] post qs is le all lt = absurd (omega (arith, ap total is, le, all, lt))
in-post (suc j) x next behind lines [] post qs is le all lt = (j, is)
in-post zero x next behind lines (p ∷ ps) post qs is le all lt = absurd (omega (arith, ap total is, le, all, lt))
in-post (suc j) x next behind lines (p ∷ ps) post qs is le all lt =
    in-post j x (next - p) behind lines ps post qs is le (omega (arith, all, lt)) (omega (arith, lt))

rest-less : (k o m : ℕ) (ms rest : List ℕ) → drop k (m ∷ ms) ≡ o ∷ rest → total rest ≤ total ms
rest-less k o m ms rest is =
    let one : k + 1 ≡ suc k = omega arith in
    let later : drop k ms ≡ rest = ap (λ j. drop j (m ∷ ms)) (sym one) ∙ next-drop k o (m ∷ ms) rest is in
    omega (arith, total-drop k ms, ap total later)

-- no old chunk begins less than a full one before the end of another, but that one itself
gap : (k i o : ℕ) (olds rest : List ℕ) → AreChunks olds → drop k olds ≡ o ∷ rest → total (drop i olds) ≤ full + total rest → total (drop i olds) ≤ o + total rest
gap k i o [] rest d is le = absurd (nothing k o rest is)
gap zero i o (n ∷ ns) rest d is le = omega (arith, total-drop i (n ∷ ns), ap total is)
gap (suc k) (suc i) o (n ∷ ns) rest d is le = gap k i o ns rest d.3 is le
gap (suc k) zero o (n ∷ []) rest d is le = absurd (nothing k o rest is)
gap (suc k) zero o (n ∷ m ∷ ms) rest d is le = absurd (omega (arith, le, d.2, rest-less k o m ms rest is))

grown-ends : (k x i more : ℕ) (olds whole qs : List ℕ) (g : IsGrown olds whole i more) → drop k whole ≡ x ∷ qs → IsEnd qs olds
grown-ends zero x i more olds whole qs g is =
    let e : IsEnd g.rest olds = end-next g.o g.rest olds i g.there in
    (e.0, ap (drop 1) (sym is ∙ g.here) ∙ e.1)
grown-ends (suc k) x i more olds whole qs g is =
    end-of-end qs g.rest olds (end-next x qs g.rest k (ap (drop (suc k)) (sym g.here) ∙ is)) (end-next g.o g.rest olds i g.there)

-- the chunk of lines that were handed on ends where no old one does, or the one behind it is old
split-meets : (i more : ℕ) (olds whole rs : List ℕ) (g : IsGrown olds whole i more) → AreChunks olds → g.o + more ≡ full → IsEnd rs olds → total whole ≡ total rs → whole ≡ rs
split-meets i more olds whole rs g d is e same =
    let all : total rs ≡ full + total g.rest = omega (arith, sym same, ap total g.here, is) in
    let near = gap i e.0 g.o olds g.rest d g.there (omega (arith, all, ap total (sym e.1))) in
    let none : more ≡ 0 = omega (arith, near, all, ap total (sym e.1), is) in
    let one : g.o + more ≡ g.o = omega (arith, none) in
    ends-meet whole rs olds (chunks-some olds d) (i, g.here ∙ ap (λ k. k ∷ g.rest) one ∙ sym g.there) e same

pub filled-meets : (olds : List ℕ) (at next behind : ℕ) (news : List ℕ) → AreChunks olds → IsFilled olds at next news → 1 ≤ next → next + behind ≡ total news → MeetsBehind behind olds news
filled-meets olds at next behind news d f some all j i x y qs rs here there le same =
    let pre = take at olds ++ f.between in
    let lt : total pre < next = elim f.begins [ inl less ↦ less | inr empty ↦ omega (arith, ap total empty, some) ] in
    let p = in-post j x next behind f.lines pre f.post qs (ap (drop j) (sym f.is) ∙ here) le (all ∙ ap total f.is) lt in
    by p.0 p.1 f.behind
  where
    end : IsEnd rs olds
    end = end-next y rs olds i there

    meet : IsEnd qs olds → qs ≡ rs
    meet e = ends-meet qs rs olds (chunks-some olds d) e end same

    by : (k : ℕ) → drop k f.post ≡ x ∷ qs → Behind olds at f.left f.post → qs ≡ rs
    by k is (no_more e none) = absurd (nothing k x qs (ap (drop k) (sym e) ∙ is))
    by zero is (last h e few none) = meet (length olds, ap (drop 1) (sym is ∙ e) ∙ sym (drop_all (length olds) olds (omega arith)))
    by (suc k) is (last h e few none) = absurd (nothing k x qs (ap (drop (suc k)) (sym e) ∙ is))
    by k is (grew ii more g near) = meet (grown-ends k x ii more olds f.post qs g is)
    by zero is (split h ii more whole g e full-now few near) =
        let w : qs ≡ whole = ap (drop 1) (sym is ∙ e) in
        w ∙ split-meets ii more olds whole rs g d full-now end (ap total (sym w) ∙ same)
    by (suc k) is (split h ii more whole g e full-now few near) = meet (grown-ends k x ii more olds whole qs g (ap (drop (suc k)) (sym e) ∙ is))

-- ---- the chunks that stay around them

around : (at : ℕ) (olds : List ℕ) → drop 3 (drop at olds) ≡ drop (at + 3) olds
around at olds = drop-drop 3 at olds

grown-stays : (at left i more : ℕ) (olds whole : List ℕ) (g : IsGrown olds whole i more) → (i ≡ at + 1) ⊎ (i ≡ at + 2)
    → (changed : List ℕ) × (whole ≡ changed ++ drop 3 (drop at olds))
grown-stays at left i more olds whole g (inl one) =
    let there : drop (i + 1) olds ≡ g.rest = next-drop i g.o olds g.rest g.there in
    let all : i + 1 + 1 ≡ at + 3 = omega (arith, one) in
    let later : drop 1 g.rest ≡ drop 3 (drop at olds) = ap (drop 1) (sym there) ∙ drop-drop 1 (i + 1) olds ∙ ap (λ k. drop k olds) all ∙ sym (around at olds) in
    ((g.o + more) ∷ take 1 g.rest, g.here ∙ ap (λ xs. (g.o + more) ∷ xs) (sym (take-append-drop 1 g.rest)) ∙ ap (λ xs. (g.o + more) ∷ (take 1 g.rest ++ xs)) later)
grown-stays at left i more olds whole g (inr two) =
    let all : i + 1 ≡ at + 3 = omega (arith, two) in
    let later : g.rest ≡ drop 3 (drop at olds) = sym (next-drop i g.o olds g.rest g.there) ∙ ap (λ k. drop k olds) all ∙ sym (around at olds) in
    ((g.o + more) ∷ [], g.here ∙ ap (λ xs. (g.o + more) ∷ xs) later)

behind-stays : (olds : List ℕ) (at left : ℕ) (post : List ℕ) → Behind olds at left post → (changed : List ℕ) × (post ≡ changed ++ drop 3 (drop at olds))
behind-stays olds at left post (no_more e none) = ([], e ∙ sym (around at olds ∙ none))
behind-stays olds at left post (last h e few none) = (h ∷ [], e ∙ ap (λ xs. h ∷ xs) (sym (around at olds ∙ none)))
behind-stays olds at left post (grew i more g near) =
    grown-stays at left i more olds post g (elim near [ inl one ↦ inl one | inr two ↦ inr two.0 ])
behind-stays olds at left post (split h i more whole g e full-now few near) =
    let rest = grown-stays at left i more olds whole g near in
    (h ∷ rest.0, e ∙ ap (λ xs. h ∷ xs) rest.1)

-- all chunks stay in front of a number, and from another one on
abbrev pub StayBut : ℕ → ℕ → List ℕ → List ℕ → Type 0
StayBut from to olds news = (changed : List ℕ) × (news ≡ take from olds ++ (changed ++ drop to olds))

pub filled-stays : (olds : List ℕ) (at next : ℕ) (news : List ℕ) → IsFilled olds at next news → StayBut at (at + 3) olds news
filled-stays olds at next news f =
    let b = behind-stays olds at f.left f.post f.behind in
    let c = f.between ++ f.lines ∷ b.0 in (
      c,
      f.is ∙ ap (λ xs. (take at olds ++ f.between) ++ f.lines ∷ xs) b.1 ∙ append_assoc (take at olds) f.between (f.lines ∷ (b.0 ++ drop 3 (drop at olds)))
          ∙ ap (λ xs. take at olds ++ xs) (sym (append_assoc f.between (f.lines ∷ b.0) (drop 3 (drop at olds)))) ∙ ap (λ xs. take at olds ++ (c ++ xs)) (around at olds),
    )

-- ---- lines in the place of others

module _ (insertions : Insertions) where
  each-front : (k a : ℕ) (ns : List ℕ) → AreChunks ns → a ≤ total ns → KeepsFront a ns (inserted_each a k ns)
  each-front zero a ns d le j lt = refl
  each-front (suc k) a ns d le j lt =
      let one = (insertions a (sum ns) ns (record { chunks = d; total = refl })).0 in
      let count : total (inserted_at a ns) ≡ total ns + 1 = omega (arith, total-sum (inserted_at a ns), one.total, total-sum ns) in
      let later = each-front k (a + 1) (inserted_at a ns) one.chunks (omega (arith, count, le)) j (omega (arith, lt)) in
      later ∙ inserted-front a ns d le j (omega (arith, ap total (sym later), lt))

  pub put-front : (keep gone come : ℕ) (olds : List ℕ) → AreChunks olds → keep + gone ≤ total olds → KeepsFront keep olds (put_at keep gone come olds)
  put-front keep gone come olds d le = by (nat_lt come gone) refl
    where
      by : (b : Bool) → nat_lt come gone ≡ b
          → KeepsFront keep olds (if b then deleted_at (keep + come) (gone - come) olds else inserted_each (keep + gone) (come - gone) olds)
      by true e =
          let lt = lt-true come gone e in
          front-less keep (keep + come) olds (deleted_at (keep + come) (gone - come) olds) (omega arith) (deleted-front (keep + come) (gone - come) olds d (omega (arith, lt, le)))
      by false e = front-less keep (keep + gone) olds (inserted_each (keep + gone) (come - gone) olds) (omega arith) (each-front (come - gone) (keep + gone) olds d le)

whole-meets : (behind : ℕ) (olds : List ℕ) → AreSome olds → MeetsBehind behind olds olds
whole-meets behind olds some j i x y qs rs here there le same = ends-meet qs rs olds some (end-next x qs olds j here) (end-next y rs olds i there) same

each-meets : (k a behind : ℕ) (ns : List ℕ) → AreChunks ns → a ≤ total ns → a + k + behind ≡ total (inserted_each a k ns) → MeetsBehind behind ns (inserted_each a k ns)
each-meets zero a behind ns d le all = whole-meets behind ns (chunks-some ns d)
each-meets (suc k) a behind [] d le all =
    let none : a ≡ 0 = omega (arith, le) in
    filled-meets [] 0 (a + suc k) behind (inserted_each a (suc k) []) d (begun-none k a [] refl none) (omega arith) all
each-meets (suc k) a behind (n ∷ ns) d le all =
    let at = chunk_of a (n ∷ ns) in
    filled-meets (n ∷ ns) at (a + suc k) behind (inserted_each a (suc k) (n ∷ ns)) d
    (filled-on (suc k) (n ∷ ns) at a (n ∷ ns) d (begun a (n ∷ ns) d (omega arith) le)) (omega arith) all

pub put-meets : (keep gone come : ℕ) (olds : List ℕ) → Puts → AreChunks olds → keep + gone ≤ total olds → MeetsBehind (total olds - (keep + gone)) olds (put_at keep gone come olds)
put-meets keep gone come olds puts d le = by (nat_lt come gone) refl new
  where
    new : IsDivision (total olds - gone + come) (put_at keep gone come olds)
    new = puts keep gone come (total olds) olds (record { chunks = d; total = sym (total-sum olds) }) le

    by : (b : Bool) → nat_lt come gone ≡ b
        → IsDivision (total olds - gone + come) (if b then deleted_at (keep + come) (gone - come) olds else inserted_each (keep + gone) (come - gone) olds)
        → MeetsBehind (total olds - (keep + gone)) olds (if b then deleted_at (keep + come) (gone - come) olds else inserted_each (keep + gone) (come - gone) olds)
    by true e division =
        let lt = lt-true come gone e in
        let news = deleted_at (keep + come) (gone - come) olds in
        let same : total olds - (keep + come + (gone - come)) ≡ total olds - (keep + gone) = omega (arith, lt) in
        subst (λ b. MeetsBehind b olds news) same
        (ends-meet-behind (total olds - (keep + come + (gone - come))) olds news (chunks-some olds d) (chunks-some news division.chunks)
        (deleted-end (keep + come) (gone - come) olds (omega (arith, lt, le))))
    by false e division =
        let past = lt-false come gone e in
        let news = inserted_each (keep + gone) (come - gone) olds in
        each-meets (come - gone) (keep + gone) (total olds - (keep + gone)) olds d le (omega (arith, past, total-sum news, division.total, le))

-- ---- which chunks stay

stay-more : (from to first stop : ℕ) (olds news : List ℕ) → first ≤ from → to ≤ stop → StayBut from to olds news → StayBut first stop olds news
stay-more from to first stop olds news le past s =
    let front : take from olds ≡ take first olds ++ drop first (take from olds) =
    sym (take-append-drop first (take from olds)) ∙ ap (λ xs. xs ++ drop first (take from olds)) (take-take-less first from olds le) in
    let all : to + (stop - to) ≡ stop = omega (arith, past) in
    let back : drop to olds ≡ take (stop - to) (drop to olds) ++ drop stop olds =
    sym (take-append-drop (stop - to) (drop to olds)) ∙ ap (λ xs. take (stop - to) (drop to olds) ++ xs) (drop-drop (stop - to) to olds ∙ ap (λ k. drop k olds) all) in
    let a = drop first (take from olds) in
    let b = take (stop - to) (drop to olds) in (
      a ++ (s.0 ++ b),
      s.1 ∙ ap (λ xs. xs ++ (s.0 ++ drop to olds)) front ∙ ap (λ xs. (take first olds ++ a) ++ (s.0 ++ xs)) back ∙ append_assoc (take first olds) a (s.0 ++ (b ++ drop stop olds))
          ∙ ap (λ xs. take first olds ++ (a ++ xs)) (sym (append_assoc s.0 b (drop stop olds)))
          ∙ ap (λ xs. take first olds ++ xs) (sym (append_assoc a (s.0 ++ b) (drop stop olds))),
    )
  where
    take-take-less : (i j : ℕ) (ns : List ℕ) → i ≤ j → take i (take j ns) ≡ take i ns
    take-take-less zero j ns h = refl
    take-take-less (suc i) zero ns h = absurd (omega (arith, h))
    take-take-less (suc i) (suc j) [] h = refl
    take-take-less (suc i) (suc j) (n ∷ ns) h = ap (λ xs. n ∷ xs) (take-take-less i j ns (omega (arith, h)))

chunk-more : (a b : ℕ) (ns : List ℕ) → a ≤ b → chunk_of a ns ≤ chunk_of b ns
chunk-more a b [] le = omega arith
chunk-more a b (n ∷ []) le = omega arith
chunk-more a b (n ∷ m ∷ ms) le = by (chunk-more (a - n) (b - n) (m ∷ ms) (omega (arith, le))) (nat_lt n a) refl (nat_lt n b) refl
  where
    by : chunk_of (a - n) (m ∷ ms) ≤ chunk_of (b - n) (m ∷ ms) → (p : Bool) → nat_lt n a ≡ p → (q : Bool) → nat_lt n b ≡ q
        → (if p then suc (chunk_of (a - n) (m ∷ ms)) else 0) ≤ (if q then suc (chunk_of (b - n) (m ∷ ms)) else 0)
    by rest true e true f = omega (arith, rest)
    by rest true e false f = absurd (omega (arith, lt-true n a e, lt-false n b f, le))
    by rest false e q f = omega arith

chunk-zero : (m : ℕ) (ms : List ℕ) → 1 ≤ m → chunk_of 1 (m ∷ ms) ≡ 0
chunk-zero m [] some = refl
chunk-zero m (k ∷ ks) some = ap (λ b. if b then suc (chunk_of (1 - m) (k ∷ ks)) else 0) (le-ltb m 1 some)

chunk-next : (a : ℕ) (ns : List ℕ) → AreSome ns → chunk_of (a + 1) ns ≤ chunk_of a ns + 1
chunk-next a [] some = omega arith
chunk-next a (n ∷ []) some = omega arith
chunk-next a (n ∷ m ∷ ms) some = by (chunk-next (a - n) (m ∷ ms) some.1) (nat_lt n (a + 1)) refl (nat_lt n a) refl
  where
    by : chunk_of (a - n + 1) (m ∷ ms) ≤ chunk_of (a - n) (m ∷ ms) + 1 → (p : Bool) → nat_lt n (a + 1) ≡ p → (q : Bool) → nat_lt n a ≡ q
        → (if p then suc (chunk_of (a + 1 - n) (m ∷ ms)) else 0) ≤ (if q then suc (chunk_of (a - n) (m ∷ ms)) else 0) + 1
    by rest true e true f =
        let same : a - n + 1 ≡ a + 1 - n = omega (arith, lt-true n a f) in
        omega (arith, rest, ap (λ k. chunk_of k (m ∷ ms)) same)
    by rest true e false f =
        let one : a + 1 - n ≡ 1 = omega (arith, lt-true n (a + 1) e, lt-false n a f) in
        omega (arith, ap (λ k. chunk_of k (m ∷ ms)) one ∙ chunk-zero m ms some.1.0)
    by rest false e q f = omega arith

each-stays : (k a : ℕ) (ns : List ℕ) → AreChunks ns → a ≤ total ns → StayBut (chunk_of a ns) (chunk_of a ns + 3) ns (inserted_each a k ns)
each-stays zero a ns d le =
    let at = chunk_of a ns in
    let all : StayBut at at ns ns = ([], sym (take-append-drop at ns)) in
    stay-more at at at (at + 3) ns ns (omega arith) (omega arith) all
each-stays (suc k) a [] d le =
    let none : a ≡ 0 = omega (arith, le) in
    filled-stays [] 0 (a + suc k) (inserted_each a (suc k) []) (begun-none k a [] refl none)
each-stays (suc k) a (n ∷ ns) d le =
    let at = chunk_of a (n ∷ ns) in
    filled-stays (n ∷ ns) at (a + suc k) (inserted_each a (suc k) (n ∷ ns)) (filled-on (suc k) (n ∷ ns) at a (n ∷ ns) d (begun a (n ∷ ns) d (omega arith) le))

pub puts-stay : Deletions → PutsStay
puts-stay deletions keep gone come count ns d within = by (nat_lt come gone) refl
  where
    first : ℕ
    first = chunk_of (keep + 1) ns - 1

    end : ℕ
    end = chunk_of (keep + gone) ns

    sums : total ns ≡ count
    sums = total-sum ns ∙ d.total

    ended : (news : List ℕ) → StayBut first (end + 3) ns news → (changed : List ℕ) × (news ≡ take first ns ++ (changed ++ drop 3 (drop end ns)))
    ended news s = (s.0, s.1 ∙ ap (λ xs. take first ns ++ (s.0 ++ xs)) (sym (around end ns)))

    before : first ≤ end
    before = either gone refl
      where
        either : (g : ℕ) → gone ≡ g → first ≤ end
        either zero e =
            let same : keep ≡ keep + gone = omega (arith, e) in
            omega (arith, chunk-next keep ns (chunks-some ns d.chunks), ap (λ k. chunk_of k ns) same)
        either (suc g) e = omega (arith, chunk-more (keep + 1) (keep + gone) ns (omega (arith, e)))

    by : (b : Bool) → nat_lt come gone ≡ b
        → (changed : List ℕ) × ((if b then deleted_at (keep + come) (gone - come) ns else inserted_each (keep + gone) (come - gone) ns)
        ≡ take first ns ++ (changed ++ drop 3 (drop end ns)))
    by true e =
        let lt = lt-true come gone e in
        let news = deleted_at (keep + come) (gone - come) ns in
        let upto : keep + come + (gone - come) ≡ keep + gone = omega (arith, lt) in
        let from = chunk_of (keep + come + 1) ns - 1 in
        let s = (deletions (keep + come) (gone - come) count ns d (omega (arith, upto, within))).1 in
        let all : StayBut from (end + 2) ns news =
        (s.0, s.1 ∙ ap (λ k. take from ns ++ (s.0 ++ drop 2 (drop (chunk_of k ns) ns))) upto ∙ ap (λ xs. take from ns ++ (s.0 ++ xs)) (drop-drop 2 end ns)) in
        ended news (stay-more from (end + 2) first (end + 3) ns news (omega (arith, chunk-more (keep + 1) (keep + come + 1) ns (omega arith))) (omega arith) all)
    by false e =
        let news = inserted_each (keep + gone) (come - gone) ns in
        ended news (stay-more end (end + 3) first (end + 3) ns news before (omega arith) (each-stays (come - gone) (keep + gone) ns d.chunks (omega (arith, sums, within))))

-- ---- single edits

fewer : (keep gone come : ℕ) (ns : List ℕ) → come < gone → put_at keep gone come ns ≡ deleted_at (keep + come) (gone - come) ns
fewer keep gone come ns lt = ap (λ b. if b then deleted_at (keep + come) (gone - come) ns else inserted_each (keep + gone) (come - gone) ns) (lt-ltb come gone lt)

as-many : (keep gone come : ℕ) (ns : List ℕ) → gone ≤ come → put_at keep gone come ns ≡ inserted_each (keep + gone) (come - gone) ns
as-many keep gone come ns le = ap (λ b. if b then deleted_at (keep + come) (gone - come) ns else inserted_each (keep + gone) (come - gone) ns) (le-ltb come gone le)

each-next : (k a : ℕ) (ns : List ℕ) → inserted_each a (suc k) ns ≡ inserted_at (a + k) (inserted_each a k ns)
each-next zero a ns =
    let same : a ≡ a + 0 = omega arith in
    ap (λ x. inserted_at x ns) same
each-next (suc k) a ns =
    let same : a + 1 + k ≡ a + suc k = omega arith in
    each-next k (a + 1) (inserted_at a ns) ∙ ap (λ x. inserted_at x (inserted_each (a + 1) k (inserted_at a ns))) same

pub puts-are-edits : PutsAreEdits
puts-are-edits keep gone ns =
    let none : keep + 0 ≡ keep = omega arith in
    let all : gone - 0 ≡ gone = omega arith in (
      as-many keep 0 1 ns (omega arith) ∙ ap (λ x. inserted_at x ns) none,
      as-many keep 1 1 ns (omega arith),
      λ some. fewer keep gone 0 ns some ∙ (λ k. deleted_at (none k) (all k) ns),
      λ come le.
          let more : come + 1 - gone ≡ suc (come - gone) = omega (arith, le) in
          let at : keep + gone + (come - gone) ≡ keep + come = omega (arith, le) in
          as-many keep gone (come + 1) ns (omega (arith, le)) ∙ ap (λ k. inserted_each (keep + gone) k ns) more ∙ each-next (come - gone) (keep + gone) ns
          ∙ ap (λ x. inserted_at x (inserted_each (keep + gone) (come - gone) ns)) at ∙ ap (inserted_at (keep + come)) (sym (as-many keep gone come ns le)),
    )
