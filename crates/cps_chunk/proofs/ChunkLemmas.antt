-- Chunks of lines, line by line and chunk by chunk.
use Rattle.std.proofs.Common.{arith, ◌≡◌, ℕ, zero, suc, ◌+◌, ◌-◌, ◌<◌, ◌≤◌, refl, sym, ap, subst, ◌∙◌, List, [], ◌∷◌, ◌++◌, get_or, set, length, take, drop, Option, None}
use Rattle.std.specs.Prelude.{IfSome, flat_map, sum}
use Rattle.std.proofs.lemmas.Grind.{flat_map-append}
use Rattle.std.proofs.lemmas.List.{length-append, length-drop, length-set, take-append-le, drop-append-le, take-append-drop, take-set-le, drop-set-lt, drop-set-add, take-take, drop-take, drop-drop, drop_all, length-take-le, length-take, take_more, take_all}
use Rattle.std.proofs.lemmas.List.Sums.{sum_by-cons}
use Rattle.std.proofs.Math.Seq.{take-set-lt}
use Rattle.cps_state.specs.declared.hashing.Hashing.{Hashing}
use Rattle.cps_state.specs.declared.key.Key.{Key}
use Rattle.cps_state.specs.Course.{Trace}
use Rattle.cps_final.specs.Code.RunGathering.{KeptRun, kept_run}
use Rattle.cps_final.specs.NamedFinals.{NamedFinals, names_in}
use Rattle.cps_final.specs.Code.Storage.{IsStored}
use Rattle.cps_final.specs.declared.storage.Storage.{Storage}
use Rattle.cps_chunk.specs.declared.chunk.Chunk.{Chunk}
use Rattle.cps_chunk.specs.declared.key_filter.KeyFilter.{KeyFilter}
use Rattle.cps_chunk.specs.KeyFilter.{AreMarked, HasAll, puts_at, asks_at, names_at, keys_put, keys_asked, keys_named}
use Rattle.cps_chunk.specs.Code.Chunk.{IsChunkOf, WasMarked, lengths_of, AreChunksOf}
use Rattle.cps_chunk.proofs.MarkLemmas.{marked-still, marked-append, marked-parts}

-- ---- line by line

module _ (hashing : Hashing) where
  -- something new in the place of what a line did
  marked-set : (m : KeyFilter) (f : Trace → List Key) (ts : List Trace) (i : ℕ) (t : Trace) → AreMarked hashing m (flat_map f (t ∷ [])) → AreMarked hashing m (flat_map f ts)
      → AreMarked hashing m (flat_map f (set ts i t))
  marked-set m f [] i t one all = all
  marked-set m f (u ∷ ts) zero t one all =
      marked-append hashing m (f t) (flat_map f ts) (marked-parts hashing m (f t) [] one).0 (marked-parts hashing m (f u) (flat_map f ts) all).1
  marked-set m f (u ∷ ts) (suc i) t one all =
      let parts = marked-parts hashing m (f u) (flat_map f ts) all in
      marked-append hashing m (f u) (flat_map f (set ts i t)) parts.0 (marked-set m f ts i t one parts.1)

  marked-both : (m : KeyFilter) (f : Trace → List Key) (ts us : List Trace) → AreMarked hashing m (flat_map f ts) → AreMarked hashing m (flat_map f us) → AreMarked hashing m (flat_map f (ts ++ us))
  marked-both m f ts us one two = subst (AreMarked hashing m) (sym (flat_map-append f ts us)) (marked-append hashing m (flat_map f ts) (flat_map f us) one two)

  marked-behind : (m : KeyFilter) (f : Trace → List Key) (ts : List Trace) (t : Trace) → AreMarked hashing m (flat_map f (t ∷ [])) → AreMarked hashing m (flat_map f ts)
      → AreMarked hashing m (flat_map f (ts ++ t ∷ []))
  marked-behind m f ts t one all = marked-both m f ts (t ∷ []) all one

  pub was-marked : (t : Trace) (old : Chunk) (puts asks names : KeyFilter) → AreMarked hashing puts (keys_put (t ∷ [])) → HasAll old.puts puts → AreMarked hashing asks (keys_asked (t ∷ []))
      → HasAll old.reads asks → AreMarked hashing names (keys_named (t ∷ [])) → HasAll asks names
      → WasMarked hashing t old (record { lines = old.lines; puts = puts; reads = names; run = None; names = None; storage = None })
  was-marked t old puts asks names put put_kept asked asked_kept named named_kept = record {
    kept_puts = put_kept;
    kept_reads = λ n h. named_kept n (asked_kept n h);
    puts = put;
    asks = marked-still hashing asks names (keys_asked (t ∷ [])) named_kept asked;
    names = named;
    no_run = refl;
    no_names = refl;
    no_storage = refl;
  }

  -- nothing is gathered
  run-none : (ts : List Trace) (c : Chunk) → c.run ≡ None → IfSome c.run (λ run. run ≡ kept_run ts)
  run-none ts c none = subst (λ (run : Option KeptRun). IfSome run (λ run. run ≡ kept_run ts)) (sym none) tt

  names-none : (ts : List Trace) (c : Chunk) → c.names ≡ None → IfSome c.names (λ names. names ≡ names_in ts)
  names-none ts c none = subst (λ (names : Option NamedFinals). IfSome names (λ names. names ≡ names_in ts)) (sym none) tt

  storage-none : (ts : List Trace) (c : Chunk) → c.storage ≡ None → IfSome c.storage (λ storage. IsStored storage ts)
  storage-none ts c none = subst (λ (storage : Option Storage). IfSome storage (λ storage. IsStored storage ts)) (sym none) tt

  pub chunk-none : (c : Chunk) → c.lines ≡ 0 → c.run ≡ None → c.names ≡ None → c.storage ≡ None → IsChunkOf hashing [] c
  chunk-none c none no_run no_names no_storage = record {
    lines = sym none;
    puts = refl;
    asks = refl;
    names = refl;
    run = run-none [] c no_run;
    names_kept = names-none [] c no_names;
    storage = storage-none [] c no_storage;
  }

  pub chunk-set : (old new : Chunk) (t : Trace) → new.lines ≡ old.lines → WasMarked hashing t old new → (ts : List Trace) (i : ℕ) → IsChunkOf hashing ts old → IsChunkOf hashing (set ts i t) new
  chunk-set old new t same marked ts i is = record {
    lines = length-set ts i t ∙ is.lines ∙ sym same;
    puts = marked-set new.puts puts_at ts i t marked.puts (marked-still hashing old.puts new.puts (keys_put ts) marked.kept_puts is.puts);
    asks = marked-set new.reads asks_at ts i t marked.asks (marked-still hashing old.reads new.reads (keys_asked ts) marked.kept_reads is.asks);
    names = marked-set new.reads names_at ts i t marked.names (marked-still hashing old.reads new.reads (keys_named ts) marked.kept_reads is.names);
    run = run-none (set ts i t) new marked.no_run;
    names_kept = names-none (set ts i t) new marked.no_names;
    storage = storage-none (set ts i t) new marked.no_storage;
  }

  pub chunk-behind : (old new : Chunk) (t : Trace) → new.lines ≡ old.lines + 1 → WasMarked hashing t (record old { lines = old.lines + 1 }) new → (ts : List Trace)
      → IsChunkOf hashing ts old → IsChunkOf hashing (ts ++ t ∷ []) new
  chunk-behind old new t same marked ts is = record {
    lines = omega (arith, length-append ts (t ∷ []), is.lines, same);
    puts = marked-behind new.puts puts_at ts t marked.puts (marked-still hashing old.puts new.puts (keys_put ts) marked.kept_puts is.puts);
    asks = marked-behind new.reads asks_at ts t marked.asks (marked-still hashing old.reads new.reads (keys_asked ts) marked.kept_reads is.asks);
    names = marked-behind new.reads names_at ts t marked.names (marked-still hashing old.reads new.reads (keys_named ts) marked.kept_reads is.names);
    run = run-none (ts ++ t ∷ []) new marked.no_run;
    names_kept = names-none (ts ++ t ∷ []) new marked.no_names;
    storage = storage-none (ts ++ t ∷ []) new marked.no_storage;
  }

  pub chunk-next : (ts : List Trace) (i : ℕ) (t : Trace) (c : Chunk) → i < length ts → t ≡ get_or ts i t → IsChunkOf hashing (take i ts ++ t ∷ []) c → IsChunkOf hashing (take (i + 1) ts) c
  chunk-next ts i t c lt is made =
      let whole : take (i + 1) ts ≡ take i ts ++ t ∷ [] = take_more ts i t lt ∙ ap (λ u. take i ts ++ u ∷ []) (sym is) in
      subst (λ us. IsChunkOf hashing us c) (sym whole) made

  pub chunk-all : (ts : List Trace) (i : ℕ) (c : Chunk) → length ts ≤ i → IsChunkOf hashing (take i ts) c → IsChunkOf hashing ts c
  chunk-all ts i c past made = subst (λ us. IsChunkOf hashing us c) (take_all i ts past) made

  -- the lines so far are as many as were gone through
  pub lines-taken : (ts : List Trace) (i : ℕ) (c : Chunk) → i ≤ length ts → IsChunkOf hashing (take i ts) c → c.lines ≡ i
  lines-taken ts i c le is = sym is.lines ∙ length-take-le i ts le

-- ---- chunk by chunk

sum-first : (n : ℕ) (ns : List ℕ) → sum (n ∷ ns) ≡ n + sum ns
sum-first n ns = sum_by-cons (λ x. x) n ns

take-more : (n m : ℕ) (ts : List Trace) → take (n + m) ts ≡ take n ts ++ take m (drop n ts)
take-more n m ts = sym (take-append-drop n (take (n + m) ts)) ∙ (λ i. take-take n (n + m) ts (omega arith) i ++ drop-take n m ts i)

module _ (hashing : Hashing) where
  pub chunks-long : (cs : List Chunk) (ts : List Trace) → AreChunksOf hashing cs ts → length ts ≡ sum (lengths_of cs)
  chunks-long [] ts s = ap length s
  chunks-long (c ∷ cs) ts s = omega (arith, s.0, chunks-long cs (drop c.lines ts) s.2, length-drop c.lines ts, sum-first c.lines (lengths_of cs))

  -- chunks, and others behind them
  pub chunks-append : (cs ds : List Chunk) (ts us : List Trace) → AreChunksOf hashing cs ts → AreChunksOf hashing ds us → AreChunksOf hashing (cs ++ ds) (ts ++ us)
  chunks-append [] ds ts us s r = subst (λ (vs : List Trace). AreChunksOf hashing ds (vs ++ us)) (sym s) r
  chunks-append (c ∷ cs) ds ts us s r =
      let front : take c.lines (ts ++ us) ≡ take c.lines ts = take-append-le c.lines ts us s.0 in
      let back : drop c.lines (ts ++ us) ≡ drop c.lines ts ++ us = drop-append-le c.lines ts us s.0 in (
        omega (arith, s.0, length-append ts us),
        subst (λ (vs : List Trace). IsChunkOf hashing vs c) (sym front) s.1,
        subst (λ (vs : List Trace). AreChunksOf hashing (cs ++ ds) vs) (sym back) (chunks-append cs ds (drop c.lines ts) us s.2 r),
      )

  -- one chunk
  pub chunks-one : (c : Chunk) (ts : List Trace) → IsChunkOf hashing ts c → AreChunksOf hashing (c ∷ []) ts
  chunks-one c ts is = (
    omega (arith, is.lines),
    subst (λ (us : List Trace). IsChunkOf hashing us c) (sym (take_all c.lines ts (omega (arith, is.lines)))) is,
    drop_all c.lines ts (omega (arith, is.lines)),
  )

  pub chunks-apart : (cs ds : List Chunk) (ts : List Trace) → AreChunksOf hashing (cs ++ ds) ts
      → AreChunksOf hashing cs (take (sum (lengths_of cs)) ts) × AreChunksOf hashing ds (drop (sum (lengths_of cs)) ts)
  chunks-apart [] ds ts s = (refl, s)
  chunks-apart (c ∷ cs) ds ts s =
      let n : ℕ = sum (lengths_of cs) in
      let rest = chunks-apart cs ds (drop c.lines ts) s.2 in
      let size : sum (lengths_of (c ∷ cs)) ≡ c.lines + n = sum-first c.lines (lengths_of cs) in
      let front : take (sum (lengths_of (c ∷ cs))) ts ≡ take c.lines ts ++ take n (drop c.lines ts) = ap (λ k. take k ts) size ∙ take-more c.lines n ts in
      let back : drop (sum (lengths_of (c ∷ cs))) ts ≡ drop n (drop c.lines ts) = ap (λ k. drop k ts) size ∙ sym (drop-drop n c.lines ts) in (
        subst (λ (us : List Trace). AreChunksOf hashing (c ∷ cs) us) (sym front)
            (chunks-append (c ∷ []) cs (take c.lines ts) (take n (drop c.lines ts)) (chunks-one c (take c.lines ts) s.1) rest.0),
        subst (λ (us : List Trace). AreChunksOf hashing ds us) (sym back) rest.1,
      )

  -- the first chunks, and those behind them
  pub chunks-front : (n : ℕ) (cs : List Chunk) (ts : List Trace) → AreChunksOf hashing cs ts → AreChunksOf hashing (take n cs) (take (sum (lengths_of (take n cs))) ts)
  chunks-front n cs ts s = (chunks-apart (take n cs) (drop n cs) ts (subst (λ (ds : List Chunk). AreChunksOf hashing ds ts) (sym (take-append-drop n cs)) s)).0

  pub chunks-behind : (n : ℕ) (cs : List Chunk) (ts : List Trace) → AreChunksOf hashing cs ts → AreChunksOf hashing (drop n cs) (drop (sum (lengths_of (take n cs))) ts)
  chunks-behind n cs ts s = (chunks-apart (take n cs) (drop n cs) ts (subst (λ (ds : List Chunk). AreChunksOf hashing ds ts) (sym (take-append-drop n cs)) s)).1

  -- the lines of the first chunks are there
  pub chunks-within : (n : ℕ) (cs : List Chunk) (ts : List Trace) → AreChunksOf hashing cs ts → sum (lengths_of (take n cs)) ≤ length ts
  chunks-within n cs ts s =
      let e : ℕ = sum (lengths_of (take n cs)) in
      let long : length (take e ts) ≡ e = chunks-long (take n cs) (take e ts) (chunks-front n cs ts s) in
      omega (arith, long, length-take e ts)

  -- a line does something else, and its chunk was marked
  pub chunks-set : (cs : List Chunk) (i line : ℕ) (c d : Chunk) (t : Trace) (ts : List Trace) → i < length cs → c ≡ get_or cs i c → d.lines ≡ c.lines
      → ((us : List Trace) (k : ℕ) → IsChunkOf hashing us c → IsChunkOf hashing (set us k t) d) → sum (lengths_of (take i cs)) ≤ line
      → line < sum (lengths_of (take i cs)) + c.lines → AreChunksOf hashing cs ts → AreChunksOf hashing (set cs i d) (set ts line t)
  chunks-set [] i line c d t ts lt is same marked from to s = absurd (omega (arith, lt))
  chunks-set (e ∷ cs) zero line c d t ts lt is same marked from to s =
      let size : c.lines ≡ e.lines = ap (λ (x : Chunk). x.lines) is in
      let lines : d.lines ≡ e.lines = same ∙ size in
      let within : line < e.lines = omega (arith, to, size) in
      let front : take d.lines (set ts line t) ≡ set (take e.lines ts) line t = ap (λ k. take k (set ts line t)) lines ∙ take-set-lt e.lines ts line t within in
      let back : drop d.lines (set ts line t) ≡ drop e.lines ts = ap (λ k. drop k (set ts line t)) lines ∙ drop-set-lt e.lines ts line t within in
      let here : IsChunkOf hashing (take e.lines ts) c = subst (IsChunkOf hashing (take e.lines ts)) (sym is) s.1 in (
        omega (arith, lines, s.0, length-set ts line t),
        subst (λ (us : List Trace). IsChunkOf hashing us d) (sym front) (marked (take e.lines ts) line here),
        subst (λ (us : List Trace). AreChunksOf hashing cs us) (sym back) s.2,
      )
  chunks-set (e ∷ cs) (suc i) line c d t ts lt is same marked from to s =
      let size : sum (lengths_of (take (suc i) (e ∷ cs))) ≡ e.lines + sum (lengths_of (take i cs)) = sum-first e.lines (lengths_of (take i cs)) in
      let past : e.lines ≤ line = omega (arith, from, size) in
      let whole : e.lines + (line - e.lines) ≡ line = omega (arith, past) in
      let front : take e.lines (set ts line t) ≡ take e.lines ts = take-set-le e.lines ts line t past in
      let back : drop e.lines (set ts line t) ≡ set (drop e.lines ts) (line - e.lines) t =
      ap (λ k. drop e.lines (set ts k t)) (sym whole) ∙ drop-set-add e.lines ts (line - e.lines) t in
      let rest : AreChunksOf hashing (set cs i d) (set (drop e.lines ts) (line - e.lines) t) =
      chunks-set cs i (line - e.lines) c d t (drop e.lines ts) (omega (arith, lt)) is same marked (omega (arith, from, size)) (omega (arith, to, size, past)) s.2 in (
        omega (arith, s.0, length-set ts line t),
        subst (λ (us : List Trace). IsChunkOf hashing us e) (sym front) s.1,
        subst (λ (us : List Trace). AreChunksOf hashing (set cs i d) us) (sym back) rest,
      )

  -- the last chunk, and those in front of it
  pub record EndsWith (cs : List Chunk) (c : Chunk) (ts : List Trace) : Type 0 where
    pub long : c.lines ≤ length ts
    pub front : AreChunksOf hashing cs (take (length ts - c.lines) ts)
    pub last : IsChunkOf hashing (drop (length ts - c.lines) ts) c

  pub chunks-last : (cs : List Chunk) (c : Chunk) (ts : List Trace) → AreChunksOf hashing (cs ++ c ∷ []) ts → EndsWith cs c ts
  chunks-last cs c ts s =
      let n : ℕ = sum (lengths_of cs) in
      let parts = chunks-apart cs (c ∷ []) ts s in
      let ahead : length (take n ts) ≡ n = chunks-long cs (take n ts) parts.0 in
      let behind : length (drop n ts) ≡ length ts - n = length-drop n ts in
      let past : length (drop c.lines (drop n ts)) ≡ 0 = ap length parts.1.2 in
      let lines : length (drop n ts) ≡ c.lines = omega (arith, parts.1.0, past, length-drop c.lines (drop n ts)) in
      let start : n ≡ length ts - c.lines = omega (arith, ahead, length-take n ts, behind, lines) in
      record {
        long = omega (arith, behind, lines);
        front = subst (λ (k : ℕ). AreChunksOf hashing cs (take k ts)) start parts.0;
        last =
            subst (λ (k : ℕ). IsChunkOf hashing (drop k ts) c) start
            (subst (λ (us : List Trace). IsChunkOf hashing us c) (take_all c.lines (drop n ts) (omega (arith, lines))) parts.1.1);
      }
