-- Stretches of lines, and chunks of them.
use Rattle.std.proofs.Common.{◌≡◌, refl, sym, ap, subst, ◌∙◌, ℕ, zero, suc, ◌+◌, ◌-◌, ◌<◌, ◌≤◌, List, [], ◌∷◌, ◌++◌, length, get_or, set, take, drop, arith}
use Rattle.std.specs.Prelude.{sum, if◌then◌else◌}
use Rattle.std.proofs.lemmas.List.{length-map, length-append, length-take, length-drop, take_all, take-take, take-append-drop, drop-drop, drop-take, drop-map, take-map, take_more}
use Rattle.std.proofs.lemmas.List.Sums.{sum_by-cons, sum_by_push, sum_by-take-le}
use Rattle.cps_state.specs.declared.hashing.Hashing.{Hashing}
use Rattle.cps_state.specs.Course.{Trace}
use Rattle.cps_state.specs.Keys.{State, first_state, overwritten}
use Rattle.cps_pass.specs.Expansion.{trace_of}
use Rattle.cps_final.specs.Layout.{puts_of}
use Rattle.cps_final.specs.Holds.{holds}
use Rattle.cps_final.specs.Run.{run_of}
use Rattle.cps_edit.specs.Passes.{after, state_after, traces_from, traces_of}
use Rattle.cps_edit.proofs.SpliceLemmas.{puts-state, state_after-append, length-traces_from, take-traces_from, drop-traces_from}
use Rattle.cps_edit.proofs.TakenLemmas.{drop_at}
use Rattle.cps_edit.proofs.AskedLemmas.{asked-here}
use Rattle.cps_chunk.specs.Code.Chunk.{IsChunkOf, AreChunksOf, lengths_of}
use Rattle.cps_chunk.specs.declared.chunk.Chunk.{Chunk}
use Rattle.cps_chunk.proofs.ChunkLemmas.{chunks-long, chunks-front, chunks-behind, chunks-within}
use Rattle.cps_chunk.specs.declared.sparse.SparseItem.{SparseItem}
use Rattle.cps_chunk.specs.Noted.{AreHeld}
use Rattle.cps_chunk.specs.Replayed.{replayed}
use Rattle.cps_chunk.specs.declared.walk.Cursor.{Cursor}
use Rattle.cps_chunk.specs.Code.Walk.{StandsAt, looks_over, stretch}
use Rattle.cps_chunk.proofs.ReplayedLemmas.{replayed-append, replayed-still}

-- ---- stretches of a list

module _ {X : Type 0} (a b : ℕ) (le : a ≤ b) (xs : List X) where
  -- from the start on
  pub stretch-front : take a xs ++ stretch a b xs ≡ take b xs
  stretch-front = (λ i. sym (take-take a b xs le) i ++ stretch a b xs) ∙ take-append-drop a (take b xs)

  pub stretch-part : take (b - a) (drop a xs) ≡ stretch a b xs
  stretch-part =
      let whole : a + (b - a) ≡ b = omega (arith, le) in
      sym (drop-take a (b - a) xs) ∙ ap (λ k. stretch a k xs) whole

  -- up to the end
  pub stretch-behind : drop a xs ≡ stretch a b xs ++ drop b xs
  stretch-behind =
      let m : ℕ = b - a in
      let whole : a + m ≡ b = omega (arith, le) in
      sym (take-append-drop m (drop a xs)) ∙ (λ i. sym (drop-take a m xs) i ++ drop-drop m a xs i) ∙ ap (λ k. stretch a k xs ++ drop k xs) whole

  pub stretch-long : b ≤ length xs → length (stretch a b xs) ≡ b - a
  stretch-long within = omega (arith, length-drop a (take b xs), length-take b xs)

-- all of it from a place on
pub stretch-all : {X : Type 0} (a : ℕ) (xs : List X) → stretch a (length xs) xs ≡ drop a xs
stretch-all a xs = ap (drop a) (take_all (length xs) xs (omega arith))

-- ---- lines, and what they did

held-from : (f : State) (ls : List (List ℕ)) → AreHeld f (traces_from f ls)
held-from f [] = tt
held-from f (l ∷ ls) = (asked-here l f, held-from (after f l) ls)

module _ (lines : List (List ℕ)) (traces : List Trace) (did : traces ≡ traces_of lines) where
  pub as-long : length traces ≡ length lines
  as-long = ap length did ∙ length-traces_from first_state lines

  abbrev pub state-to : ℕ → State
  state-to at = state_after first_state (take at lines)

  -- what one of them did
  pub trace-at : (i : ℕ) (l : List ℕ) (t : Trace) → i < length lines → i < length traces → l ≡ get_or lines i l → t ≡ get_or traces i t → t ≡ trace_of l (state-to i)
  trace-at i l t a b p q =
      let whole : t ∷ drop (i + 1) traces ≡ trace_of l (state-to i) ∷ traces_from (after (state-to i) l) (drop (i + 1) lines) =
      sym (drop_at traces i t b q) ∙ ap (drop i) did ∙ drop-traces_from i first_state lines ∙ ap (traces_from (state-to i)) (drop_at lines i l a p) in
      cc

  pub state-next : (i : ℕ) (l : List ℕ) → i < length lines → l ≡ get_or lines i l → state-to (i + 1) ≡ after (state-to i) l
  state-next i l a p =
      ap (state_after first_state) (take_more lines i l a ∙ ap (λ k. take i lines ++ k ∷ []) (sym p)) ∙ state_after-append first_state (take i lines) (l ∷ [])

  -- what stands behind some of them, in two parts
  pub past-traces : (a b : ℕ) → a ≤ b → overwritten first_state (puts_of (take a traces ++ take (b - a) (drop a traces))) ≡ state-to b
  past-traces a b le =
      ap (λ ts. overwritten first_state (puts_of ts))
      (ap (λ ts. take a traces ++ ts) (stretch-part a b le traces) ∙ stretch-front a b le traces ∙ ap (take b) did ∙ take-traces_from b first_state lines)
      ∙ puts-state first_state (take b lines)

  module _ (a b : ℕ) (le : a ≤ b) where
    pub stretch-did : stretch a b traces ≡ traces_from (state-to a) (stretch a b lines)
    stretch-did =
        ap (stretch a b) did ∙ ap (drop a) (take-traces_from b first_state lines) ∙ drop-traces_from a first_state (take b lines)
        ∙ ap (λ ls. traces_from (state_after first_state ls) (stretch a b lines)) (take-take a b lines le)

    -- they had the answers that stood in front of them
    pub stretch-held : AreHeld (state-to a) (stretch a b traces)
    stretch-held = subst (AreHeld (state-to a)) (sym stretch-did) (held-from (state-to a) (stretch a b lines))

    pub stretch-state : state_after (state-to a) (stretch a b lines) ≡ state-to b
    stretch-state = sym (state_after-append first_state (take a lines) (stretch a b lines)) ∙ ap (state_after first_state) (stretch-front a b le lines)

    -- nothing is made anew where nothing is changed
    pub stretch-still : (now : State) → now ≡ state-to a → replayed now a (stretch a b lines) (stretch a b traces) ≡ []
    stretch-still now is =
        (λ i. replayed (is i) a (stretch a b lines) (stretch-did i)) ∙ replayed-still (state-to a) a (stretch a b lines)

    module _ (within : b ≤ length lines) (now : State) where
      abbrev here : List (SparseItem Trace)
      here = replayed now a (stretch a b lines) (stretch a b traces)

      abbrev next : State
      next = state_after now (stretch a b lines)

      -- a stretch, and those behind it
      pub part-replayed : replayed now a (drop a lines) (drop a traces) ≡ here ++ replayed next b (drop b lines) (drop b traces)
      part-replayed =
          let long : length (stretch a b lines) ≡ b - a = stretch-long a b le lines within in
          let same : length (stretch a b lines) ≡ length (stretch a b traces) = long ∙ sym (stretch-long a b le traces (omega (arith, within, as-long))) in
          let end : a + length (stretch a b lines) ≡ b = omega (arith, long, le) in
          (λ i. replayed now a (stretch-behind a b le lines i) (stretch-behind a b le traces i))
          ∙ replayed-append now a (stretch a b lines) (drop b lines) (stretch a b traces) (drop b traces) same
          ∙ ap (λ k. here ++ replayed next k (drop b lines) (drop b traces)) end

      pub part-state : state_after now (drop a lines) ≡ state_after next (drop b lines)
      part-state = ap (state_after now) (stretch-behind a b le lines) ∙ state_after-append now (stretch a b lines) (drop b lines)

      pub part-count : length (replayed now a (drop a lines) (drop a traces)) ≡ length here + length (replayed next b (drop b lines) (drop b traces))
      part-count = ap length part-replayed ∙ length-append here (replayed next b (drop b lines) (drop b traces))

      first-of : {X : Type 0} (n : ℕ) → a + n ≡ b → (xs : List X) → take n (drop a xs) ≡ stretch a b xs
      first-of n whole xs = sym (drop-take a n xs) ∙ ap (λ k. stretch a k xs) whole

      rest-of : {X : Type 0} (n : ℕ) → a + n ≡ b → (xs : List X) → drop n (drop a xs) ≡ drop b xs
      rest-of n whole xs = drop-drop n a xs ∙ ap (λ k. drop k xs) whole

      -- how many of them are compared
      pub part-looks : (n : ℕ) (lengths : List ℕ) → a + n ≡ b → looks_over now (n ∷ lengths) (drop a lines) (drop a traces)
          ≡ (if holds (run_of (stretch a b traces)).asks now then 0 else b - a) + looks_over next lengths (drop b lines) (drop b traces)
      part-looks n lengths whole =
          let size : n ≡ b - a = omega (arith, whole) in
          λ i. (if holds (run_of (first-of n whole traces i)).asks now then 0 else size i)
          + looks_over (state_after now (first-of n whole lines i)) lengths (rest-of n whole lines i) (rest-of n whole traces i)

-- ---- chunks

module _ (cs : List Chunk) (i : ℕ) (c : Chunk) (lt : i < length cs) (is : c ≡ get_or cs i c) where
  pub lengths-next : sum (take (i + 1) (lengths_of cs)) ≡ sum (take i (lengths_of cs)) + c.lines
  lengths-next =
      ap sum (take-map (λ (d : Chunk). d.lines) (i + 1) cs ∙ ap lengths_of (take_more cs i c lt ∙ ap (λ d. take i cs ++ d ∷ []) (sym is)))
      ∙ pushed (take i cs) ∙ ap (λ ns. sum ns + c.lines) (sym (take-map (λ (d : Chunk). d.lines) i cs))
    where
      lengths-push : (ds : List Chunk) → lengths_of (ds ++ c ∷ []) ≡ lengths_of ds ++ c.lines ∷ []
      lengths-push [] = refl
      lengths-push (d ∷ ds) = ap (λ ns. d.lines ∷ ns) (lengths-push ds)

      pushed : (ds : List Chunk) → sum (lengths_of (ds ++ c ∷ [])) ≡ sum (lengths_of ds) + c.lines
      pushed ds = ap sum (lengths-push ds) ∙ sum_by_push (λ x. x) (lengths_of ds) c.lines

  pub lengths-drop : drop i (lengths_of cs) ≡ c.lines ∷ drop (i + 1) (lengths_of cs)
  lengths-drop =
      drop-map (λ (d : Chunk). d.lines) i cs ∙ ap lengths_of (drop_at cs i c lt is) ∙ ap (λ ns. c.lines ∷ ns) (sym (drop-map (λ (d : Chunk). d.lines) (i + 1) cs))

pub lengths-grow : (cs : List Chunk) (i : ℕ) → sum (take i (lengths_of cs)) ≤ sum (take (i + 1) (lengths_of cs))
lengths-grow cs i =
    let same : take i (take (i + 1) (lengths_of cs)) ≡ take i (lengths_of cs) = take-take i (i + 1) (lengths_of cs) (omega arith) in
    omega (arith, ap sum same, sum_by-take-le (λ n. n) (take (i + 1) (lengths_of cs)) i)

module _ (hashing : Hashing) where
  -- the lines of the first chunks
  pub lengths-within : (cs : List Chunk) (ts : List Trace) (i : ℕ) → AreChunksOf hashing cs ts → sum (take i (lengths_of cs)) ≤ length ts
  lengths-within cs ts i s =
      let size : sum (take i (lengths_of cs)) ≡ sum (lengths_of (take i cs)) = ap sum (take-map (λ (d : Chunk). d.lines) i cs) in
      omega (arith, size, chunks-within hashing i cs ts s)

  pub lengths-front : (cs : List Chunk) (ts : List Trace) (i n : ℕ) → n ≡ sum (take i (lengths_of cs)) → AreChunksOf hashing cs ts → AreChunksOf hashing (take i cs) (take n ts)
  lengths-front cs ts i n is s =
      let size : sum (lengths_of (take i cs)) ≡ n = sym (is ∙ ap sum (take-map (λ (d : Chunk). d.lines) i cs)) in
      subst (λ (k : ℕ). AreChunksOf hashing (take i cs) (take k ts)) size (chunks-front hashing i cs ts s)

  -- all of them
  pub lengths-all : (cs : List Chunk) (ts : List Trace) (i : ℕ) → length cs ≤ i → AreChunksOf hashing cs ts → sum (take i (lengths_of cs)) ≡ length ts
  lengths-all cs ts i past s = ap sum (take-map (λ (d : Chunk). d.lines) i cs) ∙ ap (λ ds. sum (lengths_of ds)) (take_all i cs past) ∙ sym (chunks-long hashing cs ts s)

  -- one of them
  pub chunk-at : (cs : List Chunk) (ts : List Trace) (i a b : ℕ) (c : Chunk) → i < length cs → c ≡ get_or cs i c → a ≡ sum (take i (lengths_of cs))
      → b ≡ sum (take (i + 1) (lengths_of cs)) → AreChunksOf hashing cs ts → IsChunkOf hashing (stretch a b ts) c
  chunk-at cs ts i a b c lt is from to s =
      let size : sum (lengths_of (take i cs)) ≡ a = sym (from ∙ ap sum (take-map (λ (d : Chunk). d.lines) i cs)) in
      let behind : AreChunksOf hashing (c ∷ drop (i + 1) cs) (drop a ts) =
      subst (λ (ds : List Chunk). AreChunksOf hashing ds (drop a ts)) (drop_at cs i c lt is)
      (subst (λ (k : ℕ). AreChunksOf hashing (drop i cs) (drop k ts)) size (chunks-behind hashing i cs ts s)) in
      let end : a + c.lines ≡ b = omega (arith, from, to, lengths-next cs i c lt is) in
      subst (λ (us : List Trace). IsChunkOf hashing us c) (sym (drop-take a c.lines ts) ∙ ap (λ k. stretch a k ts) end) behind.1

  -- another in its place, of the same lines
  chunk-put : (cs : List Chunk) (ts : List Trace) (i a : ℕ) (c d : Chunk) → i < length cs → c ≡ get_or cs i c → d.lines ≡ c.lines → a ≡ sum (take i (lengths_of cs))
      → IsChunkOf hashing (take c.lines (drop a ts)) d → AreChunksOf hashing cs ts → AreChunksOf hashing (set cs i d) ts
  chunk-put [] ts i a c d lt is same from here s = absurd (omega (arith, lt))
  chunk-put (e ∷ cs) ts zero a c d lt is same from here s =
      let lines : d.lines ≡ e.lines = same ∙ ap (λ (x : Chunk). x.lines) is in (
        omega (arith, lines, s.0),
        subst (λ (k : ℕ). IsChunkOf hashing (take k ts) d) (sym same) (subst (λ (k : ℕ). IsChunkOf hashing (take c.lines (drop k ts)) d) from here),
        subst (λ (k : ℕ). AreChunksOf hashing cs (drop k ts)) (sym lines) s.2,
      )
  chunk-put (e ∷ cs) ts (suc i) a c d lt is same from here s =
      let n : ℕ = sum (take i (lengths_of cs)) in
      let size : sum (take (suc i) (lengths_of (e ∷ cs))) ≡ e.lines + n = sum_by-cons (λ x. x) e.lines (take i (lengths_of cs)) in
      let back : drop a ts ≡ drop n (drop e.lines ts) = ap (λ k. drop k ts) (from ∙ size) ∙ sym (drop-drop n e.lines ts) in (
        s.0,
        s.1,
        chunk-put cs (drop e.lines ts) i n c d (omega (arith, lt)) is same refl (subst (λ (us : List Trace). IsChunkOf hashing (take c.lines us) d) back here) s.2,
      )

  pub chunk-set : (cs : List Chunk) (ts part : List Trace) (i a b : ℕ) (c d : Chunk) → i < length cs → c ≡ get_or cs i c → d.lines ≡ c.lines → a ≡ sum (take i (lengths_of cs))
      → b ≡ sum (take (i + 1) (lengths_of cs)) → part ≡ stretch a b ts → IsChunkOf hashing part d → AreChunksOf hashing cs ts → AreChunksOf hashing (set cs i d) ts
  chunk-set cs ts part i a b c d lt is same from to whole here s =
      let end : b ≡ a + c.lines = omega (arith, from, to, lengths-next cs i c lt is) in
      let lines : part ≡ take c.lines (drop a ts) = whole ∙ ap (λ k. stretch a k ts) end ∙ drop-take a c.lines ts in
      chunk-put cs ts i a c d lt is same from (subst (λ (us : List Trace). IsChunkOf hashing us d) lines here) s

  pub lengths-set : (cs : List Chunk) (i : ℕ) (c d : Chunk) → i < length cs → c ≡ get_or cs i c → d.lines ≡ c.lines → lengths_of (set cs i d) ≡ lengths_of cs
  lengths-set [] i c d lt is same = refl
  lengths-set (e ∷ cs) zero c d lt is same = ap (λ n. n ∷ lengths_of cs) (same ∙ ap (λ (x : Chunk). x.lines) is)
  lengths-set (e ∷ cs) (suc i) c d lt is same = ap (λ ns. e.lines ∷ ns) (lengths-set cs i c d (omega (arith, lt)) is same)

-- the same of chunks of the same lines
pub same-long : (cs ds : List Chunk) → lengths_of ds ≡ lengths_of cs → length ds ≡ length cs
same-long cs ds same =
    sym (length-map ds (λ (d : Chunk). d.lines)) ∙ ap length same ∙ length-map cs (λ (d : Chunk). d.lines)

pub stands-same : (cs ds : List Chunk) (cursor : Cursor) → lengths_of ds ≡ lengths_of cs → StandsAt cs cursor → StandsAt ds cursor
stands-same cs ds cursor same stands = record {
  within = omega (arith, stands.within, same-long cs ds same);
  line = stands.line ∙ ap (λ ns. sum (take cursor.chunk ns)) (sym same);
}
