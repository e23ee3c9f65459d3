-- Old chunks, one after another, in the places that their lines have now.
use Rattle.std.proofs.Common.{arith, ◌≡◌, ℕ, zero, suc, ◌+◌, ◌<◌, ◌≤◌, refl, sym, ap, subst, ◌∙◌, List, [], ◌∷◌, ◌++◌, append_assoc, append-nil, length, get_or, take, drop, Option, None, Some}
use Rattle.std.specs.Prelude.{sum, IfSome}
use Rattle.std.proofs.lemmas.List.{length-map, length-take-le, take-map, drop-map, drop-drop, drop_more, map-append, map_more}
use Rattle.std.proofs.lemmas.List.Sums.{sum_by-cons}
use Rattle.cps_state.specs.declared.hashing.Hashing.{Hashing}
use Rattle.cps_state.specs.Course.{Trace}
use Rattle.cps_edit.specs.declared.exchange.Exchange.{Exchange}
use Rattle.cps_edit.specs.Exchange.{IsWithin, exchanged}
use Rattle.cps_edit.specs.Numbers.{picked, exchanged_numbers}
use Rattle.cps_edit.proofs.NumberLemmas.{exchanged-picks}
use Rattle.cps_chunk.specs.declared.exchange.RecutChunk.{RecutChunk}
use Rattle.cps_chunk.specs.Exchange.{numbers_of}
use Rattle.cps_chunk.specs.Code.Pieces.{AreNamed, ArePieces, lines_of}
use Rattle.cps_chunk.specs.declared.chunk.Chunk.{Chunk}
use Rattle.cps_chunk.specs.Code.Chunk.{IsChunkOf, AreChunksOf, lengths_of}
use Rattle.cps_chunk.proofs.ChunkLemmas.{chunks-long}
use Rattle.cps_chunk.specs.Code.MovedChunks.{AreMoved, IsOldOf, StayBut}
use Rattle.cps_chunk.proofs.NamedOnceLemmas.{AreDistinct, NoneNames, distinct-drop, distinct-exchanged, others-named}

-- ---- old chunks that are still there

-- the old chunks that pieces name are there, each is one of the lines of its piece, and none is named twice
abbrev pub AreThere : Hashing → List Chunk → List RecutChunk → List Trace → Type 0
AreThere hashing olds [] traces = traces ≡ []
AreThere hashing olds (piece ∷ pieces) traces =
    (piece.lines ≤ length traces)
    × IfSome piece.old (IsOldOf hashing olds (take piece.lines traces))
    × NoneNames piece.old pieces
    × AreThere hashing olds pieces (drop piece.lines traces)

module _ (hashing : Hashing) where
  module _ (olds news : List Chunk) (named : Option ℕ) (stay : StayBut named olds news) where
    still-old : (old : Option ℕ) (ts : List Trace) → ((i : ℕ) → named ≡ Some i → old ≡ Some i → ⊥) → IfSome old (IsOldOf hashing olds ts) → IfSome old (IsOldOf hashing news ts)
    still-old None ts other is = tt
    still-old (Some i) ts other is = record {
      within = omega (arith, stay.count, is.within);
      chunk = λ d. subst (IsChunkOf hashing ts) (sym (stay.others i d (λ same. other i same refl))) (is.chunk d);
    }

    -- one is gone that no other piece names
    pub still-there : (ps : List RecutChunk) (ts : List Trace) → NoneNames named ps → AreThere hashing olds ps ts → AreThere hashing news ps ts
    still-there [] ts none there = there
    still-there (p ∷ ps) ts none there =
        (there.0, still-old p.old (take p.lines ts) none.0 there.1, there.2, still-there ps (drop p.lines ts) none.1 there.3)

-- ---- where lines have changed places

sum-first : (n : ℕ) (ns : List ℕ) → sum (n ∷ ns) ≡ n + sum ns
sum-first n ns = sum_by-cons (λ x. x) n ns

within-sum : (ns : List ℕ) (i : ℕ) → i < length ns → sum (take i ns) + get_or ns i 0 ≤ sum ns
within-sum [] i lt = absurd (omega (arith, lt))
within-sum (n ∷ ns) zero lt = omega (arith, sum-first n ns)
within-sum (n ∷ ns) (suc i) lt = omega (arith, sum-first n ns, sum-first n (take i ns), within-sum ns i (omega (arith, lt)))

module _ (hashing : Hashing) where
  -- an old chunk is one of its lines
  chunk-at : (cs : List Chunk) (ts : List Trace) (i : ℕ) (other : Chunk) → i < length (lengths_of cs) → AreChunksOf hashing cs ts
      → IsChunkOf hashing (take (get_or (lengths_of cs) i 0) (drop (sum (take i (lengths_of cs))) ts)) (get_or cs i other)
  chunk-at [] ts i other lt are = absurd (omega (arith, lt))
  chunk-at (c ∷ cs) ts zero other lt are = are.1
  chunk-at (c ∷ cs) ts (suc i) other lt are =
      let place : drop (sum (take i (lengths_of cs))) (drop c.lines ts) ≡ drop (sum (c.lines ∷ take i (lengths_of cs))) ts =
      drop-drop (sum (take i (lengths_of cs))) c.lines ts ∙ ap (λ k. drop k ts) (sym (sum-first c.lines (take i (lengths_of cs)))) in
      subst (λ (us : List Trace). IsChunkOf hashing (take (get_or (lengths_of cs) i 0) us) (get_or cs i other)) place
      (chunk-at cs (drop c.lines ts) i other (omega (arith, lt)) are.2)

  module _ (olds : List Chunk) (ts : List Trace) (t : Trace) (are : AreChunksOf hashing olds ts) where
    -- the lines of a piece that is an old chunk are those of that chunk
    run-of : (ms : List ℕ) (lines i : ℕ) → i < length (lengths_of olds) → take lines ms ≡ numbers_of i (lengths_of olds)
        → take lines (picked ts t ms) ≡ take (get_or (lengths_of olds) i 0) (drop (sum (take i (lengths_of olds))) ts)
    run-of ms lines i lt same =
        take-map (λ k. get_or ts k t) lines ms ∙ ap (picked ts t) same
        ∙ (exchanged-picks ts t).1 (sum (take i (lengths_of olds))) (get_or (lengths_of olds) i 0) (omega (arith, chunks-long hashing olds ts are, within-sum (lengths_of olds) i lt))

    old-of : (old : Option ℕ) (ms : List ℕ) (lines : ℕ) → AreNamed (lengths_of olds) old (take lines ms) → IfSome old (IsOldOf hashing olds (take lines (picked ts t ms)))
    old-of None ms lines named = tt
    old-of (Some i) ms lines named = record {
      within = omega (arith, named.0, length-map olds (λ (c : Chunk). c.lines));
      chunk = λ other. subst (λ (us : List Trace). IsChunkOf hashing us (get_or olds i other)) (sym (run-of ms lines i named.0 named.1)) (chunk-at olds ts i other named.0 are);
    }

    there-picked : (ps : List RecutChunk) (ms : List ℕ) → ArePieces (lengths_of olds) ps ms → AreDistinct ms → AreThere hashing olds ps (picked ts t ms)
    there-picked [] ms named distinct = ap (picked ts t) named
    there-picked (p ∷ ps) ms named distinct = (
      omega (arith, named.1, length-map ms (λ k. get_or ts k t)),
      old-of p.old ms p.lines named.2,
      others-named (lengths_of olds) p ps ms named distinct,
      subst (λ (us : List Trace). AreThere hashing olds ps us) (sym (drop-map (λ k. get_or ts k t) p.lines ms))
          (there-picked ps (drop p.lines ms) named.3 (distinct-drop p.lines ms distinct)),
    )

-- what a line does that does nothing
no-trace : Trace
no-trace = record { asks = []; puts = []; items = []; reads = [] }

pub all-there : (hashing : Hashing) (olds : List Chunk) (ps : List RecutChunk) (ts : List Trace) → AreMoved hashing olds ps ts → AreThere hashing olds ps ts
all-there hashing olds ps ts m =
    let count : ℕ = length m.before in
    subst (λ (us : List Trace). AreThere hashing olds ps us) (sym (m.moved ∙ (exchanged-picks m.before no-trace).0 m.exchange m.within))
    (there-picked hashing olds m.before no-trace m.chunks ps (exchanged_numbers count m.exchange) m.named (distinct-exchanged count m.exchange m.within))

-- so stand the chunks that are kept of a source, and the pieces that an exchange makes of them
pub are-moved : (hashing : Hashing) (olds : List Chunk) (ps : List RecutChunk) (ts us : List Trace) (e : Exchange) → AreChunksOf hashing olds ts → IsWithin (length ts) e
    → ArePieces (lengths_of olds) ps (exchanged_numbers (sum (lengths_of olds)) e) → us ≡ exchanged e ts → AreMoved hashing olds ps us
are-moved hashing olds ps ts us e are within named moved = record {
  before = ts;
  exchange = e;
  within = within;
  chunks = are;
  moved = moved;
  named = subst (λ (n : ℕ). ArePieces (lengths_of olds) ps (exchanged_numbers n e)) (sym (chunks-long hashing olds ts are)) named;
}

-- ---- piece by piece

-- chunks stand in front of those of the lines that are left
abbrev pub StandBefore : Hashing → List Chunk → List Trace → List Trace → Type 0
StandBefore hashing front left ts = (ds : List Chunk) → AreChunksOf hashing ds left → AreChunksOf hashing (front ++ ds) ts

-- what stands for a piece where there is none
abbrev pub no_piece : RecutChunk
no_piece = record { lines = 0; old = None }

module _ (hashing : Hashing) (olds : List Chunk) (ps : List RecutChunk) (i : ℕ) (lt : i < length ps) (left : List Trace) (there : AreThere hashing olds (drop i ps) left) where
  -- the next piece
  pub next-there : AreThere hashing olds (get_or ps i no_piece ∷ drop (i + 1) ps) left
  next-there = subst (λ (qs : List RecutChunk). AreThere hashing olds qs left) (drop_more ps i no_piece lt) there

  module _ (here behind : List Trace) (front : here ≡ take (RecutChunk.lines (get_or ps i no_piece)) left) (back : behind ≡ drop (RecutChunk.lines (get_or ps i no_piece)) left) where
    pub next-old : IfSome (RecutChunk.old (get_or ps i no_piece)) (IsOldOf hashing olds here)
    next-old = subst (λ (us : List Trace). IfSome (RecutChunk.old (get_or ps i no_piece)) (IsOldOf hashing olds us)) (sym front) next-there.1

    pub left-there : (news : List Chunk) → StayBut (RecutChunk.old (get_or ps i no_piece)) olds news → AreThere hashing news (drop (i + 1) ps) behind
    left-there news stay =
        subst (λ (us : List Trace). AreThere hashing news (drop (i + 1) ps) us) (sym back)
        (still-there hashing olds news (RecutChunk.old (get_or ps i no_piece)) stay (drop (i + 1) ps) (drop (RecutChunk.lines (get_or ps i no_piece)) left) next-there.2 next-there.3)

    module _ (c : Chunk) (is : IsChunkOf hashing here c) where
      next-long : c.lines ≡ RecutChunk.lines (get_or ps i no_piece)
      next-long = sym is.lines ∙ ap length front ∙ length-take-le (RecutChunk.lines (get_or ps i no_piece)) left next-there.0

      pub next-before : (cs : List Chunk) (ts : List Trace) → StandBefore hashing cs left ts → StandBefore hashing (cs ++ c ∷ []) behind ts
      next-before cs ts before = λ ds are.
          let whole : AreChunksOf hashing (c ∷ ds) left = (
            omega (arith, next-long, next-there.0),
            subst (λ (us : List Trace). IsChunkOf hashing us c) (front ∙ ap (λ k. take k left) (sym next-long)) is,
            subst (λ (us : List Trace). AreChunksOf hashing ds us) (back ∙ ap (λ k. drop k left) (sym next-long)) are,
          ) in
          subst (λ (es : List Chunk). AreChunksOf hashing es ts) (sym (append_assoc cs (c ∷ []) ds)) (before (c ∷ ds) whole)

      pub next-lengths : (cs : List Chunk) → lengths_of cs ≡ lines_of (take i ps) → lengths_of (cs ++ c ∷ []) ≡ lines_of (take (i + 1) ps)
      next-lengths cs so_far =
          map-append (λ (d : Chunk). d.lines) cs (c ∷ []) ∙ (λ j. so_far j ++ next-long j ∷ []) ∙ sym (map_more (λ (p : RecutChunk). p.lines) ps i no_piece lt)

-- no piece is left
pub all-before : (hashing : Hashing) (cs olds : List Chunk) (ps : List RecutChunk) (left ts : List Trace) → ps ≡ [] → AreThere hashing olds ps left → StandBefore hashing cs left ts
    → AreChunksOf hashing cs ts
all-before hashing cs olds ps left ts none there before =
    let nothing : left ≡ [] = subst (λ (qs : List RecutChunk). AreThere hashing olds qs left) none there in
    subst (λ (ds : List Chunk). AreChunksOf hashing ds ts) (append-nil cs) (before [] nothing)
