-- What stands in front of a line, sought from the last line on.
use Rattle.std.proofs.Common.{◌≡◌, ℕ, ◌-◌, refl, sym, ap, subst, ◌∙◌, Bool, true, false, List, [], ◌∷◌, ◌++◌, length, take, drop, reverse, append-nil, Option, Some, None}
use Rattle.std.specs.Prelude.{if◌then◌else◌}
use Rattle.std.specs.Option.{option_or}
use Rattle.std.proofs.lemmas.Grind.{flat_map-append}
use Rattle.std.proofs.lemmas.List.{take-append-drop, reverse-append, reverse-reverse}
use Rattle.cps_state.specs.declared.hashing.Hashing.{Hashing}
use Rattle.cps_state.specs.declared.key.Key.{Key}
use Rattle.cps_state.specs.declared.key.Answer.{Answer}
use Rattle.cps_state.specs.declared.key.Put.{Put}
use Rattle.cps_state.specs.contracts.key.KeyPartialEq.TheImpl.{eq-value}
use Rattle.cps_state.specs.Course.{Trace, last_put}
use Rattle.cps_state.specs.Keys.{State, same_key, first_state, overwritten}
use Rattle.cps_state.proofs.KnownLemmas.{same_key_is, last_put-push}
use Rattle.cps_final.specs.Layout.{puts_of}
use Rattle.cps_final.proofs.PutLemmas.{overwritten-last}
use Rattle.cps_chunk.specs.declared.chunk.Chunk.{Chunk}
use Rattle.cps_chunk.specs.declared.state_before.StateBefore.{StateBefore}
use Rattle.cps_chunk.specs.KeyFilter.{mark_of, has}
use Rattle.cps_chunk.specs.Code.Chunk.{IsChunkOf, AreChunksOf}
use Rattle.cps_chunk.specs.Code.StateBefore.{sought_from, sought, found}
use Rattle.cps_chunk.proofs.AbsentLemmas.{not-put}
use Rattle.cps_chunk.proofs.ChunkLemmas.{chunks-last}

-- ---- the last put of several

or-none : (o : Option Answer) → o ≡ option_or o None
or-none (Some a) = refl
or-none None = refl

or-three : (a b c : Option Answer) → option_or (option_or a b) c ≡ option_or a (option_or b c)
or-three (Some x) b c = refl
or-three None b c = refl

pub last_put-append : (ps qs : List Put) (k : Key) → last_put (ps ++ qs) k ≡ option_or (last_put qs k) (last_put ps k)
last_put-append [] qs k = or-none (last_put qs k)
last_put-append (p ∷ ps) qs k =
    let here : Option Answer = if same_key p.key k then Some p.answer else None in
    ap (λ o. option_or o here) (last_put-append ps qs k) ∙ or-three (last_put qs k) (last_put ps k) here

-- of lines, and lines behind them
pub last_put-lines : (ts us : List Trace) (k : Key) → last_put (puts_of (ts ++ us)) k ≡ option_or (last_put (puts_of us) k) (last_put (puts_of ts) k)
last_put-lines ts us k = ap (λ ps. last_put ps k) (flat_map-append (λ (t : Trace). t.puts) ts us) ∙ last_put-append (puts_of ts) (puts_of us) k

-- ---- one put further to the front

pub put-found : (rest next : List Put) (p : Put) (k : Key) (last : Option Answer) → rest ≡ next ++ p ∷ [] → eq-value.it p.key k ≡ true → last_put rest k ≡ last → Some p.answer ≡ last
put-found rest next p k last steps same was =
    sym (ap (λ ps. last_put ps k) steps ∙ last_put-push next p k ∙ ap (λ b. if b then Some p.answer else last_put next k) (sym (same_key_is p.key k) ∙ same)) ∙ was

pub put-passed : (rest next : List Put) (p : Put) (k : Key) (last : Option Answer) → rest ≡ next ++ p ∷ [] → eq-value.it p.key k ≡ false → last_put rest k ≡ last → last_put next k ≡ last
put-passed rest next p k last steps other was =
    sym (ap (λ ps. last_put ps k) steps ∙ last_put-push next p k ∙ ap (λ b. if b then Some p.answer else last_put next k) (sym (same_key_is p.key k) ∙ other)) ∙ was

-- ---- one line further to the front

line-last : (rest next : List Trace) (t : Trace) (k : Key) → rest ≡ next ++ t ∷ [] → last_put (puts_of rest) k ≡ option_or (last_put t.puts k) (last_put (puts_of next) k)
line-last rest next t k steps =
    ap (λ ts. last_put (puts_of ts) k) steps ∙ last_put-lines next (t ∷ []) k ∙ ap (λ ps. option_or (last_put ps k) (last_put (puts_of next) k)) (append-nil t.puts)

pub line-found : (rest next : List Trace) (t : Trace) (k : Key) (a : Answer) (last : Option Answer) → rest ≡ next ++ t ∷ [] → Some a ≡ last_put t.puts k → last_put (puts_of rest) k ≡ last → Some a ≡ last
line-found rest next t k a last steps here was = sym (line-last rest next t k steps ∙ ap (λ o. option_or o (last_put (puts_of next) k)) (sym here)) ∙ was

pub line-passed : (rest next : List Trace) (t : Trace) (k : Key) (last : Option Answer) → rest ≡ next ++ t ∷ [] → None ≡ last_put t.puts k → last_put (puts_of rest) k ≡ last → last_put (puts_of next) k ≡ last
line-passed rest next t k last steps here was = sym (line-last rest next t k steps ∙ ap (λ o. option_or o (last_put (puts_of next) k)) (sym here)) ∙ was

-- ---- one chunk further to the front

-- what its lines put, if it has the mark
abbrev sought_in : Hashing → Chunk → List Trace → Key → Option Answer
sought_in hashing c ts k = if has c.puts (mark_of hashing k) then last_put (puts_of (drop (length ts - c.lines) ts)) k else None

module _ (hashing : Hashing) (k : Key) where
  -- a chunk that has no mark has no put
  in-chunk : (c : Chunk) (here : List Trace) → IsChunkOf hashing here c → (marked : Bool) → has c.puts (mark_of hashing k) ≡ marked
      → (if marked then last_put (puts_of here) k else None) ≡ last_put (puts_of here) k
  in-chunk c here is true marked = refl
  in-chunk c here is false marked = sym (not-put hashing c.puts k marked here is.puts)

  sought-back : (back : List Chunk) (ts : List Trace) → AreChunksOf hashing (reverse back) ts → sought_from hashing back ts k ≡ last_put (puts_of ts) k
  sought-back [] ts s = sym (ap (λ us. last_put (puts_of us) k) s)
  sought-back (c ∷ before) ts s =
      let start : ℕ = length ts - c.lines in
      let ends = chunks-last hashing (reverse before) c ts (subst (λ (cs : List Chunk). AreChunksOf hashing cs ts) (reverse-append (c ∷ []) before) s) in
      let here : sought_in hashing c ts k ≡ last_put (puts_of (drop start ts)) k = in-chunk c (drop start ts) ends.last (has c.puts (mark_of hashing k)) refl in
      let front : sought_from hashing before (take start ts) k ≡ last_put (puts_of (take start ts)) k = sought-back before (take start ts) ends.front in
      (λ i. option_or (here i) (front i)) ∙ sym (last_put-lines (take start ts) (drop start ts) k) ∙ ap (λ us. last_put (puts_of us) k) (take-append-drop start ts)

  -- what is found in chunks is what their lines put last
  pub sought-is : (cs : List Chunk) (ts : List Trace) → AreChunksOf hashing cs ts → sought hashing cs ts k ≡ last_put (puts_of ts) k
  sought-is cs ts s = sought-back (reverse cs) ts (subst (λ (ds : List Chunk). AreChunksOf hashing ds ts) (sym (reverse-reverse cs)) s)

-- what is found is what stands behind all lines
pub found-is : (first : State) (past : StateBefore) → AreChunksOf past.hashing past.chunks.now past.front.now → found first past ≡ overwritten first (puts_of (past.front.now ++ past.loose.now))
found-is first past s i k =
    (ap (λ o. option_or (last_put (puts_of past.loose.now) k) (option_or o (first k))) (sought-is past.hashing k past.chunks.now past.front.now s)
    ∙ sym (or-three (last_put (puts_of past.loose.now) k) (last_put (puts_of past.front.now) k) (first k))
    ∙ ap (λ o. option_or o (first k)) (sym (last_put-lines past.front.now past.loose.now k))
    ∙ sym (overwritten-last first (puts_of (past.front.now ++ past.loose.now)) k)) i

pub found-first : (past : StateBefore) (first : State) → first ≡ first_state → AreChunksOf past.hashing past.chunks.now past.front.now
    → found first past ≡ overwritten first_state (puts_of (past.front.now ++ past.loose.now))
found-first past first is s = ap (λ f. found f past) is ∙ found-is first_state past s
