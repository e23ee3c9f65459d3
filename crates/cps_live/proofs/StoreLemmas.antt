-- Where blocks and literals stand behind chunks, one after another.
use Rattle.std.proofs.Common.{arith, ◌≡◌, ℕ, ◌+◌, ◌≤◌, refl, sym, ap, subst, ◌∙◌, List, [], ◌++◌, append_assoc, length, take, drop}
use Rattle.std.specs.Prelude.{IfOk, Result, Ok, Err, sum}
use Rattle.std.proofs.lemmas.List.{drop_all, length-map, length-take, take_all}
use Rattle.cps_state.specs.Course.{Trace}
use Rattle.cps_final.specs.declared.storage.Storage.{Storage}
use Rattle.cps_chunk.specs.declared.chunk.Chunk.{Chunk}
use Rattle.cps_chunk.specs.Code.Chunk.{AreChunksOf, lengths_of}
use Rattle.cps_chunk.specs.declared.walk.Baseline.{Baseline}
use Rattle.cps_chunk.proofs.ChunkLemmas.{chunks-long}
use Rattle.cps_chunk.specs.declared.sparse.SparseItem.{SparseItem}
use Rattle.cps_chunk.specs.declared.put.ChunkSplice.{ChunkSplice}
use Rattle.cps_chunk.specs.Sparse.{renewed, AreWithin}
use Rattle.cps_chunk.specs.Code.Looks.{items_before, items_from}
use Rattle.cps_chunk.specs.Code.Storing.{StoresAlso}
use Rattle.cps_chunk.specs.Code.Walk.{stretch}
use Rattle.cps_chunk.proofs.SparseLemmas.{AreWithin-append, renewed-append, renewed-drop_behind, renewed-drop_front, renewed-none}
use Rattle.cps_chunk.proofs.StoringLemmas.{also-more, also-none}
use Rattle.cps_chunk.proofs.WalkLemmas.{stretch-all, stretch-long}
use Rattle.cps_live.specs.declared.news.News.{News}
use Rattle.cps_live.specs.declared.storage.RenewedRun.{RenewedRun}
use Rattle.cps_live.specs.Code.StillChunks.{AreAllChunks, AreStillChunks, done_in, renewed_in}
use Rattle.cps_live.specs.Code.Storing.{edited}
use Rattle.cps_live.proofs.StretchLemmas.{before-from, before-within, from-within, stretch-join}

-- lines from one on up to another were stored, with what is new of them; this is left of what is new
pub record StoresOn (first next : Storage) (ts : List Trace) (start at end : ℕ) (news left : List (SparseItem Trace)) : Type 0 where
  pub done : List (SparseItem Trace)
  pub whole : done ++ left ≡ news
  pub before : AreWithin start at done
  pub within : AreWithin at end left
  pub stores : StoresAlso first next (renewed start news (stretch start at ts))

module _ (first : Storage) (ts : List Trace) (start end : ℕ) (news : List (SparseItem Trace)) where
  pub on-none : AreWithin start end news → StoresOn first first ts start start end news news
  on-none within =
      let none : stretch start start ts ≡ [] = drop_all start (take start ts) (omega (arith, length-take start ts)) in
      record {
        done = [];
        whole = refl;
        before = omega arith;
        within = within;
        stores = subst (λ (us : List Trace). StoresAlso first first (renewed start news us)) (sym none) (also-none first);
      }

  -- those up to a place more
  pub on-next : (next last : Storage) (at m : ℕ) (left here rest : List (SparseItem Trace)) → start ≤ at → at ≤ m → m ≤ end → end ≤ length ts
      → here ≡ items_before m left → rest ≡ items_from m left → StoresOn first next ts start at end news left
      → StoresAlso next last (renewed at here (stretch at m ts)) → StoresOn first last ts start m end news rest
  on-next next last at m left here rest one two three long front back on more =
      let split : here ++ rest ≡ left = (λ i. front i ++ back i) ∙ before-from m left in
      let inside : AreWithin at m here = subst (λ (ns : List (SparseItem Trace)). AreWithin at m ns) (sym front) (before-within m at end left two on.within) in
      let outside : AreWithin m end rest = subst (λ (ns : List (SparseItem Trace)). AreWithin m end ns) (sym back) (from-within m at end left three on.within) in
      let fits : at + length (stretch at m ts) ≤ m = omega (arith, stretch-long at m two ts (omega (arith, three, long)), two) in
      let size : start + length (stretch start at ts) ≡ at = omega (arith, stretch-long start at one ts (omega (arith, two, three, long)), one) in
      let same : renewed at news (stretch at m ts) ≡ renewed at here (stretch at m ts) =
      ap (λ ns. renewed at ns (stretch at m ts)) (sym on.whole ∙ ap (λ ns. on.done ++ ns) (sym split))
      ∙ renewed-drop_front start at at on.done (here ++ rest) (stretch at m ts) on.before (omega arith)
      ∙ renewed-drop_behind m end at here rest (stretch at m ts) outside fits in
      let all : renewed start news (stretch start at ts) ++ renewed at here (stretch at m ts) ≡ renewed start news (stretch start m ts) =
      ap (λ us. renewed start news (stretch start at ts) ++ us) (sym same) ∙ ap (λ k. renewed start news (stretch start at ts) ++ renewed k news (stretch at m ts)) (sym size)
      ∙ sym (renewed-append start news (stretch start at ts) (stretch at m ts)) ∙ ap (renewed start news) (sym (stretch-join ts start at m one two)) in
      record {
        done = on.done ++ here;
        whole = append_assoc on.done here rest ∙ ap (λ ns. on.done ++ ns) split ∙ on.whole;
        before = AreWithin-append start at m on.done here on.before inside;
        within = outside;
        stores = subst (StoresAlso first last) all (also-more first next last (renewed start news (stretch start at ts)) (renewed at here (stretch at m ts)) on.stores more);
      }

  -- all of them
  pub on-all : (next : Storage) (at : ℕ) (left : List (SparseItem Trace)) → at ≡ end → StoresOn first next ts start at end news left
      → StoresAlso first next (renewed start news (stretch start end ts))
  on-all next at left is on = subst (λ (k : ℕ). StoresAlso first next (renewed start news (stretch start k ts))) is on.stores

-- the lengths of all chunks
pub all-taken : (cs ds : List Chunk) → lengths_of ds ≡ lengths_of cs → (i : ℕ) → length ds ≤ i → take i (lengths_of cs) ≡ lengths_of cs
all-taken cs ds same i past = take_all i (lengths_of cs) (omega (arith, past, ap length same, length-map ds (λ (d : Chunk). d.lines)))

pub if_ok : {T E : Type 0} {P Q : T → Type 0} (r : Result T E) → ((x : T) → P x → Q x) → IfOk r P → IfOk r Q
if_ok (Ok x) f h = f x h
if_ok (Err e) f h = tt

-- all lines behind an edit, part by part
pub parts-stored : (cut : ChunkSplice) (news : News Trace) (olds es : List Trace) (here left : List (SparseItem Trace)) → cut.before ≤ cut.keep → cut.keep ≤ cut.from → cut.from ≤ cut.behind
    → cut.behind ≤ length olds → AreWithin cut.from (length olds) news.renewed.items → here ≡ items_before cut.behind news.renewed.items → left ≡ items_from cut.behind news.renewed.items
    → es ≡ news.entered.items
    → (((renewed 0 [] (stretch 0 cut.before olds) ++ stretch cut.before cut.keep olds) ++ es) ++ renewed cut.from here (stretch cut.from cut.behind olds))
    ++ renewed cut.behind left (stretch cut.behind (length olds) olds)
    ≡ edited cut news olds
parts-stored cut news olds es here left one two three four within front back is =
    let front_lines : renewed 0 [] (stretch 0 cut.before olds) ++ stretch cut.before cut.keep olds ≡ take cut.keep olds =
    ap (λ us. us ++ stretch cut.before cut.keep olds) (renewed-none 0 (stretch 0 cut.before olds)) ∙ sym (stretch-join olds 0 cut.before cut.keep (omega arith) one) in
    let split : here ++ left ≡ news.renewed.items = (λ i. front i ++ back i) ∙ before-from cut.behind news.renewed.items in
    let inside : AreWithin cut.from cut.behind here =
    subst (λ (ns : List (SparseItem Trace)). AreWithin cut.from cut.behind ns) (sym front) (before-within cut.behind cut.from (length olds) news.renewed.items three within) in
    let outside : AreWithin cut.behind (length olds) left =
    subst (λ (ns : List (SparseItem Trace)). AreWithin cut.behind (length olds) ns) (sym back) (from-within cut.behind cut.from (length olds) news.renewed.items four within) in
    let loose : List Trace = stretch cut.from cut.behind olds in
    let last : List Trace = stretch cut.behind (length olds) olds in
    let size : cut.from + length loose ≡ cut.behind = omega (arith, stretch-long cut.from cut.behind three olds four, three) in
    let behind : renewed cut.from here loose ++ renewed cut.behind left last ≡ renewed cut.from news.renewed.items (drop cut.from olds) =
    (λ i. sym (renewed-drop_behind cut.behind (length olds) cut.from here left loose outside (omega (arith, size))) i
    ++ sym (renewed-drop_front cut.from cut.behind cut.behind here left last inside (omega arith)) i)
    ∙ ap (λ k. renewed cut.from (here ++ left) loose ++ renewed k (here ++ left) last) (sym size) ∙ sym (renewed-append cut.from (here ++ left) loose last)
    ∙ (λ i. renewed cut.from (split i) ((sym (stretch-join olds cut.from cut.behind (length olds) three four) ∙ stretch-all cut.from olds) i)) in
    append_assoc (renewed 0 [] (stretch 0 cut.before olds) ++ stretch cut.before cut.keep olds ++ es) (renewed cut.from here loose) (renewed cut.behind left last)
    ∙ append_assoc (renewed 0 [] (stretch 0 cut.before olds) ++ stretch cut.before cut.keep olds) es (renewed cut.from here loose ++ renewed cut.behind left last)
    ∙ (λ i. front_lines i ++ (is i ++ behind i))

-- ---- chunks of all lines, gone over by runs

pub all-stand : (base : Baseline) (cs : List Chunk) → AreAllChunks base cs → length base.traces.now ≡ sum (lengths_of cs)
all-stand base cs all = chunks-long base.hashing cs base.traces.now all.chunks

whole-stretch : (base : Baseline) (cs : List Chunk) → AreAllChunks base cs → stretch 0 (0 + sum (lengths_of cs)) base.traces.now ≡ base.traces.now
whole-stretch base cs all = take_all (0 + sum (lengths_of cs)) base.traces.now (omega (arith, all-stand base cs all))

pub all-stretch-of : (base : Baseline) (cs : List Chunk) → AreAllChunks base cs → AreChunksOf base.hashing cs (stretch 0 (0 + sum (lengths_of cs)) base.traces.now)
all-stretch-of base cs all = subst (λ (ts : List Trace). AreChunksOf base.hashing cs ts) (sym (whole-stretch base cs all)) all.chunks

pub still-all : (base : Baseline) (cs ds : List Chunk) → AreAllChunks base cs → AreStillChunks base 0 cs ds → AreAllChunks base ds
still-all base cs ds all still = record {
  few = all.few;
  chunks = subst (λ (ts : List Trace). AreChunksOf base.hashing ds ts) (whole-stretch base cs all) still.chunks;
}

pub still-none : (base : Baseline) (cs : List Chunk) → AreAllChunks base cs → AreStillChunks base 0 cs cs
still-none base cs all = record { chunks = all-stretch-of base cs all; lengths = refl }

pub still-more : (base : Baseline) (cs ds es : List Chunk) → AreStillChunks base 0 cs ds → AreStillChunks base 0 ds es → AreStillChunks base 0 cs es
still-more base cs ds es one two = record {
  chunks = subst (λ (ns : List ℕ). AreChunksOf base.hashing es (stretch 0 (0 + sum ns) base.traces.now)) one.lengths two.chunks;
  lengths = two.lengths ∙ one.lengths;
}

-- ---- what a run of lines does

pub done-here : (base : Baseline) (run : RenewedRun) (at lines : ℕ) → run.from ≡ at → run.to ≡ at + lines → renewed_in base at lines run.news.now ≡ done_in base run
done-here base run at lines from to = λ i. renewed (sym from i) run.news.now (stretch (sym from i) (sym to i) base.traces.now)

pub done-none : (base : Baseline) (run : RenewedRun) → run.from ≡ run.to → [] ≡ done_in base run
done-none base run same =
    let none : stretch run.from run.to base.traces.now ≡ [] = drop_all run.from (take run.to base.traces.now) (omega (arith, length-take run.to base.traces.now, same)) in
    sym (ap (renewed run.from run.news.now) none)
