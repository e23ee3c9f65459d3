-- Where blocks and literals stand behind an edit, by what its lines leave.
use Rattle.std.proofs.Common.{◌≡◌, ℕ, ◌+◌, ◌-◌, ◌<◌, ◌≤◌, refl, sym, ap, subst, ◌∙◌, List, [], ◌∷◌, ◌++◌, append-nil, append_assoc, zero-add, length, get_or, take, drop, arith}
use Rattle.std.proofs.lemmas.List.{take_all, drop_all}
use lib.Seq.{map-set_same}
use Rattle.cps_state.specs.Course.{Trace}
use Rattle.cps_chunk.specs.declared.sparse.SparseItem.{SparseItem}
use Rattle.cps_chunk.specs.Sparse.{renewed, AreWithin}
use Rattle.cps_chunk.specs.Code.Storing.{Left, left_by, stored_by}
use Rattle.cps_chunk.proofs.SparseLemmas.{renewed-split}
use Rattle.cps_chunk.proofs.StoringLemmas.{joined, left-append, left-law}
use Rattle.cps_chunk.proofs.WalkLemmas.{stretch-part, stretch-front}
use Rattle.cps_chunk.specs.declared.put.ChunkSplice.{ChunkSplice}
use Rattle.cps_live.specs.declared.news.News.{News}
use Rattle.cps_live.specs.Code.Storing.{edited, left_by_each}
use Rattle.cps_live.proofs.RenewedLemmas.{renewed-next, renewed-still}

-- ---- each line leaves what it left

left-whole : (front middle behind : List Trace) → left_by (front ++ (middle ++ behind)) ≡ joined (left_by front) (joined (left_by middle) (left_by behind))
left-whole front middle behind = left-append front (middle ++ behind) ∙ ap (joined (left_by front)) (left-append middle behind)

pub left-middle : (front olds news behind : List Trace) → left_by olds ≡ left_by news → left_by (front ++ (olds ++ behind)) ≡ left_by (front ++ (news ++ behind))
left-middle front olds news behind same =
    left-whole front olds behind ∙ ap (λ (l : Left). joined (left_by front) (joined l (left_by behind))) same ∙ sym (left-whole front news behind)

-- all of that, from what each leaves
all_left : List Left → Left
all_left [] = left_by []
all_left (l ∷ ls) = joined l (all_left ls)

left-all : (ts : List Trace) → left_by ts ≡ all_left (left_by_each ts)
unfolding all_left
left-all [] = refl
left-all (t ∷ ts) = left-append (t ∷ []) ts ∙ ap (joined (left_by (t ∷ []))) (left-all ts)

pub left-same : (ts us : List Trace) → left_by_each ts ≡ left_by_each us → left_by ts ≡ left_by us
left-same ts us each = left-all ts ∙ ap all_left each ∙ sym (left-all us)

pub each-next : (olds : List Trace) (news : List (SparseItem Trace)) (i : ℕ) (new : SparseItem Trace) (old : Trace) → i < length news → new ≡ get_or news i new → AreWithin 0 (length olds) news
    → old ≡ get_or olds new.at old → left_by (old ∷ []) ≡ left_by (new.item ∷ []) → left_by_each (renewed 0 (take i news) olds) ≡ left_by_each olds
    → left_by_each (renewed 0 (take (i + 1) news) olds) ≡ left_by_each olds
each-next olds news i new old lt is within at same before =
    let b : ℕ = length olds in
    let so_far : List Trace = renewed 0 (take i news) olds in
    let one : Trace → Left = λ t. left_by (t ∷ []) in
    let here : old ≡ get_or so_far new.at old = at ∙ sym (renewed-still 0 b i news new lt is within olds old) in
    ap left_by_each (renewed-next 0 b i news new lt is within olds) ∙ map-set_same one so_far new.at new.item old (sym same ∙ ap one here) ∙ before

pub each-all : (olds : List Trace) (news : List (SparseItem Trace)) (i : ℕ) → length news ≤ i → left_by_each (renewed 0 (take i news) olds) ≡ left_by_each olds
    → left_by_each (renewed 0 news olds) ≡ left_by_each olds
each-all olds news i past so_far = ap (λ ns. left_by_each (renewed 0 ns olds)) (sym (take_all i news past)) ∙ so_far

-- ---- an edit

pub stored-same : (olds news : List Trace) → left_by olds ≡ left_by news → stored_by olds ≡ stored_by news
stored-same olds news same = ap stored_by (sym (append-nil olds)) ∙ left-law [] olds news [] same ∙ ap stored_by (append-nil news)

module _ (cut : ChunkSplice) (news : News Trace) (olds : List Trace) where
  -- the same stands where the same is left
  pub stored-edited : cut.keep ≤ cut.from → AreWithin cut.from (length olds) news.renewed.items → left_by (take (cut.from - cut.keep) (drop cut.keep olds)) ≡ left_by news.entered.items
      → left_by (renewed 0 news.renewed.items olds) ≡ left_by olds → stored_by olds ≡ stored_by (edited cut news olds)
  stored-edited ordered places same each =
      let front : List Trace = take cut.keep olds in
      let gone : List Trace = take (cut.from - cut.keep) (drop cut.keep olds) in
      let behind : List Trace = renewed cut.from news.renewed.items (drop cut.from olds) in
      let at : 0 + cut.from ≡ cut.from = zero-add cut.from in
      let split : renewed 0 news.renewed.items olds ≡ take cut.from olds ++ behind =
      renewed-split cut.from 0 (length olds) news.renewed.items olds (subst (λ (k : ℕ). AreWithin k (length olds) news.renewed.items) (sym at) places)
      ∙ ap (λ (k : ℕ). take cut.from olds ++ renewed k news.renewed.items (drop cut.from olds)) at in
      let whole : front ++ gone ≡ take cut.from olds = ap (λ us. front ++ us) (stretch-part cut.keep cut.from ordered olds) ∙ stretch-front cut.keep cut.from ordered olds in
      let all : front ++ (gone ++ behind) ≡ renewed 0 news.renewed.items olds = sym (append_assoc front gone behind) ∙ ap (λ us. us ++ behind) whole ∙ sym split in
      stored-same olds (edited cut news olds) (sym each ∙ sym (ap left_by all) ∙ left-middle front gone news.entered.items behind same)

  -- behind the last line
  pub append-edited : (es : List Trace) → cut.keep ≡ length olds → cut.keep ≤ cut.from → es ≡ news.entered.items → olds ++ es ≡ edited cut news olds
  append-edited es last ordered is =
      let front : take cut.keep olds ≡ olds = take_all cut.keep olds (omega (arith, last)) in
      let none : drop cut.from olds ≡ [] = drop_all cut.from olds (omega (arith, last, ordered)) in
      let behind : renewed cut.from news.renewed.items (drop cut.from olds) ≡ [] = ap (renewed cut.from news.renewed.items) none in
      (λ i. sym front i ++ (is ∙ sym (append-nil news.entered.items)) i) ∙ ap (λ us. take cut.keep olds ++ (news.entered.items ++ us)) (sym behind)

  -- one part after another
  pub parts-edited : (front es behind : List Trace) (rs : List (SparseItem Trace)) → front ≡ take cut.keep olds → es ≡ news.entered.items → rs ≡ news.renewed.items → behind ≡ drop cut.from olds
      → (front ++ es) ++ renewed cut.from rs behind ≡ edited cut news olds
  parts-edited front es behind rs a b c d =
      append_assoc front es (renewed cut.from rs behind) ∙ (λ i. a i ++ (b i ++ renewed cut.from (c i) (d i)))
