-- Where blocks and literals stand where two runs of lines have changed places.
use Rattle.std.proofs.Common.{arith, ◌≡◌, refl, sym, ap, subst, ◌∙◌, ◌+◌, ◌-◌, ◌≤◌, List, [], ◌∷◌, ◌++◌, append_assoc, length, take, drop}
use Rattle.cps_state.specs.Course.{Trace}
use Rattle.cps_edit.specs.declared.exchange.Exchange.{Exchange}
use Rattle.cps_edit.specs.Exchange.{IsWithin, exchanged}
use Rattle.cps_edit.proofs.ListLemmas.{whole}
use Rattle.cps_chunk.specs.declared.sparse.SparseItem.{SparseItem}
use Rattle.cps_chunk.specs.Sparse.{renewed, AreWithin}
use Rattle.cps_chunk.specs.Code.Storing.{left_by, stored_by}
use Rattle.cps_chunk.specs.Code.Walk.{stretch}
use Rattle.cps_chunk.proofs.ExchangedLemmas.{exchanged-renewed, map-exchanged}
use Rattle.cps_chunk.proofs.SparseLemmas.{renewed-none}
use Rattle.cps_chunk.proofs.WalkLemmas.{stretch-all, stretch-part}
use Rattle.cps_chunk.specs.Code.Looks.{items_before, items_from}
use Rattle.cps_live.specs.Code.Storing.{left_by_each}
use Rattle.cps_live.proofs.StretchLemmas.{before-from, before-within, from-within}
use Rattle.cps_live.proofs.StoredLemmas.{left-middle, left-same, stored-same}

-- a run that leaves nothing may stand on either side of another
left-moved : (front first second behind : List Trace) → left_by first ≡ left_by []
    → left_by (front ++ (second ++ (first ++ behind))) ≡ left_by (front ++ (first ++ (second ++ behind)))
left-moved front first second behind none =
    ap left_by (sym (append_assoc front second (first ++ behind))) ∙ left-middle (front ++ second) first [] behind none ∙ ap left_by (append_assoc front second behind)
    ∙ sym (left-middle front first [] (second ++ behind) none)

module _ (e : Exchange) (olds : List Trace) (news : List (SparseItem Trace)) (within : IsWithin (length olds) e) where
  left-whole : left_by (take e.keep olds ++ (stretch e.keep e.mid olds ++ (stretch e.mid e.from olds ++ drop e.from olds))) ≡ left_by olds
  left-whole = ap left_by (whole olds e.keep e.mid e.from within.first within.second within.all)

  stored-each : left_by_each (renewed 0 news olds) ≡ left_by_each olds → left_by (exchanged e olds) ≡ left_by olds → stored_by olds ≡ stored_by (exchanged e (renewed 0 news olds))
  stored-each each moved =
      let us : List Trace = renewed 0 news olds in
      let same : left_by_each (exchanged e olds) ≡ left_by_each (exchanged e us) =
      map-exchanged (λ (t : Trace). left_by (t ∷ [])) e olds ∙ ap (exchanged e) (sym each) ∙ sym (map-exchanged (λ (t : Trace). left_by (t ∷ [])) e us) in
      stored-same olds (exchanged e us) (sym moved ∙ left-same (exchanged e olds) (exchanged e us) same)

  -- the same stands where each line leaves what it left, and one run leaves nothing
  pub stored-first : left_by_each (renewed 0 news olds) ≡ left_by_each olds → left_by (take (e.mid - e.keep) (drop e.keep olds)) ≡ left_by []
      → stored_by olds ≡ stored_by (exchanged e (renewed 0 news olds))
  stored-first each none =
      let first : List Trace = stretch e.keep e.mid olds in
      let second : List Trace = stretch e.mid e.from olds in
      let same : left_by first ≡ left_by [] = ap left_by (sym (stretch-part e.keep e.mid within.first olds)) ∙ none in
      stored-each each (left-moved (take e.keep olds) first second (drop e.from olds) same ∙ left-whole)

  pub stored-second : left_by_each (renewed 0 news olds) ≡ left_by_each olds → left_by (take (e.from - e.mid) (drop e.mid olds)) ≡ left_by []
      → stored_by olds ≡ stored_by (exchanged e (renewed 0 news olds))
  stored-second each none =
      let first : List Trace = stretch e.keep e.mid olds in
      let second : List Trace = stretch e.mid e.from olds in
      let same : left_by second ≡ left_by [] = ap left_by (sym (stretch-part e.mid e.from within.second olds)) ∙ none in
      stored-each each (sym (left-moved (take e.keep olds) second first (drop e.from olds) same) ∙ left-whole)

  -- ---- one part after another

  module _ (first rest second behind : List (SparseItem Trace)) (places : AreWithin e.keep (length olds) news) (one : first ≡ items_before e.mid news) (more : rest ≡ items_from e.mid news)
      (two : second ≡ items_before e.from rest) (three : behind ≡ items_from e.from rest) where
    pub first-places : AreWithin e.keep e.mid first
    first-places = subst (AreWithin e.keep e.mid) (sym one) (before-within e.mid e.keep (length olds) news within.first places)

    rest-places : AreWithin e.mid (length olds) rest
    rest-places =
        let le : e.mid ≤ length olds = omega (arith, within.second, within.all) in
        subst (AreWithin e.mid (length olds)) (sym more) (from-within e.mid e.keep (length olds) news le places)

    pub second-places : AreWithin e.mid e.from second
    second-places = subst (AreWithin e.mid e.from) (sym two) (before-within e.from e.mid (length olds) rest within.second rest-places)

    pub behind-places : AreWithin e.from (length olds) behind
    behind-places = subst (AreWithin e.from (length olds)) (sym three) (from-within e.from e.mid (length olds) rest within.all rest-places)

    news-parts : first ++ (second ++ behind) ≡ news
    news-parts = (λ i. one i ++ ((λ j. two j ++ three j) ∙ before-from e.from rest ∙ more) i) ∙ before-from e.mid news

    pub parts-moved : (lasts : List Trace) → lasts ≡ drop e.from olds → ((take e.keep olds ++ renewed e.mid second (take (e.from - e.mid) (drop e.mid olds))) ++ renewed e.keep first (take (e.mid - e.keep) (drop e.keep olds)))
        ++ renewed e.from behind lasts
        ≡ exchanged e (renewed 0 news olds)
    parts-moved lasts is =
        let front : List Trace = take e.keep olds in
        let seconds : List Trace = renewed e.mid second (take (e.from - e.mid) (drop e.mid olds)) in
        let firsts : List Trace = renewed e.keep first (take (e.mid - e.keep) (drop e.keep olds)) in
        let behinds : List Trace = renewed e.from behind lasts in
        append_assoc (front ++ seconds) firsts behinds ∙ append_assoc front seconds (firsts ++ behinds)
        ∙ (λ i. front ++ (renewed e.mid second (stretch-part e.mid e.from within.second olds i)
        ++ (renewed e.keep first (stretch-part e.keep e.mid within.first olds i) ++ renewed e.from behind (is i))))
        ∙ sym (exchanged-renewed e olds (length olds) refl within first second behind first-places second-places behind-places)
        ∙ ap (λ ns. exchanged e (renewed 0 ns olds)) news-parts

    pub runs-moved : ((renewed 0 [] (stretch 0 e.keep olds) ++ renewed e.mid second (stretch e.mid e.from olds)) ++ renewed e.keep first (stretch e.keep e.mid olds))
        ++ renewed e.from behind (stretch e.from (length olds) olds)
        ≡ exchanged e (renewed 0 news olds)
    runs-moved =
        (λ i. ((renewed-none 0 (take e.keep olds) i ++ renewed e.mid second (sym (stretch-part e.mid e.from within.second olds) i))
        ++ renewed e.keep first (sym (stretch-part e.keep e.mid within.first olds) i)) ++ renewed e.from behind (stretch e.from (length olds) olds))
        ∙ parts-moved (stretch e.from (length olds) olds) (stretch-all e.from olds)
