use Rattle.std.proofs.Common.{arith, length, ◌≡◌, ◌++◌, ◌∷◌, [], subst, sym, ap, ◌∙◌}
use Rattle.std.proofs.lemmas.List.{nil_from_length}
use Rattle.cps_chunk.specs.Sparse.{renewed, AreWithin}
use Rattle.cps_chunk.proofs.SparseLemmas.{AreWithin-front, AreWithin-last, renewed-push, renewed-none}
use Rattle.cps_chunk.proofs.sparse.put_all.Goals as goal

pub index_mut-requires : goal.index_mut-requires
index_mut-requires g c =
    let parts : c.loop-new.news.items ≡ c.pop.new.self.items ++ c.in-Some.new ∷ [] = c.in-Some.ensures.items in
    (AreWithin-last 0 c.loop-new.items.len c.pop.new.self.items c.in-Some.new (subst (λ news. AreWithin 0 c.loop-new.items.len news) parts c.loop-new.invariant.within)).1

pub loop-new-preserved : goal.loop-new-preserved
loop-new-preserved g c =
    let parts : c.loop-new.news.items ≡ c.pop.new.self.items ++ c.in-Some.new ∷ [] = c.in-Some.ensures.items in
    record {
      rest = sym (renewed-push 0 c.in-Some.new.at c.pop.new.self.items c.in-Some.new c.loop-new.items.items (omega arith))
          ∙ sym (ap (λ news. renewed 0 news c.loop-new.items.items) parts) ∙ c.loop-new.invariant.rest;
      within = AreWithin-front 0 c.loop-new.items.len c.pop.new.self.items (c.in-Some.new ∷ []) (subst (λ news. AreWithin 0 c.loop-new.items.len news) parts c.loop-new.invariant.within);
      len = c.loop-new.invariant.len;
      room = c.loop-new.invariant.room;
    }

pub returns-clause-items : goal.returns-clause-items
returns-clause-items g c =
    let none : length c.loop-new.news.items ≡ 0 = omega (arith, c.in_default.ensures.cases, c.loop-new.news.ok.0) in
    let left : c.loop-new.news.items ≡ [] = nil_from_length c.loop-new.news.items none in
    sym (renewed-none 0 c.loop-new.items.items) ∙ sym (ap (λ news. renewed 0 news c.loop-new.items.items) left) ∙ c.loop-new.invariant.rest
