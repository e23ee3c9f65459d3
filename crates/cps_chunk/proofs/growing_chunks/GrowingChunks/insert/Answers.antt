use Rattle.std.proofs.Common.{◌≡◌, ◌<◌, ◌∷◌, ◌-◌, get_or, arith, ◌∙◌, sym, ap, length, reverse, Some}
use Rattle.std.specs.Prelude.{vec_len}
use Rattle.std.proofs.lemmas.List.{length-reverse}
use Rattle.cps_chunk.proofs.PutLemmas.{inserted-first-chunks, inserted-on, last-first, stand-next}
use Rattle.cps_chunk.proofs.growing_chunks.GrowingChunks.insert.Goals as goal

pub returns-in_ok-push-clause-filling : goal.returns-in_ok-push-clause-filling
returns-in_ok-push-clause-filling c =
    let old = c.args.self.now in
    let first = c.index-first.result.now in
    let some : 0 < vec_len c.grow_first.new.left = omega (arith, c.if-len-lt2.false, c.len.ensures) in
    let top : reverse c.grow_first.new.left.items ≡ first ∷ reverse c.pop.new.self.items =
    last-first c.grow_first.new.left.items c.pop.new.self.items first c.pop.result c.pop.ensures.items (c.pop.ensures.value first some ∙ ap (λ k. Some (get_or c.grow_first.new.left.items (k - 1) first)) (sym c.len-2.ensures) ∙ ap Some (sym c.index-first.ensures)) in
    let is = sym c.in_ok-grow_first.ensures ∙ top in
    let chunks = inserted-first-chunks old.at (reverse old.left.items) (reverse c.pop.new.self.items) first c.requires.filling.chunks is in
    record {
      chunks = chunks;
      first = stand-next old.at (reverse old.left.items) (reverse c.pop.new.self.items) first c.requires.filling.chunks c.requires.filling.first is (omega (arith, c.if-self-first.true)) chunks;
    }

pub returns-in_ok-push-clause-all : goal.returns-in_ok-push-clause-all
returns-in_ok-push-clause-all c = λ count.
    let old = c.args.self.now in
    let first = c.index-first.result.now in
    let some : 0 < vec_len c.grow_first.new.left = omega (arith, c.if-len-lt2.false, c.len.ensures) in
    let top : reverse c.grow_first.new.left.items ≡ first ∷ reverse c.pop.new.self.items =
    last-first c.grow_first.new.left.items c.pop.new.self.items first c.pop.result c.pop.ensures.items (c.pop.ensures.value first some ∙ ap (λ k. Some (get_or c.grow_first.new.left.items (k - 1) first)) (sym c.len-2.ensures) ∙ ap Some (sym c.index-first.ensures)) in
    let is = sym c.in_ok-grow_first.ensures ∙ top in
    inserted-on count old.at first old.done.items c.push.new.self.items (reverse old.left.items) (reverse c.pop.new.self.items) c.requires.filling.first is (omega (arith, c.if-self-first.true))
    (omega (arith, length-reverse c.pop.new.self.items, length-reverse c.grow_first.new.left.items, ap length top, c.grow_first.new.left.ok.0, c.if-len-lt2.false, c.len.ensures)) c.in_ok-push.ensures.items
