use Rattle.std.proofs.Common.{◌≡◌, ◌∙◌, ap, drop, reverse}
use Rattle.std.proofs.lemmas.List.{reverse-reverse, take_rest}
use Rattle.cps_chunk.proofs.PutLemmas.{begun, begun-all}
use Rattle.cps_chunk.proofs.growing_chunks.GrowingChunks.of.Goals as goal

pub returns-clause-filling : goal.returns-clause-filling
returns-clause-filling c =
    let ns = c.args.lengths.now in
    let place = c.place_of-place in
    let back : reverse c.reverse.new.self.items ≡ drop place.result.chunk ns =
    ap reverse c.reverse.ensures.items ∙ reverse-reverse c.in_ok-left.left.items ∙ c.in_ok-left.ensures.items_if_clones_equal (λ x y same. same) ∙ take_rest ns place.result.chunk in
    let here = begun c.args.after place.result.chunk place.result.before ns c.reverse.new.self.items c.requires.chunks place.ensures.chunk place.ensures.before (place.ensures.below c.requires.within) back in
    record { chunks = here.0; first = here.1 }

pub returns-clause-all : goal.returns-clause-all
returns-clause-all c = λ count.
    let ns = c.args.lengths.now in
    let place = c.place_of-place in
    let back : reverse c.reverse.new.self.items ≡ drop place.result.chunk ns =
    ap reverse c.reverse.ensures.items ∙ reverse-reverse c.in_ok-left.left.items ∙ c.in_ok-left.ensures.items_if_clones_equal (λ x y same. same) ∙ take_rest ns place.result.chunk in
    begun-all count c.args.after place.result.chunk place.result.before ns c.in_ok-done.done.items c.reverse.new.self.items place.ensures.chunk place.ensures.before (c.in_ok-done.ensures.items_if_clones_equal (λ x y same. same)) back
