use Rattle.std.proofs.Common.{rules, ℕ, ◌+◌, ◌≡◌, ◌∙◌, ◌++◌, ◌∷◌, [], sym, ap, get_or, take}
use Rattle.std.proofs.lemmas.List.{take-map, map-append, take_more}
use Rattle.cps_chunk.specs.declared.chunk.Chunk.{Chunk}
use Rattle.cps_chunk.specs.Code.Chunk.{lengths_of}
use Rattle.cps_live.proofs.kept_source.KeptSource.lengths.Goals as goal

pub loop-chunk-preserved : goal.loop-chunk-preserved
loop-chunk-preserved c =
    let cs = c.args.self.now.chunks.items in
    let i = c.loop-chunk.chunk-index in
    let chunk = c.chunk-item.result in
    let n : Chunk → ℕ = λ (d : Chunk). d.lines in
    let here : chunk ≡ get_or cs i chunk = c.chunk-item.is ∙ ap (λ ds. get_or ds i chunk) c.deref-chunk-items.ensures.value in
    let next : take (i + 1) cs ≡ take i cs ++ chunk ∷ [] =
    take_more cs i chunk (search rules) ∙ ap (λ d. take i cs ++ d ∷ []) (sym here) in
    let more : take (i + 1) (lengths_of cs) ≡ take i (lengths_of cs) ++ chunk.lines ∷ [] =
    take-map n (i + 1) cs ∙ ap lengths_of next ∙ map-append n (take i cs) (chunk ∷ []) ∙ ap (λ ns. ns ++ chunk.lines ∷ []) (sym (take-map n i cs)) in
    let was = c.loop-chunk.invariant in
    let pushed : c.push.new.self.items ≡ c.loop-chunk.lengths.items ++ chunk.lines ∷ [] = search rules in
    pushed ∙ ap (λ ns. ns ++ chunk.lines ∷ []) was ∙ sym more
