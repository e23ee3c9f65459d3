-- Pieces in the other order.
use Rattle.std.proofs.Common.{◌≡◌, refl, sym, ap, ◌∙◌, List, [], ◌∷◌, ◌++◌, reverse}
use Rattle.std.proofs.lemmas.List.{reverse-append, map-append}
use Rattle.cps_chunk.specs.declared.exchange.RecutChunk.{RecutChunk}
use Rattle.cps_chunk.specs.Code.Pieces.{lines_of, lines_in}

pub lines-reverse : (ps : List RecutChunk) → lines_of (reverse ps) ≡ lines_in ps
lines-reverse [] = refl
lines-reverse (p ∷ ps) =
    let line = λ (piece : RecutChunk). piece.lines in
    ap lines_of (reverse-append (p ∷ []) ps) ∙ map-append line (reverse ps) (p ∷ []) ∙ ap (λ ns. ns ++ p.lines ∷ []) (lines-reverse ps) ∙ sym (reverse-append (p.lines ∷ []) (lines_of ps))
