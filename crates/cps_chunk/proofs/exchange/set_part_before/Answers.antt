use Rattle.std.proofs.Common.{◌≡◌, ◌-◌, ◌<◌, inl, inr, refl, sym, ◌∙◌, arith}
use Rattle.cps_chunk.specs.Code.Pieces.{cut_to, part_numbers}
use Rattle.cps_chunk.proofs.OldChunkLemmas.{part-may, on-ok, cut-is, cut-less}
use Rattle.cps_chunk.proofs.exchange.set_part_before.Goals as goal
use Rattle.cps_chunk.proofs.exchange.set_part_before.Goals.{then-to-lines, else-to-lines}

pub returns-then-end-from-2-clause-pieces : goal.returns-then-end-from-2-clause-pieces
returns-then-end-from-2-clause-pieces c =
    let end = c.if-to-lines.end in
    let cut : end ≡ cut_to c.args.to c.args.lines = elim c.if-to-lines.branch [
      | then-to-lines w ↦ w.end-is ∙ sym ((cut-is c.args.to c.args.lines).0 (omega (arith, w.if-to-lines)))
      | else-to-lines w ↦ w.end-is ∙ sym ((cut-is c.args.to c.args.lines).1 (omega (arith, w.if-to-lines)))
    ] in
    on-ok c.set_before.result _ _ (λ set ns more d lt is goes are.
    let all : cut_to c.args.to c.args.lines - c.args.from ≡ c.args.lines = omega (arith, cut, c.if-end-from-2.true) in
    let some : c.args.from < cut_to c.args.to c.args.lines = omega (arith, cut, c.if-end-from.false) in
    set ns (part_numbers ns c.args.chunk c.args.from (cut_to c.args.to c.args.lines)) more are
    (part-may ns d c.args.chunk c.args.from (cut_to c.args.to c.args.lines) c.args.lines c.args.lines _ more lt is some (cut-less c.args.to c.args.lines) (sym all) (goes some) (inl (all, refl)))) c.set_before.ensures.pieces

pub returns-clause-pieces : goal.returns-clause-pieces
returns-clause-pieces c =
    let end = c.if-to-lines.end in
    let cut : end ≡ cut_to c.args.to c.args.lines = elim c.if-to-lines.branch [
      | then-to-lines w ↦ w.end-is ∙ sym ((cut-is c.args.to c.args.lines).0 (omega (arith, w.if-to-lines)))
      | else-to-lines w ↦ w.end-is ∙ sym ((cut-is c.args.to c.args.lines).1 (omega (arith, w.if-to-lines)))
    ] in
    on-ok c.set_before-2.result _ _ (λ set ns more d lt is goes are.
    let less = cut-less c.args.to c.args.lines in
    let short : cut_to c.args.to c.args.lines - c.args.from < c.args.lines = omega (arith, cut, c.if-end-from-2.false, less) in
    let some : c.args.from < cut_to c.args.to c.args.lines = omega (arith, cut, c.if-end-from.false) in
    let count : end - c.args.from ≡ cut_to c.args.to c.args.lines - c.args.from = omega (arith, cut) in
    set ns (part_numbers ns c.args.chunk c.args.from (cut_to c.args.to c.args.lines)) more are
    (part-may ns d c.args.chunk c.args.from (cut_to c.args.to c.args.lines) c.args.lines (end - c.args.from) _ more lt is some less count (goes some) (inr (short, refl)))) c.set_before-2.ensures.pieces
