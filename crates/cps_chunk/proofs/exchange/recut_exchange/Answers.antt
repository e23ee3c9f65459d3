use Rattle.std.proofs.Common.{◌≡◌, ℕ, ◌-◌, ◌++◌, refl, sym, subst, ap, ◌∙◌, [], length, reverse, arith}
use Rattle.std.specs.Prelude.{sum}
use Rattle.cps_edit.specs.Numbers.{numbers}
use Rattle.cps_chunk.specs.Code.Pieces.{ArePieces, GoesNotOn, lines_in, lines_of}
use Rattle.cps_chunk.proofs.OldChunkLemmas.{head-goes, head-some}
use Rattle.cps_chunk.proofs.ChunkRunLemmas.{four-runs}
use Rattle.cps_chunk.proofs.PiecesLemmas.{lines-reverse}
use Rattle.cps_chunk.proofs.exchange.recut_exchange.Goals as goal

pub returns-clause-lengths : goal.returns-clause-lengths
returns-clause-lengths c =
    let ns = c.args.lengths.now in
    let none = lines_in c.new-pieces.result.items in
    let one = lines_in c.set_run_before.new.pieces.items in
    let two = lines_in c.set_run_before-2.new.pieces.items in
    let three = lines_in c.set_run_before-3.new.pieces.items in
    let four = lines_in c.set_run_before-4.new.pieces.items in
    let runs = four-runs ns c.requires.chunks c.args.exchange.keep c.args.exchange.mid c.args.exchange.from c.lines_of.result none one two three four c.lines_of.ensures (ap lines_in c.new-pieces.ensures.items)
    c.in_ok-set_run_before.ensures.lengths c.in_ok-set_run_before-2.ensures.lengths c.in_ok-set_run_before-3.ensures.lengths c.in_ok-set_run_before-4.ensures.lengths in
    ap lines_of c.reverse.ensures.items ∙ lines-reverse c.set_run_before-4.new.pieces.items ∙ runs

pub returns-clause-pieces : goal.returns-clause-pieces
returns-clause-pieces c =
    let ns = c.args.lengths.now in
    let all = sum ns in
    let keep = c.args.exchange.keep in
    let mid = c.args.exchange.mid in
    let from = c.args.exchange.from in
    let empty : length {A = ℕ} [] ≡ 0 = refl in
    let none : (at : ℕ) → GoesNotOn at [] = λ at some. absurd (omega (arith, some, empty)) in
    let zero_pieces : ArePieces ns (reverse c.new-pieces.result.items) [] = subst (λ ps. ArePieces ns (reverse ps) []) (sym c.new-pieces.ensures.items) refl in
    let a = numbers from (all - from) ++ [] in
    let one : ArePieces ns (reverse c.set_run_before.new.pieces.items) a =
    subst (λ k. ArePieces ns (reverse c.set_run_before.new.pieces.items) (numbers from (k - from) ++ [])) c.lines_of.ensures (c.in_ok-set_run_before.ensures.pieces [] (none c.lines_of.result) zero_pieces) in
    let b = numbers keep (mid - keep) ++ a in
    let two : ArePieces ns (reverse c.set_run_before-2.new.pieces.items) b =
    c.in_ok-set_run_before-2.ensures.pieces a (head-goes from (all - from) mid [] (λ same. omega (arith, same, c.requires.second)) (none mid)) one in
    let d = numbers mid (from - mid) ++ b in
    let three : ArePieces ns (reverse c.set_run_before-3.new.pieces.items) d =
    c.in_ok-set_run_before-3.ensures.pieces b (head-some keep (mid - keep) from a (omega (arith, c.requires.first)) (λ same. omega (arith, same, c.requires.first, c.requires.second))) two in
    let four = c.in_ok-set_run_before-4.ensures.pieces d (head-some mid (from - mid) keep b (omega (arith, c.requires.second)) (λ same. omega (arith, same, c.requires.first))) three in
    let whole : keep - 0 ≡ keep = omega arith in
    subst (λ ps. ArePieces ns ps (numbers 0 keep ++ d)) (sym c.reverse.ensures.items) (subst (λ k. ArePieces ns (reverse c.set_run_before-4.new.pieces.items) (numbers 0 k ++ d)) whole four)
