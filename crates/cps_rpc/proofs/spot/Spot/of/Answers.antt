use Rattle.std.proofs.Common.{◌≡◌, ◌-◌, [], get_or, length, sym, ap, ◌∙◌, arith}
use Rattle.cps_input.specs.Lines.{without_return}
use Rattle.cps_rpc.specs.Positions.{place_in}
use Rattle.cps_rpc.proofs.LineLemmas.{texts, length-texts, text-at}
use Rattle.cps_rpc.proofs.PlaceLemmas.{spot-within, spot-past}
use Rattle.cps_rpc.proofs.spot.Spot.of.Goals as goal

pub returns-then-last-number : goal.returns-then-last-number
returns-then-last-number c =
    let lines = c.args.lines.now in
    let same = length-texts lines in
    let last = ap (λ n. n - 1) (sym same) in
    let line = c.index-lines-last.result in
    let here = text-at lines (length lines - 1) line (omega arith) c.index-lines-last.is in
    spot-past c.args.encoding (texts lines) c.args.position (length lines - 1) _ (omega arith) (omega arith) last
    (c.len.ensures ∙ line.ok.0 ∙ ap length here ∙ ap (λ n. length (get_or (texts lines) n [])) last)

pub returns : goal.returns
returns c =
    let lines = c.args.lines.now in
    let position = c.args.position in
    let same = length-texts lines in
    let line = c.index-lines-number.result in
    let read : c.without_return-line.result.now ≡ without_return line.items = c.without_return-line.ensures ∙ ap without_return c.deref.ensures.value in
    spot-within c.args.encoding (texts lines) position line.items _ (omega arith) (text-at lines position.line line (omega arith) c.index-lines-number.is)
    (c.place_in.ensures.place ∙ ap (λ l. place_in c.args.encoding l position.character) read) (omega (arith, c.place_in.ensures.within, ap length read))
