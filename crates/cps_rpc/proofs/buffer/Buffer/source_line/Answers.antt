use Rattle.std.proofs.Common.{◌<◌, length, sym, ap, ◌∙◌, arith}
use Rattle.std.specs.Prelude.{Some, slice_get}
use Rattle.cps_input.specs.Lines.{without_return}
use Rattle.cps_rpc.specs.Lines.{source_of}
use Rattle.cps_rpc.proofs.LineLemmas.{texts, length-texts, text-at, text_lines-kept}
use Rattle.cps_rpc.proofs.SourceLemmas.{length-source-le, source_of-get}
use Rattle.cps_rpc.proofs.buffer.Buffer.source_line.Goals as goal

pub index-requires : goal.index-requires
index-requires c =
    let kept = c.self.inside.lines in
    let cut = text_lines-kept kept.items _ c.self.view_is c.self.invariant in
    omega (arith, c.requires, ap (λ l. length (source_of l)) cut, length-source-le (texts kept.items), length-texts kept.items, kept.ok.0)

pub returns : goal.returns
returns c =
    let kept = c.self.inside.lines in
    let at = c.args.at in
    let cut = text_lines-kept kept.items _ c.self.view_is c.self.invariant in
    let within : at < length (source_of (texts kept.items)) = omega (arith, c.requires, ap (λ l. length (source_of l)) cut) in
    let within_lines : at < length kept.items = omega (arith, within, length-source-le (texts kept.items), length-texts kept.items) in
    ap (λ l. slice_get (source_of l) at) cut
    ∙ source_of-get (texts kept.items) at within
    ∙ ap (λ l. Some (without_return l)) (sym (text-at kept.items at c.index.result.now within_lines c.index.ensures))
    ∙ ap Some (sym (c.without_return.ensures ∙ ap without_return c.deref.ensures.value))
