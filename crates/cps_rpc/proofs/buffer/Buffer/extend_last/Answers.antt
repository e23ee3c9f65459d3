use Rattle.std.proofs.Common.{◌-◌, ◌++◌, cond, ap, ◌∙◌}
use Rattle.std.specs.Result.{is_ok}
use Rattle.cps_rpc.proofs.LineLemmas.{on_ok-if, text-longer, lines-longer-if}
use Rattle.cps_rpc.proofs.buffer.Buffer.extend_last.Goals as goal

pub invariant_of-self : goal.invariant_of-self
invariant_of-self c =
    let lines = c.self.inside.lines in
    lines-longer-if (is_ok c.extend_from_slice.result) lines.items _ c.index_mut.result.now _ c.args.bytes.now
    (record { are = c.self.invariant; place = ap (λ n. n - 1) (c.len-last.ensures ∙ lines.ok.0); is = c.index_mut.ensures.value }) c.requires c.extend_from_slice.ensures.items

pub returns : goal.returns
returns c =
    on_ok-if c.extend_from_slice.result
    (λ done.
    let lines = c.self.inside.lines in
    let last = c.index_mut.result.now in
    text-longer lines.items _ last _ c.args.bytes.now
    (record { are = c.self.invariant; place = ap (λ n. n - 1) (c.len-last.ensures ∙ lines.ok.0); is = c.index_mut.ensures.value })
    (c.extend_from_slice.ensures.items ∙ ap (λ ok. cond ok (last.items ++ c.args.bytes.now) last.items) done)
    ∙ ap (λ t. t ++ c.args.bytes.now) c.self.view_is)
